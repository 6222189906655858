-- What each effect leaves.
use Rattle.std.proofs.Common.{subst, ◌≡◌, ℕ, ◌+◌, ◌<◌, ◌≤◌, List, [], ◌∷◌, ◌++◌, length, map, Bool, true, false, Result, Ok, Err, IsErr, is_ok, if◌then◌else◌, refl, sym, ap, ◌∙◌, nat_lt, arith, append_assoc, ℤ, Option}
use Rattle.std.proofs.lemmas.List.{map-append, length-append}
use Rattle.std.proofs.lemmas.Bool.{lt-ltb, le-ltb}
use Rattle.std.specs.Ordering.{nat_cmp, match_ordering}
use Rattle.std.specs.Cmp.Lexicographic.{slice_cmp}
use Rattle.std.specs.declared.cmp.Ordering.{Ordering}
use Rattle.std.specs.declared.cmp.Ordering.TheVariants.{Less, Equal, Greater}
use Rattle.serde_json.specs.Data.{Data}
use Rattle.serde_json.specs.View.{view as json_view}
use Rattle.text_core.specs.declared.by_key.KeyValue.{KeyValue}
use Rattle.text_core.specs.Keyed.{entry, with_key}
use Rattle.value_core.specs.Value as model
use Rattle.value_core.specs.View.{view, assigns_view}
use Rattle.value_core.specs.declared.value.Value.{Value}
use Rattle.value_core.specs.declared.raise.Raise.TheVariants.{BadArgument, Deep}
use Rattle.machine_api.specs.declared.machine.Action as asked
use Rattle.diff_tree.specs.Container.{Position, Limit}
use Rattle.view_api.specs.Effect.{assign_to, stream_insert, send_self, push_event}
use Rattle.doc_model.specs.Environment as scope
use Rattle.doc_model.specs.Environment.{Stream}
use Rattle.doc_model.specs.Evaluation.{Res}
use Rattle.value_core.specs.Nesting.{depth_of}
use Rattle.doc_model.specs.Calls.{has_slot}
use Rattle.doc_model.specs.Effects.{Waiting, sent, inbox_limit, storable, sendable, position_of, limit_of, acting, is_kept_name, in_stream, batch_insert, insert_of, Applied, apply_effect}
use Rattle.diff_tree.specs.declared.push.Push.{Push}
use Rattle.effects_apply.specs.declared.rest.Rest.{Rest}
use Rattle.effects_apply.specs.Applied.{action_view, rest_view, CountsFree, applied_view, Becomes}
use Rattle.diff_tree.specs.Parts.{pushed_of}

-- what a good result holds
of_ok : {A E : Type 0} (r : Result A E) → is_ok r ≡ true → (a : A) × (r ≡ Ok a)
of_ok (Ok a) h = (a, refl)
of_ok (Err e) h = cc

pub bad : {A E : Type 0} (r : Result A E) → is_ok r ≡ false → IsErr r
bad (Ok a) h = cc
bad (Err e) h = refl

stored_by : (v : model.Value) (s d : Bool) (r : Res model.Value) → r ≡ (if s then Err BadArgument else if d then Err Deep else Ok v) → is_ok r ≡ true → r ≡ Ok v
stored_by v true d r e h = cc
stored_by v false true r e h = cc
stored_by v false false r e h = e

-- what may be stored is itself
pub stored : (v : model.Value) → is_ok (storable v) ≡ true → storable v ≡ Ok v
stored v h = stored_by v (has_slot v) (nat_lt 100 (depth_of v)) (storable v) refl h

-- assigns with a value at a name
pub seen_with : (k : List ℕ) (v : Value) (es : List (KeyValue Value)) → assigns_view (with_key k v es) ≡ scope.with_key k (view v) (assigns_view es)
seen_with k v [] = refl
seen_with k v (e ∷ es) = by (slice_cmp nat_cmp k e.key) (seen_with k v es)
  where
    by : (o : Ordering) → assigns_view (with_key k v es) ≡ scope.with_key k (view v) (assigns_view es)
        → assigns_view (match_ordering o (entry k v ∷ e ∷ es) (entry k v ∷ es) (e ∷ with_key k v es))
        ≡ match_ordering o (model.assign k (view v) (model.assign e.key (view e.value) (assigns_view es))) (model.assign k (view v) (assigns_view es)) (model.assign e.key (view e.value) (scope.with_key k (view v) (assigns_view es)))
    by Less later = refl
    by Equal later = refl
    by Greater later = ap (model.assign e.key (view e.value)) later

below : (n f g : ℕ) → n + g ≡ 1024 → f + 1 ≡ g → n < 1024
below n f g e k = omega arith

counted : (n m f g : ℕ) → n + g ≡ 1024 → f + 1 ≡ g → m ≡ n + 1 → m + f ≡ 1024
counted n m f g e k l = omega arith

filled : (n f : ℕ) → n + f ≡ 1024 → f ≡ 0 → 1024 ≤ n
filled n f e k = omega arith

module _ (present : List (KeyValue Value)) (streams : List ℕ → Stream) (w : List Waiting) (r : Rest) (h : CountsFree w r) where
  abbrev pub before : Applied
  before = applied_view present streams w r

  pub assigns : (k : List ℕ) (v : Value) (after : List (KeyValue Value)) → after ≡ with_key k v present → is_kept_name k ≡ false → is_ok (storable (view v)) ≡ true
      → Becomes (Ok tt) (apply_effect (assign_to k (view v)) before) after w r
  assigns k v after is free fits =
      (h, (streams, rw (free, stored (view v) fits) (ap (λ as'. Ok (record { assigns = as'; streams = streams }, rest_view w r)) (sym (ap assigns_view is ∙ seen_with k v present)))))

  inserts_at : (s id : List ℕ) (v : model.Value) (at : ℤ) (limit : Option ℤ) (q : Position) (l : Limit) → storable v ≡ Ok v → position_of at ≡ Ok q → limit_of limit ≡ Ok l
      → Becomes (Ok tt) (apply_effect (stream_insert s id v at limit) before) present w r
  inserts_at s id v at limit q l fits placed limited = (h, ((in_stream s (batch_insert (insert_of id v q l)) before.0).streams, rw (fits, placed, limited) refl))

  pub inserts : (s id : List ℕ) (v : model.Value) (at : ℤ) (limit : Option ℤ) → is_ok (storable v) ≡ true → is_ok (position_of at) ≡ true → is_ok (limit_of limit) ≡ true
      → Becomes (Ok tt) (apply_effect (stream_insert s id v at limit) before) present w r
  inserts s id v at limit fits placed limited =
      let q = of_ok (position_of at) placed in
      let l = of_ok (limit_of limit) limited in
      inserts_at s id v at limit q.0 l.0 (stored v fits) q.1 l.1

  pub acts : (a : asked.Action) (later : List asked.Action) → later ≡ r.actions ++ a ∷ []
      → Becomes (Ok tt) (Ok (acting (action_view a) before)) present w (record r { actions = later })
  acts a later is = (h, (streams, ap (λ as'. Ok (before.0, record before.1 { actions = as' })) (sym (ap (map action_view) is ∙ map-append action_view r.actions (a ∷ [])))))

  pub pushes : (p : Push) (v : model.Value) (later : List Push) → sendable v ≡ Ok (json_view p.payload) → later ≡ r.pushed ++ p ∷ []
      → Becomes (Ok tt) (apply_effect (push_event p.name v) before) present w (record r { pushed = later })
  pushes p v later fits is =
      (h, (streams, rw fits (ap (λ ps. Ok (before.0, record before.1 { pushed = ps })) (sym (ap (map pushed_of) is ∙ map-append pushed_of r.pushed (p ∷ []))))))

  pub pushes_named : (p : Push) (n : List ℕ) (v : model.Value) (later : List Push) → p.name ≡ n → sendable v ≡ Ok (json_view p.payload) → later ≡ r.pushed ++ p ∷ []
      → Becomes (Ok tt) (apply_effect (push_event n v) before) present w (record r { pushed = later })
  pushes_named p n v later named fits is =
      subst (λ m. Becomes (Ok tt) (apply_effect (push_event m v) before) present w (record r { pushed = later })) named (pushes p v later fits is)

  pub sends : (v : Value) (d : Data) (later : List Value) (free : ℕ) → sendable (view v) ≡ Ok d → later ≡ r.sent ++ v ∷ [] → free + 1 ≡ r.free
      → Becomes (Ok tt) (apply_effect (send_self (view v)) before) present w (record r { sent = later; free = free })
  sends v d later free fits is one_less =
      let waits : Value → Waiting = λ x. sent r.generation (view x) in
      let longer : w ++ map waits later ≡ (w ++ map waits r.sent) ++ waits v ∷ []
      = ap (λ l. w ++ map waits l) is ∙ ap (λ l. w ++ l) (map-append waits r.sent (v ∷ [])) ∙ sym (append_assoc w (map waits r.sent) (waits v ∷ [])) in
      let one_more : length (w ++ map waits later) ≡ length before.1.inbox + 1 = ap length longer ∙ length-append before.1.inbox (waits v ∷ []) in
      let room : nat_lt (length before.1.inbox) inbox_limit ≡ true = lt-ltb (length before.1.inbox) inbox_limit (below (length before.1.inbox) free r.free h one_less) in (
        counted (length before.1.inbox) (length (w ++ map waits later)) free r.free h one_less one_more,
        (streams, rw (fits, room) (ap (λ l. Ok (before.0, record before.1 { inbox = l })) (sym longer))),
      )

  pub is_full : (v : model.Value) (d : Data) → sendable v ≡ Ok d → r.free ≡ 0 → IsErr (apply_effect (send_self v) before)
  is_full v d fits none =
      let room : nat_lt (length before.1.inbox) inbox_limit ≡ false = le-ltb (length before.1.inbox) inbox_limit (filled (length before.1.inbox) r.free h none) in
      rw (fits, room) refl
