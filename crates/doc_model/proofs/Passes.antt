-- The one-pass law: what a pass meets is the trace of the state that it leaves.
use Rattle.std.proofs.Common.{◌≡◌, ℕ, zero, suc, nat_lt, List, [], ◌∷◌, ◌++◌, map, Ok, Err, Option, Some, None, Bool, true, false, ◌&&◌, ◌==◌, if◌then◌else◌, refl, sym, ap, ◌∙◌, true≢false}
use Rattle.std.specs.Str.{bytes_eq}
use Rattle.std.proofs.lemmas.Bool.Decides.{Decides-eqb}
use Rattle.std.proofs.lemmas.Slice.Eq.{bytes_eq-Decides}
use Rattle.value_core.specs.Value.{Value, Values, Assigns, same, same_assigns}
use Rattle.ast_core.specs.Syntax.{Name, Expr, Attributes, Body, Entries, Place, put, attribute, spread, if_place, case_place, for_place, call, render_slot, live_call, stream_place, Nodes, no_nodes, node}
use Rattle.ast_core.specs.Free.{free_names, free_place}
use Rattle.doc_model.specs.Environment.{Component, Env, binding, bindings, bind, inside, reading, find}
use Rattle.doc_model.specs.Evaluation.{Res, then_do, both, on_res, eval_expr, printed, is_true}
use Rattle.text_core.specs.Escape.{escape_text}
use Rattle.doc_model.specs.Printing.{print_attribute, print_spread}
use Rattle.value_core.specs.declared.raise.Raise.TheVariants.{NoClause, Duplicate, Range}
use Rattle.doc_model.specs.Trace.{Items, no_items, item, met_text, met_nothing, met_branch, met_rows, met_call, met_slots, met_component, no_item_rows, item_row, no_slots, slot_of}
use Rattle.doc_model.specs.Scopes.{Site, Captured, Chosen, chosen, callee, component_scope, component_of, or_none, id_of, slot_scope, row_scopes, slots_of}
use Rattle.ast_core.specs.Places.{cut, places_in}
use Rattle.doc_model.specs.Tracing.{trace, trace_places, trace_place, trace_rows, trace_slot, trace_slots, trace_else}
use Rattle.diff_tree.specs.Client.{among}
use Rattle.doc_model.specs.Walk.{Owner, Views, Walk, component_with, owner_of, with_changed, Step, plainly, and_so, giving, in_turn, begin, go_on, reach_found, reach, Onward, pass_rows, pass_slot, pass_slots, pass_else, pass_place, pass_places, pass, swept, at_end_of_walk, in_state, OnePass}
use Rattle.doc_model.proofs.Results.{On}
use Rattle.doc_model.proofs.Sames.{both_true, same_sound, same_refl}
use Rattle.doc_model.proofs.Names.{agree_same, agree_reading, eval_agrees}
use Rattle.doc_model.proofs.Calling.{call_same, live_same}
use Rattle.doc_model.specs.Calls.{items_of, call_assigns, live_assigns, module_in}

-- the components of these are found alike where they were met
module _ {X : Type 0} where
  abbrev pub Settled : Walk X → List Component → Type 0
  Settled s cs = (m : List ℕ) (i : Value) (c : Component) → find m i s.components ≡ Some c → among c.number s.met ≡ true → find m i cs ≡ Some c

  abbrev pub Extends : Walk X → Walk X → Type 0
  Extends s t = (m : List ℕ) (i : Value) (c : Component) → find m i s.components ≡ Some c → among c.number s.met ≡ true → (find m i t.components ≡ Some c) × (among c.number t.met ≡ true)

  pub back : (s t : Walk X) (cs : List Component) → Extends s t → Settled t cs → Settled s cs
  back s t cs e h m i c f g = let r = e m i c f g in h m i c r.0 r.1

  pub further : (s t u : Walk X) → Extends s t → Extends t u → Extends s u
  further s t u e f m i c g h = let r = e m i c g h in f m i c r.0 r.1

  -- what a step gives is what the later state gives
  abbrev pub Traced : {A : Type 0} → Walk X → (List Component → Res A) → Res (A × Walk X) → Type 0
  Traced s f r = On (λ p. Extends s p.1 × ((cs : List Component) → Settled p.1 cs → f cs ≡ Ok p.0)) r

  traced_as : {A : Type 0} (s : Walk X) (f g : List Component → Res A) (r : Res (A × Walk X)) → ((cs : List Component) → f cs ≡ g cs) → Traced s f r → Traced s g r
  traced_as s f g (Ok p) e h = (h.0, λ cs k. sym (e cs) ∙ h.1 cs k)
  traced_as s f g (Err x) e h = tt

  plainly_traced : {A : Type 0} (s : Walk X) (f : List Component → Res A) (r : Res A) → ((cs : List Component) → f cs ≡ r) → Traced s f (plainly r s)
  plainly_traced s f (Ok a) e = (λ m i c g h. (g, h), λ cs k. e cs)
  plainly_traced s f (Err x) e = tt

  giving_traced : {A B : Type 0} (s : Walk X) (g : A → B) (f : List Component → Res A) (m : Step X A) → Traced s f (m s) → Traced s (λ cs. on_res g (f cs)) (giving g m s)
  giving_traced {A = A} s g f m h = made (m s) h
    where
      made : (r : Res (A × Walk X)) → Traced s f r → Traced s (λ cs. on_res g (f cs)) (on_res (λ p. (g p.0, p.1)) r)
      made (Ok p) k = (k.0, λ cs l. ap (on_res g) (k.1 cs l))
      made (Err x) k = tt

  and_so_traced : {A B : Type 0} (s : Walk X) (f : List Component → Res A) (h : A → List Component → Res B) (m : Step X A) (k : A → Step X B) → Traced s f (m s) → ((a : A) (t : Walk X) → Traced t (h a) (k a t))
      → Traced s (λ cs. then_do (f cs) (λ a. h a cs)) (and_so m k s)
  and_so_traced {A = A} {B = B} s f h m k d e = first (m s) d
    where
      second : (a : A) (t : Walk X) → Extends s t → ((cs : List Component) → Settled t cs → f cs ≡ Ok a) → (r : Res (B × Walk X)) → Traced t (h a) r → Traced s (λ cs. then_do (f cs) (λ a. h a cs)) r
      second a t x y (Ok q) z = (further s t q.1 x z.0, λ cs l. ap (λ r. then_do r (λ a. h a cs)) (y cs (back t q.1 cs z.0 l)) ∙ z.1 cs l)
      second a t x y (Err w) z = tt

      first : (r : Res (A × Walk X)) → Traced s f r → Traced s (λ cs. then_do (f cs) (λ a. h a cs)) (then_do r (λ p. k p.0 p.1))
      first (Ok p) x = second p.0 p.1 x.0 x.1 (k p.0 p.1) (e p.0 p.1)
      first (Err w) x = tt

  in_turn_traced : {A B C : Type 0} (s : Walk X) (g : A → B → C) (f : List Component → Res A) (h : List Component → Res B) (m : Step X A) (n : Step X B) → Traced s f (m s) → ((t : Walk X) → Traced t h (n t))
      → Traced s (λ cs. both g (f cs) (h cs)) (in_turn g m n s)
  in_turn_traced {A = A} {B = B} s g f h m n d e = first (m s) d
    where
      second : (a : A) (t : Walk X) → Extends s t → ((cs : List Component) → Settled t cs → f cs ≡ Ok a) → (r : Res (B × Walk X)) → Traced t h r → Traced s (λ cs. both g (f cs) (h cs)) (on_res (λ q. (g a q.0, q.1)) r)
      second a t x y (Ok q) z = (further s t q.1 x z.0, λ cs l. ap (λ r. both g r (h cs)) (y cs (back t q.1 cs z.0 l)) ∙ ap (both g (Ok a)) (z.1 cs l))
      second a t x y (Err w) z = tt

      first : (r : Res (A × Walk X)) → Traced s f r → Traced s (λ cs. both g (f cs) (h cs)) (then_do r (λ p. on_res (λ q. (g p.0 q.0, q.1)) (n p.1)))
      first (Ok p) x = second p.0 p.1 x.0 x.1 (n p.1) (e p.1)
      first (Err w) x = tt

-- the table
abbrev test : List ℕ → Value → Component → Bool
test m i c = bytes_eq m c.module_name && same i c.id

pub test_self : (m : List ℕ) (i : Value) → (bytes_eq m m && same i i) ≡ true
test_self m i = ap (λ b. b && same i i) ((bytes_eq-Decides m m).1 refl) ∙ same_refl i

pub find_appended : (m : List ℕ) (i : Value) (cs : List Component) (c d : Component) → find m i cs ≡ Some d → find m i (cs ++ (c ∷ [])) ≡ Some d
find_appended m i [] c d h = cc
find_appended m i (e ∷ cs) c d h = by_test (test m i e) h (find_appended m i cs c d)
  where
    by_test : (b : Bool) → (if b then Some e else find m i cs) ≡ Some d → (find m i cs ≡ Some d → find m i (cs ++ (c ∷ [])) ≡ Some d) → (if b then Some e else find m i (cs ++ (c ∷ []))) ≡ Some d
    by_test true k r = k
    by_test false k r = r k

pub find_last : (m : List ℕ) (i : Value) (cs : List Component) (c : Component) → find m i cs ≡ None → test m i c ≡ true → find m i (cs ++ (c ∷ [])) ≡ Some c
find_last m i [] c h t = ap (λ b. if b then Some c else None) t
find_last m i (e ∷ cs) c h t = by_test (test m i e) h (λ k. find_last m i cs c k t)
  where
    by_test : (b : Bool) → (if b then Some e else find m i cs) ≡ None → (find m i cs ≡ None → find m i (cs ++ (c ∷ [])) ≡ Some c) → (if b then Some e else find m i (cs ++ (c ∷ []))) ≡ Some c
    by_test true k r = cc
    by_test false k r = r k

find_changed : (m : List ℕ) (i : Value) (cs : List Component) (c d : Component) → find m i cs ≡ Some d → test m i c ≡ true → find m i (with_changed m i c cs) ≡ Some c
find_changed m i [] c d h t = cc
find_changed m i (e ∷ cs) c d h t = by_test (test m i e) refl h (λ k. find_changed m i cs c d k t)
  where
    by_test : (b : Bool) → test m i e ≡ b → (if b then Some e else find m i cs) ≡ Some d → (find m i cs ≡ Some d → find m i (with_changed m i c cs) ≡ Some c) → find m i (if b then c ∷ cs else e ∷ with_changed m i c cs) ≡ Some c
    by_test true x k r = ap (λ b. if b then Some c else find m i cs) t
    by_test false x k r = ap (λ b. if b then Some e else find m i (with_changed m i c cs)) x ∙ r k

-- another component is found as before
find_other : (m : List ℕ) (i : Value) (cs : List Component) (c d : Component) (m' : List ℕ) (i' : Value) (e : Component) → c.module_name ≡ m → c.id ≡ i → find m i cs ≡ Some d → find m' i' cs ≡ Some e → (d ≡ e → ⊥)
    → find m' i' (with_changed m i c cs) ≡ Some e
find_other m i [] c d m' i' e em ei h k n = cc
find_other m i (g ∷ cs) c d m' i' e em ei h k n = by_test (test m i g) refl h (λ x y. find_other m i cs c d m' i' e em ei x y n)
  where
    inner : (b : Bool) → test m' i' g ≡ b → (if b then Some g else find m' i' cs) ≡ Some e → (find m' i' cs ≡ Some e → find m' i' (with_changed m i c cs) ≡ Some e) → (if b then Some g else find m' i' (with_changed m i c cs)) ≡ Some e
    inner true x y r = y
    inner false x y r = r y

    replaced : g ≡ d → (b : Bool) → test m' i' g ≡ b → test m' i' c ≡ b → (if b then Some g else find m' i' cs) ≡ Some e → (if b then Some c else find m' i' cs) ≡ Some e
    replaced q true x z y = absurd (n (sym q ∙ (let w : g ≡ e = cc in w)))
    replaced q false x z y = y

    by_test : (b : Bool) → test m i g ≡ b → (if b then Some g else find m i cs) ≡ Some d → (find m i cs ≡ Some d → find m' i' cs ≡ Some e → find m' i' (with_changed m i c cs) ≡ Some e) → find m' i' (if b then c ∷ cs else g ∷ with_changed m i c cs) ≡ Some e
    by_test true x y r =
        let q : g ≡ d = cc in
        let t = both_true (bytes_eq m g.module_name) (same i g.id) x in
        let u : c.module_name ≡ g.module_name = em ∙ (bytes_eq-Decides m g.module_name).0 t.0 in
        let v : c.id ≡ g.id = ei ∙ same_sound i g.id t.1 in
        let z : test m' i' c ≡ test m' i' g = ap (λ x. bytes_eq m' x && same i' c.id) u ∙ ap (λ x. bytes_eq m' g.module_name && same i' x) v in
        ap (λ b. if b then Some c else find m' i' cs) z ∙ replaced q (test m' i' g) refl z k
    by_test false x y r = inner (test m' i' g) refl k (r y)

pub among_more : (n m : ℕ) (ms : List ℕ) → among n ms ≡ true → among n (m ∷ ms) ≡ true
among_more n m ms h = by_test (n == m)
  where
    by_test : (b : Bool) → (if b then true else among n ms) ≡ true
    by_test true = refl
    by_test false = h

pub among_self : (n : ℕ) (ms : List ℕ) → among n (n ∷ ms) ≡ true
among_self n ms = ap (λ b. if b then true else among n ms) ((Decides-eqb n n).1 refl)

module _ {X : Type 0} (views : Views X) where
  -- what `reach` gives is found afterwards, and counts as met
  abbrev Reached : Walk X → List ℕ → Value → Res (Component × Walk X) → Type 0
  Reached s m i r = On (λ p. Extends s p.1 × (find m i p.1.components ≡ Some p.0) × (among p.0.number p.1.met ≡ true)) r

  begin_reaches : (m : List ℕ) (i : Value) (as' : Assigns) (s : Walk X) → find m i s.components ≡ None → Reached s m i (begin views m i as' s)
  begin_reaches m i as' s h = by_limit (nat_lt s.next 4294967296)
    where
      made : (r : Res (Owner × X)) → Reached s m i (on_res (λ p. (component_with s.next m i as' p.0, record { components = s.components ++ (component_with s.next m i as' p.0 ∷ []); met = s.next ∷ s.met; next = suc s.next; rest = p.1 })) r)
      made (Ok p) = (
        λ m' i' c f g. (find_appended m' i' s.components (component_with s.next m i as' p.0) c f, among_more c.number s.next s.met g),
        find_last m i s.components (component_with s.next m i as' p.0) h (test_self m i),
        among_self s.next s.met,
      )
      made (Err e) = tt

      by_limit : (b : Bool) → Reached s m i (if b then on_res (λ p. (component_with s.next m i as' p.0, record { components = s.components ++ (component_with s.next m i as' p.0 ∷ []); met = s.next ∷ s.met; next = suc s.next; rest = p.1 })) (views.mounted m s.next as' s.rest) else Err Range)
      by_limit true = made (views.mounted m s.next as' s.rest)
      by_limit false = tt

  go_on_reaches : (m : List ℕ) (i : Value) (c : Component) (as' : Assigns) (s : Walk X) → find m i s.components ≡ Some c → Reached s m i (go_on views m i c as' s)
  go_on_reaches m i c as' s h = by_met (among c.number s.met) refl
    where
      changed_reaches : among c.number s.met ≡ false → (r : Res (Owner × X))
          → Reached s m i (on_res (λ p. (component_with c.number m i as' p.0, record { components = with_changed m i (component_with c.number m i as' p.0) s.components; met = c.number ∷ s.met; next = s.next; rest = p.1 })) r)
      changed_reaches e (Ok p) = (
        λ m' i' d f g. (find_other m i s.components (component_with c.number m i as' p.0) c m' i' d refl refl h f (λ q. true≢false (sym g ∙ ap (λ x. among x.number s.met) (sym q) ∙ e)), among_more d.number c.number s.met g),
        find_changed m i s.components (component_with c.number m i as' p.0) c h (test_self m i),
        among_self c.number s.met,
      )
      changed_reaches e (Err x) = tt

      by_attributes : among c.number s.met ≡ false → (b : Bool)
          → Reached s m i (if b then Ok (c, record s { met = c.number ∷ s.met }) else on_res (λ p. (component_with c.number m i as' p.0, record { components = with_changed m i (component_with c.number m i as' p.0) s.components; met = c.number ∷ s.met; next = s.next; rest = p.1 })) (views.updated m (owner_of c) as' s.rest))
      by_attributes e true = (λ m' i' d f g. (f, among_more d.number c.number s.met g), h, among_self c.number s.met)
      by_attributes e false = changed_reaches e (views.updated m (owner_of c) as' s.rest)

      by_met : (b : Bool) → among c.number s.met ≡ b → Reached s m i (if b then Err Duplicate else (if same_assigns as' c.passed then Ok (c, record s { met = c.number ∷ s.met }) else on_res (λ p. (component_with c.number m i as' p.0, record { components = with_changed m i (component_with c.number m i as' p.0) s.components; met = c.number ∷ s.met; next = s.next; rest = p.1 })) (views.updated m (owner_of c) as' s.rest)))
      by_met true e = tt
      by_met false e = by_attributes e (same_assigns as' c.passed)

  pub reach_traced : (m : List ℕ) (as' : Assigns) (s : Walk X) (env : Env) → Traced s (λ cs. component_of (in_state cs env) m as') (reach views m as' s)
  reach_traced m as' s env = by_id (id_of as')
    where
      as_traced : (i : Value) (r : Res (Component × Walk X)) → Reached s m i r → Traced s (λ cs. then_do (Ok i) (λ v. or_none (find m v cs))) r
      as_traced i (Ok p) h = (h.0, λ cs k. ap or_none (k m i p.0 h.1 h.2))
      as_traced i (Err e) h = tt

      by_found : (i : Value) (o : Option Component) → find m i s.components ≡ o → Reached s m i (reach_found views m i as' o s)
      by_found i None e = begin_reaches m i as' s e
      by_found i (Some c) e = go_on_reaches m i c as' s e

      by_id : (r : Res Value) → Traced s (λ cs. then_do r (λ v. or_none (find m v cs))) (then_do r (λ i. reach_found views m i as' (find m i s.components) s))
      by_id (Ok i) = as_traced i (reach_found views m i as' (find m i s.components) s) (by_found i (find m i s.components) refl)
      by_id (Err e) = tt

pub then_assoc : {A B C : Type 0} (r : Res A) (f : A → Res B) (g : B → Res C) → then_do r (λ a. then_do (f a) g) ≡ then_do (then_do r f) g
then_assoc (Ok a) f g = refl
then_assoc (Err e) f g = refl

-- the table is not evaluated
pub eval_in : (cs : List Component) (env : Env) (e : Expr) → eval_expr (in_state cs env) e ≡ eval_expr env e
eval_in cs env e = eval_agrees e (in_state cs env) env (agree_same (in_state cs env) env (free_names e) refl refl)

pub reading_in : (cs : List Component) (env : Env) (ns : List Name) → reading (in_state cs env) ns ≡ reading env ns
reading_in cs env ns = agree_reading (in_state cs env) env ns (agree_same (in_state cs env) env ns refl refl)

pub call_in : (cs : List Component) (env : Env) (xs : Attributes) (c : Body) (es : Entries) → call_assigns (in_state cs env) xs c es ≡ call_assigns env xs c es
call_in cs env xs c es = call_same xs c es (in_state cs env) env refl refl

pub live_in : (cs : List Component) (env : Env) (xs : Attributes) → live_assigns (in_state cs env) xs ≡ live_assigns env xs
live_in cs env xs = live_same xs (in_state cs env) env refl refl

module _ {X : Type 0} (views : Views X) (site : Site) (k : ℕ) where
  abbrev Traces : Type 0
  Traces = (env : Env) (ns : Nodes) (s : Walk X) → Traced s (λ cs. trace site k (in_state cs env) ns) (pass views site k env ns s)

  module _ (h : Traces) where
    abbrev onward : Onward views
    onward = pass views site k

    rows_traced : {A : Type 0} (g : A → Env) (body : Nodes) (bs : List A) (s : Walk X) → Traced s (λ cs. trace_rows (trace site k) body (map (λ b. in_state cs (g b)) bs)) (pass_rows views onward body (map g bs) s)
    rows_traced g body [] s = plainly_traced s (λ cs. trace_rows (trace site k) body []) (Ok no_item_rows) (λ cs. refl)
    rows_traced g body (b ∷ bs) s =
        in_turn_traced s item_row (λ cs. trace site k (in_state cs (g b)) body) (λ cs. trace_rows (trace site k) body (map (λ b. in_state cs (g b)) bs)) (onward (g b) body) (pass_rows views onward body (map g bs)) (h (g b) body s) (λ t. rows_traced g body bs t)

    slot_traced : (env : Env) (v : Value) (c : Captured) (s : Walk X) → Traced s (λ cs. trace_slot site (trace site k) (in_state cs env) v c) (pass_slot views site onward env v c s)
    slot_traced env v c s = by_binding (binding (site.body c.number).pattern v)
      where
        by_binding : (o : Option Assigns) → Traced s (λ cs. elim o [ None ↦ Err NoClause | Some as' ↦ trace site k (slot_scope (in_state cs env) c as') (site.body c.number).nodes ])
            ((elim o as (λ x. Step X Items) [ None ↦ plainly (Err NoClause) | Some as' ↦ pass views site k (slot_scope env c as') (site.body c.number).nodes ]) s)
        by_binding None = tt
        by_binding (Some as') = h (slot_scope env c as') (site.body c.number).nodes s

    slots_traced : (env : Env) (v : Value) (cs' : List Captured) (s : Walk X) → Traced s (λ cs. trace_slots site (trace site k) (in_state cs env) v cs') (pass_slots views site onward env v cs' s)
    slots_traced env v [] s = plainly_traced s (λ cs. Ok no_slots) (Ok no_slots) (λ cs. refl)
    slots_traced env v (c ∷ cs') s =
        in_turn_traced s (slot_of c.number (cut (site.body c.number).nodes)) (λ cs. trace_slot site (trace site k) (in_state cs env) v c) (λ cs. trace_slots site (trace site k) (in_state cs env) v cs') (pass_slot views site onward env v c) (pass_slots views site onward env v cs') (slot_traced env v c s) (λ t. slots_traced env v cs' t)

    branch_traced : (i : ℕ) (env : Env) (ns : Nodes) (s : Walk X) → Traced s (λ cs. on_res (met_branch i (cut ns)) (trace site k (in_state cs env) ns)) (giving (met_branch i (cut ns)) (onward env ns) s)
    branch_traced i env ns s = giving_traced s (met_branch i (cut ns)) (λ cs. trace site k (in_state cs env) ns) (onward env ns) (h env ns s)

    choice_traced : (env : Env) (a b : Nodes) (c : Bool) (s : Walk X) → Traced s (λ cs. if c then on_res (met_branch 0 (cut a)) (trace site k (in_state cs env) a) else trace_else (trace site k) (in_state cs env) b)
        ((if c then giving (met_branch 0 (cut a)) (onward env a) else pass_else views onward env b) s)
    choice_traced env a b true s = branch_traced 0 env a s
    choice_traced env a no_nodes false s = plainly_traced s (λ cs. Ok met_nothing) (Ok met_nothing) (λ cs. refl)
    choice_traced env a (node n ns) false s = branch_traced 1 env (node n ns) s

    place_traced : (p : Place) (env : Env) (s : Walk X) → Traced s (λ cs. trace_place site (trace site k) (in_state cs env) p) (pass_place views site k onward env p s)
    place_traced (put e) env s =
        plainly_traced s (λ cs. trace_place site (trace site k) (in_state cs env) (put e)) (trace_place site (trace site k) env (put e))
        (λ cs. ap (λ rd. on_res (λ t. met_text rd (escape_text t)) (then_do (eval_expr (in_state cs env) e) printed)) (reading_in cs env (free_names e)) ∙ ap (λ r. on_res (λ t. met_text (reading env (free_names e)) (escape_text t)) (then_do r printed)) (eval_in cs env e))
    place_traced (attribute n e) env s =
        plainly_traced s (λ cs. trace_place site (trace site k) (in_state cs env) (attribute n e)) (trace_place site (trace site k) env (attribute n e))
        (λ cs. ap (λ rd. on_res (met_text rd) (then_do (eval_expr (in_state cs env) e) (print_attribute n))) (reading_in cs env (free_names e)) ∙ ap (λ r. on_res (met_text (reading env (free_names e))) (then_do r (print_attribute n))) (eval_in cs env e))
    place_traced (spread e) env s =
        plainly_traced s (λ cs. trace_place site (trace site k) (in_state cs env) (spread e)) (trace_place site (trace site k) env (spread e))
        (λ cs. ap (λ rd. on_res (met_text rd) (then_do (eval_expr (in_state cs env) e) print_spread)) (reading_in cs env (free_names e)) ∙ ap (λ r. on_res (met_text (reading env (free_names e))) (then_do r print_spread)) (eval_in cs env e))
    place_traced (stream_place x y p body) env s =
        plainly_traced s (λ cs. trace_place site (trace site k) (in_state cs env) (stream_place x y p body)) (trace_place site (trace site k) env (stream_place x y p body)) (λ cs. refl)
    place_traced (if_place t a b) env s =
        and_so_traced s (λ cs. eval_expr (in_state cs env) t) (λ v cs. if is_true v then on_res (met_branch 0 (cut a)) (trace site k (in_state cs env) a) else trace_else (trace site k) (in_state cs env) b) (plainly (eval_expr env t)) _
        (plainly_traced s (λ cs. eval_expr (in_state cs env) t) (eval_expr env t) (λ cs. eval_in cs env t)) (λ v u. choice_traced env a b (is_true v) u)
    place_traced (case_place e cs') env s =
        let f = λ (cs : List Component). then_do (eval_expr (in_state cs env) e) (λ v. chosen v cs') in
        let g = λ (c : Chosen) (cs : List Component). on_res (met_branch c.index (cut c.nodes)) (trace site k (bind c.variables (in_state cs env)) c.nodes) in
        traced_as s (λ cs. then_do (f cs) (λ c. g c cs)) (λ cs. trace_place site (trace site k) (in_state cs env) (case_place e cs')) _ (λ cs. sym (then_assoc (eval_expr (in_state cs env) e) (λ v. chosen v cs') (λ c. g c cs)))
        (and_so_traced s f g (plainly (then_do (eval_expr env e) (λ v. chosen v cs'))) (λ c. giving (met_branch c.index (cut c.nodes)) (onward (bind c.variables env) c.nodes))
        (plainly_traced s f (then_do (eval_expr env e) (λ v. chosen v cs')) (λ cs. ap (λ r. then_do r (λ v. chosen v cs')) (eval_in cs env e))) (λ c u. branch_traced c.index (bind c.variables env) c.nodes u))
    place_traced (for_place p e body) env s =
        let q = for_place p e body in
        let f = λ (cs : List Component). then_do (eval_expr (in_state cs env) e) items_of in
        let g = λ (vs : Values) (cs : List Component). trace_rows (trace site k) body (row_scopes (in_state cs env) p vs) in
        traced_as s (λ cs. on_res (met_rows (reading env (free_place q)) (cut body)) (then_do (f cs) (λ vs. g vs cs))) (λ cs. trace_place site (trace site k) (in_state cs env) q) _
        (λ cs. ap (λ rd. on_res (met_rows rd (cut body)) (then_do (f cs) (λ vs. g vs cs))) (sym (reading_in cs env (free_place q))))
        (giving_traced s (met_rows (reading env (free_place q)) (cut body)) (λ cs. then_do (f cs) (λ vs. g vs cs)) (and_so (plainly (then_do (eval_expr env e) items_of)) (λ vs. pass_rows views onward body (row_scopes env p vs)))
        (and_so_traced s f g (plainly (then_do (eval_expr env e) items_of)) (λ vs. pass_rows views onward body (row_scopes env p vs))
        (plainly_traced s f (then_do (eval_expr env e) items_of) (λ cs. ap (λ r. then_do r items_of) (eval_in cs env e))) (λ vs u. rows_traced (λ as'. inside as' env) body (bindings p vs) u)))
    place_traced (call t xs content es) env s =
        let f = λ (cs : List Component). call_assigns (in_state cs env) xs content es in
        let g = λ (as' : Assigns) (cs : List Component). trace site k (callee (in_state cs env) as') (site.template t) in
        giving_traced s (met_call (cut (site.template t))) (λ cs. then_do (f cs) (λ as'. g as' cs)) (and_so (plainly (call_assigns env xs content es)) (λ as'. onward (callee env as') (site.template t)))
        (and_so_traced s f g (plainly (call_assigns env xs content es)) (λ as'. onward (callee env as') (site.template t))
        (plainly_traced s f (call_assigns env xs content es) (λ cs. call_in cs env xs content es))
        (λ as' u. h (callee env as') (site.template t) u))
    place_traced (render_slot e a) env s =
        let f = λ (cs : List Component). then_do (eval_expr (in_state cs env) e) (slots_of site) in
        let g = λ (v : Value) (cs' : List Captured) (cs : List Component). trace_slots site (trace site k) (in_state cs env) v cs' in
        let w = λ (cs' : List Captured) (cs : List Component). then_do (eval_expr (in_state cs env) a) (λ v. g v cs' cs) in
        giving_traced s met_slots (λ cs. then_do (f cs) (λ cs'. w cs' cs)) (and_so (plainly (then_do (eval_expr env e) (slots_of site))) (λ cs'. and_so (plainly (eval_expr env a)) (λ v. pass_slots views site onward env v cs')))
        (and_so_traced s f w (plainly (then_do (eval_expr env e) (slots_of site))) (λ cs'. and_so (plainly (eval_expr env a)) (λ v. pass_slots views site onward env v cs'))
        (plainly_traced s f (then_do (eval_expr env e) (slots_of site)) (λ cs. ap (λ r. then_do r (slots_of site)) (eval_in cs env e)))
        (λ cs' u. and_so_traced u (λ cs. eval_expr (in_state cs env) a) (λ v cs. g v cs' cs) (plainly (eval_expr env a)) (λ v. pass_slots views site onward env v cs')
        (plainly_traced u (λ cs. eval_expr (in_state cs env) a) (eval_expr env a) (λ cs. eval_in cs env a)) (λ v t. slots_traced env v cs' t)))
    place_traced (live_call xs content es) env s =
        let f = λ (cs : List Component). then_do (live_assigns (in_state cs env) xs) (component_of (in_state cs env) (module_in xs)) in
        let g = λ (c : Component) (cs : List Component). on_res (met_component c.number (cut (site.root (module_in xs)))) (trace site k (component_scope (in_state cs env) c) (site.root (module_in xs))) in
        and_so_traced s f g (and_so (plainly (live_assigns env xs)) (reach views (module_in xs))) (λ c. giving (met_component c.number (cut (site.root (module_in xs)))) (onward (component_scope env c) (site.root (module_in xs))))
        (and_so_traced s (λ cs. live_assigns (in_state cs env) xs) (λ as' cs. component_of (in_state cs env) (module_in xs) as') (plainly (live_assigns env xs)) (reach views (module_in xs))
        (plainly_traced s (λ cs. live_assigns (in_state cs env) xs) (live_assigns env xs) (λ cs. live_in cs env xs)) (λ as' u. reach_traced views (module_in xs) as' u env))
        (λ c u. giving_traced u (met_component c.number (cut (site.root (module_in xs)))) (λ cs. trace site k (in_state cs (component_scope env c)) (site.root (module_in xs))) (onward (component_scope env c) (site.root (module_in xs))) (h (component_scope env c) (site.root (module_in xs)) u))

    places_traced : (ps : List Place) (env : Env) (s : Walk X) → Traced s (λ cs. trace_places site (trace site k) (in_state cs env) ps) (pass_places views site k onward env ps s)
    places_traced [] env s = plainly_traced s (λ cs. Ok no_items) (Ok no_items) (λ cs. refl)
    places_traced (p ∷ ps) env s =
        in_turn_traced s item (λ cs. trace_place site (trace site k) (in_state cs env) p) (λ cs. trace_places site (trace site k) (in_state cs env) ps) (pass_place views site k onward env p) (pass_places views site k onward env ps) (place_traced p env s) (λ t. places_traced ps env t)

pub pass_traced : {X : Type 0} (views : Views X) (site : Site) (k : ℕ) → Traces views site k
pass_traced views site zero env ns s = tt
pass_traced views site (suc k) env ns s = places_traced views site k (pass_traced views site k) (places_in ns) env s

-- sweeping leaves what was met
pub swept_settled : {X : Type 0} (s : Walk X) → Settled s (swept s.met s.components)
swept_settled s m i c f g = found s.components f
  where
    found : (cs : List Component) → find m i cs ≡ Some c → find m i (swept s.met cs) ≡ Some c
    found [] h = cc
    found (d ∷ cs) h = by_test (test m i d) refl h (found cs)
      where
        kept : (b : Bool) → among d.number s.met ≡ b → test m i d ≡ true → d ≡ c → find m i (if b then d ∷ swept s.met cs else swept s.met cs) ≡ Some c
        kept true e t q = ap (λ b. if b then Some d else find m i (swept s.met cs)) t ∙ ap Some q
        kept false e t q = absurd (true≢false (sym g ∙ ap (λ x. among x.number s.met) (sym q) ∙ e))

        passed : (b : Bool) → test m i d ≡ false → find m i (swept s.met cs) ≡ Some c → find m i (if b then d ∷ swept s.met cs else swept s.met cs) ≡ Some c
        passed true t k = ap (λ b. if b then Some d else find m i (swept s.met cs)) t ∙ k
        passed false t k = k

        by_test : (b : Bool) → test m i d ≡ b → (if b then Some d else find m i cs) ≡ Some c → (find m i cs ≡ Some c → find m i (swept s.met cs) ≡ Some c) → find m i (swept s.met (d ∷ cs)) ≡ Some c
        by_test true t k r = let q : d ≡ c = cc in kept (among d.number s.met) refl t q
        by_test false t k r = passed (among d.number s.met) t (r k)

pub one_pass : (X : Type 0) → OnePass X
one_pass X views site k env ns s = made (pass views site k env ns (record s { met = [] })) (pass_traced views site k env ns (record s { met = [] }))
  where
    made : (r : Res (Items × Walk X)) → Traced (record s { met = [] }) (λ cs. trace site k (in_state cs env) ns) r → on_res {B = Items × Walk X} (λ p. (p.0, at_end_of_walk p.1)) r
        ≡ then_do (on_res {B = Walk X} (λ p. p.1) (on_res {B = Items × Walk X} (λ p. (p.0, at_end_of_walk p.1)) r)) (λ s'. on_res {B = Items × Walk X} (λ is. (is, s')) (trace site k (in_state s'.components env) ns))
    made (Ok p) h = sym (ap (on_res {B = Items × Walk X} (λ is. (is, at_end_of_walk p.1))) (h.1 (swept p.1.met p.1.components) (swept_settled p.1)))
    made (Err e) h = refl
