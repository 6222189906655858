-- Handlers write to assigns and batches alone: they keep every container.
use Rattle.std.proofs.Common.{◌≡◌, ℕ, List, [], ◌∷◌, ◌++◌, Ok, Err, Option, Some, None, Bool, true, false, if◌then◌else◌, nat_lt, length, refl, ◌∙◌, subst}
use Rattle.std.specs.Str.{bytes_eq}
use Rattle.serde_json.specs.Written.{compact_text}
use Rattle.value_core.specs.Value.{Value, Assigns}
use Rattle.value_core.specs.declared.raise.Raise.TheVariants.{BadArgument, InboxFull}
use Rattle.diff_tree.specs.Container.{Batch}
use Rattle.doc_model.specs.Environment.{Stream}
use Rattle.doc_model.specs.Evaluation.{then_do, on_res}
use Rattle.doc_model.specs.Walk.{Owner}
use Rattle.doc_model.specs.Table.{Honest}
use Rattle.view_api.specs.Effect.{Effect, assign_to, stream_insert, stream_delete, stream_reset, subscribe, unsubscribe, publish, send_self, push_event}
use Rattle.view_api.specs.Meaning.{ViewMeaning}
use Rattle.doc_model.specs.Effects.{sent, to_publish, Rest, Applied, storable, sendable, position_of, limit_of, batch_insert, batch_delete, batch_reset, with_batch, in_stream, acting, send_value, is_kept_name, assigned, insert_of, apply_effect, apply_effects, applied_or_raise, new_owner, updated_component, views_of}
use Rattle.doc_model.proofs.Results.{On, on_made, on_bind, on_all, on_then, on_weaker}

-- each stream shows what it showed
abbrev pub Shows : Owner → Owner → Type 0
Shows o p = (x : List ℕ) → (p.streams x).shown ≡ (o.streams x).shown

shows_on : (o p q : Owner) → Shows o p → Shows p q → Shows o q
shows_on o p q h k x = k x ∙ h x

with_batch_shows : (s : List ℕ) (f : Batch Value → Batch Value) (g : List ℕ → Stream) (x : List ℕ) → (with_batch s f g x).shown ≡ (g x).shown
with_batch_shows s f g x = by_test (bytes_eq x s)
  where
    by_test : (b : Bool) → (if b then record { shown = (g x).shown; waiting = f (g x).waiting } else g x).shown ≡ (g x).shown
    by_test true = refl
    by_test false = refl

in_stream_shows : (s : List ℕ) (f : Batch Value → Batch Value) (o : Owner) → Shows o (in_stream s f o)
in_stream_shows s f o x = with_batch_shows s f o.streams x

same : (o : Owner) → Shows o o
same o x = refl

effect_shows : (e : Effect) (p : Applied) → On (λ q. Shows p.0 q.0) (apply_effect e p)
effect_shows (assign_to n v) p = by_test (is_kept_name n)
  where
    by_test : (b : Bool) → On (λ (q : Applied). Shows p.0 q.0) (if b then Err BadArgument else on_res (λ w. assigned n w p) (storable v))
    by_test true = tt
    by_test false = on_made (λ (q : Applied). Shows p.0 q.0) (λ w. assigned n w p) (storable v) (on_all (λ w. Shows p.0 (assigned n w p).0) (storable v) (λ w. same p.0))
effect_shows (stream_insert s id v at limit) p =
    on_bind (λ (q : Applied). Shows p.0 q.0) (storable v) (λ w. then_do (position_of at) (λ q. on_res (λ l. (in_stream s (batch_insert (insert_of id w q l)) p.0, p.1)) (limit_of limit)))
    (λ w. on_bind (λ (q : Applied). Shows p.0 q.0) (position_of at) (λ q. on_res (λ l. (in_stream s (batch_insert (insert_of id w q l)) p.0, p.1)) (limit_of limit))
    (λ q. on_made (λ (r : Applied). Shows p.0 r.0) (λ l. (in_stream s (batch_insert (insert_of id w q l)) p.0, p.1)) (limit_of limit)
    (on_all (λ l. Shows p.0 (in_stream s (batch_insert (insert_of id w q l)) p.0)) (limit_of limit) (λ l. in_stream_shows s (batch_insert (insert_of id w q l)) p.0))))
effect_shows (stream_delete s id) p = in_stream_shows s (batch_delete id) p.0
effect_shows (stream_reset s) p = in_stream_shows s (λ b. batch_reset) p.0
effect_shows (subscribe t) p = same p.0
effect_shows (unsubscribe t) p = same p.0
effect_shows (publish t v) p = on_made (λ (q : Applied). Shows p.0 q.0) (λ d. acting (to_publish t (compact_text d)) p) (sendable v) (on_all (λ d. Shows p.0 p.0) (sendable v) (λ d. same p.0))
effect_shows (send_self v) p = on_bind (λ (q : Applied). Shows p.0 q.0) (sendable v) (λ d. send_value v p) (λ d. by_test (nat_lt (length p.1.inbox) 1024))
  where
    by_test : (b : Bool) → On (λ (q : Applied). Shows p.0 q.0) (if b then Ok (p.0, record p.1 { inbox = p.1.inbox ++ sent p.1.generation v ∷ [] }) else Err InboxFull)
    by_test true = same p.0
    by_test false = tt
effect_shows (push_event n v) p = on_made (λ (q : Applied). Shows p.0 q.0) (λ d. (p.0, record p.1 { pushed = p.1.pushed ++ (n, d) ∷ [] })) (sendable v) (on_all (λ d. Shows p.0 p.0) (sendable v) (λ d. same p.0))

effects_show : (es : List Effect) (p : Applied) → On (λ q. Shows p.0 q.0) (apply_effects es p)
effects_show [] p = same p.0
effects_show (e ∷ es) p =
    on_then (λ (q : Applied). Shows p.0 q.0) (λ (q : Applied). Shows p.0 q.0) (apply_effect e p) (apply_effects es) (effect_shows e p)
    (λ q h. on_weaker (λ (r : Applied). Shows q.0 r.0) (λ (r : Applied). Shows p.0 r.0) (apply_effects es q) (λ r k. shows_on p.0 q.0 r.0 h k) (effects_show es q))

pub handlers_show : (o : Option (List Effect)) (p : Applied) → On (λ q. Shows p.0 q.0) (applied_or_raise o p)
handlers_show None p = tt
handlers_show (Some es) p = effects_show es p

update_shows : (vs : ViewMeaning) (m : List ℕ) (as' : Assigns) (p : Applied) → On (λ q. Shows p.0 q.0) (updated_component vs m as' p)
update_shows vs m as' p = handlers_show (vs.update_component m as' p.0.assigns) p

mount_shows : (vs : ViewMeaning) (m : List ℕ) (n : ℕ) (as' : Assigns) (r : Rest) → On (λ q. Shows (new_owner n) q.0) (then_do (applied_or_raise (vs.mount_component m) (new_owner n, r)) (updated_component vs m as'))
mount_shows vs m n as' r =
    on_then (λ (q : Applied). Shows (new_owner n) q.0) (λ (q : Applied). Shows (new_owner n) q.0) (applied_or_raise (vs.mount_component m) (new_owner n, r)) (updated_component vs m as') (handlers_show (vs.mount_component m) (new_owner n, r))
    (λ q h. on_weaker (λ (t : Applied). Shows q.0 t.0) (λ (t : Applied). Shows (new_owner n) t.0) (updated_component vs m as' q) (λ t k. shows_on (new_owner n) q.0 t.0 h k) (update_shows vs m as' q))

-- the views of a process write to batches alone
pub honest : (vs : ViewMeaning) → Honest (views_of vs)
honest vs = record {
  begins_empty = λ m n as' r o t e x. subst (On (λ (q : Applied). Shows (new_owner n) q.0)) e (mount_shows vs m n as' r) x;
  keeps = λ m o as' r p t e x. subst (On (λ (q : Applied). Shows o q.0)) e (update_shows vs m as' (o, r)) x;
}
