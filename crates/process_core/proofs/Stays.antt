-- The generation during the message of a join.
use Rattle.std.proofs.Common.{◌≡◌, ℕ, List, [], ◌∷◌, ◌++◌, length, Option, Some, None, Ok, Err, Bool, true, false, nat_lt, if◌then◌else◌, refl, sym, subst}
use Rattle.serde_json.specs.Data.{Data}
use Rattle.serde_json.specs.Written.{compact_text}
use Rattle.value_core.specs.Value.{Value, Assigns, no_assigns}
use Rattle.value_core.specs.declared.raise.Raise.TheVariants.{BadArgument, InboxFull}
use Rattle.view_api.specs.Effect.{Effect, assign_to, stream_insert, stream_delete, stream_reset, subscribe, unsubscribe, publish, send_self, push_event}
use Rattle.view_api.specs.Meaning.{HandlerMeaning}
use Rattle.diff_tree.specs.Container.{Position, Limit}
use Rattle.doc_model.specs.Evaluation.{Res, then_do, on_res}
use Rattle.doc_model.specs.Trace.{Items}
use Rattle.doc_model.specs.Effects.{to_publish, sent, Rest, inbox_limit, storable, sendable, position_of, limit_of, batch_insert, in_stream, Applied, acting, send_value, is_kept_name, assigned, insert_of, apply_effect, apply_effects, applied_or_raise, empty_stream}
use Rattle.doc_model.specs.Process.{Outcome, Route, joined_page, rendered_page, turning_view}
use Rattle.live_page.specs.declared.app.App.{App}
use Rattle.live_page.specs.World.{world_of}
use Rattle.live_page.proofs.Rendered.{met_of, rendered_is, outcome_of}

-- effects leave the generation
abbrev pub StaysIn : ℕ → Res Applied → Type 0
StaysIn g (Ok p) = p.1.generation ≡ g
StaysIn g (Err e) = Unit {0}

assign_stays : (g : ℕ) (n : List ℕ) (p : Applied) → p.1.generation ≡ g → (b : Bool) (r : Res Value) → StaysIn g (if b then Err BadArgument else on_res (λ w. assigned n w p) r)
assign_stays g n p h true r = tt
assign_stays g n p h false (Ok w) = h
assign_stays g n p h false (Err e) = tt

insert_stays : (g : ℕ) (s id : List ℕ) (p : Applied) → p.1.generation ≡ g → (a : Res Value) (b : Res Position) (c : Res Limit)
    → StaysIn g (then_do a (λ w. then_do b (λ q. on_res (λ l. (in_stream s (batch_insert (insert_of id w q l)) p.0, p.1)) c)))
insert_stays g s id p h (Ok w) (Ok q) (Ok l) = h
insert_stays g s id p h (Ok w) (Ok q) (Err e) = tt
insert_stays g s id p h (Ok w) (Err e) c = tt
insert_stays g s id p h (Err e) b c = tt

publish_stays : (g : ℕ) (t : List ℕ) (p : Applied) → p.1.generation ≡ g → (r : Res Data) → StaysIn g (on_res (λ d. acting (to_publish t (compact_text d)) p) r)
publish_stays g t p h (Ok d) = h
publish_stays g t p h (Err e) = tt

sent_stays : (g : ℕ) (v : Value) (p : Applied) → p.1.generation ≡ g → (b : Bool)
    → StaysIn g (if b then Ok (p.0, record p.1 { inbox = p.1.inbox ++ sent p.1.generation v ∷ [] }) else Err InboxFull)
sent_stays g v p h true = h
sent_stays g v p h false = tt

send_stays : (g : ℕ) (v : Value) (p : Applied) → p.1.generation ≡ g → (r : Res Data) → StaysIn g (then_do r (λ d. send_value v p))
send_stays g v p h (Ok d) = sent_stays g v p h (nat_lt (length p.1.inbox) inbox_limit)
send_stays g v p h (Err e) = tt

push_stays : (g : ℕ) (n : List ℕ) (p : Applied) → p.1.generation ≡ g → (r : Res Data) → StaysIn g (on_res (λ d. (p.0, record p.1 { pushed = p.1.pushed ++ (n, d) ∷ [] })) r)
push_stays g n p h (Ok d) = h
push_stays g n p h (Err e) = tt

effect_stays : (g : ℕ) (e : Effect) (p : Applied) → p.1.generation ≡ g → StaysIn g (apply_effect e p)
effect_stays g (assign_to n v) p h = assign_stays g n p h (is_kept_name n) (storable v)
effect_stays g (stream_insert s id v at limit) p h = insert_stays g s id p h (storable v) (position_of at) (limit_of limit)
effect_stays g (stream_delete s id) p h = h
effect_stays g (stream_reset s) p h = h
effect_stays g (subscribe t) p h = h
effect_stays g (unsubscribe t) p h = h
effect_stays g (publish t v) p h = publish_stays g t p h (sendable v)
effect_stays g (send_self v) p h = send_stays g v p h (sendable v)
effect_stays g (push_event n v) p h = push_stays g n p h (sendable v)

then_stays : (g : ℕ) (es : List Effect) (r : Res Applied) → StaysIn g r → ((p : Applied) → p.1.generation ≡ g → StaysIn g (apply_effects es p)) → StaysIn g (then_do r (apply_effects es))
then_stays g es (Ok p) h rest = rest p h
then_stays g es (Err e) h rest = tt

effects_stay : (g : ℕ) (es : List Effect) (p : Applied) → p.1.generation ≡ g → StaysIn g (apply_effects es p)
effects_stay g [] p h = h
effects_stay g (e ∷ es) p h = then_stays g es (apply_effect e p) (effect_stays g e p h) (effects_stay g es)

pub handled_stays : (g : ℕ) (o : Option (List Effect)) (p : Applied) → p.1.generation ≡ g → StaysIn g (applied_or_raise o p)
handled_stays g None p h = tt
handled_stays g (Some es) p h = effects_stay g es p h

-- what a message leads to has the generation
abbrev pub StaysOn : ℕ → Res Outcome → Type 0
StaysOn g (Ok o) = o.rest.generation ≡ g
StaysOn g (Err e) = Unit {0}

module _ {V : Type 0} (meaning : V → HandlerMeaning) (app : App V) where
  outcome_stays : (g v : ℕ) (j : Option (List ℕ)) (t : List ℕ) (as' : Assigns) (r : Rest) → r.generation ≡ g → (q : Res Items) → StaysOn g (on_res (outcome_of meaning app v j t as' r) q)
  outcome_stays g v j t as' r h (Ok is) = h
  outcome_stays g v j t as' r h (Err e) = tt

  pub rendered_stays : (g v : ℕ) (j : Option (List ℕ)) (t : List ℕ) (q : Applied) → q.1.generation ≡ g → StaysOn g (rendered_page (world_of meaning app) v j t (turning_view [] 1 q))
  rendered_stays g v j t q h =
      subst (StaysOn g) (sym (rendered_is meaning app v j t q.0.assigns q.0.streams q.1)) (outcome_stays g v j t q.0.assigns q.1 h (met_of meaning app q.0.assigns))

  shown_stays : (g v : ℕ) (j : Option (List ℕ)) (t : List ℕ) (r : Res Applied) → StaysIn g r → StaysOn g (then_do r (λ q. rendered_page (world_of meaning app) v j t (turning_view [] 1 q)))
  shown_stays g v j t (Ok q) h = rendered_stays g v j t q h
  shown_stays g v j t (Err e) h = tt

  begun_stays : (g : ℕ) (route : Route) (j : Option (List ℕ)) (t : List ℕ) (r : Res Applied) → StaysIn g r
      → StaysOn g (then_do r (λ p. then_do (applied_or_raise ((world_of meaning app).views.handle_params route.view route.params p.0.assigns) p) (λ q. rendered_page (world_of meaning app) route.view j t (turning_view [] 1 q))))
  begun_stays g route j t (Ok p) h =
      shown_stays g route.view j t (applied_or_raise ((world_of meaning app).views.handle_params route.view route.params p.0.assigns) p) (handled_stays g ((world_of meaning app).views.handle_params route.view route.params p.0.assigns) p h)
  begun_stays g route j t (Err e) h = tt

  -- a join has the generation that it began with
  pub joined_stays : (route : Route) (j : Option (List ℕ)) (t : List ℕ) (rest : Rest) → StaysOn rest.generation (joined_page (world_of meaning app) route j t rest)
  joined_stays route j t rest =
      begun_stays rest.generation route j t (applied_or_raise ((world_of meaning app).views.mount route.view route.params) (record { assigns = no_assigns; streams = empty_stream }, rest))
      (handled_stays rest.generation ((world_of meaning app).views.mount route.view route.params) (record { assigns = no_assigns; streams = empty_stream }, rest) refl)
