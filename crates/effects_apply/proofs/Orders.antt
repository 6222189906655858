-- Effects one after the other.
use Rattle.std.proofs.Common.{◌≡◌, ℕ, List, [], ◌∷◌, length, arith, Ok, Err, IsErr, refl, sym, ap, subst, ◌∙◌}
use Rattle.text_core.specs.declared.by_key.KeyValue.{KeyValue}
use Rattle.value_core.specs.declared.value.Value.{Value}
use Rattle.view_api.specs.declared.effect.Effect.{Effect}
use Rattle.view_api.specs.View.{effect_view, effects_view}
use Rattle.doc_model.specs.Environment.{Stream}
use Rattle.doc_model.specs.Evaluation.{Res, then_do}
use Rattle.doc_model.specs.Effects.{Waiting, apply_effect, apply_effects}
use Rattle.effects_apply.specs.declared.fault.EffectFault.{EffectFault}
use Rattle.effects_apply.specs.declared.fault.EffectFault.TheVariants.{Raised, OutOfMemory}
use Rattle.effects_apply.specs.declared.rest.Rest.{Rest}
use Rattle.effects_apply.specs.Applied.{CountsFree, applied_view, Does}

-- the effects left, from where they now begin, give what all give from the beginning
abbrev pub Continues : List Effect → List (KeyValue Value) → Rest → List Effect → List (KeyValue Value) → Rest → Type 0
Continues all before old left after new =
    (streams : List ℕ → Stream) (w : List Waiting) → CountsFree w old
    → CountsFree w new × ((later : List ℕ → Stream)
    × (apply_effects (effects_view all) (applied_view before streams w old) ≡ apply_effects (effects_view left) (applied_view after later w new)))

pub none_yet : (all : List Effect) (before : List (KeyValue Value)) (old : Rest) → Continues all before old all before old
none_yet all before old = λ streams w h. (h, (streams, refl))

module _ (all : List Effect) (before : List (KeyValue Value)) (old : Rest) (e : Effect) (left : List Effect) (at : List (KeyValue Value)) (r : Rest) (so_far : Continues all before old (e ∷ left) at r) where
  -- one more
  pub one_more : (after : List (KeyValue Value)) (new : Rest) → Does (Ok tt) (apply_effect (effect_view e)) at r after new → Continues all before old left after new
  one_more after new step = λ streams w h.
      let here = so_far streams w h in
      let next = step here.1.0 w here.0 in
      (next.0, (next.1.0, here.1.1 ∙ ap (λ x. then_do x (apply_effects (effects_view left))) next.1.1))

  raises : {A B : Type 0} (x : Res A) (f : A → Res B) → IsErr x → IsErr (then_do x f)
  raises (Ok a) f h = cc
  raises (Err k) f h = refl

  -- one that is not applied
  pub stops : (fault : EffectFault) (after : List (KeyValue Value)) (new : Rest) → Does (Err fault) (apply_effect (effect_view e)) at r after new
      → Does (Err fault) (apply_effects (effects_view all)) before old after new
  stops Raised after new step = λ streams w h.
      let here = so_far streams w h in
      subst (λ x. IsErr x) (sym here.1.1) (raises (apply_effect (effect_view e) (applied_view at here.1.0 w r)) (apply_effects (effects_view left)) (step here.1.0 w here.0))
  stops OutOfMemory after new step = λ streams w h. tt

pub none_left : (l : List Effect) → length l ≡ 0 → l ≡ []
none_left [] h = refl
none_left (e ∷ es) h = absurd (omega arith)
