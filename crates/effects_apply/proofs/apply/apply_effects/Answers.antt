use Rattle.std.proofs.Common.{rules, ◌≡◌, List, [], ◌∷◌, length, Err, refl, sym, ap, subst, ◌∙◌, arith}
use Rattle.std.specs.Vec.Iter.{into_iter_items}
use Rattle.view_api.specs.declared.effect.Effect.{Effect}
use Rattle.view_api.specs.View.{effects_view}
use Rattle.doc_model.specs.Effects.{apply_effects}
use Rattle.effects_apply.specs.Applied.{Does}
use Rattle.effects_apply.proofs.Orders.{Continues, none_yet, one_more, stops, none_left}
use Rattle.effects_apply.proofs.apply.apply_effects.Goals as goal

pub effects-init : goal.effects-init
effects-init c = record {
  so_far = none_yet (into_iter_items c.into_iter-effect-iterator.result) c.args.assigns.now.present c.args.rest.now;
  settled = λ name. refl;
  generation = refl;
  counted = search rules;
}

pub effects-preserved : goal.effects-preserved
effects-preserved c =
    let at = c.effects in
    let all = into_iter_items c.into_iter-effect-iterator.result in
    let present = c.args.assigns.now.present in
    let rest = c.args.rest.now in
    let left = into_iter_items c.next.new.self in
    let steps : into_iter_items at.effect-iterator ≡ c.in-Some.effect ∷ left = c.in-Some.ensures.steps.0 in
    let so_far : Continues all present rest (c.in-Some.effect ∷ left) at.assigns.present at.rest
    = subst (λ (l : List Effect). Continues all present rest l at.assigns.present at.rest) steps at.invariant.so_far in
    record {
      so_far = one_more all present rest c.in-Some.effect left at.assigns.present at.rest so_far c.apply_effect.new.assigns.present c.apply_effect.new.rest c.in_ok-apply_effect.ensures.does;
      settled = λ name. c.in_ok-apply_effect.ensures.settled name ∙ at.invariant.settled name;
      generation = c.in_ok-apply_effect.ensures.generation ∙ at.invariant.generation;
      counted = let was = at.invariant.counted in
          let gone = c.in-Some.ensures.steps.1 in
          let short = ap length steps in
          omega arith;
    }

pub returns-in_err-apply_effect-clause-does : goal.returns-in_err-apply_effect-clause-does
returns-in_err-apply_effect-clause-does c =
    let at = c.effects in
    let given = into_iter_items c.into_iter-effect-iterator.result in
    let present = c.args.assigns.now.present in
    let rest = c.args.rest.now in
    let fault = c.in_err-apply_effect.field-0.0 in
    let left = into_iter_items c.next.new.self in
    let after = c.apply_effect.new.assigns.present in
    let new = c.apply_effect.new.rest in
    let all : given ≡ c.args.effects = search rules in
    let same : c.from_residual.result ≡ Err fault = search rules in
    let steps : into_iter_items at.effect-iterator ≡ c.in-Some.effect ∷ left = c.in-Some.ensures.steps.0 in
    let so_far : Continues given present rest (c.in-Some.effect ∷ left) at.assigns.present at.rest
    = subst (λ (l : List Effect). Continues given present rest l at.assigns.present at.rest) steps at.invariant.so_far in
    let stopped : Does (Err fault) (apply_effects (effects_view given)) present rest after new
    = stops given present rest c.in-Some.effect left at.assigns.present at.rest so_far fault after new c.in_err-apply_effect.ensures.does in
    rw same (subst (λ (l : List Effect). Does (Err fault) (apply_effects (effects_view l)) present rest after new) all stopped)

pub returns-clause-does : goal.returns-clause-does
returns-clause-does c =
    let at = c.effects in
    let present = c.args.assigns.now.present in
    let rest = c.args.rest.now in
    let all : into_iter_items c.into_iter-effect-iterator.result ≡ c.args.effects = search rules in
    let none : into_iter_items at.effect-iterator ≡ [] = none_left (into_iter_items at.effect-iterator) (sym at.invariant.counted ∙ c.in-None.ensures.steps.0) in
    let so_far : Continues (into_iter_items c.into_iter-effect-iterator.result) present rest [] at.assigns.present at.rest
    = subst (λ (l : List Effect). Continues (into_iter_items c.into_iter-effect-iterator.result) present rest l at.assigns.present at.rest) none at.invariant.so_far in
    subst (λ (l : List Effect). Continues l present rest [] at.assigns.present at.rest) all so_far
