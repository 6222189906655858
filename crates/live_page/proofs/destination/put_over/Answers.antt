use Rattle.std.proofs.Common.{◌≡◌, List, [], ◌∷◌, length, arith, refl, sym, ap, ◌∙◌, rules}
use Rattle.std.specs.Vec.Iter.{into_iter_items}
use Rattle.value_core.specs.View.{assigns_view}
use Rattle.effects_apply.proofs.Steps.{seen_with}
use Rattle.live_page.specs.World.{put_over}
use Rattle.live_page.proofs.destination.put_over.Goals as goal

pub parameters-init : goal.parameters-init
parameters-init c =
    let given : into_iter_items c.into_iter-parameter-iterator.result ≡ c.args.parameters = search rules in
    (ap (λ l. put_over (assigns_view l) (assigns_view c.args.entries)) given, search rules)

pub parameters-preserved : goal.parameters-preserved
parameters-preserved c =
    let at = c.parameters in
    let left = into_iter_items c.next.new.self in
    let steps : into_iter_items at.parameter-iterator ≡ c.in-Some.parameter ∷ left = c.in-Some.ensures.steps.0 in
    let was = at.invariant.1 in
    let gone = c.in-Some.ensures.steps.1 in
    let short = ap length steps in (
      ap (λ es. put_over (assigns_view left) es) (ap assigns_view c.in_ok-insert.ensures.ok ∙ seen_with c.in-Some.parameter.key c.in-Some.parameter.value at.entries)
          ∙ sym (ap (λ l. put_over (assigns_view l) (assigns_view at.entries)) steps) ∙ at.invariant.0,
      omega arith,
    )

none_left : {A : Type 0} (xs : List A) → length xs ≡ 0 → xs ≡ []
none_left [] h = refl
none_left (x ∷ xs) h = absurd (omega (arith, h))

pub returns : goal.returns
returns c =
    let at = c.parameters in
    let none : into_iter_items at.parameter-iterator ≡ [] = none_left (into_iter_items at.parameter-iterator) (sym at.invariant.1 ∙ c.in-None.ensures.steps.0) in
    sym (ap (λ l. put_over (assigns_view l) (assigns_view at.entries)) none) ∙ at.invariant.0
