use Rattle.std.proofs.Common.{◌≤◌, option_map, length, sym, ap, ◌∙◌, arith}
use Rattle.serde_json.specs.View.{items_view}
use Rattle.bundle_files.specs.StepsView.{step_view}
use Rattle.bundle_files.specs.StepReading.{steps_in}
use Rattle.bundle_files.proofs.Listed.{steps_on, steps_all}
use Rattle.bundle_files.proofs.steps.+steps.Goals as goal

pub steps_in-items-preserved : goal.steps_in-items-preserved
steps_in-items-preserved t c =
    steps_on c.deref-item-items.result.now c.items.item-index c.item-item.result c.items.steps c.push.new.self c.in-Some.step _
    c.items-test.true c.item-item.is (sym c.in_ok-step.ensures ∙ ap (option_map step_view) c.in-Some.is) c.in_ok-push.ensures.ok c.items.invariant

pub steps_in-returns : goal.steps_in-returns
steps_in-returns t c =
    let past : length c.deref-item-items.result.now ≤ c.items.item-index = omega arith in
    steps_all c.deref-item-items.result.now c.items.item-index c.items.steps _ past c.items.invariant
    ∙ ap (λ l. steps_in (items_view l)) c.deref-item-items.ensures.value
