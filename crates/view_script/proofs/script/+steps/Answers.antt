use Rattle.std.proofs.Common.{◌≡◌, ◌≤◌, List, length, drop, true, false, Err, sym, ◌∙◌, subst, arith, rules}
use Rattle.value_core.specs.View.{view, assigns_view}
use Rattle.doc_model.specs.Evaluation.{is_true}
use Rattle.expr_eval.specs.Variables.{variables_view}
use Rattle.bundle_files.specs.StepsView.{step_view, steps_view}
use Rattle.bundle_files.specs.declared.bundle.Step.{Step}
use Rattle.view_script.specs.Script.{step_done, steps_done}
use Rattle.view_script.specs.Doing.{Does}
use Rattle.view_script.proofs.Scripts.{assigned, not_assigned, not_tested, took_first, took_second, was_chosen, GoesOn, goes_on, goes_wrong, goes_home}
use Rattle.view_script.proofs.script.+steps.Goals as goal

pub do_steps-steps-preserved : goal.do_steps-steps-preserved
do_steps-steps-preserved t c d s =
    goes_on (variables_view c.args.variables.now.scopes) (assigns_view c.args.assigns.now) c.as_slice-step-items.result.now c.steps.step-index c.step-item.result c.steps.doing c.do_step.new.doing c.in_ok-do_step.field-0 _
    c.steps-test.true c.step-item.is c.in_ok-do_step.ensures (c.steps.invariant d s)

pub do_steps-returns-in_err-do_step : goal.do_steps-returns-in_err-do_step
do_steps-returns-in_err-do_step t c d s =
    let vs = variables_view c.args.variables.now.scopes in
    let before = assigns_view c.args.assigns.now in
    let items = c.as_slice-step-items.result.now in
    let begun : GoesOn vs before (drop c.steps.step-index items) c.steps.doing (steps_done vs (steps_view c.args.steps.now) d)
    = subst (λ (ss : List Step). GoesOn vs before (drop c.steps.step-index items) c.steps.doing (steps_done vs (steps_view ss) d)) c.as_slice-step-items.ensures (c.steps.invariant d s) in
    let h : Does {A = Unit {0}} before c.do_step.new.doing (Err c.in_err-do_step.field-0.0) (steps_done vs (steps_view c.args.steps.now) d)
    = goes_wrong (Unit {0}) (Unit {0}) vs before items c.steps.step-index c.step-item.result c.steps.doing c.do_step.new.doing c.do_step.new.doing c.in_err-do_step.field-0.0 _ c.steps-test.true c.step-item.is c.in_err-do_step.ensures begun in
    search (rules, h)

pub do_steps-returns : goal.do_steps-returns
do_steps-returns t c d s =
    let vs = variables_view c.args.variables.now.scopes in
    let before = assigns_view c.args.assigns.now in
    let items = c.as_slice-step-items.result.now in
    let past : length items ≤ c.steps.step-index = omega arith in
    goes_home vs before items c.steps.step-index c.steps.doing (steps_done vs (steps_view c.args.steps.now) d) past
    (subst (λ (ss : List Step). GoesOn vs before (drop c.steps.step-index items) c.steps.doing (steps_done vs (steps_view ss) d)) c.as_slice-step-items.ensures (c.steps.invariant d s))

pub do_step-returns-in_err-value-in-Assign : goal.do_step-returns-in_err-value-in-Assign
do_step-returns-in_err-value-in-Assign t c d s =
    let vs = variables_view c.args.variables.now.scopes in
    let before = assigns_view c.args.assigns.now in
    let h : Does {A = Unit {0}} before c.args.doing.now (Err c.in_err-value-in-Assign.field-0.0) (step_done vs (step_view c.args.step.now) d)
    = not_assigned (Unit {0}) vs before c.args.doing.now c.args.doing.now c.in_err-value-in-Assign.field-0.0 c.args.step.now c.in-Assign.name c.in-Assign.value d c.in-Assign.is c.in_err-value-in-Assign.ensures s in
    search (rules, h)

pub do_step-returns-in-Assign : goal.do_step-returns-in-Assign
do_step-returns-in-Assign t c d s =
    let vs = variables_view c.args.variables.now.scopes in
    let before = assigns_view c.args.assigns.now in
    assigned vs before c.args.doing.now c.give.new.doing (tt {0}) c.args.step.now c.in-Assign.name c.in-Assign.value c.in_ok-value-in-Assign.value d
    c.in-Assign.is c.in_ok-value-in-Assign.ensures s (c.in_ok-give-in-Assign.ensures before d s)

pub do_step-returns-in_err-value-in-When : goal.do_step-returns-in_err-value-in-When
do_step-returns-in_err-value-in-When t c d s =
    let vs = variables_view c.args.variables.now.scopes in
    let before = assigns_view c.args.assigns.now in
    let h : Does {A = Unit {0}} before c.args.doing.now (Err c.in_err-value-in-When.field-0.0) (step_done vs (step_view c.args.step.now) d)
    = not_tested (Unit {0}) vs before c.args.doing.now c.args.doing.now c.in_err-value-in-When.field-0.0 c.args.step.now c.in-When.test c.in-When.yes c.in-When.no d c.in-When.is c.in_err-value-in-When.ensures s in
    search (rules, h)

pub do_step-returns-then-is_true : goal.do_step-returns-then-is_true
do_step-returns-then-is_true t c d s =
    let vs = variables_view c.args.variables.now.scopes in
    let before = assigns_view c.args.assigns.now in
    let v = view c.in_ok-value-in-When.value in
    let met : is_true v ≡ true = sym c.is_true.ensures ∙ c.if-is_true.true in
    was_chosen vs before c.args.doing.now c.do_steps.new.doing c.do_steps.result c.args.step.now c.in-When.test c.in-When.yes c.in-When.no c.in-When.yes c.in_ok-value-in-When.value d
    c.in-When.is c.in_ok-value-in-When.ensures (took_first vs c.in-When.yes c.in-When.no d v met) s (c.do_steps.ensures d s)

pub do_step-returns : goal.do_step-returns
do_step-returns t c d s =
    let vs = variables_view c.args.variables.now.scopes in
    let before = assigns_view c.args.assigns.now in
    let v = view c.in_ok-value-in-When.value in
    let unmet : is_true v ≡ false = sym c.is_true.ensures ∙ c.if-is_true.false in
    was_chosen vs before c.args.doing.now c.do_steps-else-is_true.new.doing c.do_steps-else-is_true.result c.args.step.now c.in-When.test c.in-When.yes c.in-When.no c.in-When.no c.in_ok-value-in-When.value d
    c.in-When.is c.in_ok-value-in-When.ensures (took_second vs c.in-When.yes c.in-When.no d v unmet) s (c.do_steps-else-is_true.ensures d s)
