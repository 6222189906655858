use Rattle.std.proofs.Common.{drop}
use Rattle.value_core.specs.View.{assigns_view}
use Rattle.expr_eval.specs.Variables.{variables_view}
use Rattle.bundle_files.specs.StepsView.{steps_view}
use Rattle.view_script.specs.Script.{Done, steps_done}
use Rattle.view_script.specs.Doing.{Stands}
use Rattle.view_script.proofs.Scripts.{GoesOn}
use Rattle.view_script.proofs.script.+steps.Given as goal

-- from wherever the steps began, the rest does what is left
abbrev pub invariant-do_steps-steps : goal.invariant-do_steps-steps
invariant-do_steps-steps l =
    (d : Done) → Stands (assigns_view l.assigns) l.initial.doing d
    → GoesOn (variables_view l.variables.scopes) (assigns_view l.assigns) (drop l.step-index l.step-items) l.doing (steps_done (variables_view l.variables.scopes) (steps_view l.step-items) d)
