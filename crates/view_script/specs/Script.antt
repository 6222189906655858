-- What steps mean: the effects that they give, each step seeing the assigns as the earlier ones left them.
use Rattle.std.specs.Prelude.{ℕ, List, [], ◌∷◌, ◌++◌, Option, Some, None, option_map, option_and_then, Ok, Err, if◌then◌else◌}
use Rattle.value_core.specs.Value.{Value, Assigns, assign}
use Rattle.ast_core.specs.Syntax.{Expr}
use Rattle.view_api.specs.Effect.{Effect, assign_to}
use Rattle.doc_model.specs.Evaluation.{Res, eval_expr, is_true}
use Rattle.bundle_files.specs.Steps.{Step, assign_step, when_step, Steps, no_steps, step}

-- how far steps are done: the assigns as they left them, of which the first of a name holds, and the effects
pub record Done : Type 0 where
  pub assigns : Assigns
  pub effects : List Effect

abbrev pub value_or_none : Res Value → Option Value
value_or_none (Ok v) = Some v
value_or_none (Err e) = None

-- the value of an expression, if it does not raise
abbrev pub value_in : Assigns → Assigns → Expr → Option Value
value_in variables assigns e = value_or_none (eval_expr (record { assigns = assigns; variables = variables; streams = None; components = [] }) e)

-- an assign is given a value
abbrev pub given : List ℕ → Done → Value → Done
given n d v = record { assigns = assign n v d.assigns; effects = d.effects ++ assign_to n v ∷ [] }

abbrev mutual
  pub step_done : Assigns → Step → Done → Option Done
  step_done vs (assign_step n e) d = option_map (given n d) (value_in vs d.assigns e)
  step_done vs (when_step e ss ts) d = option_and_then (λ v. if is_true v then steps_done vs ss d else steps_done vs ts d) (value_in vs d.assigns e)

  pub steps_done : Assigns → Steps → Done → Option Done
  steps_done vs no_steps d = Some d
  steps_done vs (step s ss) d = option_and_then (steps_done vs ss) (step_done vs s d)

-- the effects of steps, where these variables and assigns are in scope; none where an expression raises
abbrev pub effects_of : Assigns → Assigns → Steps → Option (List Effect)
effects_of variables assigns ss = option_map (λ d. d.effects) (steps_done variables ss (record { assigns = assigns; effects = [] }))
