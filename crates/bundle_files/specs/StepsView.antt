-- What the program's steps stand for.
use Rattle.std.specs.Prelude.{List, [], ◌∷◌, map}
use Rattle.text_core.specs.declared.by_key.KeyValue.{KeyValue}
use Rattle.text_core.specs.Keyed.{on_value}
use Rattle.ast_core.specs.ExprView.{expr_view}
use Rattle.bundle_files.specs.Steps as model
use Rattle.bundle_files.specs.Steps.{Steps, no_steps, step}
use Rattle.bundle_files.specs.declared.bundle.Step.{Step}
use Rattle.bundle_files.specs.declared.bundle.Step.TheOpen.{Step-F}
use Rattle.bundle_files.specs.declared.bundle.Step.TheFolds.{fold-Step}

abbrev pub steps_of : List model.Step → Steps
steps_of [] = no_steps
steps_of (s ∷ ss) = step s (steps_of ss)

-- one level, with what is inside already seen
abbrev pub step_step : Step-F model.Step → model.Step
step_step (Step-F.Assign n e) = model.assign_step n (expr_view e)
step_step (Step-F.When e ss ts) = model.when_step (expr_view e) (steps_of ss) (steps_of ts)

abbrev pub step_view : Step → model.Step
step_view = fold-Step model.Step step_step

abbrev pub steps_view : List Step → Steps
steps_view ss = steps_of (map step_view ss)

-- the steps of each event
abbrev pub events_view : List (KeyValue (List Step)) → List (KeyValue Steps)
events_view es = map (on_value steps_view) es
