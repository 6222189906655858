-- What the code keeps while it does steps.
use Rattle.std.specs.Prelude.{◌≡◌, ℕ, List, Option, Some, None, Result, Ok, Err}
use Rattle.value_core.specs.Value as model
use Rattle.value_core.specs.Value.{Assigns}
use Rattle.value_core.specs.View.{view, assigns_view}
use Rattle.value_core.specs.declared.value.Value.{Value}
use Rattle.doc_model.specs.Environment.{lookup, over}
use Rattle.view_api.specs.View.{effects_view}
use Rattle.view_api.specs.declared.views.ViewFault.{ViewFault}
use Rattle.view_api.specs.declared.views.ViewFault.TheVariants as fault
use Rattle.view_script.specs.declared.script.Doing.{Doing}
use Rattle.view_script.specs.Script.{Done}

-- an answer to an expression: its value, or a raise where it has none; want of memory is free
abbrev pub Values : Result Value ViewFault → Option model.Value → Type 0
Values (Ok v) o = o ≡ Some (view v)
Values (Err fault.Raised) o = o ≡ None
Values (Err fault.OutOfMemory) o = Unit {0}

-- what was given since stands over the assigns as they were, and holds what the steps left
pub record Stands (before : Assigns) (doing : Doing) (d : Done) : Type 0 where
  pub holds : (n : List ℕ) → lookup n (over (assigns_view doing.given) before) ≡ lookup n d.assigns
  pub effects : effects_view doing.effects ≡ d.effects

-- an answer to some steps: what they leave, or a raise where they raise; want of memory is free
abbrev pub Does : {A : Type 0} → Assigns → Doing → Result A ViewFault → Option Done → Type 0
Does before doing (Ok a) o = (d : Done) × (o ≡ Some d) × Stands before doing d
Does before doing (Err fault.Raised) o = o ≡ None
Does before doing (Err fault.OutOfMemory) o = Unit {0}
