-- What a message leaves behind.
use Rattle.std.specs.Prelude.{ℕ, ◌+◌, min, Bool, true, false, List}
use Rattle.value_core.specs.declared.value.Value.{Value}
use Rattle.machine_api.specs.declared.machine.Action.{Action}
use Rattle.machine_api.specs.declared.machine.Handled.{Handled}
use Rattle.machine_api.specs.declared.machine.Handled.TheVariants as handled
use Rattle.doc_model.specs.Journal.{total_length}
use Rattle.session_core.specs.declared.entry.Waiting.{Waiting}
use Rattle.session_core.specs.declared.entry.Waiting.TheVariants as waiting

-- the kept size with one more entry of these frames, or the largest number
abbrev pub grown : ℕ → List (List ℕ) → ℕ
grown kept frames = min (kept + (64 + total_length frames)) 18446744073709551615

-- a value that the process sent itself under this generation
abbrev pub sent_under : ℕ → Value → Waiting
sent_under generation value = waiting.Sent generation value

-- a message that raised is Crashed, another is Done with its actions
abbrev pub told_as : Bool → List Action → Handled
told_as true actions = handled.Crashed
told_as false actions = handled.Done actions
