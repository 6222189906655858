-- What the reader of signs returns, seen as the machine's.
use Rattle.std.specs.Prelude.{◌≡◌, ℕ, List, Result, Ok, Err}
use Rattle.ast_core.specs.Syntax as model
use Rattle.ast_core.specs.NodeView.{nodes_view}
use Rattle.ast_core.specs.declared.node.Node.{Node}
use Rattle.heex_reader.specs.declared.refusal.ReadFault.{ReadFault}
use Rattle.heex_reader.specs.declared.refusal.ReadFault.TheVariants.{Faulty, OutOfMemory}
use Rattle.heex_reader.specs.declared.state.State.{State}
use Rattle.heex_reader.specs.Located.{Fault, faulty}
use Rattle.heex_reader.specs.Machine as machine
use Rattle.heex_reader.specs.Seen.{content_view, seen, AllAt}

abbrev pub state_view : State → machine.State
state_view s = record { here = content_view s.here; frames = seen s.frames }

-- a fault, but that memory may be wanting
abbrev pub Faults : {A : Type 0} → ReadFault → Result A Fault → Type 0
Faults (Faulty b k) r = r ≡ faulty b k
Faults OutOfMemory r = Unit {0}

-- where a sign leads, and all that is open stands where it is said to
abbrev pub Leads : (ℕ → model.Location) → Result State ReadFault → Result machine.State Fault → Type 0
Leads place (Ok s) r = (r ≡ Ok (state_view s)) × AllAt place s.frames
Leads place (Err f) r = Faults f r

-- the nodes of signs
abbrev pub Gives : Result (List Node) ReadFault → Result model.Nodes Fault → Type 0
Gives (Ok ns) r = r ≡ Ok (nodes_view ns)
Gives (Err f) r = Faults f r
