use Rattle.std.proofs.Common.{◌≡◌, ◌≤◌, ◌-◌, ℕ, List, length}
use Rattle.ast_core.specs.declared.node.Location.{Location}
use Rattle.ast_core.specs.NodeView.{location_of}
use Rattle.heex_reader.specs.Located.{location_at}
use Rattle.heex_reader.proofs.cursor.advanced.Given as goal

-- so far the location is that of the byte
pub record Passing (text : List ℕ) (byte at : ℕ) (location : Location) : Type 0 where
  pub within : byte ≤ length text
  pub before : byte ≤ at
  pub here : location_of location ≡ location_at text byte

abbrev pub invariant-more : goal.invariant-more
invariant-more l = Passing l.text l.byte l.at l.location

abbrev pub decreases-more : goal.decreases-more
decreases-more l = length l.text - l.byte
