use Rattle.std.proofs.Common.{◌-◌, length}
use Rattle.heex_reader.proofs.Arrows.{Looking}
use Rattle.heex_reader.proofs.arrow.find_arrow.Given as goal

abbrev pub invariant-more : goal.invariant-more
invariant-more l = Looking l.bytes l.quoting l.at

abbrev pub decreases-more : goal.decreases-more
decreases-more l = length l.bytes - l.at
