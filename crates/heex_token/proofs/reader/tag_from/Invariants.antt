use Rattle.std.proofs.Common.{◌-◌, length}
use Rattle.heex_token.specs.Pieces.{Going}
use Rattle.heex_token.proofs.reader.tag_from.Given as goal

abbrev pub invariant-more : goal.invariant-more
invariant-more l = Going l.text l.fn.from l.reader

abbrev pub decreases-more : goal.decreases-more
decreases-more l = length l.text - l.reader.at
