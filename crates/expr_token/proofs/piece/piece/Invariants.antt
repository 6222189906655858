use Rattle.std.proofs.Common.{length, ◌-◌}
use Rattle.expr_token.proofs.PieceFacts.{Going}
use Rattle.expr_token.proofs.piece.piece.Given as goal

abbrev pub invariant-more : goal.invariant-more
invariant-more l = Going l.text l.from l.at l.out

abbrev pub decreases-more : goal.decreases-more
decreases-more l = length l.text - l.at
