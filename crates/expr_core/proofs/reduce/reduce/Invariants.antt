use Rattle.std.proofs.Common.{◌≡◌, length}
use Rattle.expr_core.specs.Machine.{reduce}
use Rattle.expr_core.specs.Seen.{value_view, seen}
use Rattle.expr_core.proofs.reduce.reduce.Given as goal

abbrev pub invariant-fold : goal.invariant-fold
invariant-fold l = reduce l.least (value_view l.value) (seen l.frames) ≡ reduce l.least (value_view l.fn.value) (seen l.fn.frames)

abbrev pub decreases-fold : goal.decreases-fold
decreases-fold l = length l.frames
