use Rattle.std.proofs.Common.{length}
use Rattle.diff_render.proofs.Numbered.{Changes}
use Rattle.diff_render.proofs.values.changes_by_number.Given as goal

abbrev pub invariant-changes : goal.invariant-changes
invariant-changes l = Changes l.fn.changes l.changes l.places

abbrev pub decreases-changes : goal.decreases-changes
decreases-changes l = length l.changes
