use Rattle.std.proofs.Common.{length}
use Rattle.diff_render.proofs.Numbered.{Values}
use Rattle.diff_render.proofs.values.by_number.Given as goal

abbrev pub invariant-values : goal.invariant-values
invariant-values l = Values l.fn.values l.values l.places

abbrev pub decreases-values : goal.decreases-values
decreases-values l = length l.values
