use Rattle.ast_core.proofs.Ordered.{Passed}
use Rattle.ast_core.proofs.walk.place_of.Given as goal

abbrev pub invariant-places : goal.invariant-places
invariant-places l = Passed l.name l.names l.i
