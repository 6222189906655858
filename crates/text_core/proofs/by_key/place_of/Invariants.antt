use Rattle.text_core.proofs.Keyed.{Passed}
use Rattle.text_core.proofs.by_key.place_of.Given as goal

abbrev pub invariant-places : goal.invariant-places
invariant-places g l = Passed l.key l.entries l.i
