use Rattle.text_core.proofs.Keyed.{Missed}
use Rattle.text_core.proofs.by_key.find.Given as goal

abbrev pub invariant-places : goal.invariant-places
invariant-places g l = Missed l.key l.entries l.i
