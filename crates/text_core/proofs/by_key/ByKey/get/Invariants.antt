use Rattle.std.proofs.Common.{◌≡◌, drop}
use Rattle.text_core.specs.Keyed.{lookup}
use Rattle.text_core.proofs.by_key.ByKey.get.Given as goal

abbrev pub invariant-loop-entry : goal.invariant-loop-entry
invariant-loop-entry g l = lookup l.key l.entry-items ≡ lookup l.key (drop l.entry-index l.entry-items)
