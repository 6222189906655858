use Rattle.std.proofs.Common.{◌≡◌, take}
use Rattle.text_core.specs.Keyed.{keys}
use Rattle.text_core.proofs.by_key.ByKey.keys.Given as goal

abbrev pub invariant-loop-entry : goal.invariant-loop-entry
invariant-loop-entry g l = l.names ≡ keys (take l.entry-index l.entry-items)
