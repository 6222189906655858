use Rattle.std.proofs.Common.{◌≡◌, ◌+◌, drop, map}
use Rattle.slot_compile.specs.Gathering.{count_places, stretch_of}
use Rattle.slot_compile.proofs.flattening.Table.places.Given as goal

abbrev pub invariant-bodies : goal.invariant-bodies
invariant-bodies l = l.count + count_places (map stretch_of (drop l.body-index l.body-items)) ≡ count_places (map stretch_of l.body-items)
