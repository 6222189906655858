use Rattle.std.proofs.Common.{◌≡◌, drop}
use Rattle.slot_compile.specs.Gathering.{gathered, then_on}
use Rattle.slot_compile.specs.Stretches.{of_attributes}
use Rattle.slot_compile.proofs.flattening.Flattening.push_attributes.Given as goal

abbrev pub invariant-attributes : goal.invariant-attributes
invariant-attributes l = then_on (gathered l.self) (of_attributes (drop l.attribute-index l.attribute-items)) ≡ then_on (gathered l.initial.self) (of_attributes l.attribute-items)
