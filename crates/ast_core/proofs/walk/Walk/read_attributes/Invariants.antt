use Rattle.std.proofs.Common.{◌≡◌, drop}
use Rattle.ast_core.specs.NamesIn.{all_names, attribute_reads}
use Rattle.ast_core.specs.Walk.{met}
use Rattle.ast_core.proofs.walk.Walk.read_attributes.Given as goal

abbrev pub invariant-attributes : goal.invariant-attributes
invariant-attributes l = met (all_names attribute_reads (drop l.attribute-index l.attribute-items)) l.self ≡ met (all_names attribute_reads l.attribute-items) l.initial.self
