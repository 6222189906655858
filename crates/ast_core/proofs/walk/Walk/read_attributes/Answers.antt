use Rattle.ast_core.specs.NamesIn.{attribute_reads}
use Rattle.ast_core.proofs.Walks.{met_next}
use Rattle.ast_core.proofs.walk.Walk.read_attributes.Goals as goal

pub attributes-preserved : goal.attributes-preserved
attributes-preserved c =
    met_next attribute_reads c.as_slice-attribute-items.result.now c.attributes.attribute-index c.attribute-item.result c.attributes.self c.read_attribute.new.self _ c.attributes-test.true c.attribute-item.is c.in_ok-read_attribute.ensures c.attributes.invariant
