use Rattle.std.proofs.Common.{◌∙◌, ap, refl}
use Rattle.ast_core.specs.declared.node.Attribute.{Attribute}
use Rattle.slot_compile.specs.Gathering.{gathered, then_on}
use Rattle.slot_compile.specs.Stretches.{of_attribute, of_attributes}
use Rattle.slot_compile.proofs.Joined.{end_on, next_on}
use Rattle.slot_compile.proofs.StretchParts.{attributes_cons}
use Rattle.slot_compile.proofs.flattening.Flattening.push_attributes.Goals as goal

pub attributes-preserved : goal.attributes-preserved
attributes-preserved c =
    next_on (λ (a : Attribute). of_attribute a.name a.value) of_attributes attributes_cons c.as_slice-attribute-items.result.now c.attributes.attribute-index c.attribute-item.result
    (gathered c.attributes.self) (gathered c.push_attribute.new.self) _ c.attributes-test.true c.attribute-item.is c.in_ok-push_attribute.ensures c.attributes.invariant

pub returns : goal.returns
returns c =
    end_on of_attributes refl c.as_slice-attribute-items.result.now c.attributes.attribute-index c.attributes.self _ c.attributes-test.false c.attributes.invariant
    ∙ ap (λ xs. then_on (gathered c.args.self.now) (of_attributes xs)) c.as_slice-attribute-items.ensures
