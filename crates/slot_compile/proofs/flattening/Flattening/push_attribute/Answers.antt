use Rattle.std.proofs.Common.{◌∙◌, ap, sym}
use Rattle.ast_core.specs.declared.node.AttributeValue.{AttributeValue}
use Rattle.slot_compile.specs.Gathering.{gathered, then_on}
use Rattle.slot_compile.specs.Stretches.{of_attribute}
use Rattle.slot_compile.proofs.Joined.{nothing_on}
use Rattle.slot_compile.proofs.flattening.Flattening.push_attribute.Goals as goal

pub returns-in-Module : goal.returns-in-Module
returns-in-Module c =
    nothing_on c.args.self.now
    ∙ ap (λ (v : AttributeValue). then_on (gathered c.args.self.now) (of_attribute c.args.attribute.now.name v)) (sym c.in-Module.is)
