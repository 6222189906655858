use Rattle.std.proofs.Common.{◌+◌, refl, sym, ◌∙◌, subst}
use Rattle.heex_token.specs.declared.reader.TagReader.{TagReader}
use Rattle.heex_token.specs.Pieces.{PartWithin}
use Rattle.heex_token.proofs.Tags.{attribute_steps}
use Rattle.heex_token.proofs.reader.step.Goals as goal

pub returns-in_ok-push-in-Attribute : goal.returns-in_ok-push-in-Attribute
returns-in_ok-push-in-Attribute c =
    let text = c.args.text.now in
    let before = c.args.reader.now in
    let after : TagReader = record { attributes = c.push.new.self; at = before.at + c.in-Attribute.size } in
    attribute_steps text before after c.in-Attribute.attribute c.in-Attribute.size c.requires.some (sym c.in-Attribute.is ∙ c.in_ok-tag_part.ensures.value)
    (subst (PartWithin text before.at) c.in-Attribute.is c.in_ok-tag_part.ensures.within) c.in_ok-push-in-Attribute.ensures.ok refl
