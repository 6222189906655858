use Rattle.std.proofs.Common.{◌≡◌, Ok, Err, ap, subst, ◌∙◌}
use Rattle.heex_reader.specs.declared.piece.PieceFault.{PieceFault}
use Rattle.heex_reader.specs.declared.piece.PieceFault.TheVariants as fault
use Rattle.heex_reader.specs.Contents.{kind_of_tag}
use Rattle.heex_reader.specs.Onto.{tag_onto, bare_tag}
use Rattle.heex_reader.specs.SeenSigns.{FaultGiven, tag_view}
use Rattle.heex_reader.specs.Tags.{has_no_content}
use Rattle.heex_reader.proofs.Onward.{sign_of}
use Rattle.heex_reader.proofs.tag.start_sign.Goals as goal

pub returns-in-Ok-clause-sign : goal.returns-in-Ok-clause-sign
returns-in-Ok-clause-sign c =
    let whole : c.has_no_content-whole.result ≡ has_no_content c.args.name c.args.end = c.has_no_content-whole.ensures ∙ ap (λ n. has_no_content n c.args.end) c.as_str.ensures in
    c.tag_sign.ensures ∙ sign_of c.args.name c.args.attributes c.args.end c.has_no_content-whole.result (Ok (tag_view c.in-Ok.tag)) whole c.in-Ok.ensures.tag

pub returns-in-Err-Faulty-clause-sign : goal.returns-in-Err-Faulty-clause-sign
returns-in-Err-Faulty-clause-sign c =
    let whole : c.has_no_content-whole.result ≡ has_no_content c.args.name c.args.end = c.has_no_content-whole.ensures ∙ ap (λ n. has_no_content n c.args.end) c.as_str.ensures in
    let told : FaultGiven (fault.Faulty c.in-Err-Faulty.at c.in-Err-Faulty.kind) (tag_onto (kind_of_tag c.args.name) (bare_tag c.args.name) c.args.attributes)
    = subst (λ (f : PieceFault). FaultGiven f (tag_onto (kind_of_tag c.args.name) (bare_tag c.args.name) c.args.attributes)) c.in-Err-Faulty.field-0-is c.in-Err-Faulty.ensures.tag in
    c.broken.ensures
    ∙ sign_of c.args.name c.args.attributes c.args.end c.has_no_content-whole.result (Err (record { at = c.in-Err-Faulty.at; kind = c.in-Err-Faulty.kind })) whole told
