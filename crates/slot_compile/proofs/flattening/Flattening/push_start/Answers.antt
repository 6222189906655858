use Rattle.std.proofs.Common.{codes, ap, ◌∙◌}
use Rattle.ast_core.specs.Places.{opening}
use Rattle.slot_compile.specs.Gathering.{gathered, text, then_on}
use Rattle.slot_compile.specs.Stretches.{of_attributes}
use Rattle.slot_compile.proofs.Joined.{both_on, last_on, then_assoc}
use Rattle.slot_compile.proofs.StretchParts.{started}
use Rattle.slot_compile.proofs.flattening.Flattening.push_start.Goals as goal

pub returns : goal.returns
returns c =
    let name = c.as_str.result.now in
    let attributes = of_attributes c.args.attributes.now in
    let start = gathered c.args.self.now in
    last_on c.push_text-3.result (then_on (text (opening name)) attributes) (text (codes ">")) (started c.args.name.now c.args.attributes.now)
    start (gathered c.push_attributes.new.self) (gathered c.push_text-3.new.self)
    (both_on (text (opening name)) attributes start (gathered c.push_text-2.new.self) (gathered c.push_attributes.new.self)
    (both_on (text (codes "<")) (text name) start (gathered c.push_text.new.self) (gathered c.push_text-2.new.self) c.in_ok-push_text.ensures c.in_ok-push_text-2.ensures)
    c.in_ok-push_attributes.ensures)
    (then_assoc (text (opening name)) attributes (text (codes ">")) ∙ ap (λ n. started n c.args.attributes.now) c.as_str.ensures)
    c.push_text-3.ensures
