use Rattle.std.proofs.Common.{arith}
use Rattle.heex_reader.specs.declared.arrow.Quoting.TheVariants.{Outside}
use Rattle.heex_reader.proofs.Arrows.{ArrowAt, arrow_stands, arrow_front, arrow_back}
use Rattle.heex_reader.proofs.piece.with_arrow.Goals as goal

pub overflow_add-behind : goal.overflow_add-behind
overflow_add-behind c =
    let arrow : ArrowAt c.args.text.now c.args.cut = arrow_stands Outside c.args.text.now c.args.cut c.requires.arrow in
    omega arith

pub range-requires-clause-end_boundary : goal.range-requires-clause-end_boundary
range-requires-clause-end_boundary c = arrow_front c.args.text.now c.args.cut (arrow_stands Outside c.args.text.now c.args.cut c.requires.arrow)

pub overflow_add-at : goal.overflow_add-at
overflow_add-at c =
    let arrow : ArrowAt c.args.text.now c.args.cut = arrow_stands Outside c.args.text.now c.args.cut c.requires.arrow in
    omega arith

pub range_from-requires : goal.range_from-requires
range_from-requires c = λ _. arrow_back c.args.text.now c.args.cut c.utf8.text (arrow_stands Outside c.args.text.now c.args.cut c.requires.arrow)
