use Rattle.std.proofs.Common.{rules, ◌<◌, ◌∙◌, length}
use Rattle.diff_tree.proofs.Shapes.{one_length}
use Rattle.diff_tree.proofs.list_reading.have_one_length.Goals as goal

pub returns-in-len1-up : goal.returns-in-len1-up
returns-in-len1-up c =
    let some : 0 < length c.args.rows.now = search (rules, c.in-len1-up.len_at_least) in
    c.have_length.ensures ∙ one_length c.args.rows.now c.first-item.result c.len.result some c.first-item.is c.len.ensures
