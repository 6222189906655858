use Rattle.std.proofs.Common.{rules, ◌≢◌, length}
use Rattle.diff_tree.proofs.Shapes.{not_three}
use Rattle.diff_tree.proofs.stream_reading.insert_of_items.Goals as goal
use Rattle.diff_tree.proofs.stream_reading.insert_of_items.Goals.{in_default-via-then-items-lt3, in_default-via-else-items-lt3+else-items-lt4}

pub returns-in_default-clause-bad : goal.returns-in_default-clause-bad
returns-in_default-clause-bad c bad =
    let no : length c.args.items.now ≢ 3 = elim c.in_default.branch [ in_default-via-then-items-lt3 w ↦ search rules | in_default-via-else-items-lt3+else-items-lt4 w ↦ search rules ] in
    not_three c.args.items.now no
