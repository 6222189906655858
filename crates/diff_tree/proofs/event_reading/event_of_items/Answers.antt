use Rattle.std.proofs.Common.{rules, ◌≢◌, length}
use Rattle.diff_tree.proofs.Shapes.{not_two}
use Rattle.diff_tree.proofs.event_reading.event_of_items.Goals as goal
use Rattle.diff_tree.proofs.event_reading.event_of_items.Goals.{in_default-via-then-items-lt2, in_default-via-else-items-lt2+else-items-lt3}

pub returns-in_default-clause-bad : goal.returns-in_default-clause-bad
returns-in_default-clause-bad c bad =
    let no : length c.args.items.now ≢ 2 = elim c.in_default.branch [ in_default-via-then-items-lt2 w ↦ search rules | in_default-via-else-items-lt2+else-items-lt3 w ↦ search rules ] in
    not_two c.args.items.now no
