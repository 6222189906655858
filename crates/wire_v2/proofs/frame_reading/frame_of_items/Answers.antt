use Rattle.std.proofs.Common.{rules, ◌≢◌, length}
use Rattle.wire_v2.proofs.Shapes.{not_five}
use Rattle.wire_v2.proofs.frame_reading.frame_of_items.Goals as goal
use Rattle.wire_v2.proofs.frame_reading.frame_of_items.Goals.{in_default-via-then-items-lt5, in_default-via-else-items-lt5+else-items-lt6}

pub returns-in_default-clause-malformed : goal.returns-in_default-clause-malformed
returns-in_default-clause-malformed c bad =
    let no : length c.args.items.now ≢ 5 = elim c.in_default.branch [ in_default-via-then-items-lt5 w ↦ search rules | in_default-via-else-items-lt5+else-items-lt6 w ↦ search rules ] in
    not_five c.args.items.now no
