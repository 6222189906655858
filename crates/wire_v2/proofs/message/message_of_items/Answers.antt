use Rattle.std.proofs.Common.{rules, sym, ◌≢◌, length}
use Rattle.wire_v2.proofs.Items.{not_five}
use Rattle.wire_v2.proofs.message.message_of_items.Goals as goal
use Rattle.wire_v2.proofs.message.message_of_items.Goals.{in_default-via-then-items-lt5, in_default-via-else-items-lt5+else-items-lt6}

pub returns-in_default : goal.returns-in_default
returns-in_default c =
    let no : length c.args.items.now ≢ 5 = elim c.in_default.branch [ in_default-via-then-items-lt5 w ↦ search rules | in_default-via-else-items-lt5+else-items-lt6 w ↦ search rules ] in
    sym (not_five c.args.items.now no)
