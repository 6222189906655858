use Rattle.std.proofs.Common.{◌∙◌}
use Rattle.proc_cell.proofs.Turns.{posted}
use Rattle.proc_cell.proofs.process.Proc.post_mail.Goals as goal

pub returns-clause-posted : goal.returns-clause-posted
returns-clause-posted g c =
    let entered = c.enter-machine.ensures in
    posted _ _ _ _ _ c.args.pass c.leave.result _ _ _ _ c.mail-posted.result c.mail-posted.ensures.posts (c.number.ensures.number ∙ entered.same.0) entered.journal entered.same.1 c.leave.ensures.seen c.leave.ensures.made
