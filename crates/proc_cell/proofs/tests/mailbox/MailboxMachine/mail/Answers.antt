use Rattle.std.proofs.Common.{arith, ◌+◌, [], ◌∷◌, length}
use Rattle.proc_cell.proofs.tests.mailbox.MailboxMachine.mail.Goals as goal

pub returns-clause-posts : goal.returns-clause-posts
returns-clause-posts c =
    let texts = c.saturating_add.ensures in
    let size = c.saturating_add-asked.ensures in
    c.note.ensures.posts (c.args.topic.now ∷ c.args.value.now ∷ []) (64 + length c.args.topic.now + length c.args.value.now) (omega arith) c.two_texts-texts.ensures
