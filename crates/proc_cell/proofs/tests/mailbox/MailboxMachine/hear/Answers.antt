use Rattle.std.proofs.Common.{arith, ◌+◌, [], ◌∷◌, length}
use Rattle.proc_cell.proofs.tests.mailbox.MailboxMachine.hear.Goals as goal

pub returns-clause-posts : goal.returns-clause-posts
returns-clause-posts c =
    let size = c.saturating_add.ensures in
    c.note.ensures.posts (c.args.text.now ∷ []) (64 + length c.args.text.now) (omega arith) c.texts_of-texts.ensures
