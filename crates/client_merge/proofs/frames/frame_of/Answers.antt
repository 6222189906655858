use Rattle.client_merge.proofs.Bytewise.{frame_taken}
use Rattle.client_merge.proofs.frames.frame_of.Goals as goal

pub returns-in-Ok-clause-ok : goal.returns-in-Ok-clause-ok
returns-in-Ok-clause-ok c = frame_taken c.args.frame.now c.in-Ok.frame c.in-Ok.ensures.ok
