use Rattle.expr_core.proofs.Forms.{pipes_on, sees_pipe_call}
use Rattle.expr_core.proofs.call.piped.Goals as goal

pub returns-in_ok-push-in-Pipes : goal.returns-in_ok-push-in-Pipes
returns-in_ok-push-in-Pipes c = pipes_on _ _ _ _ _ _ _ c.in-Pipes.is c.in_ok-push-in-Pipes.ensures.ok (sees_pipe_call _ _)
