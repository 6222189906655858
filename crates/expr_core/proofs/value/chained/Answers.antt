use Rattle.expr_core.proofs.Forms.{left_on, sees_operand}
use Rattle.expr_core.proofs.value.chained.Goals as goal

pub returns-in_ok-push-in-LeftChain : goal.returns-in_ok-push-in-LeftChain
returns-in_ok-push-in-LeftChain c = left_on _ _ _ _ _ _ _ c.in-LeftChain.is c.in_ok-push-in-LeftChain.ensures.ok (sees_operand _ _)
