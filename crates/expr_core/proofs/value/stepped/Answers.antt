use Rattle.expr_core.proofs.Forms.{path_on}
use Rattle.expr_core.proofs.value.stepped.Goals as goal

pub returns-in_ok-push-in-Path : goal.returns-in_ok-push-in-Path
returns-in_ok-push-in-Path c = path_on _ _ _ _ _ c.in-Path.is c.in_ok-push-in-Path.ensures.ok
