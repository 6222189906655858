use Rattle.expr_core.proofs.PatternForms.{unfinished}
use Rattle.expr_core.proofs.pattern_read.finished.Goals as goal

pub returns-then-not-is_empty : goal.returns-then-not-is_empty
returns-then-not-is_empty c = λ ns. unfinished c.args.mode ns c.args.frames.now (c.if-not-is_empty.ensures.1)
