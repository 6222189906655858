use Rattle.diff_render.proofs.Empty.{none_sent, some_sent}
use Rattle.diff_render.proofs.lean.inner.Goals as goal

pub returns-then-is_empty : goal.returns-then-is_empty
returns-then-is_empty c cs members = none_sent c.args.changes c.is_empty.result cs c.is_empty.ensures c.if-is_empty.true members

pub returns : goal.returns
returns c cs members = some_sent c.new.result c.args.changes c.is_empty.result cs c.is_empty.ensures c.if-is_empty.false c.new.ensures.data members
