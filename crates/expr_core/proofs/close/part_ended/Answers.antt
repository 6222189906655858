use Rattle.expr_core.specs.Seen.{value_view}
use Rattle.expr_core.proofs.Closes.{part_stays}
use Rattle.expr_core.proofs.close.part_ended.Goals as goal

pub returns-in_default : goal.returns-in_default
returns-in_default c = part_stays _ (value_view c.args.value) _ c.in_default.not-Putting
