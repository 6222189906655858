use Rattle.std.proofs.Common.{arith, rules}
use Rattle.value_core.specs.View.{view}
use Rattle.diff_render.proofs.Firsts.{none_more}
use Rattle.diff_render.proofs.choice.first_match.Goals as goal

pub clauses-preserved : goal.clauses-preserved
clauses-preserved c =
    none_more (view c.args.value.now) c.args.clauses.now c.clauses.i c.index-clauses-i.result (omega arith) c.index-clauses-i.is c.clauses.invariant (search rules)
