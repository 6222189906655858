use Rattle.expr_core.specs.Machine as machine
use Rattle.expr_core.specs.Seen.{value_view, seen}
use Rattle.expr_core.specs.Gathers.{gathered_view}
use Rattle.expr_core.proofs.Chains.{chain_keeps}
use Rattle.expr_core.proofs.chain.gather.Goals as goal

pub returns-clause-value : goal.returns-clause-value
returns-clause-value c =
    chain_keeps c.chain.result (machine.both c.args.op (value_view c.args.left) (value_view c.args.right)) (gathered_view c.each.gathered) (seen c.args.frames.now) (seen c.each.frames)
    c.each.invariant.same c.chain.ensures
