use Rattle.expr_core.proofs.Stacks.{counts_more}
use Rattle.expr_core.proofs.pile.Pile.push.Goals as goal

pub invariant_of-self-2 : goal.invariant_of-self-2
invariant_of-self-2 c = counts_more _ _ _ _ _ c.self.invariant c.level-more.ensures.value c.in_ok-push.ensures.ok
