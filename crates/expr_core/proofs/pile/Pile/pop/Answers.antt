use Rattle.expr_core.proofs.Stacks.{counts_less}
use Rattle.expr_core.proofs.pile.Pile.pop.Goals as goal

pub invariant_of-self-2 : goal.invariant_of-self-2
invariant_of-self-2 c = counts_less _ _ _ _ _ c.self.invariant c.level.ensures.value c.in_ok-frame.ensures
