use Rattle.std.proofs.Common.{◌≡◌, Ok, map, length}
use Rattle.expr_eval.specs.Chains.{back, waiting_view}
use Rattle.expr_eval.specs.Held.{held_view}
use Rattle.expr_eval.proofs.right_chain.take_back.Given as goal

-- what still waits takes the value so far
abbrev pub invariant-waiting : goal.invariant-waiting
invariant-waiting l = back (map waiting_view l.fn.waiting) (Ok (held_view l.fn.last)) ≡ back (map waiting_view l.waiting) (Ok (held_view l.value))

abbrev pub decreases-waiting : goal.decreases-waiting
decreases-waiting l = length l.waiting
