use Rattle.std.proofs.Common.{◌≡◌}
use Rattle.client_merge.specs.Held.{held_trees, blank_trees}
use Rattle.client_merge.proofs.take.blanks.Given as goal

abbrev pub invariant-nodes : goal.invariant-nodes
invariant-nodes l = held_trees l.nodes ≡ blank_trees l.counter
