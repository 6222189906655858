use Rattle.std.proofs.Common.{◌≡◌, length}
use Rattle.std.specs.Vec.Iter.{into_iter_items, into_iter_len}
use Rattle.diff_tree.specs.Tree.{no_changes}
use Rattle.client_merge.specs.Held.{held_trees}
use Rattle.client_merge.specs.Planned.{gathered}
use Rattle.client_merge.proofs.Members.{readings}
use Rattle.client_merge.proofs.Loops.{Planning}
use Rattle.client_merge.proofs.plan.+plan.Given as goal

abbrev pub invariant-plan_places-places : goal.invariant-plan_places-places
invariant-plan_places-places l = record {
  kept : Planning (held_trees l.held) (gathered (readings (into_iter_items l.initial.key-iterator)) no_changes) (into_iter_items l.key-iterator) l.changes;
  counted : into_iter_len l.key-iterator ≡ length (into_iter_items l.key-iterator);
}
