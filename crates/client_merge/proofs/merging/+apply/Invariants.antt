use Rattle.std.proofs.Common.{◌≡◌, length, true, is_some}
use Rattle.std.specs.Vec.Iter.{into_iter_items, into_iter_len}
use Rattle.client_merge.specs.Held.{held_trees}
use Rattle.client_merge.specs.Planned.{planned_all, merged_all}
use Rattle.client_merge.proofs.Loops.{Applied}
use Rattle.client_merge.proofs.merging.+apply.Given as goal

abbrev pub invariant-apply_all-changes : goal.invariant-apply_all-changes
invariant-apply_all-changes l = record {
  kept : is_some (merged_all (held_trees l.initial.places.items) (planned_all (into_iter_items l.initial.place-iterator))) ≡ true
      → Applied (held_trees l.initial.places.items) (planned_all (into_iter_items l.initial.place-iterator)) (into_iter_items l.place-iterator) (held_trees l.places.items);
  counted : into_iter_len l.place-iterator ≡ length (into_iter_items l.place-iterator);
}
