use Rattle.std.proofs.Common.{◌≡◌, length, option_map}
use Rattle.std.specs.Vec.Iter.{into_iter_items, into_iter_len}
use Rattle.diff_tree.specs.Tree.{no_changes}
use Rattle.client_merge.specs.Held.{held_trees}
use Rattle.client_merge.specs.Planned.{gathered}
use Rattle.client_merge.proofs.Members.{readings, unstatic}
use Rattle.client_merge.proofs.Loops.{Taking}
use Rattle.client_merge.proofs.Rows.{each, joined, values_sent, ahead}
use Rattle.client_merge.proofs.take.+take.Given as goal

abbrev pub invariant-take_places-places : goal.invariant-take_places-places
invariant-take_places-places l = record {
  kept : Taking l.count (gathered (readings (unstatic (into_iter_items l.initial.key-iterator))) no_changes) (into_iter_items l.key-iterator) (held_trees l.nodes);
  counted : into_iter_len l.key-iterator ≡ length (into_iter_items l.key-iterator);
}

abbrev pub invariant-take_rows-rows : goal.invariant-take_rows-rows
invariant-take_rows-rows l = record {
  kept : option_map (joined l.taken) (each l.statics (into_iter_items l.row-iterator)) ≡ each l.statics (into_iter_items l.initial.row-iterator);
  counted : into_iter_len l.row-iterator ≡ length (into_iter_items l.row-iterator);
}

abbrev pub invariant-take_values-values : goal.invariant-take_values-values
invariant-take_values-values l = record {
  kept : option_map (ahead l.nodes) (values_sent (into_iter_items l.value-iterator)) ≡ values_sent (into_iter_items l.initial.value-iterator);
  counted : into_iter_len l.value-iterator ≡ length (into_iter_items l.value-iterator);
}
