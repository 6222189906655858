use Rattle.std.proofs.Common.{◌≡◌, length}
use Rattle.std.specs.Vec.Iter.{into_iter_items, into_iter_len}
use Rattle.value_core.specs.View.{values_view, assigns_view}
use Rattle.doc_model.specs.Calls.{pair_values}
use Rattle.doc_model.specs.Evaluation.{append_values}
use Rattle.comprehension.proofs.generator.pairs.Given as goal

-- the pairs so far, and those of the entries that are left, are all
abbrev pub invariant-entries : goal.invariant-entries
invariant-entries l = record {
  so_far : pair_values (assigns_view l.fn.entries) ≡ append_values (values_view l.pairs) (pair_values (assigns_view (into_iter_items l.key-iterator)));
  counted : into_iter_len l.key-iterator ≡ length (into_iter_items l.key-iterator);
}
