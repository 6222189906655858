use Rattle.std.proofs.Common.{◌≡◌, ◌++◌, map, length}
use Rattle.std.specs.Vec.Iter.{into_iter_items, into_iter_len}
use Rattle.value_core.specs.View.{values_view, assigns_view}
use Rattle.ast_core.specs.PatternView.{pattern_view}
use Rattle.doc_model.specs.Environment.{bindings}
use Rattle.comprehension.proofs.bind.bindings.Given as goal

-- the rows so far, and those of the items that are left, are all
abbrev pub invariant-items : goal.invariant-items
invariant-items l = record {
  so_far : bindings (pattern_view l.pattern) (values_view l.fn.items) ≡ map assigns_view l.rows ++ bindings (pattern_view l.pattern) (values_view (into_iter_items l.item-iterator));
  counted : into_iter_len l.item-iterator ≡ length (into_iter_items l.item-iterator);
}
