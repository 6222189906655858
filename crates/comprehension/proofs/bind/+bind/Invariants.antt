use Rattle.std.proofs.Common.{◌≡◌, drop, map, length}
use Rattle.std.specs.Vec.Iter.{into_iter_items, into_iter_len}
use Rattle.value_core.specs.View.{values_view, assigns_view}
use Rattle.ast_core.specs.PatternView.{pattern_view, patterns_of, keys_of}
use Rattle.ast_core.specs.NamesIn.{pattern_pair_view}
use Rattle.doc_model.specs.Environment.{binding_all, binding_pairs}
use Rattle.comprehension.specs.Bound.{behind}
use Rattle.comprehension.proofs.bind.+bind.Given as goal

-- what all bind behind the first, is what the rest binds behind what is bound so far
abbrev pub invariant-bind_all-patterns : goal.invariant-bind_all-patterns
invariant-bind_all-patterns l = record {
  so_far : behind l.fn.bound (binding_all (patterns_of (map pattern_view l.pattern-items)) (values_view l.fn.items))
      ≡ behind l.bound (binding_all (patterns_of (map pattern_view (drop l.pattern-index l.pattern-items))) (values_view (into_iter_items l.items)));
  counted : into_iter_len l.items ≡ length (into_iter_items l.items);
}

abbrev pub invariant-bind_pairs-parts : goal.invariant-bind_pairs-parts
invariant-bind_pairs-parts l =
    behind l.fn.bound (binding_pairs (keys_of (map pattern_pair_view l.parts)) (assigns_view l.fn.entries))
    ≡ behind l.bound (binding_pairs (keys_of (map pattern_pair_view (drop l.i l.parts))) (assigns_view l.entries))
