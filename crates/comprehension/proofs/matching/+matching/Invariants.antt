use Rattle.std.proofs.Common.{◌≡◌, drop, map, is_some}
use Rattle.value_core.specs.View.{values_view, assigns_view}
use Rattle.ast_core.specs.PatternView.{pattern_view, patterns_of, keys_of}
use Rattle.ast_core.specs.NamesIn.{pattern_pair_view}
use Rattle.doc_model.specs.Environment.{binding_all, binding_pairs}
use Rattle.comprehension.proofs.matching.+matching.Given as goal

-- all match exactly where the rest does
abbrev pub invariant-all_match-parts : goal.invariant-all_match-parts
invariant-all_match-parts l =
    is_some (binding_all (patterns_of (map pattern_view l.parts)) (values_view l.values))
    ≡ is_some (binding_all (patterns_of (map pattern_view (drop l.i l.parts))) (values_view (drop l.i l.values)))

abbrev pub invariant-pairs_match-pairs : goal.invariant-pairs_match-pairs
invariant-pairs_match-pairs l =
    is_some (binding_pairs (keys_of (map pattern_pair_view l.pair-items)) (assigns_view l.entries))
    ≡ is_some (binding_pairs (keys_of (map pattern_pair_view (drop l.pair-index l.pair-items))) (assigns_view l.entries))
