use Rattle.std.proofs.Common.{◌≡◌, drop, map}
use Rattle.ast_core.specs.PatternView.{keys_of}
use Rattle.ast_core.specs.NamesIn.{pattern_pair_view}
use Rattle.comprehension.specs.Bound.{has_key}
use Rattle.comprehension.proofs.bind.has_key.Given as goal

abbrev pub invariant-loop-pair : goal.invariant-loop-pair
invariant-loop-pair l = has_key l.key (keys_of (map pattern_pair_view l.pairs)) ≡ has_key l.key (keys_of (map pattern_pair_view (drop l.pair-index l.pairs)))
