use Rattle.std.proofs.Common.{◌≡◌, drop}
use Rattle.ast_core.specs.NamesIn.{all_bound, bound_by, bound_by_key}
use Rattle.ast_core.specs.Walk.{inside}
use Rattle.ast_core.proofs.walk.Walk.+bind.Given as goal

abbrev pub invariant-bind_all-patterns : goal.invariant-bind_all-patterns
invariant-bind_all-patterns l = inside (all_bound bound_by (drop l.pattern-index l.pattern-items)) l.self ≡ inside (all_bound bound_by l.pattern-items) l.initial.self

abbrev pub invariant-bind_pairs-pairs : goal.invariant-bind_pairs-pairs
invariant-bind_pairs-pairs l = inside (all_bound bound_by_key (drop l.pair-index l.pair-items)) l.self ≡ inside (all_bound bound_by_key l.pair-items) l.initial.self
