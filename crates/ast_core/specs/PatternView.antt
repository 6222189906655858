-- What the program's patterns stand for.
use Rattle.std.specs.Prelude.{ℕ, List, [], ◌∷◌}
use Rattle.value_core.specs.Value as value
use Rattle.ast_core.specs.Syntax as model
use Rattle.ast_core.specs.Syntax.{Patterns, no_patterns, pattern, PatternPairs, no_keys, key}
use Rattle.ast_core.specs.declared.pattern.Pattern.{Pattern}
use Rattle.ast_core.specs.declared.pattern.Pattern.TheOpen.{Pattern-F, PatternPair-F}
use Rattle.ast_core.specs.declared.pattern.Pattern.TheFolds.{fold-Pattern}

abbrev pub patterns_of : List model.Pattern → Patterns
patterns_of [] = no_patterns
patterns_of (p ∷ ps) = pattern p (patterns_of ps)

abbrev pub keys_of : List (List ℕ × model.Pattern) → PatternPairs
keys_of [] = no_keys
keys_of (p ∷ ps) = key p.0 p.1 (keys_of ps)

abbrev pub pattern_pair_step : PatternPair-F model.Pattern (List ℕ × model.Pattern) → List ℕ × model.Pattern
pattern_pair_step p = (p.key, p.pattern)

-- one level, with what is inside already seen
abbrev pub pattern_step : Pattern-F model.Pattern (List ℕ × model.Pattern) → model.Pattern
pattern_step Pattern-F.Any = model.any
pattern_step (Pattern-F.Name x) = model.named x
pattern_step (Pattern-F.Number n) = model.literal (value.whole_number n)
pattern_step (Pattern-F.Text t) = model.literal (value.text t)
pattern_step (Pattern-F.Atom a) = model.literal (value.atom a)
pattern_step Pattern-F.Nil = model.literal value.nil
pattern_step (Pattern-F.Bool b) = model.literal (value.boolean b)
pattern_step (Pattern-F.Tuple ps) = model.tuple_like (patterns_of ps)
pattern_step (Pattern-F.List ps) = model.list_like (patterns_of ps)
pattern_step (Pattern-F.Map ps) = model.map_like (keys_of ps)

abbrev pub pattern_view : Pattern → model.Pattern
pattern_view = fold-Pattern model.Pattern (List ℕ × model.Pattern) pattern_step pattern_pair_step
