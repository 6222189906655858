-- What is read from outside: the assigns and the variables among names, in byte order, none twice.
use Rattle.std.specs.Prelude.{ℕ, List, [], ◌∷◌}
use Rattle.std.specs.Ordering.{nat_cmp, match_ordering}
use Rattle.std.specs.Cmp.Lexicographic.{slice_cmp}
use Rattle.ast_core.specs.Syntax.{Name, at, var}

-- names in byte order with one more, which stands there once
abbrev pub with_name : List ℕ → List (List ℕ) → List (List ℕ)
with_name k [] = k ∷ []
with_name k (l ∷ ls) = match_ordering (slice_cmp nat_cmp k l) (k ∷ l ∷ ls) (l ∷ ls) (l ∷ with_name k ls)

abbrev pub assigns_in : List Name → List (List ℕ)
assigns_in [] = []
assigns_in (at a ∷ ns) = with_name a (assigns_in ns)
assigns_in (var v ∷ ns) = assigns_in ns

abbrev pub variables_in : List Name → List (List ℕ)
variables_in [] = []
variables_in (at a ∷ ns) = variables_in ns
variables_in (var v ∷ ns) = with_name v (variables_in ns)
