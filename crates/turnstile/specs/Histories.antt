-- The journal of a value, and what one pass has of it.
-- A journal is a list of entries, each behind the number of the pass that made it.
use Rattle.std.specs.Prelude.{◌≡◌, ℕ, eqb, leb, cond, ◌⊎◌, List, [], ◌∷◌, ◌++◌, map, drop, length}

-- the number of passes that are made at most
abbrev pub most_passes : ℕ
most_passes = 4294967295

-- the journal begins with what was seen
abbrev pub StartsWith : {X : Type 0} → List X → List X → Type 0
StartsWith {X} journal seen = (rest : List X) × (journal ≡ seen ++ rest)

-- the journal is what was seen, or has one entry more, under the number
abbrev pub Follows : {E : Type 0} → ℕ → List (ℕ × E) → List (ℕ × E) → Type 0
Follows {E} n seen journal = (journal ≡ seen) ⊎ ((e : E) × (journal ≡ seen ++ (n, e) ∷ []))

-- the longer of two beginnings of one journal
abbrev pub longer : {X : Type 0} → List X → List X → List X
longer xs ys = cond (leb (length ys) (length xs)) xs ys

-- the entries under a number, in order
abbrev pub entries_by : {E : Type 0} → ℕ → List (ℕ × E) → List E
entries_by n [] = []
entries_by n (e ∷ journal) = cond (eqb e.0 n) (e.1 ∷ entries_by n journal) (entries_by n journal)

-- the entries of the journal behind what was seen
abbrev pub news : {E : Type 0} → List (ℕ × E) → List (ℕ × E) → List E
news seen journal = map (λ e. e.1) (drop (length seen) journal)

-- A pass has a list of what it made for each of its numbers.
-- One of them is this list, under this number
abbrev pub Made : {E : Type 0} → List (ℕ × List E) → ℕ → List E → Type 0
Made [] n es = ⊥
Made (m ∷ ms) n es = ((m.0 ≡ n) × (m.1 ≡ es)) ⊎ Made ms n es

-- the first of them is under the number
abbrev pub IsFirst : {E : Type 0} → ℕ → List (ℕ × List E) → Type 0
IsFirst {E} n made = (es : List E) × (ms : List (ℕ × List E)) × (made ≡ (n, es) ∷ ms)

-- the lists, with these entries behind the first
abbrev pub add_made : {E : Type 0} → List E → List (ℕ × List E) → List (ℕ × List E)
add_made more [] = []
add_made more (m ∷ ms) = (m.0, m.1 ++ more) ∷ ms
