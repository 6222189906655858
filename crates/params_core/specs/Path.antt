-- The path that a form's key stands for: `name[part][part]` and at the end possibly `[]`.
use Rattle.std.specs.Prelude.{ℕ, ◌+◌, List, [], ◌∷◌, Bool, true, false, ◌==◌, Option, Some, None, option_map, option_and_then, unwrap_or, count_by, length, if◌then◌else◌}
use Rattle.std.specs.Bool.{nat_le}
use Rattle.std.specs.List.{slice_split, position_or_len, before_first}
use Rattle.params_core.specs.declared.path.Step.{Step}
use Rattle.params_core.specs.declared.path.Step.TheVariants.{At, Append}

abbrev pub opens : ℕ → Bool
opens b = b == 91

abbrev pub closes : ℕ → Bool
closes b = b == 93

-- what stands before the closing bracket that ends a piece, none where it has another or none
abbrev pub closed : List ℕ → Option (List ℕ)
closed piece = if position_or_len closes piece + 1 == length piece then Some (before_first closes piece) else None

-- a part leads to a key of a map; the empty part, at the end only, to a new item of a list
abbrev pub step_to : List ℕ → Bool → Option Step
step_to (b ∷ bs) is_last = Some (At (b ∷ bs))
step_to [] true = Some Append
step_to [] false = None

abbrev pub step_of : Option (List ℕ) → Bool → Option Step
step_of None is_last = None
step_of (Some part) is_last = step_to part is_last

abbrev pub is_empty : List (List ℕ) → Bool
is_empty [] = true
is_empty (p ∷ ps) = false

-- the steps of the pieces that stand behind opening brackets
abbrev pub steps_of : List (List ℕ) → Option (List Step)
steps_of [] = Some []
steps_of (piece ∷ others) =
    option_and_then (λ step. option_map (λ steps. step ∷ steps) (steps_of others)) (step_of (closed piece) (is_empty others))

abbrev pub is_name : Step → Bool
is_name (At k) = true
is_name Append = false

-- the path, where it has a name and at most 98 parts
abbrev pub within_limit : List Step → Option (List Step)
within_limit path = if nat_le (count_by is_name path) 99 then Some path else None

-- the path of a key that is a name as a whole
abbrev pub named : List ℕ → List Step
named key = At key ∷ []

-- the path of a name that is not empty with parts behind it
abbrev pub nested : List (List ℕ) → Option (List Step)
nested [] = None
nested ([] ∷ pieces) = None
nested ((b ∷ name) ∷ pieces) = option_and_then within_limit (option_map (λ steps. At (b ∷ name) ∷ steps) (steps_of pieces))

-- the path of a key
abbrev pub path_of : List ℕ → List Step
path_of key = unwrap_or (nested (slice_split opens key)) (named key)
