-- Paths with parameters, and how `matchit` writes them.
use Rattle.std.specs.Prelude.{ℕ, List, [], ◌∷◌, ◌++◌, Bool, false, ◌==◌, ◌||◌, ◌&&◌, Option, Some, None, option_map, option_and_then, if◌then◌else◌}
use Rattle.std.specs.Char.{is_ascii_alphanumeric, is_ascii_lowercase}
use Rattle.std.specs.Str.{bytes_eq}
use Rattle.std.specs.List.{slice_split, list_all}

abbrev pub is_slash : ℕ → Bool
is_slash b = b == 47

-- a letter, a digit, or one of `-_.~`
abbrev pub is_plain_byte : ℕ → Bool
is_plain_byte b = is_ascii_alphanumeric b || b == 45 || b == 95 || b == 46 || b == 126

abbrev pub is_plain : List ℕ → Bool
is_plain [] = false
is_plain (b ∷ bs) = list_all is_plain_byte (b ∷ bs)

abbrev pub begins_name : ℕ → Bool
begins_name b = is_ascii_lowercase b || b == 95

abbrev pub is_in_name : ℕ → Bool
is_in_name b = is_ascii_alphanumeric b || b == 95

-- a lowercase letter or `_`, and then letters, digits and `_`
abbrev pub is_name : List ℕ → Bool
is_name [] = false
is_name (b ∷ bs) = begins_name b && list_all is_in_name bs

abbrev pub plain : List ℕ → Option (List ℕ)
plain segment = if is_plain segment then Some (47 ∷ segment) else None

-- `{name}` behind a slash
abbrev pub parameter : List ℕ → Option (List ℕ)
parameter name = if is_name name then Some ((47 ∷ 123 ∷ name) ++ 125 ∷ []) else None

-- a segment behind a slash, where `:name` is a parameter; none where it is bad
abbrev pub behind_slash : List ℕ → Option (List ℕ)
behind_slash [] = None
behind_slash (b ∷ bs) = if b == 58 then parameter bs else plain (b ∷ bs)

abbrev pub joined : List (List ℕ) → Option (List ℕ)
joined [] = Some []
joined (segment ∷ others) = option_and_then (λ text. option_map (λ rest. text ++ rest) (joined others)) (behind_slash segment)

-- each segment stands behind a slash, and there is one
abbrev pub route_of_segments : List (List ℕ) → Option (List ℕ)
route_of_segments ([] ∷ segment ∷ others) = joined (segment ∷ others)
route_of_segments _ = None

-- a path as `matchit` writes it; none where it is bad
abbrev pub route_of : List ℕ → Option (List ℕ)
route_of path = if bytes_eq path (47 ∷ []) then Some (47 ∷ []) else route_of_segments (slice_split is_slash path)
