-- The words of a command line.
use Rattle.std.specs.Prelude.{ℕ, List, [], ◌∷◌, codes, Bool, false, not, ◌&&◌, ◌==◌}
use Rattle.std.specs.Str.{bytes_eq}

-- whether a word begins with `-`
abbrev pub begins_dash : List ℕ → Bool
begins_dash [] = false
begins_dash (b ∷ bs) = b == 45

-- whether the words are exactly `replay DIR`, where DIR does not begin with `-`
abbrev pub is_replay : List (List ℕ) → Bool
is_replay [] = false
is_replay (command ∷ []) = false
is_replay (command ∷ dir ∷ []) = bytes_eq command (codes "replay") && not (begins_dash dir)
is_replay (command ∷ dir ∷ word ∷ words) = false
