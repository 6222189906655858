-- Files that were read of a folder.
use Rattle.std.specs.Prelude.{ℕ, List, [], ◌∷◌}
use Rattle.text_core.specs.Outside.{Holds}

-- each file holds what the folder has of its name, as far as is read
abbrev pub AllHold : List (List ℕ × List ℕ) → List (List ℕ × List ℕ) → Type 0
AllHold fs [] = Unit {0}
AllHold fs (f ∷ files) = Holds f.0 1048576 f.1 fs × AllHold fs files
