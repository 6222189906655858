-- How much of a source is read as a script, and what script that is.
use Rattle.std.specs.Prelude.{◌≡◌, ◌<◌, ◌⊎◌, ℕ, List, [], ◌++◌, length, Option, IfSome}
use Rattle.script_core.specs.declared.script.Line.{Line}
use Rattle.script_core.specs.Script.{most_bytes, SpellsScript, IsBadLine}

-- what was read is all that there was, or a front of it that is longer than a script may be
abbrev pub IsEnough : List ℕ → List ℕ → Type 0
IsEnough bytes all = (rest : List ℕ) × (all ≡ bytes ++ rest) × ((rest ≡ []) ⊎ (most_bytes < length bytes))

-- the source's bytes spell that script, where it tells them
abbrev pub IsScriptOf : Option (List ℕ) → List Line → Type 0
IsScriptOf text script = IfSome text (λ bytes. SpellsScript bytes script)

-- the line of that number is the bad one of the source's bytes, where it tells them
abbrev pub IsBadLineOf : Option (List ℕ) → ℕ → Type 0
IsBadLineOf text n = IfSome text (λ bytes. IsBadLine bytes n)
