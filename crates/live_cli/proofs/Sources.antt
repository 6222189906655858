-- A script is judged by so much of its text as is read.
use Rattle.std.proofs.Common.{arith, refl, ◌∷◌, ◌≡◌, ◌<◌, ◌≤◌, ◌⊎◌, ℕ, ◌+◌, List, [], ◌++◌, length, take, Option, Some, None, ap, sym, ◌∙◌, subst, inl, inr, length-append}
use Rattle.std.specs.Option.{IfSome}
use Rattle.std.proofs.Math.Nat.{not-le_of_lt, le_of_lt}
use Rattle.std.proofs.lemmas.List.{take-append-le}
use Rattle.script_core.specs.declared.script.Line.{Line}
use Rattle.script_core.specs.Script.{most_bytes, line_behind, SpellsScript, IsBadLine, IsFirstBad}
use Rattle.live_cli.specs.Script.{IsEnough, IsScriptOf, IsBadLineOf}

append_none : (xs : List ℕ) → xs ++ [] ≡ xs
append_none [] = refl
append_none (x ∷ xs) = ap (λ ys. x ∷ ys) (append_none xs)

-- a text that was read to its end is all that there was
whole : (bytes all rest : List ℕ) → all ≡ bytes ++ rest → rest ≡ [] → bytes ≡ all
whole bytes all rest cut none = sym (cut ∙ ap (λ r. bytes ++ r) none ∙ append_none bytes)

enough_spells : (bytes all : List ℕ) (script : List Line) → IsEnough bytes all → SpellsScript bytes script → SpellsScript all script
enough_spells bytes all script (rest, cut, inl none) h = subst (λ t. SpellsScript t script) (whole bytes all rest cut none) h
enough_spells bytes all script (rest, cut, inr long) h = absurd (not-le_of_lt long h.0)

bad_in_long : (bytes all rest : List ℕ) (n : ℕ) → all ≡ bytes ++ rest → most_bytes < length bytes → IsBadLine bytes n → IsBadLine all n
bad_in_long bytes all rest n cut long (inl (_, number)) =
    let longer : most_bytes < length (bytes ++ rest) = omega (arith, long, length-append bytes rest) in
    let front : take most_bytes (bytes ++ rest) ≡ take most_bytes bytes = take-append-le most_bytes bytes rest (le_of_lt long) in
    subst (λ t. IsBadLine t n) (sym cut) (inl (longer, number ∙ ap line_behind (sym front)))
bad_in_long bytes all rest n cut long (inr (short, _)) = absurd (not-le_of_lt long short)

enough_bad : (bytes all : List ℕ) (n : ℕ) → IsEnough bytes all → IsBadLine bytes n → IsBadLine all n
enough_bad bytes all n (rest, cut, inl none) h = subst (λ t. IsBadLine t n) (whole bytes all rest cut none) h
enough_bad bytes all n (rest, cut, inr long) h = bad_in_long bytes all rest n cut long h

-- what was read of a source spells its script, and its bad line is the source's
pub source_spells : (left : Option (List ℕ)) (bytes : List ℕ) (script : List Line) → IfSome left (IsEnough bytes) → SpellsScript bytes script → IsScriptOf left script
source_spells None bytes script e h = tt
source_spells (Some all) bytes script e h = enough_spells bytes all script e h

pub source_bad : (left : Option (List ℕ)) (bytes : List ℕ) (n : ℕ) → IfSome left (IsEnough bytes) → IsBadLine bytes n → IsBadLineOf left n
source_bad None bytes n e h = tt
source_bad (Some all) bytes n e h = enough_bad bytes all n e h
