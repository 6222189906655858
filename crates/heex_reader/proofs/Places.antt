-- Where bytes stand in their file.
use Rattle.std.proofs.Common.{◌≡◌, ℕ, ◌+◌, ◌<◌, ◌≤◌, List, [], ◌∷◌, ◌++◌, length, take, get_or, Bool, true, false, ◌==◌, if◌then◌else◌, refl, ap, ◌∙◌, arith}
use Rattle.std.proofs.lemmas.List.{take_more, length-take-le}
use Rattle.ast_core.specs.Syntax.{Location}
use Rattle.heex_reader.specs.Located.{goes_on, location_from, first_location, location_at}

-- a location is at most so far on
pub record AtMost (l : Location) (m : Location) (n : ℕ) : Type 0 where
  pub line : l.line ≤ m.line + n
  pub column : l.column ≤ m.column + n

step_small : (l : Location) (b : ℕ) → AtMost (location_from l (b ∷ [])) l 1
step_small l b = by (b == 10) (goes_on b)
  where
    by : (x y : Bool) → AtMost (if x then record { line = l.line + 1; column = 1 } else if y then l else record { line = l.line; column = l.column + 1 }) l 1
    by true y = record { line = omega arith; column = omega arith }
    by false true = record { line = omega arith; column = omega arith }
    by false false = record { line = omega arith; column = omega arith }

small_from : (l : Location) (bs : List ℕ) → AtMost (location_from l bs) l (length bs)
small_from l [] = record { line = omega arith; column = omega arith }
small_from l (b ∷ bs) =
    let s = step_small l b in
    let m = small_from (location_from l (b ∷ [])) bs in
    record { line = omega (arith, s.line, m.line); column = omega (arith, s.column, m.column) }

pub place_small : (text : List ℕ) (n : ℕ) → n ≤ length text → AtMost (location_at text n) first_location n
place_small text n h =
    let m = small_from first_location (take n text) in
    let e = length-take-le n text h in
    record { line = omega (arith, m.line, e); column = omega (arith, m.column, e) }

from_append : (l : Location) (xs ys : List ℕ) → location_from l (xs ++ ys) ≡ location_from (location_from l xs) ys
from_append l [] ys = refl
from_append l (x ∷ xs) ys = from_append (location_from l (x ∷ [])) xs ys

-- one byte further
pub place_next : (text : List ℕ) (n : ℕ) → n < length text → location_at text (n + 1) ≡ location_from (location_at text n) (get_or text n 0 ∷ [])
place_next text n h = ap (location_from first_location) (take_more text n 0 h) ∙ from_append first_location (take n text) (get_or text n 0 ∷ [])
