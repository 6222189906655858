-- Facts about the pieces of the lexer.
use Rattle.std.proofs.Common.{◌≡◌, ℕ, ◌+◌, ◌-◌, ◌*◌, ◌<◌, ◌≤◌, List, [], ◌∷◌, length, take, drop, Bool, true, false, Some, None, refl, sym, ap, ◌∙◌, arith, add-one}
use Rattle.std.specs.Prelude.{nat_le, if◌then◌else◌}
use Rattle.std.specs.Char.{is_ascii_digit}
use Rattle.std.proofs.lemmas.Bool.{leb-true}
use Rattle.std.proofs.lemmas.Bool.Decides.{nat_tests}
use Rattle.std.proofs.Math.Seq.{drop-cons}
use Rattle.std.proofs.Math.ListN.{get_or}
use Rattle.std.proofs.Common.{pos, to_z, w64}
use Rattle.std.proofs.lemmas.Int.{to_z_pos}
use Rattle.expr_token.specs.declared.token.Token.{Token}
use Rattle.expr_token.specs.declared.token.Cut.{Cut}
use Rattle.expr_token.specs.Tokens.{cut, digits_go_on, digits_of, value_with, value_of, fitting, module_goes_on, module_of}

-- what a suffix begins with
pub head_of : (l : List ℕ) (j d : ℕ) → j < length l → drop j l ≡ get_or l j d ∷ drop (j + 1) l
head_of l j d h = drop-cons l j d h ∙ ap (λ i. get_or l j d ∷ drop i l) (sym (add-one j))

-- Numbers.

digits_cons : (b : ℕ) (bs : List ℕ) → digits_go_on (b ∷ bs) ≡ true → length (digits_of (b ∷ bs)) ≡ length (digits_of bs) + 1
digits_cons b bs h = ap (λ (x : Bool). length (if x then b ∷ digits_of bs else [])) h ∙ grind arith

pub digits_step : (l : List ℕ) (j : ℕ) → j < length l → digits_go_on (drop j l) ≡ true → length (digits_of (drop j l)) ≡ length (digits_of (drop (j + 1) l)) + 1
digits_step l j h k =
    let e = head_of l j 0 h in
    ap (λ x. length (digits_of x)) e ∙ digits_cons (get_or l j 0) (drop (j + 1) l) (sym (ap digits_go_on e) ∙ k)

digits_by : (b : Bool) (c : ℕ) (bs : List ℕ) → length (digits_of bs) ≤ length bs → length (if b then c ∷ digits_of bs else []) ≤ length (c ∷ bs)
digits_by true c bs h = grind arith
digits_by false c bs h = grind arith

pub digits_le : (bs : List ℕ) → length (digits_of bs) ≤ length bs
digits_le [] = omega arith
digits_le (b ∷ bs) = digits_by (digits_go_on (b ∷ bs)) b bs (digits_le bs)

front_by : (b : Bool) (c : ℕ) (ds bs : List ℕ) → take (length ds) bs ≡ ds → take (length (if b then c ∷ ds else [])) (c ∷ bs) ≡ (if b then c ∷ ds else [])
front_by true c ds bs h = ap (λ l. c ∷ l) h
front_by false c ds bs h = refl

pub digits_front : (bs : List ℕ) → take (length (digits_of bs)) bs ≡ digits_of bs
digits_front [] = refl
digits_front (b ∷ bs) = front_by (digits_go_on (b ∷ bs)) b (digits_of bs) bs (digits_front bs)

with_by : (x : Bool) (n b : ℕ) → n ≤ (if x then n * 10 + (b - 48) else n)
with_by true n b = omega arith
with_by false n b = omega arith

grows : (n : ℕ) (bs : List ℕ) → n ≤ value_of n bs
grows n [] = omega arith
grows n (b ∷ bs) = omega (arith, with_by (is_ascii_digit b) n b, grows (value_with n b) bs)

fits_not : (n : ℕ) → fitting n ≡ None → 9223372036854775807 < n
fits_not n h = by_test (nat_le n 9223372036854775807) refl h
  where
    by_test : (x : Bool) → nat_le n 9223372036854775807 ≡ x → (if x then Some n else None) ≡ None → 9223372036854775807 < n
    by_test true k h = cc
    by_test false k h = grind (arith, nat_tests)

large : (n : ℕ) → 9223372036854775807 < n → fitting n ≡ None
large n h = by_test (nat_le n 9223372036854775807) refl
  where
    by_test : (x : Bool) → nat_le n 9223372036854775807 ≡ x → (if x then Some n else None) ≡ None
    by_test true k = let e : n ≤ 9223372036854775807 = leb-true _ _ k in absurd (omega arith)
    by_test false k = refl

-- once too large, a number stays so
pub stays_large : (n b : ℕ) (bs : List ℕ) → fitting (value_with n b) ≡ None → fitting (value_of n (b ∷ bs)) ≡ None
stays_large n b bs h = large (value_of n (b ∷ bs)) (omega (arith, fits_not (value_with n b) h, grows (value_with n b) bs))

-- what fits is a number of 64 bits with a sign
pub fits_signed : (n v : ℕ) → fitting n ≡ Some v → to_z w64 v ≡ pos v
fits_signed n v h = by_test (nat_le n 9223372036854775807) refl h
  where
    by_test : (x : Bool) → nat_le n 9223372036854775807 ≡ x → (if x then Some n else None) ≡ Some v → to_z w64 v ≡ pos v
    by_test true k h =
        let e : n ≡ v = cc in
        let small : n ≤ 9223372036854775807 = leb-true _ _ k in
        to_z_pos w64 v (omega arith)
    by_test false k h = cc

pub cut_eq : (t u : Token) (n m : ℕ) → t ≡ u → n ≡ m → ◌≡◌ {A = Cut} (record { token = Some t; size = n }) (cut u m)
cut_eq t u n m h k = ap (λ x. cut x n) h ∙ ap (cut u) k

-- Modules.

module_cons : (b : ℕ) (bs : List ℕ) → module_goes_on (b ∷ bs) ≡ true → length (module_of (b ∷ bs)) ≡ length (module_of bs) + 1
module_cons b bs h = ap (λ (x : Bool). length (if x then b ∷ module_of bs else [])) h ∙ grind arith

pub module_step : (l : List ℕ) (j : ℕ) → j < length l → module_goes_on (drop j l) ≡ true → length (module_of (drop j l)) ≡ length (module_of (drop (j + 1) l)) + 1
module_step l j h k =
    let e = head_of l j 0 h in
    ap (λ x. length (module_of x)) e ∙ module_cons (get_or l j 0) (drop (j + 1) l) (sym (ap module_goes_on e) ∙ k)
