-- The keys of components.
use Rattle.std.proofs.Common.{◌≡◌, ◌≢◌, ◌<◌, ◌^◌, ℕ, List, [], ◌∷◌, length, get_or, Bool, true, false, ◌&&◌, ◌==◌, nat_lt, if◌then◌else◌, Ok, Err, ◌⊎◌, inl, inr, refl, sym, ap, ◌∙◌, subst, arith, decimal, true≢false}
use Rattle.std.specs.List.{list_all}
use Rattle.std.specs.Char.{is_ascii_digit}
use Rattle.std.specs.Str.Parse.{digits_value, ParsesUnsigned}
use Rattle.std.proofs.lemmas.Bool.{lt-ltb, ltb-true}
use Rattle.std.proofs.lemmas.Bool.Decides.{eqb_tells, Decides-eqb}
use Rattle.std.proofs.lemmas.Fmt.{decimal-digits_value}
use Rattle.std.proofs.lemmas.Str.Parse.{parse_digits}
use Rattle.text_core.proofs.Decimals.{own}
use Rattle.diff_tree.specs.Grammar.{is_place, is_component}
use Rattle.diff_tree.proofs.Order.{both_to}

one_digit : (cs : List ℕ) → length cs ≡ 0 → list_all is_ascii_digit (48 ∷ cs) ≡ true
one_digit [] h = refl
one_digit (c ∷ cs) h = absurd (omega (arith, h))

pub place_digits : (k : List ℕ) → is_place k ≡ true → (list_all is_ascii_digit k ≡ true) × (0 < length k) × (get_or k 0 0 ≡ 48 → length k ≡ 1)
place_digits [] h = absurd (true≢false (sym h))
place_digits (c ∷ cs) h = by (eqb_tells c 48)
  where
    none : (b : Bool) → b ≡ true → (if b then length cs == 0 else list_all is_ascii_digit (c ∷ cs)) ≡ true → length cs ≡ 0
    none true is g = (Decides-eqb (length cs) 0).0 g
    none false is g = absurd (true≢false (sym is))

    all : (b : Bool) → b ≡ false → (if b then length cs == 0 else list_all is_ascii_digit (c ∷ cs)) ≡ true → list_all is_ascii_digit (c ∷ cs) ≡ true
    all true is g = absurd (true≢false is)
    all false is g = g

    by : ((c == 48 ≡ true) × (c ≡ 48)) ⊎ ((c == 48 ≡ false) × (c ≢ 48)) → (list_all is_ascii_digit (c ∷ cs) ≡ true) × (0 < length (c ∷ cs)) × (c ≡ 48 → length (c ∷ cs) ≡ 1)
    by (inl same) = let no : length cs ≡ 0 = none (c == 48) same.0 h in (subst (λ x. list_all is_ascii_digit (x ∷ cs) ≡ true) (sym same.1) (one_digit cs no), omega arith, λ _. omega (arith, no))
    by (inr other) = (all (c == 48) other.0 h, omega arith, λ is. absurd (other.1 is))

both_false : (a b : Bool) → b ≡ false → (a && b) ≡ false
both_false true b h = h
both_false false b h = refl

within : (k : List ℕ) (b c : Bool) → is_place k ≡ true → b ≡ true → c ≡ true → (is_place k && b && c) ≡ true
within k b c place h g = both_to (is_place k && b) c (both_to (is_place k) b place h) g

zero_not : (n : ℕ) → n ≡ 0 → nat_lt 0 n ≡ false
zero_not n h = ap (nat_lt 0) h

large_not : (b : Bool) (n : ℕ) → (nat_lt n (2 ^ 64) ≡ true → ⊥) → (b && nat_lt n (2 ^ 64)) ≡ false
large_not b n h = by (nat_lt n (2 ^ 64)) h
  where
    by : (c : Bool) → (c ≡ true → ⊥) → (b && c) ≡ false
    by true g = absurd (g refl)
    by false g = both_false b false refl

-- what a key that is a place is parsed as
pub component_is : (E : Type 0) (k : List ℕ) (n : ℕ) → is_place k ≡ true → ParsesUnsigned {E = E} 64 10 k (Ok n) → n ≢ 0 → (is_component k ≡ true) × (decimal n ≡ k)
component_is E k n place parsed some =
    let d = place_digits k place in
    let value = parse_digits own {E = E} 64 k (Ok n) parsed d.0 in
    let same : n ≡ digits_value 10 k = value.1 in
    let more : 0 < digits_value 10 k = omega (arith, some, same) in
    (within k (nat_lt 0 (digits_value 10 k)) (nat_lt (digits_value 10 k) (2 ^ 64)) place (lt-ltb 0 (digits_value 10 k) more) (lt-ltb (digits_value 10 k) (2 ^ 64) value.0.1), ap decimal same ∙ decimal-digits_value own k d.0 d.1 d.2 value.0.1)

pub component_zero : (E : Type 0) (k : List ℕ) (n : ℕ) → is_place k ≡ true → ParsesUnsigned {E = E} 64 10 k (Ok n) → n ≡ 0 → is_component k ≡ false
component_zero E k n place parsed none =
    let d = place_digits k place in
    let value = parse_digits own {E = E} 64 k (Ok n) parsed d.0 in
    let no : nat_lt 0 (digits_value 10 k) ≡ false = zero_not (digits_value 10 k) (sym value.1 ∙ none) in
    ap (λ b. b && nat_lt (digits_value 10 k) (2 ^ 64)) (both_false (is_place k) (nat_lt 0 (digits_value 10 k)) no)

pub component_large : (E : Type 0) (k : List ℕ) (e : E) → is_place k ≡ true → ParsesUnsigned 64 10 k (Err e) → is_component k ≡ false
component_large E k e place parsed =
    let d = place_digits k place in
    let value = parse_digits own {E = E} 64 k (Err e) parsed d.0 in
    large_not (is_place k && nat_lt 0 (digits_value 10 k)) (digits_value 10 k) (λ fits. value (d.1, ltb-true (digits_value 10 k) (2 ^ 64) fits))
