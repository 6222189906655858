-- Where a text may be cut: beside ASCII characters, and at its end.
use Rattle.std.proofs.Common.{◌≡◌, ℕ, ◌+◌, ◌-◌, ◌<◌, ◌≤◌, ◌⊎◌, inl, inr, List, [], ◌∷◌, length, drop, get_or, Bool, true, false, refl, sym, ap, ◌∙◌, subst, arith, length-drop}
use Rattle.std.specs.List.{prefix_len}
use Rattle.std.specs.Str.{IsUtf8, IsCharBoundary}
use Rattle.std.proofs.lemmas.Bool.{cases_lt}
use Rattle.std.proofs.lemmas.Bool.Decides.{nat_tests}
use Rattle.std.proofs.lemmas.List.{get_or-drop}
use Rattle.std.proofs.lemmas.List.Sums.{prefix_len-le-length, prefix_len_stops, prefix_len-drop_all, prefix_len-drop_no}
use Rattle.std.proofs.lemmas.Str.{IsCharBoundary-before_ascii, IsCharBoundary-after_ascii}
use Rattle.heex_token.specs.Tokens.{is_white, in_name, begins}
use Rattle.heex_token.specs.Pieces.{Reaches}
use Rattle.heex_token.proofs.Scans.{begins_le, begins_take, first_in, first_byte, Ends}

pub white_ascii : (b : ℕ) → is_white b ≡ true → b < 128
white_ascii b h = grind (arith, nat_tests)

large_in_name : (b : ℕ) → 128 ≤ b → in_name b ≡ true
large_in_name b h = grind (arith, nat_tests)

-- a byte that stands in no name is ASCII
other_ascii : (b : ℕ) → in_name b ≡ false → b < 128
other_ascii b h = by_order (cases_lt b 128)
  where
    by_order : (b < 128) ⊎ (128 ≤ b) → b < 128
    by_order (inl w) = w
    by_order (inr w) = let e = large_in_name b w in cc

-- names end where a text may be cut
pub name_cut : (text : List ℕ) (at : ℕ) → at ≤ length text → IsCharBoundary text (at + prefix_len in_name (drop at text))
name_cut text at h =
    let n = prefix_len in_name (drop at text) in
    let le = prefix_len-le-length in_name (drop at text) in
    let len = length-drop at text in
    let small : at + n < length text → get_or text (at + n) 0 < 128 = λ (w : at + n < length text). subst (λ (i : ℕ). i < 128) (get_or-drop at text n 0) (other_ascii (get_or (drop at text) n 0) (prefix_len_stops in_name (drop at text) 0 (omega (arith, w, len)))) in
    (omega (arith, le, len, h), λ w k. absurd (omega (arith, small w, k)))

-- behind an ASCII character
pub after_one : (text : List ℕ) (at q : ℕ) → IsUtf8 text → q < 128 → begins (q ∷ []) (drop at text) ≡ true → IsCharBoundary text (at + 1)
after_one text at q u a h =
    let le = begins_le (q ∷ []) (drop at text) h in
    let len = length-drop at text in
    let n : length (q ∷ []) ≡ 1 = refl in
    let e : get_or text at 0 ≡ q = sym (first_in text at) ∙ first_byte (drop at text) q h in
    IsCharBoundary-after_ascii text at u (omega (arith, le, len, n)) (subst (λ (i : ℕ). i < 128) (sym e) a)

second_byte : (l : List ℕ) (p q : ℕ) → begins (p ∷ q ∷ []) l ≡ true → get_or l 1 0 ≡ q
second_byte [] p q h = let e = begins_take (p ∷ q ∷ []) [] h in cc
second_byte (b ∷ []) p q h = let e : p ∷ q ∷ [] ≡ b ∷ [] = begins_take (p ∷ q ∷ []) (b ∷ []) h in cc
second_byte (b ∷ d ∷ l) p q h = let e : p ∷ q ∷ [] ≡ b ∷ d ∷ [] = begins_take (p ∷ q ∷ []) (b ∷ d ∷ l) h in cc

pub after_two : (text : List ℕ) (at p q : ℕ) → IsUtf8 text → q < 128 → begins (p ∷ q ∷ []) (drop at text) ≡ true → IsCharBoundary text (at + 2)
after_two text at p q u a h =
    let le = begins_le (p ∷ q ∷ []) (drop at text) h in
    let len = length-drop at text in
    let n : length (p ∷ q ∷ []) ≡ 2 = refl in
    let e : get_or text (at + 1) 0 ≡ q = sym (get_or-drop at text 1 0) ∙ second_byte (drop at text) p q h in
    let two : at + 1 + 1 ≡ at + 2 = omega arith in
    subst (IsCharBoundary text) two (IsCharBoundary-after_ascii text (at + 1) u (omega (arith, le, len, n)) (subst (λ (i : ℕ). i < 128) (sym e) a))

-- Values, which end with an ASCII character.

last_byte : (text : List ℕ) (at n : ℕ) → Ends (drop at text) n → get_or text (at + n - 1) 0 < 128
last_byte text at n e =
    let i : at + (n - 1) ≡ at + n - 1 = omega (arith, e.some) in
    subst (λ (m : ℕ). m < 128) (get_or-drop at text (n - 1) 0 ∙ ap (λ j. get_or text j 0) i) e.ascii

pub ends_within : (text : List ℕ) (at n : ℕ) → at ≤ length text → Ends (drop at text) n → at + n ≤ length text
ends_within text at n h e = omega (arith, e.within, length-drop at text, h)

pub before_last : (text : List ℕ) (at n : ℕ) → at ≤ length text → Ends (drop at text) n → IsCharBoundary text (at + n - 1)
before_last text at n h e = IsCharBoundary-before_ascii text (at + n - 1) (omega (arith, ends_within text at n h e, e.some)) (last_byte text at n e)

pub reaches : (text : List ℕ) (at n : ℕ) → IsUtf8 text → at ≤ length text → Ends (drop at text) n → Reaches text at n
reaches text at n u h e =
    let i : at + n - 1 + 1 ≡ at + n = omega (arith, e.some) in
    (e.some, subst (IsCharBoundary text) i (IsCharBoundary-after_ascii text (at + n - 1) u (omega (arith, ends_within text at n h e, e.some)) (last_byte text at n e)))

-- behind white space there is none
pub none_behind : (p : ℕ → Bool) (bs : List ℕ) → prefix_len p (drop (prefix_len p bs) bs) ≡ 0
none_behind p bs = by_order (cases_lt (prefix_len p bs) (length bs))
  where
    by_order : (prefix_len p bs < length bs) ⊎ (length bs ≤ prefix_len p bs) → prefix_len p (drop (prefix_len p bs) bs) ≡ 0
    by_order (inl w) = prefix_len-drop_no p bs (prefix_len p bs) 0 w (prefix_len_stops p bs 0 w)
    by_order (inr w) = prefix_len-drop_all p bs (prefix_len p bs) w
