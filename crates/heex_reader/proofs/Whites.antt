-- Where a text may be cut at white space, names and words.
use Rattle.std.proofs.Common.{◌≡◌, ℕ, zero, suc, ◌+◌, ◌-◌, ◌<◌, ◌≤◌, List, [], ◌∷◌, length, drop, reverse, get_or, Bool, true, refl, sym, ap, ◌∙◌, subst, arith, length-drop}
use Rattle.std.specs.Prelude.{nat_eq}
use Rattle.std.specs.List.{prefix_len, suffix_len, ends_with}
use Rattle.std.specs.Str.{IsUtf8, IsCharBoundary}
use Rattle.std.specs.Cmp.Lexicographic.{same_text}
use Rattle.std.proofs.lemmas.Bool.Decides.{nat_tests}
use Rattle.std.proofs.lemmas.List.{get_or-reverse}
use Rattle.std.proofs.lemmas.List.Sums.{prefix_len_passes, prefix_len-le-length}
use Rattle.std.proofs.lemmas.Str.{IsUtf8-drop, IsCharBoundary-start, IsCharBoundary-end, IsCharBoundary-before_ascii, IsCharBoundary-after_ascii, IsCharBoundary-from_drop, IsCharBoundary-from_rest}
use Rattle.expr_token.specs.Tokens.{in_name}
use Rattle.heex_token.specs.Tokens.{is_white}
use Rattle.heex_reader.specs.Pieces.{last_is}

white_low : (b : ℕ) → is_white b ≡ true → b < 128
white_low b h = grind (arith, nat_tests)

name_low : (b : ℕ) → in_name b ≡ true → b < 128
name_low b h = grind (arith, nat_tests)

-- behind white space at the end
pub end_cut : (text : List ℕ) (end : ℕ) → end + suffix_len is_white text ≡ length text → IsCharBoundary text end
end_cut text end e = by (suffix_len is_white text) refl
  where
    by : (n : ℕ) → suffix_len is_white text ≡ n → IsCharBoundary text end
    by zero k = let whole : length text ≡ end = omega (arith, e, k) in subst (IsCharBoundary text) whole (IsCharBoundary-end text)
    by (suc n) k =
        let some : n < suffix_len is_white text = omega (arith, k) in
        let inside : n < length text = omega (arith, e, k) in
        let white : is_white (get_or (reverse text) n 0) ≡ true = prefix_len_passes is_white (reverse text) n 0 some in
        let place : length text - 1 - n ≡ end = omega (arith, e, k) in
        let same : get_or (reverse text) n 0 ≡ get_or text end 0 = get_or-reverse text n 0 inside ∙ ap (λ i. get_or text i 0) place in
        IsCharBoundary-before_ascii text end (omega (arith, e, k)) (white_low (get_or text end 0) (subst (λ b. is_white b ≡ true) same white))

-- behind characters of this kind
run_cut : (p : ℕ → Bool) → ((b : ℕ) → p b ≡ true → b < 128) → (text : List ℕ) → IsUtf8 text → IsCharBoundary text (prefix_len p text)
run_cut p low text u = by (prefix_len p text) refl
  where
    by : (n : ℕ) → prefix_len p text ≡ n → IsCharBoundary text n
    by zero k = IsCharBoundary-start text u
    by (suc n) k =
        let some : n < prefix_len p text = omega (arith, k) in
        let passes = prefix_len_passes p text n 0 some in
        let e : n + 1 ≡ suc n = omega arith in
        subst (IsCharBoundary text) e (IsCharBoundary-after_ascii text n u (omega (arith, k, prefix_len-le-length p text)) (low (get_or text n 0) passes))

pub white_cut : (text : List ℕ) → IsUtf8 text → IsCharBoundary text (prefix_len is_white text)
white_cut text u = run_cut is_white white_low text u

-- behind white space and a word
pub word_cut : (text : List ℕ) (white size : ℕ) → IsUtf8 text → white ≡ prefix_len is_white text → size ≡ prefix_len in_name (drop white text) → IsCharBoundary text (white + size)
word_cut text white size u w s =
    let within : white ≤ length text = omega (arith, w, prefix_len-le-length is_white text) in
    let first : IsCharBoundary text white = subst (IsCharBoundary text) (sym w) (white_cut text u) in
    let second : IsCharBoundary (drop white text) size = subst (IsCharBoundary (drop white text)) (sym s) (run_cut in_name name_low (drop white text) (IsUtf8-drop text white u first)) in
    IsCharBoundary-from_rest text white size within second

pub word_fits : (text : List ℕ) (white size : ℕ) → white ≡ prefix_len is_white text → size ≡ prefix_len in_name (drop white text) → white + size ≤ length text
word_fits text white size w s = omega (arith, w, s, prefix_len-le-length is_white text, prefix_len-le-length in_name (drop white text), length-drop white text)

-- before a word at the end
pub before_word : (text word : List ℕ) → IsUtf8 word → true ≡ ends_with nat_eq text word → IsCharBoundary text (length text - length word)
before_word text word u h =
    let e : word ≡ drop (length text - length word) text = same_text word (drop (length text - length word) text) h in
    IsCharBoundary-from_drop text (length text - length word) (omega arith) (subst IsUtf8 e u)

-- the last byte
pub last_at : (p : ℕ → Bool) (bs : List ℕ) → 0 < length bs → last_is p bs ≡ p (get_or bs (length bs - 1) 0)
last_at p [] h = absurd (omega arith)
last_at p (b ∷ []) h = refl
last_at p (b ∷ c ∷ bs) h =
    let e : length (b ∷ c ∷ bs) - 1 ≡ suc (length (c ∷ bs) - 1) = omega arith in
    last_at p (c ∷ bs) (omega arith) ∙ ap (λ i. p (get_or (b ∷ c ∷ bs) i 0)) (sym e)
