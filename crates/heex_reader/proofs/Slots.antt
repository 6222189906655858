-- A call of `render_slot`, and its arguments as a list.
use Rattle.std.proofs.Common.{◌≡◌, ℕ, ◌+◌, ◌-◌, ◌<◌, ◌≤◌, ◌==◌, ◌&&◌, List, [], ◌∷◌, ◌++◌, length, take, drop, get_or, codes, Bool, true, false, refl, sym, ap, ◌∙◌, subst, arith, append_assoc, length-take, length-drop, length-append}
use Rattle.std.specs.Str.{IsUtf8, IsCharBoundary}
use Rattle.std.specs.Cmp.Lexicographic.{same_text}
use Rattle.std.proofs.lemmas.Bool.Decides.{nat_tests}
use Rattle.std.proofs.lemmas.List.{get_or-take, get_or-drop}
use Rattle.std.proofs.lemmas.Str.{IsCharBoundary-after_ascii}
use Rattle.heex_token.specs.Tokens.{begins}
use Rattle.heex_reader.specs.Pieces.{without_end, ends_on, before_end, white_before, render_slot_word, calls_render_slot, as_list}
use Rattle.heex_reader.proofs.Whites.{white_cut}

-- a call at this place
pub record Call (place : ℕ) (s : List ℕ) : Type 0 where
  pub at : place ≡ white_before s
  pub begun : render_slot_word ≡ take 12 (drop place s)
  pub ended : ends_on (codes ")") s ≡ true

pub call : (place : ℕ) (s : List ℕ) → calls_render_slot place s ≡ true → Call place s
call place s h = by (place == white_before s) (begins render_slot_word (drop place s)) (ends_on (codes ")") s) refl refl refl h
  where
    by : (x y z : Bool) → (place == white_before s) ≡ x → begins render_slot_word (drop place s) ≡ y → ends_on (codes ")") s ≡ z → (x && (y && z)) ≡ true → Call place s
    by true true true i j l m = record { at = grind (arith, nat_tests); begun = same_text render_slot_word (take 12 (drop place s)) (sym j); ended = l }
    by true true false i j l m = cc
    by true false z i j l m = cc
    by false y z i j l m = cc

-- its word stands in the text
pub word_within : (place : ℕ) (s : List ℕ) → Call place s → place + 12 ≤ length s
word_within place s c =
    let e : 12 ≡ length (take 12 (drop place s)) = ap length c.begun in
    omega (arith, e, length-take 12 (drop place s), length-drop place s)

-- the text may be cut before it
pub call_cut : (place : ℕ) (s : List ℕ) → IsUtf8 s → Call place s → IsCharBoundary s place
call_cut place s u c = subst (IsCharBoundary s) (sym c.at) (white_cut s u)

round : (place : ℕ) (s : List ℕ) → Call place s → get_or s (place + 11) 0 ≡ 40
round place s c =
    let e : get_or (take 12 (drop place s)) 11 0 ≡ 40 = sym (ap (λ (w : List ℕ). get_or w 11 0) c.begun) in
    let f : get_or (take 12 (drop place s)) 11 0 ≡ get_or (drop place s) 11 0 = get_or-take 12 (drop place s) 11 0 (omega arith) in
    sym (get_or-drop place s 11 0) ∙ sym f ∙ e

cut_behind : (place m : ℕ) (s : List ℕ) → IsUtf8 (take m s) → Call place s → place + 12 ≤ length (take m s) → IsCharBoundary (take m s) (place + 12)
cut_behind place m s u c w =
    let inside : place + 11 < m = omega (arith, w, length-take m s) in
    let e : get_or (take m s) (place + 11) 0 ≡ 40 = get_or-take m s (place + 11) 0 inside ∙ round place s c in
    let low : get_or (take m s) (place + 11) 0 < 128 = omega (arith, e) in
    let same : place + 11 + 1 ≡ place + 12 = omega arith in
    subst (IsCharBoundary (take m s)) same (IsCharBoundary-after_ascii (take m s) (place + 11) u (omega (arith, w)) low)

-- and what stands before its `)` may be cut behind the word
pub inner_cut : (place : ℕ) (s inner : List ℕ) → inner ≡ before_end (codes ")") s → IsUtf8 inner → Call place s → place + 12 ≤ length inner → IsCharBoundary inner (place + 12)
inner_cut place s inner e u c w =
    subst (λ (t : List ℕ). IsCharBoundary t (place + 12)) (sym e)
    (cut_behind place (length (without_end s) - 1) s (subst IsUtf8 e u) c (subst (λ (t : List ℕ). place + 12 ≤ length t) e w))

-- the list is hardly longer than the text
pub list_short : (place : ℕ) (s : List ℕ) → Call place s → length (as_list s) ≤ length s + 1
list_short place s c =
    let white : ℕ = white_before s in
    let inner : List ℕ = before_end (codes ")") s in
    let behind : List ℕ = drop (white + 12) inner in
    let w : place + 12 ≤ length s = word_within place s c in
    let i : length inner ≤ length s = omega (arith, length-take (length (without_end s) - 1) s) in
    omega (arith, w, c.at, i, length-append (take white s) (codes "           [" ++ (behind ++ codes "]")), length-append (codes "           [") (behind ++ codes "]"), length-append behind (codes "]"), length-take white s, length-drop (white + 12) inner)

-- the list is its four pieces
pub list_of_pieces : (place : ℕ) (s a b c d t inner : List ℕ) → Call place s → a ≡ take place s → inner ≡ before_end (codes ")") s → b ≡ a ++ codes "           [" → c ≡ b ++ drop (place + 12) inner → d ≡ c ++ codes "]" → t ≡ d → t ≡ as_list s
list_of_pieces place s a b c d t inner k e f g h i j =
    j ∙ i ∙ ap (λ x. x ++ codes "]") (h ∙ ap (λ x. x ++ drop (place + 12) inner) g)
    ∙ append_assoc (a ++ codes "           [") (drop (place + 12) inner) (codes "]")
    ∙ append_assoc a (codes "           [") (drop (place + 12) inner ++ codes "]")
    ∙ ap (λ (x : List ℕ). x ++ (codes "           [" ++ (drop (place + 12) inner ++ codes "]"))) e
    ∙ ap (λ (x : List ℕ). take place s ++ (codes "           [" ++ (drop (place + 12) x ++ codes "]"))) f
    ∙ ap (λ (n : ℕ). take n s ++ (codes "           [" ++ (drop (n + 12) (before_end (codes ")") s) ++ codes "]"))) k.at
