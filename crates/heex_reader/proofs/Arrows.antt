-- The first arrow of a text.
use Rattle.std.proofs.Common.{◌≡◌, ℕ, suc, ◌+◌, ◌<◌, ◌≤◌, List, [], ◌∷◌, length, take, drop, get_or, codes, Bool, true, false, cond, ◌&&◌, Option, Some, None, refl, sym, ap, ◌∙◌, subst, arith, drop-cons}
use Rattle.std.specs.Prelude.{option_map}
use Rattle.std.specs.Str.{IsUtf8, IsCharBoundary}
use Rattle.std.specs.Cmp.Lexicographic.{same_text}
use Rattle.std.proofs.lemmas.List.{get_or-take, length-take}
use Rattle.std.proofs.lemmas.Str.{IsCharBoundary-before_ascii, IsCharBoundary-after_ascii}
use Rattle.heex_token.specs.Tokens.{begins}
use Rattle.heex_reader.specs.declared.arrow.Quoting.{Quoting}
use Rattle.heex_reader.specs.declared.arrow.Quoting.TheVariants.{Outside}
use Rattle.heex_reader.specs.Pieces.{quoting_behind, is_outside, is_arrow, arrow_from}

-- What is known where the search has come to.
pub record Looking (bytes : List ℕ) (q : Quoting) (at : ℕ) : Type 0 where
  pub within : at ≤ length bytes
  pub same : option_map (λ n. at + n) (arrow_from q (drop at bytes)) ≡ arrow_from Outside bytes

arrow_later : (q : Quoting) (b : ℕ) (bs : List ℕ) → is_arrow q (b ∷ bs) ≡ false → arrow_from q (b ∷ bs) ≡ option_map (λ n. n + 1) (arrow_from (quoting_behind q b) bs)
arrow_later q b bs t = ap (λ (x : Bool). cond x (Some 0) (option_map (λ n. n + 1) (arrow_from (quoting_behind q b) bs))) t

map_twice : (at : ℕ) (o : Option ℕ) → option_map (λ n. at + 1 + n) o ≡ option_map (λ n. at + n) (option_map (λ n. n + 1) o)
map_twice at None = refl
map_twice at (Some n) = let e : at + 1 + n ≡ at + (n + 1) = omega arith in ap (λ m. Some m) e

pub look_on : (bytes : List ℕ) (q : Quoting) (at : ℕ) → Looking bytes q at → at < length bytes → is_arrow q (drop at bytes) ≡ false → Looking bytes (quoting_behind q (get_or bytes at 0)) (at + 1)
look_on bytes q at l h t =
    let step : suc at ≡ at + 1 = omega arith in
    let e : drop at bytes ≡ get_or bytes at 0 ∷ drop (at + 1) bytes = drop-cons bytes at 0 h ∙ ap (λ i. get_or bytes at 0 ∷ drop i bytes) step in
    let later : arrow_from q (drop at bytes) ≡ option_map (λ n. n + 1) (arrow_from (quoting_behind q (get_or bytes at 0)) (drop (at + 1) bytes)) =
    ap (arrow_from q) e ∙ arrow_later q (get_or bytes at 0) (drop (at + 1) bytes) (sym (ap (is_arrow q) e) ∙ t) in
    record {
      within = omega arith;
      same = map_twice at (arrow_from (quoting_behind q (get_or bytes at 0)) (drop (at + 1) bytes)) ∙ ap (option_map (λ n. at + n)) (sym later) ∙ l.same;
    }

-- The arrow stands there.
pub record ArrowAt (bs : List ℕ) (n : ℕ) : Type 0 where
  pub within : n + 2 ≤ length bs
  pub first : get_or bs n 0 < 128
  pub second : get_or bs (n + 1) 0 < 128

and_second : (x y : Bool) → (x && y) ≡ true → y ≡ true
and_second true y h = h
and_second false y h = cc

front_arrow : (bs : List ℕ) → begins (codes "<-") bs ≡ true → ArrowAt bs 0
front_arrow bs h =
    let e : codes "<-" ≡ take 2 bs = same_text (codes "<-") (take 2 bs) (sym h) in
    let two : 2 ≡ length (take 2 bs) = ap length e in
    let a : 60 ≡ get_or bs 0 0 = ap (λ l. get_or l 0 0) e ∙ get_or-take 2 bs 0 0 (omega arith) in
    let b : 45 ≡ get_or bs 1 0 = ap (λ l. get_or l 1 0) e ∙ get_or-take 2 bs 1 0 (omega arith) in
    record { within = omega (arith, two, length-take 2 bs); first = omega (arith, a); second = omega (arith, b) }

later_arrow : (b : ℕ) (bs : List ℕ) (m : ℕ) → ArrowAt bs m → ArrowAt (b ∷ bs) (m + 1)
later_arrow b bs m a =
    let e : suc m ≡ m + 1 = omega arith in
    let f : suc (m + 1) ≡ m + 1 + 1 = omega arith in
    record {
      within = omega (arith, a.within);
      first = subst (λ i. get_or (b ∷ bs) i 0 < 128) e a.first;
      second = subst (λ i. get_or (b ∷ bs) i 0 < 128) f a.second;
    }

pub arrow_stands : (q : Quoting) (bs : List ℕ) (n : ℕ) → arrow_from q bs ≡ Some n → ArrowAt bs n
arrow_stands q [] n h = cc
arrow_stands q (b ∷ bs) n h = by (is_arrow q (b ∷ bs)) refl h (arrow_stands (quoting_behind q b) bs)
  where
    more : (o : Option ℕ) → option_map (λ m. m + 1) o ≡ Some n → ((m : ℕ) → o ≡ Some m → ArrowAt bs m) → ArrowAt (b ∷ bs) n
    more None k g = cc
    more (Some m) k g = let e : m + 1 ≡ n = cc in subst (ArrowAt (b ∷ bs)) e (later_arrow b bs m (g m refl))

    by : (t : Bool) → is_arrow q (b ∷ bs) ≡ t → cond t (Some 0) (option_map (λ m. m + 1) (arrow_from (quoting_behind q b) bs)) ≡ Some n → ((m : ℕ) → arrow_from (quoting_behind q b) bs ≡ Some m → ArrowAt bs m) → ArrowAt (b ∷ bs) n
    by true t k g = let e : 0 ≡ n = cc in subst (ArrowAt (b ∷ bs)) e (front_arrow (b ∷ bs) (and_second (is_outside q) (begins (codes "<-") (b ∷ bs)) t))
    by false t k g = more (arrow_from (quoting_behind q b) bs) k g

-- so the text may be cut before and behind it
pub arrow_front : (text : List ℕ) (n : ℕ) → ArrowAt text n → IsCharBoundary text n
arrow_front text n a = IsCharBoundary-before_ascii text n (omega (arith, a.within)) a.first

pub arrow_back : (text : List ℕ) (n : ℕ) → IsUtf8 text → ArrowAt text n → IsCharBoundary text (n + 2)
arrow_back text n u a =
    let e : n + 1 + 1 ≡ n + 2 = omega arith in
    subst (IsCharBoundary text) e (IsCharBoundary-after_ascii text (n + 1) u (omega (arith, a.within)) a.second)
