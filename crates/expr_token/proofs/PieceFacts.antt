-- Facts about the pieces of texts.
use Rattle.std.proofs.Common.{◌≡◌, ℕ, suc, ◌+◌, ◌-◌, ◌<◌, ◌≤◌, List, [], ◌∷◌, ◌++◌, length, take, drop, get_or, Bool, true, false, not, ◌||◌, refl, sym, ap, ◌∙◌, subst, arith, append_assoc, append-nil}
use Rattle.std.specs.Prelude.{nat_eq, if◌then◌else◌, cond}
use Rattle.std.specs.List.{prefix_len}
use Rattle.std.specs.Str.{IsUtf8, IsCharBoundary}
use Rattle.std.proofs.lemmas.Bool.{eqb-true}
use Rattle.std.proofs.lemmas.Bool.Decides.{nat_tests}
use Rattle.std.proofs.lemmas.Str.{IsCharBoundary-after_ascii}
use Rattle.std.proofs.lemmas.List.{get_or-drop, drop-drop}
use Rattle.std.proofs.Common.{length-drop}
use Rattle.expr_token.specs.declared.token.Piece.{Piece}
use Rattle.expr_token.specs.Tokens.{piece_from, no_piece, with_text, ends_piece}
use Rattle.expr_token.specs.Pieces.{is_plain, behind, GoesOn}

piece_eq : (t u : List ℕ) (n m : ℕ) → t ≡ u → n ≡ m → ◌≡◌ {A = Piece} (record { text = t; size = n }) (record { text = u; size = m })
piece_eq t u n m h k = ap (λ x. let p : Piece = record { text = x; size = n } in p) h ∙ ap (λ i. let p : Piece = record { text = u; size = i } in p) k

pub behind_twice : (t u : List ℕ) (n m : ℕ) (p : Piece) → behind t n (behind u m p) ≡ behind (t ++ u) (n + m) p
behind_twice t u n m p = piece_eq _ _ _ _ (sym (append_assoc t u p.text)) (omega arith)

pub behind_none : (t : List ℕ) (n : ℕ) → behind t n no_piece ≡ record { text = t; size = n }
behind_none t n = piece_eq _ _ _ _ (append-nil t) (omega arith)

pub behind_nothing : (p : Piece) → behind [] 0 p ≡ p
behind_nothing p = piece_eq _ _ _ _ refl (omega arith)

-- what a plain byte is not
record Plain (b : ℕ) : Type 0 where
  quote : nat_eq 34 b ≡ false
  hash : nat_eq 35 b ≡ false
  slash : nat_eq 92 b ≡ false
  escape : nat_eq b 92 ≡ false

plain : (b : ℕ) → is_plain b ≡ true → Plain b
plain b h = by_test (nat_eq b 34) (nat_eq b 35) (nat_eq b 92) refl refl refl h
  where
    by_test : (x y z : Bool) → nat_eq b 34 ≡ x → nat_eq b 35 ≡ y → nat_eq b 92 ≡ z → not (x || (y || z)) ≡ true → Plain b
    by_test true y z e f g h = cc
    by_test false true z e f g h = cc
    by_test false false true e f g h = cc
    by_test false false false e f g h = record { quote = grind (arith, nat_tests); hash = grind (arith, nat_tests); slash = grind (arith, nat_tests); escape = g }

plain_ends : (b : ℕ) (bs : List ℕ) → Plain b → ends_piece (b ∷ bs) ≡ false
plain_ends b bs p = rw (p.quote, p.hash, p.slash) refl

plain_first : (b : ℕ) (bs : List ℕ) → Plain b → piece_from false (b ∷ bs) ≡ with_text (b ∷ []) (piece_from false bs)
plain_first b bs p = ap (λ (x : Bool). if x then no_piece else with_text (if nat_eq b 92 then [] else b ∷ []) (piece_from (nat_eq b 92) bs)) (plain_ends b bs p) ∙ ap (λ (x : Bool). with_text (if x then [] else b ∷ []) (piece_from x bs)) p.escape

run_by : (b : ℕ) (bs : List ℕ) (x : Bool) → is_plain b ≡ x → piece_from false bs ≡ behind (take (prefix_len is_plain bs) bs) (prefix_len is_plain bs) (piece_from false (drop (prefix_len is_plain bs) bs))
    → piece_from false (b ∷ bs) ≡ behind (take (cond x (1 + prefix_len is_plain bs) 0) (b ∷ bs)) (cond x (1 + prefix_len is_plain bs) 0) (piece_from false (drop (cond x (1 + prefix_len is_plain bs) 0) (b ∷ bs)))
run_by b bs false h i = sym (behind_nothing (piece_from false (b ∷ bs)))
run_by b bs true h i =
    let n = prefix_len is_plain bs in
    let e : 1 + n ≡ suc n = omega arith in
    subst (λ k. piece_from false (b ∷ bs) ≡ behind (take k (b ∷ bs)) k (piece_from false (drop k (b ∷ bs)))) (sym e)
    (plain_first b bs (plain b h) ∙ ap (with_text (b ∷ [])) i ∙ piece_eq _ _ _ _ refl (omega arith))

-- what stands for itself
pub plain_run : (bs : List ℕ) → piece_from false bs ≡ behind (take (prefix_len is_plain bs) bs) (prefix_len is_plain bs) (piece_from false (drop (prefix_len is_plain bs) bs))
plain_run [] = refl
plain_run (b ∷ bs) = run_by b bs (is_plain b) refl (plain_run bs)

-- behind what stands for itself nothing does
none_by : (b : ℕ) (bs : List ℕ) (x : Bool) → is_plain b ≡ x → prefix_len is_plain (drop (prefix_len is_plain bs) bs) ≡ 0 → prefix_len is_plain (drop (cond x (1 + prefix_len is_plain bs) 0) (b ∷ bs)) ≡ 0
none_by b bs false h i = ap (λ (x : Bool). cond x (1 + prefix_len is_plain bs) 0) h
none_by b bs true h i = let e : 1 + prefix_len is_plain bs ≡ suc (prefix_len is_plain bs) = omega arith in subst (λ k. prefix_len is_plain (drop k (b ∷ bs)) ≡ 0) (sym e) i

pub none_behind : (bs : List ℕ) → prefix_len is_plain (drop (prefix_len is_plain bs) bs) ≡ 0
none_behind [] = refl
none_behind (b ∷ bs) = none_by b bs (is_plain b) refl (none_behind bs)

-- where a run ends, an ASCII byte stands or the text ends
special_ascii : (b : ℕ) → is_plain b ≡ false → b < 128
special_ascii b h = by_test (nat_eq b 34) (nat_eq b 35) (nat_eq b 92) refl refl refl h
  where
    by_test : (x y z : Bool) → nat_eq b 34 ≡ x → nat_eq b 35 ≡ y → nat_eq b 92 ≡ z → not (x || (y || z)) ≡ false → b < 128
    by_test true y z e f g h = let k = eqb-true b 34 e in omega arith
    by_test false true z e f g h = let k = eqb-true b 35 f in omega arith
    by_test false false true e f g h = let k = eqb-true b 92 g in omega arith
    by_test false false false e f g h = cc

first_special : (bs : List ℕ) → prefix_len is_plain bs ≡ 0 → 0 < length bs → get_or bs 0 0 < 128
first_special [] h k = absurd (omega arith)
first_special (b ∷ bs) h k = by_test (is_plain b) refl h
  where
    by_test : (x : Bool) → is_plain b ≡ x → cond x (1 + prefix_len is_plain bs) 0 ≡ 0 → b < 128
    by_test true e h = absurd (omega arith)
    by_test false e h = special_ascii b e

length_by : (x : Bool) (n m : ℕ) → n ≤ m → cond x (1 + n) 0 ≤ m + 1
length_by true n m h = omega arith
length_by false n m h = omega arith

pub run_le : (bs : List ℕ) → prefix_len is_plain bs ≤ length bs
run_le [] = omega arith
run_le (b ∷ bs) = let k = length_by (is_plain b) (prefix_len is_plain bs) (length bs) (run_le bs) in grind (arith, k)

-- where a run ends, the text may be cut
pub run_cut : (text : List ℕ) (at n : ℕ) → IsCharBoundary text at → n ≡ prefix_len is_plain (drop at text) → IsCharBoundary text (at + n)
run_cut text at n b e =
    let bs = drop at text in
    let m = prefix_len is_plain bs in
    let within : at + n ≤ length text = omega (arith, e, run_le bs, length-drop at text, b.0) in (
      within,
      λ lt high.
          let some : 0 < length (drop m bs) = omega (arith, e, length-drop at text, length-drop m bs, lt, b.0) in
          let low : get_or (drop m bs) 0 0 < 128 = first_special (drop m bs) (none_behind bs) some in
          let same : get_or (drop m bs) 0 0 ≡ get_or text (at + n) 0 = get_or-drop m bs 0 0 ∙ ap (λ i. get_or bs i 0) (let k : m + 0 ≡ n = omega (arith, e) in k) ∙ get_or-drop at text n 0 in
          let low' : get_or text (at + n) 0 < 128 = subst (λ (i : ℕ). i < 128) same low in
          absurd (omega (arith, low', high)),
    )

-- What is known where a piece has come to.
pub record Going (text : List ℕ) (from at : ℕ) (out : List ℕ) : Type 0 where
  pub cut : IsCharBoundary text at
  pub order : from ≤ at
  pub same : piece_from false (drop from text) ≡ behind out (at - from) (piece_from false (drop at text))

pub going_start : (text : List ℕ) (from : ℕ) → IsCharBoundary text from → Going text from from []
going_start text from b = record {
  cut = b;
  order = omega arith;
  same = sym (behind_nothing (piece_from false (drop from text))) ∙ ap (λ n. behind [] n (piece_from false (drop from text))) (let e : 0 ≡ from - from = omega arith in e);
}

-- with a run behind it
going_run : (text : List ℕ) (from at n : ℕ) (out : List ℕ) → Going text from at out → n ≡ prefix_len is_plain (drop at text)
    → piece_from false (drop from text) ≡ behind (out ++ take n (drop at text)) (at - from + n) (piece_from false (drop (at + n) text))
going_run text from at n out g e =
    let bs = drop at text in
    let r : piece_from false bs ≡ behind (take n bs) n (piece_from false (drop n bs)) = subst (λ k. piece_from false bs ≡ behind (take k bs) k (piece_from false (drop k bs))) (sym e) (plain_run bs) in
    g.same ∙ ap (behind out (at - from)) r ∙ behind_twice out (take n bs) (at - from) n (piece_from false (drop n bs)) ∙ ap (λ l. behind (out ++ take n bs) (at - from + n) (piece_from false l)) (drop-drop n at text)

pub going_on : (text : List ℕ) (from at n size b : ℕ) (out : List ℕ) → IsUtf8 text → Going text from at out → n ≡ prefix_len is_plain (drop at text) → GoesOn (drop (at + n) text) (b ∷ []) size
    → Going text from (at + n + size) ((out ++ take n (drop at text)) ++ b ∷ [])
going_on text from at n size b out u g e m =
    let bs = drop (at + n) text in
    let out' = out ++ take n (drop at text) in
    let k = at - from + n in
    let total : k + size ≡ at + n + size - from = omega (arith, g.order) in
    let place : at + n + (size - 1) + 1 ≡ at + n + size = omega (arith, m.some) in
    let low : get_or text (at + n + (size - 1)) 0 < 128 = subst (λ (i : ℕ). i < 128) (get_or-drop (at + n) text (size - 1) 0) m.ascii in
    record {
      cut = subst (IsCharBoundary text) place (IsCharBoundary-after_ascii text (at + n + (size - 1)) u (omega (arith, m.within, m.some, length-drop (at + n) text)) low);
      order = omega (arith, g.order);
      same = going_run text from at n out g e ∙ ap (behind out' k) m.same ∙ behind_twice out' (b ∷ []) k size (piece_from false (drop size bs)) ∙ ap (λ l. behind (out' ++ b ∷ []) (k + size) (piece_from false l)) (drop-drop size (at + n) text) ∙ ap (λ i. behind (out' ++ b ∷ []) i (piece_from false (drop (at + n + size) text))) total;
    }

pub going_end : (text : List ℕ) (from at n : ℕ) (out : List ℕ) → Going text from at out → n ≡ prefix_len is_plain (drop at text) → piece_from false (drop (at + n) text) ≡ no_piece
    → ◌≡◌ {A = Piece} (record { text = out ++ take n (drop at text); size = at + n - from }) (piece_from false (drop from text))
going_end text from at n out g e m =
    let out' = out ++ take n (drop at text) in
    let total : at - from + n ≡ at + n - from = omega (arith, g.order) in
    sym (going_run text from at n out g e ∙ ap (behind out' (at - from + n)) m ∙ behind_none out' (at - from + n) ∙ piece_eq out' out' _ _ refl total)
