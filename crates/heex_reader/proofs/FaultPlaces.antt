-- A fault of a text stands in it, or at its end.
use Rattle.std.proofs.Common.{◌≡◌, ℕ, zero, suc, ◌+◌, ◌-◌, ◌≤◌, List, [], ◌∷◌, ◌++◌, map, length, drop, Bool, true, false, if◌then◌else◌, not, ◌&&◌, ◌||◌, codes, Option, Some, None, Result, Ok, Err, sym, ap, subst, arith, inl, inr}
use Rattle.std.specs.Prelude.{IfErr, nat_eq}
use Rattle.std.specs.List.{slice_get}
use Rattle.std.specs.Str.{bytes_eq}
use Rattle.ast_core.specs.declared.expr.Expr.{Expr}
use Rattle.ast_core.specs.declared.pattern.Pattern.{Pattern}
use Rattle.ast_core.specs.declared.operators.Function.{Function}
use Rattle.ast_core.specs.Syntax as model
use Rattle.expr_token.specs.declared.token.Token.{Token}
use Rattle.expr_token.specs.declared.token.Token.TheVariants as t
use Rattle.expr_token.specs.declared.token.Bracket.TheVariants.{Curly}
use Rattle.expr_token.specs.declared.token.Placed.{Placed}
use Rattle.expr_token.specs.declared.token.Opened.{Opened}
use Rattle.expr_token.specs.declared.token.Opening.{Opening}
use Rattle.expr_token.specs.Tokens.{Row, reserved, long_signs, short_signs, token_where, reserved_token, is_reserved, name_of, cut, passed, call_mark, word_or_function, word_by, word, module_of, module_word, begins_name, begins, first_is, colon, atom_mark, digits_of, number_token, fitting, value_of, with_piece, short_by, long_by, sign, behind_piece, Beginning, white, lower, upper, digit, quote, other, beginning, token_by, first_token, placed, opened_by, opened, opened_or, opening_of, closes, tokens_from, placed_tokens, left_open, near_of, in_text, in_part}
use Rattle.std.specs.Char.{is_ascii_uppercase}
use Rattle.expr_core.specs.declared.fault.ExprFault.{ExprFault}
use Rattle.expr_core.specs.declared.fault.ExprFault.TheVariants as fault
use Rattle.expr_core.specs.declared.fault.ExprKind.{ExprKind}
use Rattle.expr_core.specs.declared.fault.ExprKind.TheVariants as kind
use Rattle.expr_core.specs.Language.{Mark, Language, spelled_by}
use Rattle.expr_core.specs.Functions.{earlier, unknown_call, if_unknown, function_of}
use Rattle.expr_core.specs.Grammar.{Tree, number, text, atom, nil, boolean, assign, name, parens, before, between, field, index, list, tuple, map_of, call, piped, choice, choice_else, Trees, no_trees, tree, Parts, no_parts, part, Entries, no_entries, entry, Callee, plain, marked, callee_token, callee_at, callee_name, Style, bare, inside, if_head, if_tail, deeper, key_marks, Key, word_key, text_key, marks, listed, more_listed, part_marks, entry_marks, more_entries, meaning, meanings, unknown, unknown_item, unknown_part, unknown_entry, expressions}
use Rattle.expr_core.specs.Grammar as grammar
use Rattle.expr_core.specs.Answers.{AtToken, OpenAt, OpenEnd, Refuses, RefusesExpr, UnknownAt}
use Rattle.expr_core.specs.PatternGrammar.{patterns}
use Rattle.expr_core.specs.Gives.{RefusedRightly, PatternRefusedRightly}
use Rattle.heex_reader.specs.SeenSigns.{StandsWithin}

-- Tokens.

-- the byte of a name in a token
abbrev pub TokenWithin : ℕ → Token → Type 0
TokenWithin m (t.Word at s) = at ≤ m
TokenWithin m (t.Function at s) = at ≤ m
TokenWithin m x = Unit {0}

abbrev pub CutWithin : ℕ → Option Token → Type 0
CutWithin m None = Unit {0}
CutWithin m (Some x) = TokenWithin m x

abbrev pub AllPlaced : ℕ → List Placed → Type 0
AllPlaced m [] = Unit {0}
AllPlaced m (p ∷ ps) = (p.at ≤ m) × TokenWithin m p.token × AllPlaced m ps

abbrev pub AllTokens : ℕ → List Token → Type 0
AllTokens m [] = Unit {0}
AllTokens m (x ∷ xs) = TokenWithin m x × AllTokens m xs

abbrev pub AllOpened : ℕ → List Opened → Type 0
AllOpened m [] = Unit {0}
AllOpened m (o ∷ os) = (o.at ≤ m) × AllOpened m os

placed_append : (m : ℕ) (ps qs : List Placed) → AllPlaced m ps → AllPlaced m qs → AllPlaced m (ps ++ qs)
placed_append m [] qs h k = k
placed_append m (p ∷ ps) qs h k = (h.0, h.1, placed_append m ps qs h.2 k)

pick_cut : {C : Type 0} (m : ℕ) (x : Bool) (c d : C) (token : C → Option Token) → CutWithin m (token c) → CutWithin m (token d) → CutWithin m (token (if x then c else d))
pick_cut m true c d token h k = h
pick_cut m false c d token h k = k

pick_token : (m : ℕ) (x : Bool) (c d : Token) → TokenWithin m c → TokenWithin m d → TokenWithin m (if x then c else d)
pick_token m true c d h k = h
pick_token m false c d h k = k

pick_option : (m : ℕ) (x : Bool) (o q : Option Token) → CutWithin m o → CutWithin m q → CutWithin m (if x then o else q)
pick_option m true o q h k = h
pick_option m false o q h k = k

abbrev pub AllRows : ℕ → List Row → Type 0
AllRows m [] = Unit {0}
AllRows m (r ∷ rs) = TokenWithin m r.1 × AllRows m rs

row_within : (m : ℕ) (p : List ℕ → Bool) (rs : List Row) → AllRows m rs → CutWithin m (token_where p rs)
row_within m p [] h = tt
row_within m p (r ∷ rs) h = pick_option m (p r.0) (Some r.1) (token_where p rs) h.0 (row_within m p rs h.1)

reserved_rows : (m : ℕ) → AllRows m reserved
reserved_rows m = (tt, (tt, (tt, (tt, (tt, (tt, (tt, (tt, (tt, (tt, (tt, tt)))))))))))

long_rows : (m : ℕ) → AllRows m long_signs
long_rows m = (tt, (tt, (tt, (tt, (tt, (tt, (tt, (tt, (tt, (tt, (tt, tt)))))))))))

short_rows : (m : ℕ) → AllRows m short_signs
short_rows m = (tt, (tt, (tt, (tt, (tt, (tt, (tt, (tt, (tt, (tt, (tt, tt)))))))))))

word_within : (m at : ℕ) (bs : List ℕ) → at ≤ m → CutWithin m (word at bs).token
word_within m at bs h = by (reserved_token (name_of bs)) (row_within m (bytes_eq (name_of bs)) reserved (reserved_rows m))
  where
    marked_by : (marks : List ℕ) → CutWithin m (word_or_function at (name_of bs) marks).token
    marked_by [] = h
    marked_by (b ∷ ms) = h

    by : (o : Option Token) → CutWithin m o → CutWithin m (word_by o at (name_of bs) (drop (length (name_of bs)) bs)).token
    by None k = marked_by (call_mark (drop (length (name_of bs)) bs))
    by (Some x) k =
        pick_cut m (bytes_eq (name_of bs) (codes "do") && begins (codes ":") (drop (length (name_of bs)) bs)) (cut t.DoColon 3) _ (λ c. c.token) tt
        (pick_cut m (bytes_eq (name_of bs) (codes "else") && begins (codes ":") (drop (length (name_of bs)) bs)) (cut t.ElseColon 5) (cut x (length (name_of bs))) (λ c. c.token) tt k)

module_within : (m at : ℕ) (bs : List ℕ) → at ≤ m → CutWithin m (module_word at bs).token
module_within m at bs h =
    let rest = drop (length (module_of bs)) bs in
    let behind = drop 1 rest in
    let called = name_of behind in
    let full = module_of bs ++ (codes "." ++ (called ++ call_mark (drop (length called) behind))) in
    pick_cut m (begins (codes ".") rest && (first_is begins_name behind && not (is_reserved called))) (cut (t.Function at full) (length full)) (cut t.Foreign (length (module_of bs))) (λ c. c.token) h tt

number_within : (m : ℕ) (o : Option ℕ) → TokenWithin m (number_token o)
number_within m None = tt
number_within m (Some n) = tt

colon_within : (m : ℕ) (bs : List ℕ) → CutWithin m (colon bs).token
colon_within m bs =
    let name = name_of bs in
    let full = name ++ atom_mark (drop (length name) bs) in
    pick_cut m (first_is is_ascii_uppercase bs || is_reserved name) (cut t.Foreign 1) _ (λ c. c.token) tt (pick_cut m (first_is begins_name bs) (cut (t.Atom full) (length full + 1)) (cut t.Colon 1) (λ c. c.token) tt tt)

short_within : (m : ℕ) (o : Option Token) → CutWithin m o → CutWithin m (short_by o).token
short_within m None h = tt
short_within m (Some x) h = h

long_within : (m : ℕ) (o : Option Token) (bs : List ℕ) → CutWithin m o → CutWithin m (long_by o bs).token
long_within m None bs h = short_within m (token_where (λ s. begins s bs) short_signs) (row_within m (λ s. begins s bs) short_signs (short_rows m))
long_within m (Some x) bs h = h

sign_within : (m : ℕ) (last : Option Token) (parted : Bool) (bs : List ℕ) → CutWithin m (sign (near_of last) parted bs).token
sign_within m last parted bs =
    let near = near_of last in
    pick_cut m (begins (codes "(") bs) (cut (if near.name then t.CallOpening else t.OpeningRound) 1) _ (λ c. c.token) (pick_token m near.name t.CallOpening t.OpeningRound tt tt)
    (pick_cut m (begins (codes "[") bs) (cut (if near.value then t.IndexOpening else t.OpeningSquare) 1) _ (λ c. c.token) (pick_token m near.value t.IndexOpening t.OpeningSquare tt tt)
    (pick_cut m (begins (codes ".") bs) (cut (if near.value then t.Dot else t.Foreign) 1) _ (λ c. c.token) (pick_token m near.value t.Dot t.Foreign tt tt)
    (pick_cut m (begins (codes ":") bs) (colon (drop 1 bs)) _ (λ c. c.token) (colon_within m (drop 1 bs))
    (pick_cut m (begins (codes "}") bs) (if parted then with_piece t.PartClosing (drop 1 bs) else cut (t.Closing Curly) 1) _ (λ c. c.token) (pick_cut m parted (with_piece t.PartClosing (drop 1 bs)) (cut (t.Closing Curly) 1) (λ c. c.token) tt tt)
    (long_within m (token_where (λ s. begins s bs) long_signs) bs (row_within m (λ s. begins s bs) long_signs (long_rows m)))))))

piece_within : (m : ℕ) (bs : List ℕ) → CutWithin m (behind_piece bs).token
piece_within m bs =
    pick_cut m (begins (codes "\"") bs) (cut t.QuoteEnd 1) _ (λ c. c.token) tt
    (pick_cut m (begins (codes "#{") bs) (cut t.PartOpening 2) _ (λ c. c.token) tt
    (pick_cut m (begins (codes "\\") bs && nat_eq (length bs) 1) passed (cut t.Foreign 1) (λ c. c.token) tt tt))

cut_within : (m at : ℕ) (last : Option Token) (quoted parted : Bool) (b : ℕ) (bs : List ℕ) → at ≤ m → CutWithin m (first_token quoted at (near_of last) parted b bs).token
cut_within m at last true parted b bs h = piece_within m (b ∷ bs)
cut_within m at last false parted b bs h = by (beginning b)
  where
    by : (g : Beginning) → CutWithin m (token_by g at (near_of last) parted (b ∷ bs)).token
    by white = tt
    by lower = word_within m at (b ∷ bs) h
    by upper = module_within m at (b ∷ bs) h
    by digit = number_within m (fitting (value_of 0 (digits_of (b ∷ bs))))
    by quote = tt
    by other = sign_within m last parted (b ∷ bs)

placed_within : (m at : ℕ) (o : Option Token) → at ≤ m → CutWithin m o → AllPlaced m (placed at o)
placed_within m at None h k = tt
placed_within m at (Some x) h k = (h, k, tt)

tokens_within : (m at : ℕ) (last : Option Token) (os : List Opened) (n : ℕ) (bs : List ℕ) → at + length bs ≤ m → AllPlaced m (tokens_from at (near_of last) os n bs)
tokens_within m at last os n [] h = tt
tokens_within m at last os (suc n) (b ∷ bs) h = tokens_within m (at + 1) last os n bs (omega (arith, h))
tokens_within m at last os zero (b ∷ bs) h =
    let c = first_token (in_text os) at (near_of last) (in_part os) b bs in
    let here : at ≤ m = omega (arith, h) in
    placed_append m (placed at c.token) (tokens_from (at + 1) (near_of c.token) (opened_by os (placed at c.token)) (c.size - 1) bs)
    (placed_within m at c.token here (cut_within m at last (in_text os) (in_part os) b bs here))
    (tokens_within m (at + 1) c.token (opened_by os (placed at c.token)) (c.size - 1) bs (omega (arith, h)))

all_within : (s : List ℕ) → AllPlaced (length s) (placed_tokens s)
all_within s = tokens_within (length s) 0 None [] 0 s (omega arith)

opened_within : (m : ℕ) (o : Option Opening) (b : Bool) (at : ℕ) (os : List Opened) → at ≤ m → AllOpened m os → AllOpened m (opened_or o b at os)
opened_within m (Some k) b at os h g = (h, g)
opened_within m None false at os h g = g
opened_within m None true at [] h g = tt
opened_within m None true at (o ∷ os) h g = g.1

open_within : (m : ℕ) (os : List Opened) (ps : List Placed) → AllPlaced m ps → AllOpened m os → AllOpened m (opened_by os ps)
open_within m os [] h g = g
open_within m os (p ∷ ps) h g = open_within m (opened os p) ps h.2 (opened_within m (opening_of p.token) (closes p.token) p.at os h.0 g)

-- Names of calls.

abbrev pub AtWithin : ℕ → Option ℕ → Type 0
AtWithin m None = Unit {0}
AtWithin m (Some at) = at ≤ m

abbrev pub AllMarks : ℕ → List Mark → Type 0
AllMarks m [] = Unit {0}
AllMarks m (x ∷ xs) = TokenWithin m x.token × AllMarks m xs

marks_left : (m : ℕ) (xs ys : List Mark) → AllMarks m (xs ++ ys) → AllMarks m xs
marks_left m [] ys h = tt
marks_left m (x ∷ xs) ys h = (h.0, marks_left m xs ys h.1)

marks_right : (m : ℕ) (xs ys : List Mark) → AllMarks m (xs ++ ys) → AllMarks m ys
marks_right m [] ys h = h
marks_right m (x ∷ xs) ys h = marks_right m xs ys h.1

spelled_marks : (m : ℕ) (xs : List Mark) → AllTokens m (spelled_by xs) → AllMarks m xs
spelled_marks m [] h = tt
spelled_marks m (x ∷ xs) h = (h.0, spelled_marks m xs h.1)

placed_tokens_within : (m : ℕ) (ps : List Placed) → AllPlaced m ps → AllTokens m (map (λ p. p.token) ps)
placed_tokens_within m [] h = tt
placed_tokens_within m (p ∷ ps) h = (h.1, placed_tokens_within m ps h.2)

earlier_within : (m : ℕ) (o q : Option ℕ) → AtWithin m o → AtWithin m q → AtWithin m (earlier o q)
earlier_within m None q h k = k
earlier_within m (Some at) q h k = h

callee_within : (m : ℕ) (c : Callee) → TokenWithin m (callee_token c) → callee_at c ≤ m
callee_within m (plain at s) h = h
callee_within m (marked at s) h = h

unknown_by : (m at : ℕ) (o : Option Function) → at ≤ m → AtWithin m (if_unknown at o)
unknown_by m at None h = h
unknown_by m at (Some f) h = tt

unknown_within : (m at : ℕ) (s : List ℕ) (es : List model.Expr) → at ≤ m → AtWithin m (unknown_call at s es)
unknown_within m at s es h = unknown_by m at (function_of s (length es)) h

mutual
  at_within : (m n : ℕ) (x : Tree) → AllMarks m (marks n x) → AtWithin m (unknown x)
  at_within m n (number d) h = tt
  at_within m n (text s ps) h = parts_within m n ps (marks_left m (part_marks n ps) _ h.1)
  at_within m n (atom s) h = tt
  at_within m n nil h = tt
  at_within m n (boolean b) h = tt
  at_within m n (assign i s) h = tt
  at_within m n (name i s) h = tt
  at_within m n (parens x) h = at_within m (n + 1) x (marks_left m (marks (n + 1) x) _ h.1)
  at_within m n (before o x) h = at_within m (n + 1) x h.1
  at_within m n (between o l r) h = earlier_within m (unknown l) (unknown r) (at_within m n l (marks_left m (marks n l) _ h)) (at_within m n r (marks_right m (marks n l) _ h).1)
  at_within m n (field x i s) h = at_within m n x (marks_left m (marks n x) _ h)
  at_within m n (index x y) h =
      earlier_within m (unknown x) (unknown y) (at_within m n x (marks_left m (marks n x) _ h)) (at_within m (n + 1) y (marks_left m (marks (n + 1) y) _ (marks_right m (marks n x) _ h).1))
  at_within m n (list ts) h = items_within m (n + 1) ts (marks_left m (listed (n + 1) ts) _ h.1)
  at_within m n (tuple ts) h = items_within m (n + 1) ts (marks_left m (listed (n + 1) ts) _ h.1)
  at_within m n (map_of es) h = entries_within m (n + 1) es (marks_left m (entry_marks (n + 1) es) _ h.1)
  at_within m n (call c ts) h =
      earlier_within m (unknown_call (callee_at c) (callee_name c) (meanings ts)) (unknown_item ts) (unknown_within m (callee_at c) (callee_name c) (meanings ts) (callee_within m c h.0))
      (items_within m (n + 1) ts (marks_left m (listed (n + 1) ts) _ h.1.1))
  at_within m n (piped l c ts) h =
      let r = marks_right m (marks n l) _ h in
      earlier_within m (unknown l) (earlier (unknown_call (callee_at c) (callee_name c) (meaning l ∷ meanings ts)) (unknown_item ts)) (at_within m n l (marks_left m (marks n l) _ h))
      (earlier_within m (unknown_call (callee_at c) (callee_name c) (meaning l ∷ meanings ts)) (unknown_item ts) (unknown_within m (callee_at c) (callee_name c) (meaning l ∷ meanings ts) (callee_within m c r.1.0))
      (items_within m (n + 1) ts (marks_left m (listed (n + 1) ts) _ r.1.1.1)))
  at_within m n (choice s x y) h =
      let r = marks_right m (if_head n s) _ h in
      earlier_within m (unknown x) (unknown y) (at_within m (deeper s n) x (marks_left m (marks (deeper s n) x) _ r)) (at_within m (deeper s n) y (marks_left m (marks (deeper s n) y) _ (marks_right m (marks (deeper s n) x) _ r).1.1))
  at_within m n (choice_else s x y z) h =
      let r = marks_right m (if_head n s) _ h in
      let q = (marks_right m (marks (deeper s n) x) _ r).1.1 in
      earlier_within m (unknown x) (earlier (unknown y) (unknown z)) (at_within m (deeper s n) x (marks_left m (marks (deeper s n) x) _ r))
      (earlier_within m (unknown y) (unknown z) (at_within m (deeper s n) y (marks_left m (marks (deeper s n) y) _ q))
      (at_within m (deeper s n) z (marks_left m (marks (deeper s n) z) _ (marks_right m (marks (deeper s n) y) _ q).1.1)))

  items_within : (m n : ℕ) (ts : Trees) → AllMarks m (listed n ts) → AtWithin m (unknown_item ts)
  items_within m n no_trees h = tt
  items_within m n (tree x ts) h = earlier_within m (unknown x) (unknown_item ts) (at_within m n x (marks_left m (marks n x) _ h)) (more_items_within m n ts (marks_right m (marks n x) _ h))

  more_items_within : (m n : ℕ) (ts : Trees) → AllMarks m (more_listed n ts) → AtWithin m (unknown_item ts)
  more_items_within m n no_trees h = tt
  more_items_within m n (tree x ts) h = earlier_within m (unknown x) (unknown_item ts) (at_within m n x (marks_left m (marks n x) _ h.1)) (more_items_within m n ts (marks_right m (marks n x) _ h.1))

  parts_within : (m n : ℕ) (ps : Parts) → AllMarks m (part_marks n ps) → AtWithin m (unknown_part ps)
  parts_within m n no_parts h = tt
  parts_within m n (part x s ps) h =
      earlier_within m (unknown x) (unknown_part ps) (at_within m (n + 1) x (marks_left m (marks (n + 1) x) _ h.1)) (parts_within m n ps (marks_right m (marks (n + 1) x) _ h.1).1)

  entries_within : (m n : ℕ) (es : Entries) → AllMarks m (entry_marks n es) → AtWithin m (unknown_entry es)
  entries_within m n no_entries h = tt
  entries_within m n (entry k x es) h =
      let r = marks_right m (key_marks n k) _ h in
      earlier_within m (unknown x) (unknown_entry es) (at_within m n x (marks_left m (marks n x) _ r)) (more_entries_within m n es (marks_right m (marks n x) _ r))

  more_entries_within : (m n : ℕ) (es : Entries) → AllMarks m (more_entries n es) → AtWithin m (unknown_entry es)
  more_entries_within m n no_entries h = tt
  more_entries_within m n (entry k x es) h =
      let r = marks_right m (key_marks n k) _ h.1 in
      earlier_within m (unknown x) (unknown_entry es) (at_within m n x (marks_left m (marks n x) _ r)) (more_entries_within m n es (marks_right m (marks n x) _ r))

-- Faults.

stands_within : (m : ℕ) (ps : List Placed) (n : ℕ) (p : Placed) → AllPlaced m ps → slice_get ps n ≡ Some p → p.at ≤ m
stands_within m [] n p h e = cc
stands_within m (q ∷ ps) zero p h e = let same : q ≡ p = cc in subst (λ (r : Placed). r.at ≤ m) same h.0
stands_within m (q ∷ ps) (suc n) p h e = stands_within m ps n p h.2 e

innermost_within : (m at : ℕ) (os : List Opened) → AllOpened m os → OpenAt os at → at ≤ m
innermost_within m at [] h k = absurd k
innermost_within m at (o ∷ os) h k = omega (arith, h.0, k)

token_within : (s : List ℕ) (Fault : List Token → ℕ → Type 0) (at : ℕ) → AtToken s Fault at → at ≤ length s
token_within s Fault at a = omega (arith, a.stands.place, stands_within (length s) (placed_tokens s) a.n a.stands.token (all_within s) a.stands.is)

opening_within : (L : Language) (s : List ℕ) (at : ℕ) → OpenEnd L s at → at ≤ length s
opening_within L s at e = innermost_within (length s) at (left_open s) (open_within (length s) [] (placed_tokens s) (all_within s) tt) e.opening

refusal_within : (L : Language) (s : List ℕ) (at : ℕ) (k : ExprKind) → Refuses L s at k → at ≤ length s
refusal_within L s at kind.Stray (inl a) = token_within s _ at a
refusal_within L s at kind.Stray (inr e) = omega (arith, e.place)
refusal_within L s at kind.Unclosed h = opening_within L s at h
refusal_within L s at kind.BadNumber h = token_within s _ at h
refusal_within L s at kind.TooDeep h = token_within s _ at h
refusal_within L s at kind.UnknownFunction h = absurd h

call_within : (s : List ℕ) (at : ℕ) → UnknownAt s at → at ≤ length s
call_within s at u =
    let tokens : AllTokens (length s) (spelled_by (marks 0 u.1.tree)) = subst (AllTokens (length s)) (sym u.1.reads.spelled) (placed_tokens_within (length s) (placed_tokens s) (all_within s)) in
    let named : unknown u.1.tree ≡ Some at = ap (λ (x : grammar.Meant). x.unknown) u.1.means in
    subst (AtWithin (length s)) named (at_within (length s) 0 u.1.tree (spelled_marks (length s) (marks 0 u.1.tree) tokens))

expr_refusal_within : (s : List ℕ) (at : ℕ) (k : ExprKind) → RefusesExpr s at k → at ≤ length s
expr_refusal_within s at kind.Stray h = refusal_within expressions s at kind.Stray h
expr_refusal_within s at kind.Unclosed h = refusal_within expressions s at kind.Unclosed h
expr_refusal_within s at kind.BadNumber h = refusal_within expressions s at kind.BadNumber h
expr_refusal_within s at kind.TooDeep h = refusal_within expressions s at kind.TooDeep h
expr_refusal_within s at kind.UnknownFunction h = call_within s at h

pub expr_within : (s : List ℕ) (r : Result Expr ExprFault) → IfErr r (λ f. RefusedRightly s f) → IfErr r (λ f. StandsWithin (length s) f)
expr_within s (Ok e) h = tt
expr_within s (Err (fault.Refused at k)) h = expr_refusal_within s at k h
expr_within s (Err fault.OutOfMemory) h = tt

pub pattern_within : (s : List ℕ) (r : Result Pattern ExprFault) → IfErr r (λ f. PatternRefusedRightly s f) → IfErr r (λ f. StandsWithin (length s) f)
pattern_within s (Ok p) h = tt
pattern_within s (Err (fault.Refused at k)) h = refusal_within patterns s at k h
pattern_within s (Err fault.OutOfMemory) h = tt
