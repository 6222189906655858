-- Whatever the reader of expressions holds can be completed.
use Rattle.std.proofs.Common.{◌≡◌, ℕ, pos, ◌+◌, ◌≤◌, List, [], ◌∷◌, ◌++◌, codes, refl, sym, ap, ◌∙◌, subst, arith, append_assoc, append-nil}
use Rattle.expr_token.specs.declared.token.Bracket.TheVariants.{Round, Square, Curly}
use Rattle.expr_token.specs.declared.token.Token.TheVariants.{Number, Word, Comma, Colon, Arrow, DoColon, ElseColon, OpeningRound, CallOpening, Closing, Quote, PartOpening, PartClosing, QuoteEnd, OpeningMap}
use Rattle.expr_core.specs.Language.{Mark, mark}
use Rattle.expr_core.specs.Grammar.{plain, Key, word_key, text_key, bare, inside, Tree, number, text, assign, parens, before, between, field, index, call, piped, map_of, choice, choice_else, no_trees, holds, Grouped, if_tail, deeper, key_marks, marks, part_marks, expressions}
use Rattle.expr_core.specs.Machine.{need}
use Rattle.expr_core.proofs.Steps.{Completes}
use Rattle.expr_core.proofs.Shapes.{Head, of_list, of_tuple, of_call, of_pipe, TextPart, MapEntry, Piece, left, front, open_paren, open_index, open_items, open_part, open_entry, open_test, open_inner, open_yes, open_no, Shape, wants, has, wants_assign, wants_field, wants_call, wants_arguments, wants_if, wants_do, wants_else, wants_part, wants_key, wants_colon, wants_quote, wants_arrow, style_need, seen, nest, with_commas, named, headed, parts_shown, entries_shown, to_key, shown, told, PartsFine, EntriesFine, FineHead, IsCall, Fine, FineShape, trees_of, made, bracket, need_le, all_grouped, item_marks, made_marks, made_grouped, made_fits, parts_from, parts_grouped, parts_fine, parts_marks, parts_further, entries_from, entries_grouped, entries_marks}

-- something that stands everywhere, and a name
abbrev one : Tree
one = number (pos 1)

abbrev letter : List ℕ
letter = codes "a"

-- the tree that it becomes
abbrev pub plugged : List Piece → Tree → Tree
plugged [] t = t
plugged (left o l ∷ ps) t = plugged ps (between o l t)
plugged (front o ∷ ps) t = plugged ps (before o t)
plugged (open_paren ∷ ps) t = plugged ps (parens t)
plugged (open_index u ∷ ps) t = plugged ps (index u t)
plugged (open_items h ts ∷ ps) t = plugged ps (made h (trees_of (ts ++ t ∷ [])))
plugged (open_part s qs ∷ ps) t = plugged ps (text s (parts_from (qs ++ (t, []) ∷ [])))
plugged (open_entry es k ∷ ps) t = plugged ps (map_of (entries_from (es ++ (k, t) ∷ [])))
plugged (open_test ∷ ps) t = plugged ps (choice bare t one)
plugged (open_inner ∷ ps) t = plugged ps (choice inside t one)
plugged (open_yes s u ∷ ps) t = plugged ps (choice s u t)
plugged (open_no s u y ∷ ps) t = plugged ps (choice_else s u y t)

-- the tokens that close it
abbrev pub rest : List Piece → List Mark
rest [] = []
rest (left o l ∷ ps) = rest ps
rest (front o ∷ ps) = rest ps
rest (open_paren ∷ ps) = mark (nest ps) (Closing Round) ∷ rest ps
rest (open_index u ∷ ps) = mark (nest ps) (Closing Square) ∷ rest ps
rest (open_items h ts ∷ ps) = mark (nest ps) (Closing (bracket h)) ∷ rest ps
rest (open_part s qs ∷ ps) = mark (nest ps) (PartClosing []) ∷ mark (nest ps) QuoteEnd ∷ rest ps
rest (open_entry es k ∷ ps) = mark (nest ps) (Closing Curly) ∷ rest ps
rest (open_test ∷ ps) = mark (nest ps + 1) Comma ∷ mark (nest ps + 1) DoColon ∷ mark (nest ps + 1) (Number (pos 1)) ∷ rest ps
rest (open_inner ∷ ps) = mark (nest ps + 1 + 1) Comma ∷ mark (nest ps + 1 + 1) DoColon ∷ mark (nest ps + 1 + 1) (Number (pos 1)) ∷ mark (nest ps) (Closing Round) ∷ rest ps
rest (open_yes s u ∷ ps) = if_tail (nest ps) s ++ rest ps
rest (open_no s u y ∷ ps) = if_tail (nest ps) s ++ rest ps

pub plug_grouped : (ps : List Piece) (t : Tree) → Fine ps → Grouped t → need (seen ps) ≤ holds t → Grouped (plugged ps t)
plug_grouped [] t f g h = g
plug_grouped (left o l ∷ ps) t f g h = plug_grouped ps (between o l t) f.4 (f.1, h, f.2, f.0, g) f.3
plug_grouped (front o ∷ ps) t f g h = plug_grouped ps (before o t) f (h, g) (need_le ps)
plug_grouped (open_paren ∷ ps) t f g h = plug_grouped ps (parens t) f g (omega (arith, need_le ps))
plug_grouped (open_index u ∷ ps) t f g h = plug_grouped ps (index u t) f.2 (f.1, h, f.0, g) (omega (arith, need_le ps))
plug_grouped (open_items a ts ∷ ps) t f g h =
    let us = trees_of (ts ++ t ∷ []) in
    plug_grouped ps (made a us) f.2 (made_grouped a ps us f.0 (all_grouped ts t f.1 h g)) (made_fits a ps us f.0)
plug_grouped (open_part s qs ∷ ps) t f g h =
    let rs = qs ++ (t, []) ∷ [] in
    plug_grouped ps (text s (parts_from rs)) f.1 (parts_grouped rs (parts_fine qs t [] f.0 h g)) (omega (arith, need_le ps))
plug_grouped (open_entry es k ∷ ps) t f g h = plug_grouped ps (map_of (entries_from (es ++ (k, t) ∷ []))) f.1 (entries_grouped es k t f.0 h g) (omega (arith, need_le ps))
plug_grouped (open_test ∷ ps) t f g h = plug_grouped ps (choice bare t one) f.1 (h, omega arith, g, tt) f.0
plug_grouped (open_inner ∷ ps) t f g h = plug_grouped ps (choice inside t one) f (h, omega arith, g, tt) (omega (arith, need_le ps))
plug_grouped (open_yes s u ∷ ps) t f g h = plug_grouped ps (choice s u t) f.3 (f.1, h, f.2, g) (style_need s ps f.0)
plug_grouped (open_no s u y ∷ ps) t f g h = plug_grouped ps (choice_else s u y t) f.5 (f.1, f.2, h, f.3, f.4, g) (style_need s ps f.0)

pub plug_marks : (ps : List Piece) (t : Tree) → marks 0 (plugged ps t) ≡ (shown ps ++ marks (nest ps) t) ++ rest ps
plug_marks [] t = sym (append-nil (marks 0 t))
plug_marks (left o l ∷ ps) t = plug_marks ps (between o l t) ∙ simp append_assoc
plug_marks (front o ∷ ps) t = plug_marks ps (before o t) ∙ simp append_assoc
plug_marks (open_paren ∷ ps) t = plug_marks ps (parens t) ∙ simp append_assoc
plug_marks (open_index u ∷ ps) t = plug_marks ps (index u t) ∙ simp append_assoc
plug_marks (open_test ∷ ps) t = plug_marks ps (choice bare t one) ∙ simp append_assoc
plug_marks (open_inner ∷ ps) t = plug_marks ps (choice inside t one) ∙ simp append_assoc
plug_marks (open_yes s u ∷ ps) t = plug_marks ps (choice s u t) ∙ simp append_assoc
plug_marks (open_no s u y ∷ ps) t = plug_marks ps (choice_else s u y t) ∙ simp append_assoc
plug_marks (open_items a ts ∷ ps) t =
    let us = trees_of (ts ++ t ∷ []) in
    let e : marks (nest ps) (made a us) ≡ headed (nest ps) a ++ ((with_commas (nest ps + 1) ts ++ marks (nest ps + 1) t) ++ mark (nest ps) (Closing (bracket a)) ∷ [])
    = made_marks a us (nest ps) ∙ ap (λ l. headed (nest ps) a ++ (l ++ mark (nest ps) (Closing (bracket a)) ∷ [])) (item_marks ts t (nest ps + 1)) in
    plug_marks ps (made a us) ∙ ap (λ l. (shown ps ++ l) ++ rest ps) e ∙ simp append_assoc
plug_marks (open_part s qs ∷ ps) t =
    let n = nest ps in
    let rs = qs ++ (t, []) ∷ [] in
    let e : part_marks n (parts_from rs) ≡ parts_shown n qs ++ mark (n + 1) PartOpening ∷ (marks (n + 1) t ++ mark n (PartClosing []) ∷ [])
    = parts_marks rs n ∙ parts_further qs t [] n in
    plug_marks ps (text s (parts_from rs)) ∙ ap (λ l. (shown ps ++ mark n (Quote s) ∷ (l ++ mark n QuoteEnd ∷ [])) ++ rest ps) e ∙ simp append_assoc
plug_marks (open_entry es k ∷ ps) t =
    let n = nest ps in
    plug_marks ps (map_of (entries_from (es ++ (k, t) ∷ []))) ∙ ap (λ l. (shown ps ++ mark (n + 1) OpeningMap ∷ (l ++ mark n (Closing Curly) ∷ [])) ++ rest ps) (entries_marks es k t (n + 1)) ∙ simp append_assoc

with_operand : (ps : List Piece) (t : Tree) (ms more : List Mark) → Fine ps → Grouped t → need (seen ps) ≤ holds t → shown ps ++ marks (nest ps) t ≡ ms ++ more → Completes expressions ms
with_operand ps t ms more f g h e = record {
  tree = plugged ps t;
  more = more ++ rest ps;
  lawful = plug_grouped ps t f g h;
  same = plug_marks ps t ∙ ap (λ l. l ++ rest ps) e ∙ append_assoc ms more (rest ps);
}

viable_call : (h : Head) (ps : List Piece) → IsCall h → FineHead h ps → Fine ps → Completes expressions (shown ps ++ named (nest ps) h)
viable_call of_list ps c g f = elim c [ ]
viable_call of_tuple ps c g f = elim c [ ]
viable_call (of_call a) ps c g f = with_operand ps (call a no_trees) (shown ps ++ named (nest ps) (of_call a)) (mark (nest ps + 1) CallOpening ∷ mark (nest ps) (Closing Round) ∷ []) f tt (omega (arith, need_le ps)) (simp append_assoc)
viable_call (of_pipe l a) ps c g f = with_operand ps (piped l a no_trees) (shown ps ++ named (nest ps) (of_pipe l a)) (mark (nest ps + 1) CallOpening ∷ mark (nest ps) (Closing Round) ∷ []) f (g.1, g.0, tt) g.2 (simp append_assoc)

-- a text that ends behind its parts
viable_text : (s : List ℕ) (qs : List TextPart) (ps : List Piece) → PartsFine qs → Fine ps → Completes expressions (told (wants_part s qs ps))
viable_text s qs ps g f =
    let n = nest ps in
    let t = text s (parts_from qs) in
    let e : marks n t ≡ mark n (Quote s) ∷ (parts_shown n qs ++ mark n QuoteEnd ∷ []) = ap (λ l. mark n (Quote s) ∷ (l ++ mark n QuoteEnd ∷ [])) (parts_marks qs n) in
    with_operand ps t (told (wants_part s qs ps)) (mark n QuoteEnd ∷ []) f (parts_grouped qs g) (omega (arith, need_le ps)) (ap (λ l. shown ps ++ l) e ∙ simp append_assoc)

-- a map that ends with an entry of this key
viable_entry : (es : List MapEntry) (k : Key) (ps : List Piece) (ms more : List Mark) → EntriesFine es → Fine ps → key_marks (nest ps + 1) k ≡ ms ++ more → Completes expressions (shown ps ++ (to_key (nest ps) es ++ ms))
viable_entry es k ps ms more g f e =
    let n = nest ps in
    let c = mark (n + 1) (Number (pos 1)) ∷ mark n (Closing Curly) ∷ [] in
    let t = map_of (entries_from (es ++ (k, one) ∷ [])) in
    let a : marks n t ≡ mark (n + 1) OpeningMap ∷ ((entries_shown (n + 1) es ++ ((ms ++ more) ++ marks (n + 1) one)) ++ mark n (Closing Curly) ∷ [])
    = ap (λ l. mark (n + 1) OpeningMap ∷ (l ++ mark n (Closing Curly) ∷ [])) (entries_marks es k one (n + 1) ∙ ap (λ l. entries_shown (n + 1) es ++ (l ++ marks (n + 1) one)) e) in
    with_operand ps t (shown ps ++ (to_key n es ++ ms)) (more ++ c) f (entries_grouped es k one g (omega arith) tt) (omega (arith, need_le ps)) (ap (λ l. shown ps ++ l) a ∙ simp append_assoc)

pub viable : (s : Shape) → FineShape s → Completes expressions (told s)
viable (wants ps) f = with_operand ps one (shown ps) (marks (nest ps) one) f tt (omega (arith, need_le ps)) refl
viable (has t ps) f = with_operand ps t (shown ps ++ marks (nest ps) t) [] f.2 f.0 f.1 (sym (append-nil (shown ps ++ marks (nest ps) t)))
viable (wants_assign ps) f = with_operand ps (assign 0 letter) (told (wants_assign ps)) (mark (nest ps) (Word 0 letter) ∷ []) f tt (omega (arith, need_le ps)) (simp append_assoc)
viable (wants_field t ps) f = with_operand ps (field t 0 letter) (told (wants_field t ps)) (mark (nest ps) (Word 0 letter) ∷ []) f.2 (f.1, f.0) (omega (arith, need_le ps)) (simp append_assoc)
viable (wants_call t ps) f = with_operand ps (piped t (plain 0 letter) no_trees) (told (wants_call t ps)) (mark (nest ps) (Word 0 letter) ∷ mark (nest ps + 1) CallOpening ∷ mark (nest ps) (Closing Round) ∷ []) f.3 (f.1, f.0, tt) f.2 (simp append_assoc)
viable (wants_arguments h ps) f = viable_call h ps f.0 f.1 f.2
viable (wants_if ps) f = with_operand ps (choice inside one one) (told (wants_if ps)) (mark (nest ps + 1 + 1) OpeningRound ∷ mark (nest ps + 1 + 1) (Number (pos 1)) ∷ mark (nest ps + 1 + 1) Comma ∷ mark (nest ps + 1 + 1) DoColon ∷ mark (nest ps + 1 + 1) (Number (pos 1)) ∷ mark (nest ps) (Closing Round) ∷ []) f (omega arith, omega arith, tt, tt) (omega (arith, need_le ps)) (simp append_assoc)
viable (wants_do s t ps) f = with_operand ps (choice s t one) (told (wants_do s t ps)) (mark (deeper s (nest ps)) DoColon ∷ mark (deeper s (nest ps)) (Number (pos 1)) ∷ if_tail (nest ps) s) f.3 (f.1, omega arith, f.2, tt) (style_need s ps f.0) (simp append_assoc)
viable (wants_else s t y ps) f = with_operand ps (choice_else s t y one) (told (wants_else s t y ps)) (mark (deeper s (nest ps)) ElseColon ∷ mark (deeper s (nest ps)) (Number (pos 1)) ∷ if_tail (nest ps) s) f.5 (f.1, f.2, omega arith, f.3, f.4, tt) (style_need s ps f.0) (simp append_assoc)
viable (wants_part s qs ps) f = viable_text s qs ps f.0 f.1
viable (wants_key es ps) f = subst (Completes expressions) (ap (λ l. shown ps ++ l) (append-nil (to_key (nest ps) es))) (viable_entry es (text_key letter) ps [] (key_marks (nest ps + 1) (text_key letter)) f.0 f.1 refl)
viable (wants_colon es at s ps) f = viable_entry es (word_key at s) ps (mark (nest ps + 1) (Word at s) ∷ []) (mark (nest ps + 1) Colon ∷ []) f.0 f.1 refl
viable (wants_quote es s ps) f = viable_entry es (text_key s) ps (mark (nest ps + 1) (Quote s) ∷ []) (mark (nest ps + 1) QuoteEnd ∷ mark (nest ps + 1) Arrow ∷ []) f.0 f.1 refl
viable (wants_arrow es s ps) f = viable_entry es (text_key s) ps (mark (nest ps + 1) (Quote s) ∷ mark (nest ps + 1) QuoteEnd ∷ []) (mark (nest ps + 1) Arrow ∷ []) f.0 f.1 refl
