-- What the reader of expressions takes is a tree that is begun.
use Rattle.std.proofs.Common.{◌≡◌, ℕ, ◌+◌, ◌≤◌, List, [], ◌∷◌, ◌++◌, map, Bool, true, false, ◌&&◌, Option, Some, None, refl, sym, ap, ◌∙◌, subst, arith, append_assoc, append-nil}
use Rattle.std.specs.Prelude.{nat_le, if◌then◌else◌}
use Rattle.std.proofs.lemmas.Bool.{leb-true}
use Rattle.std.proofs.lemmas.List.{map-append}
use Rattle.ast_core.specs.declared.operators.UnaryOp.TheVariants as un
use Rattle.ast_core.specs.declared.operators.BinaryOp.{BinaryOp}
use Rattle.ast_core.specs.declared.operators.BinaryOp.TheVariants as op
use Rattle.ast_core.specs.Syntax as x
use Rattle.ast_core.specs.ExprView.{expr_part, parts_of}
use Rattle.expr_token.specs.declared.token.Bracket.{Bracket}
use Rattle.expr_token.specs.declared.token.Bracket.TheVariants.{Round, Square, Curly}
use Rattle.expr_token.specs.declared.token.Token.{Token}
use Rattle.expr_token.specs.declared.token.Token.TheVariants.{Number, Word, Function, Atom, Nil, Boolean, At, Dot, Operator, Bang, NotWord, Pipe, Comma, Colon, Arrow, If, DoColon, ElseColon, OpeningRound, CallOpening, OpeningSquare, IndexOpening, OpeningCurly, OpeningMap, Closing, Quote, PartOpening, PartClosing, QuoteEnd}
use Rattle.expr_core.specs.Language.{Mark, mark}
use Rattle.expr_core.specs.Functions.{earlier}
use Rattle.expr_core.specs.Grammar.{binds, left_of, may_deny, plain, marked, Key, word_key, text_key, key_text, Style, bare, inside, Tree, number, text, atom, nil, boolean, assign, name, parens, before, between, field, index, map_of, choice, choice_else, no_trees, no_entries, holds, denies, Grouped, marks, plain_parts, meaning, unknown, unknown_part, unknown_entry}
use Rattle.expr_core.specs.Machine.{Value, Frames, operand, indexed, items, test, State, want, have, want_assign, want_field, want_call, want_arguments, want_if, want_do, want_else, want_part, want_key, closed, finish, map_from, need, reduce, put_operator, put_pipe, put_closing, put_part, put_comma, put_empty, open_call, empty_map, on_want, on_have, on_key, step}
use Rattle.expr_core.proofs.Opens.{means, held, callee_of}
use Rattle.expr_core.proofs.Steps.{Taken}
use Rattle.expr_core.proofs.Shapes.{Head, of_list, of_tuple, of_call, of_pipe, TextPart, MapEntry, Piece, left, front, open_paren, open_index, open_items, open_part, open_entry, open_test, open_inner, open_yes, open_no, Shape, wants, has, wants_assign, wants_field, wants_call, wants_arguments, wants_if, wants_do, wants_else, wants_part, wants_key, wants_colon, wants_quote, wants_arrow, seen_head, unknown_in, seen_parts, unknown_parts, seen_entries, unknown_entries, seen, seen_shape, nest, with_commas, named, headed, shown, depth, told, AllFine, FineHead, IsCall, Fine, FineShape, need_le, trees_of, made, bracket, all_grouped, all_fine, unknown_more, item_marks, comma_marks, made_marks, made_grouped, made_fits, made_end, made_empty, parts_from, parts_grouped, parts_fine, parts_marks, parts_further, parts_seen, parts_unknown, parts_mean, parts_unknown_of, entries_from, entries_grouped, entries_fine, entries_marks, entries_further, entries_seen, entries_unknown, entries_mean, entries_unknown_of}

-- What a value and what is below it stand for, with the same tokens as before.
pub record Found (t : Tree) (ps : List Piece) (p : Value × Frames) : Type 0 where
  pub tree : Tree
  pub pieces : List Piece
  pub is : p ≡ (held tree, seen pieces)
  pub grouped : Grouped tree
  pub fits : need (seen pieces) ≤ holds tree
  pub fine : Fine pieces
  pub same : shown pieces ++ marks (nest pieces) tree ≡ shown ps ++ marks (nest ps) t

found_here : (t : Tree) (ps : List Piece) → Grouped t → need (seen ps) ≤ holds t → Fine ps → Found t ps (held t, seen ps)
found_here t ps g h f = record { tree = t; pieces = ps; is = refl; grouped = g; fits = h; fine = f; same = refl }

either : (b : Bool) (t : Tree) (ps : List Piece) (p q : Value × Frames) → Found t ps p → Found t ps q → Found t ps (if b then p else q)
either true t ps p q a b = a
either false t ps p q a b = b

regrouped : (t u : Tree) (ps qs : List Piece) (p : Value × Frames) → shown qs ++ marks (nest qs) u ≡ shown ps ++ marks (nest ps) t → Found u qs p → Found t ps p
regrouped t u ps qs p e f = record { tree = f.tree; pieces = f.pieces; is = f.is; grouped = f.grouped; fits = f.fits; fine = f.fine; same = f.same ∙ e }

pub reduces : (ps : List Piece) (n : ℕ) (t : Tree) → Grouped t → need (seen ps) ≤ holds t → Fine ps → Found t ps (reduce n (held t) (seen ps))
reduces [] n t g h f = found_here t [] g h f
reduces (left o l ∷ ps) n t g h f =
    either (nat_le n (binds o)) t (left o l ∷ ps) _ _
    (regrouped t (between o l t) (left o l ∷ ps) ps _ (simp append_assoc) (reduces ps n (between o l t) (f.1, h, f.2, f.0, g) f.3 f.4))
    (found_here t (left o l ∷ ps) g h f)
reduces (front o ∷ ps) n t g h f =
    either (nat_le n 10) t (front o ∷ ps) _ _
    (regrouped t (before o t) (front o ∷ ps) ps _ (simp append_assoc) (reduces ps n (before o t) (h, g) (need_le ps) f))
    (found_here t (front o ∷ ps) g h f)
reduces (open_paren ∷ ps) n t g h f = found_here t (open_paren ∷ ps) g h f
reduces (open_index u ∷ ps) n t g h f = found_here t (open_index u ∷ ps) g h f
reduces (open_items a ts ∷ ps) n t g h f = found_here t (open_items a ts ∷ ps) g h f
reduces (open_part s qs ∷ ps) n t g h f = found_here t (open_part s qs ∷ ps) g h f
reduces (open_entry es k ∷ ps) n t g h f = found_here t (open_entry es k ∷ ps) g h f
reduces (open_test ∷ ps) n t g h f = found_here t (open_test ∷ ps) g h f
reduces (open_inner ∷ ps) n t g h f = found_here t (open_inner ∷ ps) g h f
reduces (open_yes inside u ∷ ps) n t g h f = found_here t (open_yes inside u ∷ ps) g h f
reduces (open_no inside u y ∷ ps) n t g h f = found_here t (open_no inside u y ∷ ps) g h f
reduces (open_yes bare u ∷ ps) n t g h f =
    either (nat_le n 0) t (open_yes bare u ∷ ps) _ _
    (regrouped t (choice bare u t) (open_yes bare u ∷ ps) ps _ (simp (append_assoc, append-nil)) (reduces ps n (choice bare u t) (f.1, h, f.2, g) f.0 f.3))
    (found_here t (open_yes bare u ∷ ps) g h f)
reduces (open_no bare u y ∷ ps) n t g h f =
    either (nat_le n 0) t (open_no bare u y ∷ ps) _ _
    (regrouped t (choice_else bare u y t) (open_no bare u y ∷ ps) ps _ (simp (append_assoc, append-nil)) (reduces ps n (choice_else bare u y t) (f.1, f.2, h, f.3, f.4, g) f.0 f.5))
    (found_here t (open_no bare u y ∷ ps) g h f)

-- What the reader holds next stands for the tokens so far and one more.
abbrev pub Holds : List Mark → Token → State → Type 0
Holds ms tok s = Taken State Shape seen_shape FineShape told depth ms tok s

abbrev pub Takes : List Mark → Token → Option State → Type 0
Takes ms tok None = Unit {0}
Takes ms tok (Some s) = Holds ms tok s

-- the same from equal marks
same_marks : (ms ns : List Mark) (tok : Token) (o : Option State) → ms ≡ ns → Takes ms tok o → Takes ns tok o
same_marks ms ns tok o e h = subst (λ l. Takes l tok o) e h

abbrev pub all_of : Tree → List Piece → List Mark
all_of t ps = shown ps ++ marks (nest ps) t

operator_takes : (o : BinaryOp) (t : Tree) (ps : List Piece) → Grouped t → need (seen ps) ≤ holds t → Fine ps → Takes (all_of t ps) (Operator o) (put_operator o (held t) (seen ps))
operator_takes o t ps g i f = choose (nat_le (left_of (binds o)) (holds t)) (nat_le (need (seen ps)) (binds o)) (may_deny o (denies t)) (leb-true _ _) (leb-true _ _) (λ e. e)
  where
    choose : (a b c : Bool) → (a ≡ true → left_of (binds o) ≤ holds t) → (b ≡ true → need (seen ps) ≤ binds o) → (c ≡ true → may_deny o (denies t) ≡ true) → Takes (all_of t ps) (Operator o) (if a && (b && c) then Some (want (operand o (held t) ∷ seen ps)) else None)
    choose true true true h k l = record { shape = wants (left o t ∷ ps); is = refl; fine = (g, h refl, l refl, k refl, f); same = simp append_assoc }
    choose true true false h k l = tt
    choose true false c h k l = tt
    choose false b c h k l = tt

pipe_takes : (t : Tree) (ps : List Piece) → Grouped t → need (seen ps) ≤ holds t → Fine ps → Takes (all_of t ps) Pipe (put_pipe (held t) (seen ps))
pipe_takes t ps g i f = choose (nat_le 5 (holds t)) (nat_le (need (seen ps)) 5) (leb-true _ _) (leb-true _ _)
  where
    choose : (a b : Bool) → (a ≡ true → 5 ≤ holds t) → (b ≡ true → need (seen ps) ≤ 5) → Takes (all_of t ps) Pipe (if a && b then Some (want_call (held t) (seen ps)) else None)
    choose true true h k = record { shape = wants_call t ps; is = refl; fine = (g, h refl, k refl, f); same = simp append_assoc }
    choose true false h k = tt
    choose false b h k = tt

dot_takes : (t : Tree) (ps : List Piece) → Grouped t → Fine ps → Takes (all_of t ps) Dot (if nat_le 11 (holds t) then Some (want_field (held t) (seen ps)) else None)
dot_takes t ps g f = choose (nat_le 11 (holds t)) (leb-true _ _)
  where
    choose : (a : Bool) → (a ≡ true → 11 ≤ holds t) → Takes (all_of t ps) Dot (if a then Some (want_field (held t) (seen ps)) else None)
    choose true h = record { shape = wants_field t ps; is = refl; fine = (g, h refl, f); same = simp append_assoc }
    choose false h = tt

index_takes : (t : Tree) (ps : List Piece) → Grouped t → Fine ps → Takes (all_of t ps) IndexOpening (if nat_le 11 (holds t) then Some (want (indexed (held t) ∷ seen ps)) else None)
index_takes t ps g f = choose (nat_le 11 (holds t)) (leb-true _ _)
  where
    choose : (a : Bool) → (a ≡ true → 11 ≤ holds t) → Takes (all_of t ps) IndexOpening (if a then Some (want (indexed (held t) ∷ seen ps)) else None)
    choose true h = record { shape = wants (open_index t ∷ ps); is = refl; fine = (g, h refl, f); same = simp append_assoc }
    choose false h = tt

-- only a name has the parenthesis of a call behind it
call_takes : (t : Tree) (ps : List Piece) → Fine ps → Takes (all_of t ps) CallOpening (open_call (callee_of t) (seen ps))
call_takes (name at s) ps f = record { shape = wants (open_items (of_call (plain at s)) [] ∷ ps); is = refl; fine = (tt, tt, f); same = simp (append_assoc, append-nil) }
call_takes t ps f = tt

-- an item that ends its list
items_taken : (h : Head) (ts : List Tree) (t : Tree) (ps : List Piece) → 1 ≤ holds t → Grouped t → FineHead h ps → AllFine ts → Fine ps
    → Holds (all_of t (open_items h ts ∷ ps)) (Closing (bracket h)) (have (finish (seen_head h) (map meaning ts ++ meaning t ∷ []) (earlier (unknown_in ts) (unknown t))) (seen ps))
items_taken h ts t ps i g k a f =
    let us = trees_of (ts ++ t ∷ []) in
    let n = nest ps in
    let c = mark n (Closing (bracket h)) ∷ [] in
    let e : marks n (made h us) ≡ headed n h ++ ((with_commas (n + 1) ts ++ marks (n + 1) t) ++ c)
    = made_marks h us n ∙ ap (λ l. headed n h ++ (l ++ c)) (item_marks ts t (n + 1)) in
    record {
      shape = has (made h us) ps;
      is = ap (λ v. have v (seen ps)) (made_end h ts t);
      fine = (made_grouped h ps us k (all_grouped ts t a i g), made_fits h ps us k, f);
      same = ap (λ l. shown ps ++ l) e ∙ simp append_assoc;
    }

-- an entry that ends its map
entry_taken : (es : List MapEntry) (k : Key) (t : Tree) (ps : List Piece) → 1 ≤ holds t → Grouped t → Fine (open_entry es k ∷ ps)
    → Holds (all_of t (open_entry es k ∷ ps)) (Closing Curly) (have (map_from (seen_entries es ++ (key_text k, meaning t) ∷ []) (earlier (unknown_entries es) (unknown t))) (seen ps))
entry_taken es k t ps i g f =
    let n = nest ps in
    let rs = es ++ (k, t) ∷ [] in
    let pairs = entries_mean rs ∙ entries_seen es k t in
    let places = entries_unknown_of rs ∙ entries_unknown es k t in
    record {
      shape = has (map_of (entries_from rs)) ps;
      is = ap (λ l. have (map_from l (unknown_entry (entries_from rs))) (seen ps)) pairs ∙ ap (λ w. have (map_from (seen_entries es ++ (key_text k, meaning t) ∷ []) w) (seen ps)) places;
      fine = (entries_grouped es k t f.0 i g, omega (arith, need_le ps), f.1);
      same = ap (λ l. shown ps ++ mark (n + 1) OpeningMap ∷ (l ++ mark n (Closing Curly) ∷ [])) (entries_marks es k t (n + 1)) ∙ simp append_assoc;
    }

closing_takes : (b : Bracket) (t : Tree) (ps : List Piece) → Grouped t → need (seen ps) ≤ holds t → Fine ps → Takes (all_of t ps) (Closing b) (put_closing b (held t) (seen ps))
closing_takes b t [] g i f = tt
closing_takes Round t (left o l ∷ ps) g i f = tt
closing_takes Square t (left o l ∷ ps) g i f = tt
closing_takes Curly t (left o l ∷ ps) g i f = tt
closing_takes Round t (front o ∷ ps) g i f = tt
closing_takes Square t (front o ∷ ps) g i f = tt
closing_takes Curly t (front o ∷ ps) g i f = tt
closing_takes Round t (open_paren ∷ ps) g i f = record { shape = has (parens t) ps; is = refl; fine = (g, omega (arith, need_le ps), f); same = simp append_assoc }
closing_takes Square t (open_paren ∷ ps) g i f = tt
closing_takes Curly t (open_paren ∷ ps) g i f = tt
closing_takes Round t (open_index u ∷ ps) g i f = tt
closing_takes Square t (open_index u ∷ ps) g i f = record { shape = has (index u t) ps; is = refl; fine = ((f.1, i, f.0, g), omega (arith, need_le ps), f.2); same = simp append_assoc }
closing_takes Curly t (open_index u ∷ ps) g i f = tt
closing_takes Round t (open_items of_list ts ∷ ps) g i f = tt
closing_takes Square t (open_items of_list ts ∷ ps) g i f = items_taken of_list ts t ps i g f.0 f.1 f.2
closing_takes Curly t (open_items of_list ts ∷ ps) g i f = tt
closing_takes Round t (open_items of_tuple ts ∷ ps) g i f = tt
closing_takes Square t (open_items of_tuple ts ∷ ps) g i f = tt
closing_takes Curly t (open_items of_tuple ts ∷ ps) g i f = items_taken of_tuple ts t ps i g f.0 f.1 f.2
closing_takes Round t (open_items (of_call c) ts ∷ ps) g i f = items_taken (of_call c) ts t ps i g f.0 f.1 f.2
closing_takes Square t (open_items (of_call c) ts ∷ ps) g i f = tt
closing_takes Curly t (open_items (of_call c) ts ∷ ps) g i f = tt
closing_takes Round t (open_items (of_pipe l c) ts ∷ ps) g i f = items_taken (of_pipe l c) ts t ps i g f.0 f.1 f.2
closing_takes Square t (open_items (of_pipe l c) ts ∷ ps) g i f = tt
closing_takes Curly t (open_items (of_pipe l c) ts ∷ ps) g i f = tt
closing_takes Round t (open_part s qs ∷ ps) g i f = tt
closing_takes Square t (open_part s qs ∷ ps) g i f = tt
closing_takes Curly t (open_part s qs ∷ ps) g i f = tt
closing_takes Round t (open_entry es k ∷ ps) g i f = tt
closing_takes Square t (open_entry es k ∷ ps) g i f = tt
closing_takes Curly t (open_entry es k ∷ ps) g i f = entry_taken es k t ps i g f
closing_takes Round t (open_test ∷ ps) g i f = tt
closing_takes Square t (open_test ∷ ps) g i f = tt
closing_takes Curly t (open_test ∷ ps) g i f = tt
closing_takes Round t (open_inner ∷ ps) g i f = tt
closing_takes Square t (open_inner ∷ ps) g i f = tt
closing_takes Curly t (open_inner ∷ ps) g i f = tt
closing_takes Square t (open_yes s u ∷ ps) g i f = tt
closing_takes Curly t (open_yes s u ∷ ps) g i f = tt
closing_takes Square t (open_no s u y ∷ ps) g i f = tt
closing_takes Curly t (open_no s u y ∷ ps) g i f = tt
closing_takes Round t (open_yes bare u ∷ ps) g i f = tt
closing_takes Round t (open_no bare u y ∷ ps) g i f = tt
closing_takes Round t (open_yes inside u ∷ ps) g i f = record { shape = has (choice inside u t) ps; is = refl; fine = ((f.1, i, f.2, g), omega (arith, need_le ps), f.3); same = simp append_assoc }
closing_takes Round t (open_no inside u y ∷ ps) g i f = record { shape = has (choice_else inside u y t) ps; is = refl; fine = ((f.1, f.2, i, f.3, f.4, g), omega (arith, need_le ps), f.5); same = simp append_assoc }

part_takes : (s : List ℕ) (t : Tree) (ps : List Piece) → Grouped t → need (seen ps) ≤ holds t → Fine ps → Takes (all_of t ps) (PartClosing s) (put_part s (held t) (seen ps))
part_takes s t [] g i f = tt
part_takes s t (left o l ∷ ps) g i f = tt
part_takes s t (front o ∷ ps) g i f = tt
part_takes s t (open_paren ∷ ps) g i f = tt
part_takes s t (open_index u ∷ ps) g i f = tt
part_takes s t (open_items h ts ∷ ps) g i f = tt
part_takes s t (open_entry es k ∷ ps) g i f = tt
part_takes s t (open_test ∷ ps) g i f = tt
part_takes s t (open_inner ∷ ps) g i f = tt
part_takes s t (open_yes y u ∷ ps) g i f = tt
part_takes s t (open_no y u z ∷ ps) g i f = tt
part_takes s t (open_part r qs ∷ ps) g i f =
    let rs = qs ++ (t, s) ∷ [] in
    let e : plain_parts r ++ seen_parts rs ≡ (plain_parts r ++ seen_parts qs) ++ expr_part (meaning t) ∷ plain_parts s
    = ap (λ l. plain_parts r ++ l) (parts_seen qs t s) ∙ sym (append_assoc (plain_parts r) (seen_parts qs) (expr_part (meaning t) ∷ plain_parts s)) in
    record {
      shape = wants_part r rs ps;
      is = ap (λ l. want_part l (unknown_parts rs) (seen ps)) e ∙ ap (λ w. want_part ((plain_parts r ++ seen_parts qs) ++ expr_part (meaning t) ∷ plain_parts s) w (seen ps)) (parts_unknown qs t s);
      fine = (parts_fine qs t s f.0 i g, f.1);
      same = ap (λ l. shown ps ++ mark (nest ps) (Quote r) ∷ l) (parts_further qs t s (nest ps)) ∙ simp append_assoc;
    }

comma_takes : (t : Tree) (ps : List Piece) → Grouped t → need (seen ps) ≤ holds t → Fine ps → Takes (all_of t ps) Comma (put_comma (held t) (seen ps))
comma_takes t [] g i f = tt
comma_takes t (left o l ∷ ps) g i f = tt
comma_takes t (front o ∷ ps) g i f = tt
comma_takes t (open_paren ∷ []) g i f = tt
comma_takes t (open_paren ∷ left o l ∷ ps) g i f = tt
comma_takes t (open_paren ∷ front o ∷ ps) g i f = tt
comma_takes t (open_paren ∷ open_paren ∷ ps) g i f = tt
comma_takes t (open_paren ∷ open_index u ∷ ps) g i f = tt
comma_takes t (open_paren ∷ open_items h ts ∷ ps) g i f = tt
comma_takes t (open_paren ∷ open_part s qs ∷ ps) g i f = tt
comma_takes t (open_paren ∷ open_entry es k ∷ ps) g i f = tt
comma_takes t (open_paren ∷ open_inner ∷ ps) g i f = tt
comma_takes t (open_paren ∷ open_yes s u ∷ ps) g i f = tt
comma_takes t (open_paren ∷ open_no s u y ∷ ps) g i f = tt
comma_takes t (open_paren ∷ open_test ∷ ps) g i f = choose (nat_le 1 (holds t)) (leb-true _ _)
  where
    choose : (a : Bool) → (a ≡ true → 1 ≤ holds t) → Takes (all_of t (open_paren ∷ open_test ∷ ps)) Comma (if a then Some (want_do inside (means t) (seen ps)) else None)
    choose true h = record { shape = wants_do inside t ps; is = refl; fine = (tt, h refl, g, f.1); same = simp append_assoc }
    choose false h = tt
comma_takes t (open_index u ∷ ps) g i f = tt
comma_takes t (open_part s qs ∷ ps) g i f = tt
comma_takes t (open_test ∷ ps) g i f = record { shape = wants_do bare t ps; is = refl; fine = (f.0, i, g, f.1); same = simp append_assoc }
comma_takes t (open_inner ∷ ps) g i f = record { shape = wants_do inside t ps; is = refl; fine = (tt, i, g, f); same = simp append_assoc }
comma_takes t (open_yes s u ∷ ps) g i f = record { shape = wants_else s u t ps; is = refl; fine = (f.0, f.1, i, f.2, g, f.3); same = simp append_assoc }
comma_takes t (open_no s u y ∷ ps) g i f = tt
comma_takes t (open_items h ts ∷ ps) g i f = record {
  shape = wants (open_items h (ts ++ t ∷ []) ∷ ps);
  is = ap (λ vs. want (items (seen_head h) vs (unknown_in (ts ++ t ∷ [])) ∷ seen ps)) (map-append meaning ts (t ∷ [])) ∙ ap (λ w. want (items (seen_head h) (map meaning ts ++ meaning t ∷ []) w ∷ seen ps)) (unknown_more ts t);
  fine = (f.0, all_fine ts t f.1 i g, f.2);
  same = ap (λ l. shown ps ++ (headed (nest ps) h ++ l)) (comma_marks ts t (nest ps + 1)) ∙ simp append_assoc;
}
comma_takes t (open_entry es k ∷ ps) g i f = record {
  shape = wants_key (es ++ (k, t) ∷ []) ps;
  is = ap (λ l. want_key l (unknown_entries (es ++ (k, t) ∷ [])) (seen ps)) (entries_seen es k t) ∙ ap (λ w. want_key (seen_entries es ++ (key_text k, meaning t) ∷ []) w (seen ps)) (entries_unknown es k t);
  fine = (entries_fine es k t f.0 i g, f.1);
  same = ap (λ l. shown ps ++ mark (nest ps + 1) OpeningMap ∷ l) (entries_further es k t (nest ps + 1)) ∙ simp append_assoc;
}

empty_taken : (h : Head) (ps : List Piece) → FineHead h ps → Fine ps → Holds (shown (open_items h [] ∷ ps)) (Closing (bracket h)) (have (finish (seen_head h) [] None) (seen ps))
empty_taken h ps k f = record {
  shape = has (made h no_trees) ps;
  is = ap (λ v. have v (seen ps)) (made_empty h);
  fine = (made_grouped h ps no_trees k tt, made_fits h ps no_trees k, f);
  same = ap (λ l. shown ps ++ l) (made_marks h no_trees (nest ps)) ∙ simp (append_assoc, append-nil);
}

empty_takes : (b : Bracket) (ps : List Piece) → Fine ps → Takes (shown ps) (Closing b) (put_empty b (seen ps))
empty_takes Round [] f = tt
empty_takes Round (left o l ∷ ps) f = tt
empty_takes Round (front o ∷ ps) f = tt
empty_takes Round (open_paren ∷ ps) f = tt
empty_takes Round (open_index u ∷ ps) f = tt
empty_takes Round (open_part s qs ∷ ps) f = tt
empty_takes Round (open_entry es k ∷ ps) f = tt
empty_takes Round (open_test ∷ ps) f = tt
empty_takes Round (open_inner ∷ ps) f = tt
empty_takes Round (open_yes s u ∷ ps) f = tt
empty_takes Round (open_no s u y ∷ ps) f = tt
empty_takes Round (open_items of_list ts ∷ ps) f = tt
empty_takes Round (open_items of_tuple ts ∷ ps) f = tt
empty_takes Round (open_items (of_call c) [] ∷ ps) f = empty_taken (of_call c) ps f.0 f.2
empty_takes Round (open_items (of_call c) (t ∷ ts) ∷ ps) f = tt
empty_takes Round (open_items (of_pipe l c) [] ∷ ps) f = empty_taken (of_pipe l c) ps f.0 f.2
empty_takes Round (open_items (of_pipe l c) (t ∷ ts) ∷ ps) f = tt
empty_takes Square [] f = tt
empty_takes Square (left o l ∷ ps) f = tt
empty_takes Square (front o ∷ ps) f = tt
empty_takes Square (open_paren ∷ ps) f = tt
empty_takes Square (open_index u ∷ ps) f = tt
empty_takes Square (open_part s qs ∷ ps) f = tt
empty_takes Square (open_entry es k ∷ ps) f = tt
empty_takes Square (open_test ∷ ps) f = tt
empty_takes Square (open_inner ∷ ps) f = tt
empty_takes Square (open_yes s u ∷ ps) f = tt
empty_takes Square (open_no s u y ∷ ps) f = tt
empty_takes Square (open_items of_list [] ∷ ps) f = empty_taken of_list ps f.0 f.2
empty_takes Square (open_items of_list (t ∷ ts) ∷ ps) f = tt
empty_takes Square (open_items of_tuple ts ∷ ps) f = tt
empty_takes Square (open_items (of_call c) ts ∷ ps) f = tt
empty_takes Square (open_items (of_pipe l c) ts ∷ ps) f = tt
empty_takes Curly [] f = tt
empty_takes Curly (left o l ∷ ps) f = tt
empty_takes Curly (front o ∷ ps) f = tt
empty_takes Curly (open_paren ∷ ps) f = tt
empty_takes Curly (open_index u ∷ ps) f = tt
empty_takes Curly (open_part s qs ∷ ps) f = tt
empty_takes Curly (open_entry es k ∷ ps) f = tt
empty_takes Curly (open_test ∷ ps) f = tt
empty_takes Curly (open_inner ∷ ps) f = tt
empty_takes Curly (open_yes s u ∷ ps) f = tt
empty_takes Curly (open_no s u y ∷ ps) f = tt
empty_takes Curly (open_items of_list ts ∷ ps) f = tt
empty_takes Curly (open_items of_tuple [] ∷ ps) f = empty_taken of_tuple ps f.0 f.2
empty_takes Curly (open_items of_tuple (t ∷ ts) ∷ ps) f = tt
empty_takes Curly (open_items (of_call c) ts ∷ ps) f = tt
empty_takes Curly (open_items (of_pipe l c) ts ∷ ps) f = tt

-- an operand
leaf : (t : Tree) (ps : List Piece) (tok : Token) → Grouped t → 11 ≤ holds t → Fine ps → marks (nest ps) t ≡ mark (nest ps) tok ∷ [] → Holds (shown ps) tok (have (held t) (seen ps))
leaf t ps tok g h f e = record { shape = has t ps; is = refl; fine = (g, omega (arith, need_le ps), f); same = ap (λ l. shown ps ++ l) e }

if_takes : (b : Bool) (ps : List Piece) → (b ≡ true → need (seen ps) ≤ 0) → Fine ps → Takes (shown ps) If (if b then Some (want (test ∷ seen ps)) else Some (want_if (seen ps)))
if_takes true ps h f = record { shape = wants (open_test ∷ ps); is = refl; fine = (h refl, f); same = refl }
if_takes false ps h f = record { shape = wants_if ps; is = refl; fine = f; same = refl }

want_takes : (tok : Token) (ps : List Piece) → Fine ps → Takes (shown ps) tok (on_want tok (seen ps))
want_takes (Number n) ps f = leaf (number n) ps (Number n) tt (omega arith) f refl
want_takes (Quote s) ps f = record { shape = wants_part s [] ps; is = ap (λ l. want_part l None (seen ps)) (append-nil (plain_parts s)); fine = (tt, f); same = refl }
want_takes (Atom s) ps f = leaf (atom s) ps (Atom s) tt (omega arith) f refl
want_takes Nil ps f = leaf nil ps Nil tt (omega arith) f refl
want_takes (Boolean b) ps f = leaf (boolean b) ps (Boolean b) tt (omega arith) f refl
want_takes (Word at s) ps f = leaf (name at s) ps (Word at s) tt (omega arith) f refl
want_takes (Function at s) ps f = record { shape = wants_arguments (of_call (marked at s)) ps; is = refl; fine = (tt, tt, f); same = refl }
want_takes At ps f = record { shape = wants_assign ps; is = refl; fine = f; same = refl }
want_takes (Operator op.Minus) ps f = record { shape = wants (front un.Minus ∷ ps); is = refl; fine = f; same = refl }
want_takes (Operator o) ps f = tt
want_takes Bang ps f = record { shape = wants (front un.Bang ∷ ps); is = refl; fine = f; same = refl }
want_takes NotWord ps f = record { shape = wants (front un.Not ∷ ps); is = refl; fine = f; same = refl }
want_takes OpeningRound ps f = record { shape = wants (open_paren ∷ ps); is = refl; fine = f; same = refl }
want_takes OpeningSquare ps f = record { shape = wants (open_items of_list [] ∷ ps); is = refl; fine = (tt, tt, f); same = refl }
want_takes OpeningCurly ps f = record { shape = wants (open_items of_tuple [] ∷ ps); is = refl; fine = (tt, tt, f); same = refl }
want_takes OpeningMap ps f = record { shape = wants_key [] ps; is = refl; fine = (tt, f); same = refl }
want_takes If ps f = if_takes (nat_le (need (seen ps)) 0) ps (leb-true _ _) f
want_takes (Closing b) ps f = empty_takes b ps f
want_takes _ ps f = tt

-- a token behind a tree, where what is below was put together
behind_reduced : (tok : Token) (n : ℕ) (t : Tree) (ps : List Piece) (act : Value → Frames → Option State) → Grouped t → need (seen ps) ≤ holds t → Fine ps
    → ((u : Tree) (qs : List Piece) → Grouped u → need (seen qs) ≤ holds u → Fine qs → Takes (all_of u qs) tok (act (held u) (seen qs)))
    → Takes (all_of t ps) tok (act (reduce n (held t) (seen ps)).0 (reduce n (held t) (seen ps)).1)
behind_reduced tok n t ps act g h f k =
    let r = reduces ps n t g h f in
    let a : Takes (all_of t ps) tok (act (held r.tree) (seen r.pieces)) = same_marks _ _ tok _ r.same (k r.tree r.pieces r.grouped r.fits r.fine) in
    subst (λ (p : Value × Frames). Takes (all_of t ps) tok (act p.0 p.1)) (sym r.is) a

have_takes : (tok : Token) (t : Tree) (ps : List Piece) → Grouped t → need (seen ps) ≤ holds t → Fine ps → Takes (all_of t ps) tok (on_have tok (held t) (seen ps))
have_takes (Operator o) t ps g h f = behind_reduced (Operator o) (left_of (binds o)) t ps (put_operator o) g h f (operator_takes o)
have_takes Pipe t ps g h f = behind_reduced Pipe 5 t ps put_pipe g h f pipe_takes
have_takes (Closing b) t ps g h f = behind_reduced (Closing b) 0 t ps (put_closing b) g h f (closing_takes b)
have_takes (PartClosing s) t ps g h f = behind_reduced (PartClosing s) 0 t ps (put_part s) g h f (part_takes s)
have_takes Comma t ps g h f = behind_reduced Comma 1 t ps put_comma g h f comma_takes
have_takes Dot t ps g h f = dot_takes t ps g f
have_takes IndexOpening t ps g h f = index_takes t ps g f
have_takes CallOpening t ps g h f = call_takes t ps f
have_takes _ t ps g h f = tt

assign_takes : (tok : Token) (ps : List Piece) → Fine ps → Takes (told (wants_assign ps)) tok (step (want_assign (seen ps)) tok)
assign_takes (Word at s) ps f = record { shape = has (assign at s) ps; is = refl; fine = (tt, omega (arith, need_le ps), f); same = simp append_assoc }
assign_takes _ ps f = tt

field_takes : (tok : Token) (t : Tree) (ps : List Piece) → Grouped t → 11 ≤ holds t → Fine ps → Takes (told (wants_field t ps)) tok (step (want_field (held t) (seen ps)) tok)
field_takes (Word at s) t ps g h f = record { shape = has (field t at s) ps; is = refl; fine = ((h, g), omega (arith, need_le ps), f); same = simp append_assoc }
field_takes _ t ps g h f = tt

callee_takes : (tok : Token) (t : Tree) (ps : List Piece) → FineShape (wants_call t ps) → Takes (told (wants_call t ps)) tok (step (want_call (held t) (seen ps)) tok)
callee_takes (Word at s) t ps f = record { shape = wants_arguments (of_pipe t (plain at s)) ps; is = refl; fine = (tt, (f.0, f.1, f.2), f.3); same = simp append_assoc }
callee_takes (Function at s) t ps f = record { shape = wants_arguments (of_pipe t (marked at s)) ps; is = refl; fine = (tt, (f.0, f.1, f.2), f.3); same = simp append_assoc }
callee_takes _ t ps f = tt

opened_head : (h : Head) (n : ℕ) → IsCall h → headed n h ≡ named n h ++ mark (n + 1) CallOpening ∷ []
opened_head of_list n c = elim c [ ]
opened_head of_tuple n c = elim c [ ]
opened_head (of_call a) n c = refl
opened_head (of_pipe l a) n c = simp append_assoc

arguments_takes : (tok : Token) (h : Head) (ps : List Piece) → FineShape (wants_arguments h ps) → Takes (told (wants_arguments h ps)) tok (step (want_arguments (seen_head h) (seen ps)) tok)
arguments_takes CallOpening h ps f = record {
  shape = wants (open_items h [] ∷ ps);
  is = refl;
  fine = (f.1, tt, f.2);
  same = ap (λ l. shown ps ++ (l ++ [])) (opened_head h (nest ps) f.0) ∙ simp (append_assoc, append-nil);
}
arguments_takes _ h ps f = tt

if_open_takes : (tok : Token) (ps : List Piece) → Fine ps → Takes (told (wants_if ps)) tok (step (want_if (seen ps)) tok)
if_open_takes OpeningRound ps f = record { shape = wants (open_inner ∷ ps); is = refl; fine = f; same = simp append_assoc }
if_open_takes _ ps f = tt

do_takes : (tok : Token) (s : Style) (t : Tree) (ps : List Piece) → FineShape (wants_do s t ps) → Takes (told (wants_do s t ps)) tok (step (want_do s (means t) (seen ps)) tok)
do_takes DoColon s t ps f = record { shape = wants (open_yes s t ∷ ps); is = refl; fine = f; same = simp append_assoc }
do_takes _ s t ps f = tt

else_takes : (tok : Token) (s : Style) (t y : Tree) (ps : List Piece) → FineShape (wants_else s t y ps) → Takes (told (wants_else s t y ps)) tok (step (want_else s (means t) (means y) (seen ps)) tok)
else_takes ElseColon s t y ps f = record { shape = wants (open_no s t y ∷ ps); is = refl; fine = f; same = simp append_assoc }
else_takes _ s t y ps f = tt

text_takes : (tok : Token) (s : List ℕ) (qs : List TextPart) (ps : List Piece) → FineShape (wants_part s qs ps) → Takes (told (wants_part s qs ps)) tok (step (seen_shape (wants_part s qs ps)) tok)
text_takes PartOpening s qs ps f = record { shape = wants (open_part s qs ∷ ps); is = refl; fine = f; same = simp append_assoc }
text_takes QuoteEnd s qs ps f =
    let n = nest ps in
    let t = text s (parts_from qs) in
    record {
      shape = has t ps;
      is = ap (λ l. have (closed (x.text_of (parts_of (plain_parts s ++ l))) (unknown_part (parts_from qs))) (seen ps)) (parts_mean qs) ∙ ap (λ w. have (closed (x.text_of (parts_of (plain_parts s ++ seen_parts qs))) w) (seen ps)) (parts_unknown_of qs);
      fine = (parts_grouped qs f.0, omega (arith, need_le ps), f.1);
      same = ap (λ l. shown ps ++ mark n (Quote s) ∷ (l ++ mark n QuoteEnd ∷ [])) (parts_marks qs n) ∙ simp append_assoc;
    }
text_takes _ s qs ps f = tt

-- a map without entries ends
map_takes : (es : List MapEntry) (ps : List Piece) → FineShape (wants_key es ps) → Takes (told (wants_key es ps)) (Closing Curly) (empty_map (seen_entries es) (unknown_entries es) (seen ps))
map_takes [] ps f = record { shape = has (map_of no_entries) ps; is = refl; fine = (tt, omega (arith, need_le ps), f.1); same = simp append_assoc }
map_takes (e ∷ es) ps f = tt

key_takes : (tok : Token) (es : List MapEntry) (ps : List Piece) → FineShape (wants_key es ps) → Takes (told (wants_key es ps)) tok (on_key tok (seen_entries es) (unknown_entries es) (seen ps))
key_takes (Word at s) es ps f = record { shape = wants_colon es at s ps; is = refl; fine = f; same = simp append_assoc }
key_takes (Quote s) es ps f = record { shape = wants_quote es s ps; is = refl; fine = f; same = simp append_assoc }
key_takes (Closing Round) es ps f = tt
key_takes (Closing Square) es ps f = tt
key_takes (Closing Curly) es ps f = map_takes es ps f
key_takes _ es ps f = tt

colon_takes : (tok : Token) (es : List MapEntry) (at : ℕ) (s : List ℕ) (ps : List Piece) → FineShape (wants_colon es at s ps) → Takes (told (wants_colon es at s ps)) tok (step (seen_shape (wants_colon es at s ps)) tok)
colon_takes Colon es at s ps f = record { shape = wants (open_entry es (word_key at s) ∷ ps); is = refl; fine = f; same = simp append_assoc }
colon_takes _ es at s ps f = tt

quote_takes : (tok : Token) (es : List MapEntry) (s : List ℕ) (ps : List Piece) → FineShape (wants_quote es s ps) → Takes (told (wants_quote es s ps)) tok (step (seen_shape (wants_quote es s ps)) tok)
quote_takes QuoteEnd es s ps f = record { shape = wants_arrow es s ps; is = refl; fine = f; same = simp append_assoc }
quote_takes _ es s ps f = tt

arrow_takes : (tok : Token) (es : List MapEntry) (s : List ℕ) (ps : List Piece) → FineShape (wants_arrow es s ps) → Takes (told (wants_arrow es s ps)) tok (step (seen_shape (wants_arrow es s ps)) tok)
arrow_takes Arrow es s ps f = record { shape = wants (open_entry es (text_key s) ∷ ps); is = refl; fine = f; same = simp append_assoc }
arrow_takes _ es s ps f = tt

pub takes : (s : Shape) (tok : Token) → FineShape s → Takes (told s) tok (step (seen_shape s) tok)
takes (wants ps) tok f = want_takes tok ps f
takes (has t ps) tok f = have_takes tok t ps f.0 f.1 f.2
takes (wants_assign ps) tok f = assign_takes tok ps f
takes (wants_field t ps) tok f = field_takes tok t ps f.0 f.1 f.2
takes (wants_call t ps) tok f = callee_takes tok t ps f
takes (wants_arguments h ps) tok f = arguments_takes tok h ps f
takes (wants_if ps) tok f = if_open_takes tok ps f
takes (wants_do s t ps) tok f = do_takes tok s t ps f
takes (wants_else s t y ps) tok f = else_takes tok s t y ps f
takes (wants_part s qs ps) tok f = text_takes tok s qs ps f
takes (wants_key es ps) tok f = key_takes tok es ps f
takes (wants_colon es at s ps) tok f = colon_takes tok es at s ps f
takes (wants_quote es s ps) tok f = quote_takes tok es s ps f
takes (wants_arrow es s ps) tok f = arrow_takes tok es s ps f
