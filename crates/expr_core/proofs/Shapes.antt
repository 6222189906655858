-- What the reader of expressions holds, with its trees: what was read so far, and how it can be completed.
use Rattle.std.proofs.Common.{◌≡◌, ℕ, ◌+◌, ◌≤◌, List, [], ◌∷◌, ◌++◌, map, true, Option, None, refl, sym, ap, ◌∙◌, arith, append_assoc, append-nil}
use Rattle.std.proofs.lemmas.List.{map-append}
use Rattle.ast_core.specs.declared.operators.UnaryOp.{UnaryOp}
use Rattle.ast_core.specs.declared.operators.BinaryOp.{BinaryOp}
use Rattle.ast_core.specs.Syntax.{Expr}
use Rattle.ast_core.specs.ExprView.{Part, expr_part}
use Rattle.expr_token.specs.declared.token.Bracket.{Bracket}
use Rattle.expr_token.specs.declared.token.Bracket.TheVariants.{Round, Square, Curly}
use Rattle.expr_token.specs.declared.token.Token.TheVariants.{Word, At, Dot, Operator, Pipe, Comma, If, DoColon, ElseColon, OpeningRound, CallOpening, OpeningSquare, IndexOpening, OpeningCurly, OpeningMap, Closing, Quote, PartOpening, PartClosing, QuoteEnd}
use Rattle.expr_core.specs.Language.{Mark, mark}
use Rattle.expr_core.specs.Functions.{earlier}
use Rattle.expr_core.specs.Grammar.{binds, left_of, may_deny, Callee, callee_token, callee_at, callee_name, Key, key_text, Style, bare, inside, style_holds, Tree, call, piped, list, tuple, Trees, no_trees, tree, Parts, no_parts, part, Entries, no_entries, entry, holds, denies, Grouped, AllGrouped, PartsGrouped, EntriesGrouped, prefix_token, key_marks, if_head, deeper, marks, listed, more_listed, part_marks, entry_marks, more_entries, plain_parts, meaning, meanings, part_meanings, entry_meanings, unknown, unknown_item, unknown_part, unknown_entry}
use Rattle.expr_core.specs.Machine.{Value, Opener, listing, tupling, calling, piping, Frame, Frames, operand, ahead, paren, indexed, items, putting, valued, test, inner_test, yes_of, no_of, State, want, have, want_assign, want_field, want_call, want_arguments, want_if, want_do, want_else, want_part, want_key, want_colon, want_quote, want_arrow, closed, finish, map_from, need}
use Rattle.expr_core.specs.Machine as m
use Rattle.expr_core.proofs.Tables.{right_le, earlier_none, earlier_assoc}
use Rattle.expr_core.proofs.Opens.{means, held}

-- what begins a list
pub data Head : Type 0 where
  of_list : Head
  of_tuple : Head
  of_call : Callee → Head
  of_pipe : Tree → Callee → Head

-- a finished part of a text with the characters behind it, and a finished entry of a map
abbrev pub TextPart : Type 0
TextPart = Tree × List ℕ

abbrev pub MapEntry : Type 0
MapEntry = Key × Tree

pub data Piece : Type 0 where
  left : BinaryOp → Tree → Piece
  front : UnaryOp → Piece
  open_paren : Piece
  open_index : Tree → Piece
  open_items : Head → List Tree → Piece
  open_part : List ℕ → List TextPart → Piece
  open_entry : List MapEntry → Key → Piece
  open_test : Piece
  open_inner : Piece
  open_yes : Style → Tree → Piece
  open_no : Style → Tree → Tree → Piece

pub data Shape : Type 0 where
  wants : List Piece → Shape
  has : Tree → List Piece → Shape
  wants_assign : List Piece → Shape
  wants_field : Tree → List Piece → Shape
  wants_call : Tree → List Piece → Shape
  wants_arguments : Head → List Piece → Shape
  wants_if : List Piece → Shape
  wants_do : Style → Tree → List Piece → Shape
  wants_else : Style → Tree → Tree → List Piece → Shape
  wants_part : List ℕ → List TextPart → List Piece → Shape
  wants_key : List MapEntry → List Piece → Shape
  wants_colon : List MapEntry → ℕ → List ℕ → List Piece → Shape
  wants_quote : List MapEntry → List ℕ → List Piece → Shape
  wants_arrow : List MapEntry → List ℕ → List Piece → Shape

-- What the reader sees of it.

abbrev pub seen_head : Head → Opener
seen_head of_list = listing
seen_head of_tuple = tupling
seen_head (of_call c) = calling (callee_at c) (callee_name c)
seen_head (of_pipe l c) = piping (held l) (callee_at c) (callee_name c)

abbrev pub unknown_in : List Tree → Option ℕ
unknown_in [] = None
unknown_in (t ∷ ts) = earlier (unknown t) (unknown_in ts)

abbrev pub seen_parts : List TextPart → List Part
seen_parts [] = []
seen_parts (p ∷ ps) = expr_part (meaning p.0) ∷ (plain_parts p.1 ++ seen_parts ps)

abbrev pub unknown_parts : List TextPart → Option ℕ
unknown_parts [] = None
unknown_parts (p ∷ ps) = earlier (unknown p.0) (unknown_parts ps)

abbrev pub seen_entries : List MapEntry → List (List ℕ × Expr)
seen_entries [] = []
seen_entries (e ∷ es) = (key_text e.0, meaning e.1) ∷ seen_entries es

abbrev pub unknown_entries : List MapEntry → Option ℕ
unknown_entries [] = None
unknown_entries (e ∷ es) = earlier (unknown e.1) (unknown_entries es)

abbrev pub seen_piece : Piece → Frame
seen_piece (left o t) = operand o (held t)
seen_piece (front o) = ahead o
seen_piece open_paren = paren
seen_piece (open_index t) = indexed (held t)
seen_piece (open_items h ts) = items (seen_head h) (map meaning ts) (unknown_in ts)
seen_piece (open_part s qs) = putting (plain_parts s ++ seen_parts qs) (unknown_parts qs)
seen_piece (open_entry es k) = valued (seen_entries es) (unknown_entries es) (key_text k)
seen_piece open_test = test
seen_piece open_inner = inner_test
seen_piece (open_yes s t) = yes_of s (means t)
seen_piece (open_no s t y) = no_of s (means t) (means y)

abbrev pub seen : List Piece → Frames
seen ps = map seen_piece ps

abbrev pub seen_shape : Shape → State
seen_shape (wants ps) = want (seen ps)
seen_shape (has t ps) = have (held t) (seen ps)
seen_shape (wants_assign ps) = want_assign (seen ps)
seen_shape (wants_field t ps) = want_field (held t) (seen ps)
seen_shape (wants_call t ps) = want_call (held t) (seen ps)
seen_shape (wants_arguments h ps) = want_arguments (seen_head h) (seen ps)
seen_shape (wants_if ps) = want_if (seen ps)
seen_shape (wants_do s t ps) = want_do s (means t) (seen ps)
seen_shape (wants_else s t y ps) = want_else s (means t) (means y) (seen ps)
seen_shape (wants_part s qs ps) = want_part (plain_parts s ++ seen_parts qs) (unknown_parts qs) (seen ps)
seen_shape (wants_key es ps) = want_key (seen_entries es) (unknown_entries es) (seen ps)
seen_shape (wants_colon es at s ps) = want_colon (seen_entries es) (unknown_entries es) s (seen ps)
seen_shape (wants_quote es s ps) = want_quote (seen_entries es) (unknown_entries es) s (seen ps)
seen_shape (wants_arrow es s ps) = want_arrow (seen_entries es) (unknown_entries es) s (seen ps)

-- The tokens so far, and how deep they stand.

abbrev pub nest : List Piece → ℕ
nest [] = 0
nest (left o t ∷ ps) = nest ps
nest (front o ∷ ps) = nest ps + 1
nest (open_paren ∷ ps) = nest ps + 1
nest (open_index t ∷ ps) = nest ps + 1
nest (open_items h ts ∷ ps) = nest ps + 1
nest (open_part s qs ∷ ps) = nest ps + 1
nest (open_entry es k ∷ ps) = nest ps + 1
nest (open_test ∷ ps) = nest ps + 1
nest (open_inner ∷ ps) = nest ps + 1 + 1
nest (open_yes s t ∷ ps) = deeper s (nest ps)
nest (open_no s t y ∷ ps) = deeper s (nest ps)

pub same_nest : (ps : List Piece) → m.nest (seen ps) ≡ nest ps
same_nest [] = refl
same_nest (left o t ∷ ps) = same_nest ps
same_nest (front o ∷ ps) = ap (λ n. n + 1) (same_nest ps)
same_nest (open_paren ∷ ps) = ap (λ n. n + 1) (same_nest ps)
same_nest (open_index t ∷ ps) = ap (λ n. n + 1) (same_nest ps)
same_nest (open_items h ts ∷ ps) = ap (λ n. n + 1) (same_nest ps)
same_nest (open_part s qs ∷ ps) = ap (λ n. n + 1) (same_nest ps)
same_nest (open_entry es k ∷ ps) = ap (λ n. n + 1) (same_nest ps)
same_nest (open_test ∷ ps) = ap (λ n. n + 1) (same_nest ps)
same_nest (open_inner ∷ ps) = ap (λ n. n + 1 + 1) (same_nest ps)
same_nest (open_yes s t ∷ ps) = ap (deeper s) (same_nest ps)
same_nest (open_no s t y ∷ ps) = ap (deeper s) (same_nest ps)

-- trees, each with a comma behind it
abbrev pub with_commas : ℕ → List Tree → List Mark
with_commas n [] = []
with_commas n (t ∷ ts) = marks n t ++ mark n Comma ∷ with_commas n ts

-- the parts of a text that stands at this depth
abbrev pub parts_shown : ℕ → List TextPart → List Mark
parts_shown n [] = []
parts_shown n (p ∷ ps) = mark (n + 1) PartOpening ∷ (marks (n + 1) p.0 ++ mark n (PartClosing p.1) ∷ parts_shown n ps)

-- entries, each with a comma behind it
abbrev pub entries_shown : ℕ → List MapEntry → List Mark
entries_shown n [] = []
entries_shown n (e ∷ es) = key_marks n e.0 ++ (marks n e.1 ++ mark n Comma ∷ entries_shown n es)

abbrev pub named : ℕ → Head → List Mark
named n of_list = []
named n of_tuple = []
named n (of_call c) = mark n (callee_token c) ∷ []
named n (of_pipe l c) = marks n l ++ mark n Pipe ∷ mark n (callee_token c) ∷ []

abbrev pub headed : ℕ → Head → List Mark
headed n of_list = mark (n + 1) OpeningSquare ∷ []
headed n of_tuple = mark (n + 1) OpeningCurly ∷ []
headed n (of_call c) = mark n (callee_token c) ∷ mark (n + 1) CallOpening ∷ []
headed n (of_pipe l c) = marks n l ++ mark n Pipe ∷ mark n (callee_token c) ∷ mark (n + 1) CallOpening ∷ []

-- a text that stands at this depth, and a map, so far
abbrev pub to_part : ℕ → List ℕ → List TextPart → List Mark
to_part n s qs = mark n (Quote s) ∷ parts_shown n qs

abbrev pub to_key : ℕ → List MapEntry → List Mark
to_key n es = mark (n + 1) OpeningMap ∷ entries_shown (n + 1) es

-- an `if` up to the comma behind its test, and what follows that
abbrev pub to_do : ℕ → Style → Tree → List Mark → List Mark
to_do n s t ms = if_head n s ++ (marks (deeper s n) t ++ mark (deeper s n) Comma ∷ ms)

abbrev pub to_else : ℕ → Tree → List Mark → List Mark
to_else n y ms = mark n DoColon ∷ (marks n y ++ mark n Comma ∷ ms)

abbrev pub shown : List Piece → List Mark
shown [] = []
shown (left o t ∷ ps) = shown ps ++ (marks (nest ps) t ++ mark (nest ps) (Operator o) ∷ [])
shown (front o ∷ ps) = shown ps ++ mark (nest ps + 1) (prefix_token o) ∷ []
shown (open_paren ∷ ps) = shown ps ++ mark (nest ps + 1) OpeningRound ∷ []
shown (open_index t ∷ ps) = shown ps ++ (marks (nest ps) t ++ mark (nest ps + 1) IndexOpening ∷ [])
shown (open_items h ts ∷ ps) = shown ps ++ (headed (nest ps) h ++ with_commas (nest ps + 1) ts)
shown (open_part s qs ∷ ps) = shown ps ++ (to_part (nest ps) s qs ++ mark (nest ps + 1) PartOpening ∷ [])
shown (open_entry es k ∷ ps) = shown ps ++ (to_key (nest ps) es ++ key_marks (nest ps + 1) k)
shown (open_test ∷ ps) = shown ps ++ if_head (nest ps) bare
shown (open_inner ∷ ps) = shown ps ++ if_head (nest ps) inside
shown (open_yes s t ∷ ps) = shown ps ++ to_do (nest ps) s t (mark (deeper s (nest ps)) DoColon ∷ [])
shown (open_no s t y ∷ ps) = shown ps ++ to_do (nest ps) s t (to_else (deeper s (nest ps)) y (mark (deeper s (nest ps)) ElseColon ∷ []))

abbrev pub depth : Shape → ℕ
depth (wants ps) = nest ps
depth (has t ps) = nest ps
depth (wants_assign ps) = nest ps
depth (wants_field t ps) = nest ps
depth (wants_call t ps) = nest ps
depth (wants_arguments h ps) = nest ps
depth (wants_if ps) = nest ps + 1
depth (wants_do s t ps) = deeper s (nest ps)
depth (wants_else s t y ps) = deeper s (nest ps)
depth (wants_part s qs ps) = nest ps
depth (wants_key es ps) = nest ps + 1
depth (wants_colon es at s ps) = nest ps + 1
depth (wants_quote es s ps) = nest ps + 1
depth (wants_arrow es s ps) = nest ps + 1

abbrev pub told : Shape → List Mark
told (wants ps) = shown ps
told (has t ps) = shown ps ++ marks (nest ps) t
told (wants_assign ps) = shown ps ++ mark (nest ps) At ∷ []
told (wants_field t ps) = shown ps ++ (marks (nest ps) t ++ mark (nest ps) Dot ∷ [])
told (wants_call t ps) = shown ps ++ (marks (nest ps) t ++ mark (nest ps) Pipe ∷ [])
told (wants_arguments h ps) = shown ps ++ named (nest ps) h
told (wants_if ps) = shown ps ++ mark (nest ps + 1) If ∷ []
told (wants_do s t ps) = shown ps ++ to_do (nest ps) s t []
told (wants_else s t y ps) = shown ps ++ to_do (nest ps) s t (to_else (deeper s (nest ps)) y [])
told (wants_part s qs ps) = shown ps ++ to_part (nest ps) s qs
told (wants_key es ps) = shown ps ++ to_key (nest ps) es
told (wants_colon es at s ps) = shown ps ++ (to_key (nest ps) es ++ mark (nest ps + 1) (Word at s) ∷ [])
told (wants_quote es s ps) = shown ps ++ (to_key (nest ps) es ++ mark (nest ps + 1) (Quote s) ∷ [])
told (wants_arrow es s ps) = shown ps ++ (to_key (nest ps) es ++ mark (nest ps + 1) (Quote s) ∷ mark (nest ps + 1) QuoteEnd ∷ [])

pub same_depth : (s : Shape) → m.depth (seen_shape s) ≡ depth s
same_depth (wants ps) = same_nest ps
same_depth (has t ps) = same_nest ps
same_depth (wants_assign ps) = same_nest ps
same_depth (wants_field t ps) = same_nest ps
same_depth (wants_call t ps) = same_nest ps
same_depth (wants_arguments h ps) = same_nest ps
same_depth (wants_if ps) = ap (λ n. n + 1) (same_nest ps)
same_depth (wants_do s t ps) = ap (deeper s) (same_nest ps)
same_depth (wants_else s t y ps) = ap (deeper s) (same_nest ps)
same_depth (wants_part s qs ps) = same_nest ps
same_depth (wants_key es ps) = ap (λ n. n + 1) (same_nest ps)
same_depth (wants_colon es at s ps) = ap (λ n. n + 1) (same_nest ps)
same_depth (wants_quote es s ps) = ap (λ n. n + 1) (same_nest ps)
same_depth (wants_arrow es s ps) = ap (λ n. n + 1) (same_nest ps)

-- What is held is grouped, and fits where it stands.

abbrev pub AllFine : List Tree → Type 0
AllFine [] = Unit {0}
AllFine (t ∷ ts) = (1 ≤ holds t) × Grouped t × AllFine ts

abbrev pub PartsFine : List TextPart → Type 0
PartsFine [] = Unit {0}
PartsFine (p ∷ ps) = (1 ≤ holds p.0) × Grouped p.0 × PartsFine ps

abbrev pub EntriesFine : List MapEntry → Type 0
EntriesFine [] = Unit {0}
EntriesFine (e ∷ es) = (1 ≤ holds e.1) × Grouped e.1 × EntriesFine es

abbrev pub FineHead : Head → List Piece → Type 0
FineHead of_list ps = Unit {0}
FineHead of_tuple ps = Unit {0}
FineHead (of_call c) ps = Unit {0}
FineHead (of_pipe l c) ps = Grouped l × (5 ≤ holds l) × (need (seen ps) ≤ 5)

abbrev pub IsCall : Head → Type 0
IsCall of_list = ⊥
IsCall of_tuple = ⊥
IsCall (of_call c) = Unit {0}
IsCall (of_pipe l c) = Unit {0}

-- an `if` without parentheses stands where nothing more is asked
abbrev pub FitsStyle : Style → List Piece → Type 0
FitsStyle bare ps = need (seen ps) ≤ 0
FitsStyle inside ps = Unit {0}

abbrev pub Fine : List Piece → Type 0
Fine [] = Unit {0}
Fine (left o t ∷ ps) = Grouped t × (left_of (binds o) ≤ holds t) × (may_deny o (denies t) ≡ true) × (need (seen ps) ≤ binds o) × Fine ps
Fine (front o ∷ ps) = Fine ps
Fine (open_paren ∷ ps) = Fine ps
Fine (open_index t ∷ ps) = Grouped t × (11 ≤ holds t) × Fine ps
Fine (open_items h ts ∷ ps) = FineHead h ps × AllFine ts × Fine ps
Fine (open_part s qs ∷ ps) = PartsFine qs × Fine ps
Fine (open_entry es k ∷ ps) = EntriesFine es × Fine ps
Fine (open_test ∷ ps) = (need (seen ps) ≤ 0) × Fine ps
Fine (open_inner ∷ ps) = Fine ps
Fine (open_yes s t ∷ ps) = FitsStyle s ps × (1 ≤ holds t) × Grouped t × Fine ps
Fine (open_no s t y ∷ ps) = FitsStyle s ps × (1 ≤ holds t) × (1 ≤ holds y) × Grouped t × Grouped y × Fine ps

abbrev pub FineShape : Shape → Type 0
FineShape (wants ps) = Fine ps
FineShape (has t ps) = Grouped t × (need (seen ps) ≤ holds t) × Fine ps
FineShape (wants_assign ps) = Fine ps
FineShape (wants_field t ps) = Grouped t × (11 ≤ holds t) × Fine ps
FineShape (wants_call t ps) = Grouped t × (5 ≤ holds t) × (need (seen ps) ≤ 5) × Fine ps
FineShape (wants_arguments h ps) = IsCall h × FineHead h ps × Fine ps
FineShape (wants_if ps) = Fine ps
FineShape (wants_do s t ps) = FitsStyle s ps × (1 ≤ holds t) × Grouped t × Fine ps
FineShape (wants_else s t y ps) = FitsStyle s ps × (1 ≤ holds t) × (1 ≤ holds y) × Grouped t × Grouped y × Fine ps
FineShape (wants_part s qs ps) = PartsFine qs × Fine ps
FineShape (wants_key es ps) = EntriesFine es × Fine ps
FineShape (wants_colon es at s ps) = EntriesFine es × Fine ps
FineShape (wants_quote es s ps) = EntriesFine es × Fine ps
FineShape (wants_arrow es s ps) = EntriesFine es × Fine ps

pub need_le : (ps : List Piece) → need (seen ps) ≤ 10
need_le [] = omega arith
need_le (left o t ∷ ps) = right_le o
need_le (front o ∷ ps) = omega arith
need_le (open_paren ∷ ps) = omega arith
need_le (open_index t ∷ ps) = omega arith
need_le (open_items h ts ∷ ps) = omega arith
need_le (open_part s qs ∷ ps) = omega arith
need_le (open_entry es k ∷ ps) = omega arith
need_le (open_test ∷ ps) = omega arith
need_le (open_inner ∷ ps) = omega arith
need_le (open_yes s t ∷ ps) = omega arith
need_le (open_no s t y ∷ ps) = omega arith

pub style_need : (s : Style) (ps : List Piece) → FitsStyle s ps → need (seen ps) ≤ style_holds s
style_need bare ps f = f
style_need inside ps f = omega (arith, need_le ps)

-- Lists of trees.

abbrev pub trees_of : List Tree → Trees
trees_of [] = no_trees
trees_of (t ∷ ts) = tree t (trees_of ts)

abbrev pub made : Head → Trees → Tree
made of_list ts = list ts
made of_tuple ts = tuple ts
made (of_call c) ts = call c ts
made (of_pipe l c) ts = piped l c ts

abbrev pub bracket : Head → Bracket
bracket of_list = Square
bracket of_tuple = Curly
bracket (of_call c) = Round
bracket (of_pipe l c) = Round

pub all_grouped : (ts : List Tree) (t : Tree) → AllFine ts → 1 ≤ holds t → Grouped t → AllGrouped (trees_of (ts ++ t ∷ []))
all_grouped [] t g i h = (i, h, tt)
all_grouped (u ∷ us) t g i h = (g.0, g.1, all_grouped us t g.2 i h)

pub all_fine : (ts : List Tree) (t : Tree) → AllFine ts → 1 ≤ holds t → Grouped t → AllFine (ts ++ t ∷ [])
all_fine [] t g i h = (i, h, tt)
all_fine (u ∷ us) t g i h = (g.0, g.1, all_fine us t g.2 i h)

pub unknown_more : (ts : List Tree) (t : Tree) → unknown_in (ts ++ t ∷ []) ≡ earlier (unknown_in ts) (unknown t)
unknown_more [] t = earlier_none (unknown t)
unknown_more (u ∷ us) t = ap (earlier (unknown u)) (unknown_more us t) ∙ sym (earlier_assoc (unknown u) (unknown_in us) (unknown t))

more_marks : (ts : List Tree) (t : Tree) (n : ℕ) → more_listed n (trees_of (ts ++ t ∷ [])) ≡ mark n Comma ∷ (with_commas n ts ++ marks n t)
more_marks [] t n = ap (λ l. mark n Comma ∷ l) (append-nil (marks n t))
more_marks (u ∷ us) t n = ap (λ l. mark n Comma ∷ (marks n u ++ l)) (more_marks us t n) ∙ ap (λ l. mark n Comma ∷ l) (sym (append_assoc (marks n u) (mark n Comma ∷ with_commas n us) (marks n t)))

pub item_marks : (ts : List Tree) (t : Tree) (n : ℕ) → listed n (trees_of (ts ++ t ∷ [])) ≡ with_commas n ts ++ marks n t
item_marks [] t n = append-nil (marks n t)
item_marks (u ∷ us) t n = ap (λ l. marks n u ++ l) (more_marks us t n) ∙ sym (append_assoc (marks n u) (mark n Comma ∷ with_commas n us) (marks n t))

pub comma_marks : (ts : List Tree) (t : Tree) (n : ℕ) → with_commas n (ts ++ t ∷ []) ≡ (with_commas n ts ++ marks n t) ++ mark n Comma ∷ []
comma_marks [] t n = refl
comma_marks (u ∷ us) t n = ap (λ l. marks n u ++ mark n Comma ∷ l) (comma_marks us t n) ∙ simp append_assoc

meanings_of : (ts : List Tree) → meanings (trees_of ts) ≡ map meaning ts
meanings_of [] = refl
meanings_of (t ∷ ts) = ap (λ es. meaning t ∷ es) (meanings_of ts)

unknowns_of : (ts : List Tree) → unknown_item (trees_of ts) ≡ unknown_in ts
unknowns_of [] = refl
unknowns_of (t ∷ ts) = ap (earlier (unknown t)) (unknowns_of ts)

pub made_marks : (h : Head) (ts : Trees) (n : ℕ) → marks n (made h ts) ≡ headed n h ++ (listed (n + 1) ts ++ mark n (Closing (bracket h)) ∷ [])
made_marks of_list ts n = refl
made_marks of_tuple ts n = refl
made_marks (of_call c) ts n = refl
made_marks (of_pipe l c) ts n = simp append_assoc

pub made_grouped : (h : Head) (ps : List Piece) (ts : Trees) → FineHead h ps → AllGrouped ts → Grouped (made h ts)
made_grouped of_list ps ts g k = k
made_grouped of_tuple ps ts g k = k
made_grouped (of_call c) ps ts g k = k
made_grouped (of_pipe l c) ps ts g k = (g.1, g.0, k)

pub made_fits : (h : Head) (ps : List Piece) (ts : Trees) → FineHead h ps → need (seen ps) ≤ holds (made h ts)
made_fits of_list ps ts g = omega (arith, need_le ps)
made_fits of_tuple ps ts g = omega (arith, need_le ps)
made_fits (of_call c) ps ts g = omega (arith, need_le ps)
made_fits (of_pipe l c) ps ts g = g.2

made_held : (h : Head) (ts : Trees) → held (made h ts) ≡ finish (seen_head h) (meanings ts) (unknown_item ts)
made_held of_list ts = refl
made_held of_tuple ts = refl
made_held (of_call c) ts = refl
made_held (of_pipe l c) ts = refl

pub made_end : (h : Head) (ts : List Tree) (t : Tree) → held (made h (trees_of (ts ++ t ∷ []))) ≡ finish (seen_head h) (map meaning ts ++ meaning t ∷ []) (earlier (unknown_in ts) (unknown t))
made_end h ts t =
    made_held h (trees_of (ts ++ t ∷ []))
    ∙ ap (λ es. finish (seen_head h) es (unknown_item (trees_of (ts ++ t ∷ [])))) (meanings_of (ts ++ t ∷ []) ∙ map-append meaning ts (t ∷ []))
    ∙ ap (finish (seen_head h) (map meaning ts ++ meaning t ∷ [])) (unknowns_of (ts ++ t ∷ []) ∙ unknown_more ts t)

pub made_empty : (h : Head) → held (made h no_trees) ≡ finish (seen_head h) [] None
made_empty h = made_held h no_trees

-- Parts of a text.

abbrev pub parts_from : List TextPart → Parts
parts_from [] = no_parts
parts_from (p ∷ ps) = part p.0 p.1 (parts_from ps)

pub parts_grouped : (ps : List TextPart) → PartsFine ps → PartsGrouped (parts_from ps)
parts_grouped [] g = tt
parts_grouped (p ∷ ps) g = (g.0, g.1, parts_grouped ps g.2)

pub parts_fine : (ps : List TextPart) (t : Tree) (s : List ℕ) → PartsFine ps → 1 ≤ holds t → Grouped t → PartsFine (ps ++ (t, s) ∷ [])
parts_fine [] t s g i h = (i, h, tt)
parts_fine (p ∷ ps) t s g i h = (g.0, g.1, parts_fine ps t s g.2 i h)

pub parts_marks : (ps : List TextPart) (n : ℕ) → part_marks n (parts_from ps) ≡ parts_shown n ps
parts_marks [] n = refl
parts_marks (p ∷ ps) n = ap (λ l. mark (n + 1) PartOpening ∷ (marks (n + 1) p.0 ++ mark n (PartClosing p.1) ∷ l)) (parts_marks ps n)

pub parts_further : (ps : List TextPart) (t : Tree) (s : List ℕ) (n : ℕ) → parts_shown n (ps ++ (t, s) ∷ []) ≡ parts_shown n ps ++ mark (n + 1) PartOpening ∷ (marks (n + 1) t ++ mark n (PartClosing s) ∷ [])
parts_further [] t s n = refl
parts_further (p ∷ ps) t s n = ap (λ l. mark (n + 1) PartOpening ∷ (marks (n + 1) p.0 ++ mark n (PartClosing p.1) ∷ l)) (parts_further ps t s n) ∙ simp append_assoc

pub parts_seen : (ps : List TextPart) (t : Tree) (s : List ℕ) → seen_parts (ps ++ (t, s) ∷ []) ≡ seen_parts ps ++ expr_part (meaning t) ∷ plain_parts s
parts_seen [] t s = ap (λ l. expr_part (meaning t) ∷ l) (append-nil (plain_parts s))
parts_seen (p ∷ ps) t s = ap (λ l. expr_part (meaning p.0) ∷ (plain_parts p.1 ++ l)) (parts_seen ps t s) ∙ simp append_assoc

pub parts_unknown : (ps : List TextPart) (t : Tree) (s : List ℕ) → unknown_parts (ps ++ (t, s) ∷ []) ≡ earlier (unknown_parts ps) (unknown t)
parts_unknown [] t s = earlier_none (unknown t)
parts_unknown (p ∷ ps) t s = ap (earlier (unknown p.0)) (parts_unknown ps t s) ∙ sym (earlier_assoc (unknown p.0) (unknown_parts ps) (unknown t))

pub parts_mean : (ps : List TextPart) → part_meanings (parts_from ps) ≡ seen_parts ps
parts_mean [] = refl
parts_mean (p ∷ ps) = ap (λ l. expr_part (meaning p.0) ∷ (plain_parts p.1 ++ l)) (parts_mean ps)

pub parts_unknown_of : (ps : List TextPart) → unknown_part (parts_from ps) ≡ unknown_parts ps
parts_unknown_of [] = refl
parts_unknown_of (p ∷ ps) = ap (earlier (unknown p.0)) (parts_unknown_of ps)

-- Entries of a map.

abbrev pub entries_from : List MapEntry → Entries
entries_from [] = no_entries
entries_from (e ∷ es) = entry e.0 e.1 (entries_from es)

pub entries_grouped : (es : List MapEntry) (k : Key) (t : Tree) → EntriesFine es → 1 ≤ holds t → Grouped t → EntriesGrouped (entries_from (es ++ (k, t) ∷ []))
entries_grouped [] k t g i h = (i, h, tt)
entries_grouped (e ∷ es) k t g i h = (g.0, g.1, entries_grouped es k t g.2 i h)

pub entries_fine : (es : List MapEntry) (k : Key) (t : Tree) → EntriesFine es → 1 ≤ holds t → Grouped t → EntriesFine (es ++ (k, t) ∷ [])
entries_fine [] k t g i h = (i, h, tt)
entries_fine (e ∷ es) k t g i h = (g.0, g.1, entries_fine es k t g.2 i h)

more_entry_marks : (es : List MapEntry) (k : Key) (t : Tree) (n : ℕ) → more_entries n (entries_from (es ++ (k, t) ∷ [])) ≡ mark n Comma ∷ (entries_shown n es ++ (key_marks n k ++ marks n t))
more_entry_marks [] k t n = ap (λ l. mark n Comma ∷ (key_marks n k ++ l)) (append-nil (marks n t))
more_entry_marks (e ∷ es) k t n = ap (λ l. mark n Comma ∷ (key_marks n e.0 ++ (marks n e.1 ++ l))) (more_entry_marks es k t n) ∙ simp append_assoc

pub entries_marks : (es : List MapEntry) (k : Key) (t : Tree) (n : ℕ) → entry_marks n (entries_from (es ++ (k, t) ∷ [])) ≡ entries_shown n es ++ (key_marks n k ++ marks n t)
entries_marks [] k t n = ap (λ l. key_marks n k ++ l) (append-nil (marks n t))
entries_marks (e ∷ es) k t n = ap (λ l. key_marks n e.0 ++ (marks n e.1 ++ l)) (more_entry_marks es k t n) ∙ simp append_assoc

pub entries_further : (es : List MapEntry) (k : Key) (t : Tree) (n : ℕ) → entries_shown n (es ++ (k, t) ∷ []) ≡ entries_shown n es ++ (key_marks n k ++ (marks n t ++ mark n Comma ∷ []))
entries_further [] k t n = refl
entries_further (e ∷ es) k t n = ap (λ l. key_marks n e.0 ++ (marks n e.1 ++ mark n Comma ∷ l)) (entries_further es k t n) ∙ simp append_assoc

pub entries_seen : (es : List MapEntry) (k : Key) (t : Tree) → seen_entries (es ++ (k, t) ∷ []) ≡ seen_entries es ++ (key_text k, meaning t) ∷ []
entries_seen [] k t = refl
entries_seen (e ∷ es) k t = ap (λ l. (key_text e.0, meaning e.1) ∷ l) (entries_seen es k t)

pub entries_unknown : (es : List MapEntry) (k : Key) (t : Tree) → unknown_entries (es ++ (k, t) ∷ []) ≡ earlier (unknown_entries es) (unknown t)
entries_unknown [] k t = earlier_none (unknown t)
entries_unknown (e ∷ es) k t = ap (earlier (unknown e.1)) (entries_unknown es k t) ∙ sym (earlier_assoc (unknown e.1) (unknown_entries es) (unknown t))

pub entries_mean : (es : List MapEntry) → entry_meanings (entries_from es) ≡ seen_entries es
entries_mean [] = refl
entries_mean (e ∷ es) = ap (λ l. (key_text e.0, meaning e.1) ∷ l) (entries_mean es)

pub entries_unknown_of : (es : List MapEntry) → unknown_entry (entries_from es) ≡ unknown_entries es
entries_unknown_of [] = refl
entries_unknown_of (e ∷ es) = ap (earlier (unknown e.1)) (entries_unknown_of es)
