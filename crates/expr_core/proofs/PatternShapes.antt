-- What the reader of patterns holds, with its trees: what was read so far, and how it is completed.
use Rattle.std.proofs.Common.{◌≡◌, ℕ, pos, ◌+◌, List, [], ◌∷◌, ◌++◌, map, codes, refl, sym, ap, ◌∙◌, subst, append_assoc, append-nil}
use Rattle.std.proofs.lemmas.List.{map-append}
use Rattle.ast_core.specs.declared.operators.BinaryOp.TheVariants as op
use Rattle.ast_core.specs.Syntax.{Pattern}
use Rattle.expr_token.specs.declared.token.Bracket.{Bracket}
use Rattle.expr_token.specs.declared.token.Bracket.TheVariants.{Square, Curly}
use Rattle.expr_token.specs.declared.token.Token.TheVariants.{Number, Word, Nil, Operator, Comma, Colon, OpeningSquare, OpeningCurly, OpeningMap, Closing, Quote, QuoteEnd}
use Rattle.expr_core.specs.Language.{Mark, mark}
use Rattle.expr_core.specs.PatternGrammar.{Tree, negative, text, nil, list, tuple, map_of, Trees, no_trees, tree, Entries, no_entries, entry, names, all_names, entry_names, Fresh, marks, listed, more_listed, entry_marks, more_entries, meaning, meanings, entry_meanings, patterns}
use Rattle.expr_core.specs.PatternMachine.{Opener, listing, tupling, Frame, Frames, items, valued, State, want, have, want_number, want_quote, want_key, want_colon, finish}
use Rattle.expr_core.specs.PatternMachine as m
use Rattle.expr_core.proofs.Steps.{Completes}
use Rattle.expr_core.proofs.PatternGoes.{onto}

-- what begins a list
pub data Head : Type 0 where
  of_list : Head
  of_tuple : Head

-- a finished entry of a map: the byte of its key, the key, and the pattern
abbrev pub MapEntry : Type 0
MapEntry = ℕ × List ℕ × Tree

pub data Piece : Type 0 where
  open_items : Head → List Tree → Piece
  open_entry : List MapEntry → ℕ → List ℕ → Piece

pub data Shape : Type 0 where
  wants : List Piece → Shape
  has : Tree → List Piece → Shape
  wants_number : List Piece → Shape
  wants_quote : List ℕ → List Piece → Shape
  wants_key : List MapEntry → List Piece → Shape
  wants_colon : List MapEntry → ℕ → List ℕ → List Piece → Shape

-- The names so far.

abbrev pub list_names : List Tree → List (List ℕ)
list_names [] = []
list_names (t ∷ ts) = names t ++ list_names ts

abbrev pub map_names : List MapEntry → List (List ℕ)
map_names [] = []
map_names (e ∷ es) = names e.2 ++ map_names es

abbrev pub bound : List Piece → List (List ℕ)
bound [] = []
bound (open_items h ts ∷ ps) = bound ps ++ list_names ts
bound (open_entry es at k ∷ ps) = bound ps ++ map_names es

abbrev pub bound_by : Shape → List (List ℕ)
bound_by (wants ps) = bound ps
bound_by (has t ps) = bound ps ++ names t
bound_by (wants_number ps) = bound ps
bound_by (wants_quote s ps) = bound ps
bound_by (wants_key es ps) = bound ps ++ map_names es
bound_by (wants_colon es at k ps) = bound ps ++ map_names es

abbrev pub FineShape : Shape → Type 0
FineShape s = Fresh [] (bound_by s)

-- What the reader sees.

abbrev pub seen_head : Head → Opener
seen_head of_list = listing
seen_head of_tuple = tupling

abbrev pub seen_entries : List MapEntry → List (List ℕ × Pattern)
seen_entries [] = []
seen_entries (e ∷ es) = (e.1, meaning e.2) ∷ seen_entries es

abbrev pub seen_piece : Piece → Frame
seen_piece (open_items h ts) = items (seen_head h) (map meaning ts)
seen_piece (open_entry es at k) = valued (seen_entries es) k

abbrev pub seen : List Piece → Frames
seen ps = map seen_piece ps

abbrev pub seen_shape : Shape → State
seen_shape (wants ps) = want (onto [] (bound ps)) (seen ps)
seen_shape (has t ps) = have (onto [] (bound ps ++ names t)) (meaning t) (seen ps)
seen_shape (wants_number ps) = want_number (onto [] (bound ps)) (seen ps)
seen_shape (wants_quote s ps) = want_quote (onto [] (bound ps)) s (seen ps)
seen_shape (wants_key es ps) = want_key (onto [] (bound ps ++ map_names es)) (seen_entries es) (seen ps)
seen_shape (wants_colon es at k ps) = want_colon (onto [] (bound ps ++ map_names es)) (seen_entries es) k (seen ps)

-- The tokens so far, and how deep they stand.

abbrev pub nest : List Piece → ℕ
nest [] = 0
nest (p ∷ ps) = nest ps + 1

same_nest : (ps : List Piece) → m.nest (seen ps) ≡ nest ps
same_nest [] = refl
same_nest (p ∷ ps) = ap (λ n. n + 1) (same_nest ps)

abbrev pub depth : Shape → ℕ
depth (wants ps) = nest ps
depth (has t ps) = nest ps
depth (wants_number ps) = nest ps
depth (wants_quote s ps) = nest ps
depth (wants_key es ps) = nest ps + 1
depth (wants_colon es at k ps) = nest ps + 1

pub same_depth : (s : Shape) → m.depth (seen_shape s) ≡ depth s
same_depth (wants ps) = same_nest ps
same_depth (has t ps) = same_nest ps
same_depth (wants_number ps) = same_nest ps
same_depth (wants_quote s ps) = same_nest ps
same_depth (wants_key es ps) = ap (λ n. n + 1) (same_nest ps)
same_depth (wants_colon es at k ps) = ap (λ n. n + 1) (same_nest ps)

-- patterns, each with a comma behind it
abbrev pub with_commas : ℕ → List Tree → List Mark
with_commas n [] = []
with_commas n (t ∷ ts) = marks n t ++ mark n Comma ∷ with_commas n ts

-- entries, each with a comma behind it
abbrev pub entries_shown : ℕ → List MapEntry → List Mark
entries_shown n [] = []
entries_shown n (e ∷ es) = mark n (Word e.0 e.1) ∷ mark n Colon ∷ (marks n e.2 ++ mark n Comma ∷ entries_shown n es)

abbrev pub headed : ℕ → Head → List Mark
headed n of_list = mark (n + 1) OpeningSquare ∷ []
headed n of_tuple = mark (n + 1) OpeningCurly ∷ []

abbrev pub to_key : ℕ → List MapEntry → List Mark
to_key n es = mark (n + 1) OpeningMap ∷ entries_shown (n + 1) es

abbrev pub shown : List Piece → List Mark
shown [] = []
shown (open_items h ts ∷ ps) = shown ps ++ (headed (nest ps) h ++ with_commas (nest ps + 1) ts)
shown (open_entry es at k ∷ ps) = shown ps ++ (to_key (nest ps) es ++ mark (nest ps + 1) (Word at k) ∷ mark (nest ps + 1) Colon ∷ [])

abbrev pub told : Shape → List Mark
told (wants ps) = shown ps
told (has t ps) = shown ps ++ marks (nest ps) t
told (wants_number ps) = shown ps ++ mark (nest ps) (Operator op.Minus) ∷ []
told (wants_quote s ps) = shown ps ++ mark (nest ps) (Quote s) ∷ []
told (wants_key es ps) = shown ps ++ to_key (nest ps) es
told (wants_colon es at k ps) = shown ps ++ (to_key (nest ps) es ++ mark (nest ps + 1) (Word at k) ∷ [])

-- Lists of patterns.

abbrev pub trees_of : List Tree → Trees
trees_of [] = no_trees
trees_of (t ∷ ts) = tree t (trees_of ts)

abbrev pub made : Head → Trees → Tree
made of_list ts = list ts
made of_tuple ts = tuple ts

abbrev pub bracket : Head → Bracket
bracket of_list = Square
bracket of_tuple = Curly

more_marks : (ts : List Tree) (t : Tree) (n : ℕ) → more_listed n (trees_of (ts ++ t ∷ [])) ≡ mark n Comma ∷ (with_commas n ts ++ marks n t)
more_marks [] t n = ap (λ l. mark n Comma ∷ l) (append-nil (marks n t))
more_marks (u ∷ us) t n = ap (λ l. mark n Comma ∷ (marks n u ++ l)) (more_marks us t n) ∙ ap (λ l. mark n Comma ∷ l) (sym (append_assoc (marks n u) (mark n Comma ∷ with_commas n us) (marks n t)))

pub item_marks : (ts : List Tree) (t : Tree) (n : ℕ) → listed n (trees_of (ts ++ t ∷ [])) ≡ with_commas n ts ++ marks n t
item_marks [] t n = append-nil (marks n t)
item_marks (u ∷ us) t n = ap (λ l. marks n u ++ l) (more_marks us t n) ∙ sym (append_assoc (marks n u) (mark n Comma ∷ with_commas n us) (marks n t))

pub comma_marks : (ts : List Tree) (t : Tree) (n : ℕ) → with_commas n (ts ++ t ∷ []) ≡ (with_commas n ts ++ marks n t) ++ mark n Comma ∷ []
comma_marks [] t n = refl
comma_marks (u ∷ us) t n = ap (λ l. marks n u ++ mark n Comma ∷ l) (comma_marks us t n) ∙ simp append_assoc

meanings_of : (ts : List Tree) → meanings (trees_of ts) ≡ map meaning ts
meanings_of [] = refl
meanings_of (t ∷ ts) = ap (λ es. meaning t ∷ es) (meanings_of ts)

names_of : (ts : List Tree) → all_names (trees_of ts) ≡ list_names ts
names_of [] = refl
names_of (t ∷ ts) = ap (λ l. names t ++ l) (names_of ts)

pub names_more : (ts : List Tree) (t : Tree) → list_names (ts ++ t ∷ []) ≡ list_names ts ++ names t
names_more [] t = append-nil (names t)
names_more (u ∷ us) t = ap (λ l. names u ++ l) (names_more us t) ∙ sym (append_assoc (names u) (list_names us) (names t))

pub made_marks : (h : Head) (ts : Trees) (n : ℕ) → marks n (made h ts) ≡ headed n h ++ (listed (n + 1) ts ++ mark n (Closing (bracket h)) ∷ [])
made_marks of_list ts n = refl
made_marks of_tuple ts n = refl

made_names : (h : Head) (ts : Trees) → names (made h ts) ≡ all_names ts
made_names of_list ts = refl
made_names of_tuple ts = refl

made_meaning : (h : Head) (ts : Trees) → meaning (made h ts) ≡ finish (seen_head h) (meanings ts)
made_meaning of_list ts = refl
made_meaning of_tuple ts = refl

pub end_names : (h : Head) (ts : List Tree) (t : Tree) → names (made h (trees_of (ts ++ t ∷ []))) ≡ list_names ts ++ names t
end_names h ts t = made_names h (trees_of (ts ++ t ∷ [])) ∙ names_of (ts ++ t ∷ []) ∙ names_more ts t

pub end_meaning : (h : Head) (ts : List Tree) (t : Tree) → meaning (made h (trees_of (ts ++ t ∷ []))) ≡ finish (seen_head h) (map meaning ts ++ meaning t ∷ [])
end_meaning h ts t = made_meaning h (trees_of (ts ++ t ∷ [])) ∙ ap (finish (seen_head h)) (meanings_of (ts ++ t ∷ []) ∙ map-append meaning ts (t ∷ []))

-- Entries of a map.

abbrev pub entries_from : List MapEntry → Entries
entries_from [] = no_entries
entries_from (e ∷ es) = entry e.0 e.1 e.2 (entries_from es)

more_entry_marks : (es : List MapEntry) (at : ℕ) (k : List ℕ) (t : Tree) (n : ℕ) → more_entries n (entries_from (es ++ (at, k, t) ∷ [])) ≡ mark n Comma ∷ (entries_shown n es ++ mark n (Word at k) ∷ mark n Colon ∷ marks n t)
more_entry_marks [] at k t n = ap (λ l. mark n Comma ∷ mark n (Word at k) ∷ mark n Colon ∷ l) (append-nil (marks n t))
more_entry_marks (e ∷ es) at k t n = ap (λ l. mark n Comma ∷ mark n (Word e.0 e.1) ∷ mark n Colon ∷ (marks n e.2 ++ l)) (more_entry_marks es at k t n) ∙ simp append_assoc

pub entries_marks : (es : List MapEntry) (at : ℕ) (k : List ℕ) (t : Tree) (n : ℕ) → entry_marks n (entries_from (es ++ (at, k, t) ∷ [])) ≡ entries_shown n es ++ mark n (Word at k) ∷ mark n Colon ∷ marks n t
entries_marks [] at k t n = ap (λ l. mark n (Word at k) ∷ mark n Colon ∷ l) (append-nil (marks n t))
entries_marks (e ∷ es) at k t n = ap (λ l. mark n (Word e.0 e.1) ∷ mark n Colon ∷ (marks n e.2 ++ l)) (more_entry_marks es at k t n) ∙ simp append_assoc

pub entries_further : (es : List MapEntry) (at : ℕ) (k : List ℕ) (t : Tree) (n : ℕ) → entries_shown n (es ++ (at, k, t) ∷ []) ≡ entries_shown n es ++ mark n (Word at k) ∷ mark n Colon ∷ (marks n t ++ mark n Comma ∷ [])
entries_further [] at k t n = refl
entries_further (e ∷ es) at k t n = ap (λ l. mark n (Word e.0 e.1) ∷ mark n Colon ∷ (marks n e.2 ++ mark n Comma ∷ l)) (entries_further es at k t n) ∙ simp append_assoc

pub entries_seen : (es : List MapEntry) (at : ℕ) (k : List ℕ) (t : Tree) → seen_entries (es ++ (at, k, t) ∷ []) ≡ seen_entries es ++ (k, meaning t) ∷ []
entries_seen [] at k t = refl
entries_seen (e ∷ es) at k t = ap (λ l. (e.1, meaning e.2) ∷ l) (entries_seen es at k t)

pub entries_mean : (es : List MapEntry) → entry_meanings (entries_from es) ≡ seen_entries es
entries_mean [] = refl
entries_mean (e ∷ es) = ap (λ l. (e.1, meaning e.2) ∷ l) (entries_mean es)

pub entries_names : (es : List MapEntry) → entry_names (entries_from es) ≡ map_names es
entries_names [] = refl
entries_names (e ∷ es) = ap (λ l. names e.2 ++ l) (entries_names es)

pub map_names_more : (es : List MapEntry) (at : ℕ) (k : List ℕ) (t : Tree) → map_names (es ++ (at, k, t) ∷ []) ≡ map_names es ++ names t
map_names_more [] at k t = append-nil (names t)
map_names_more (e ∷ es) at k t = ap (λ l. names e.2 ++ l) (map_names_more es at k t) ∙ sym (append_assoc (names e.2) (map_names es) (names t))

-- Completion.

-- the pattern that it becomes
abbrev pub plugged : List Piece → Tree → Tree
plugged [] t = t
plugged (open_items h ts ∷ ps) t = plugged ps (made h (trees_of (ts ++ t ∷ [])))
plugged (open_entry es at k ∷ ps) t = plugged ps (map_of (entries_from (es ++ (at, k, t) ∷ [])))

-- the tokens that close it
abbrev pub rest : List Piece → List Mark
rest [] = []
rest (open_items h ts ∷ ps) = mark (nest ps) (Closing (bracket h)) ∷ rest ps
rest (open_entry es at k ∷ ps) = mark (nest ps) (Closing Curly) ∷ rest ps

plug_names : (ps : List Piece) (t : Tree) → names (plugged ps t) ≡ bound ps ++ names t
plug_names [] t = refl
plug_names (open_items h ts ∷ ps) t = plug_names ps (made h (trees_of (ts ++ t ∷ []))) ∙ ap (λ l. bound ps ++ l) (end_names h ts t) ∙ sym (append_assoc (bound ps) (list_names ts) (names t))
plug_names (open_entry es at k ∷ ps) t =
    let rs = es ++ (at, k, t) ∷ [] in
    plug_names ps (map_of (entries_from rs)) ∙ ap (λ l. bound ps ++ l) (entries_names rs ∙ map_names_more es at k t) ∙ sym (append_assoc (bound ps) (map_names es) (names t))

plug_marks : (ps : List Piece) (t : Tree) → marks 0 (plugged ps t) ≡ (shown ps ++ marks (nest ps) t) ++ rest ps
plug_marks [] t = sym (append-nil (marks 0 t))
plug_marks (open_items a ts ∷ ps) t =
    let us = trees_of (ts ++ t ∷ []) in
    let e : marks (nest ps) (made a us) ≡ headed (nest ps) a ++ ((with_commas (nest ps + 1) ts ++ marks (nest ps + 1) t) ++ mark (nest ps) (Closing (bracket a)) ∷ [])
    = made_marks a us (nest ps) ∙ ap (λ l. headed (nest ps) a ++ (l ++ mark (nest ps) (Closing (bracket a)) ∷ [])) (item_marks ts t (nest ps + 1)) in
    plug_marks ps (made a us) ∙ ap (λ l. (shown ps ++ l) ++ rest ps) e ∙ simp append_assoc
plug_marks (open_entry es at k ∷ ps) t =
    let n = nest ps in
    plug_marks ps (map_of (entries_from (es ++ (at, k, t) ∷ []))) ∙ ap (λ l. (shown ps ++ mark (n + 1) OpeningMap ∷ (l ++ mark n (Closing Curly) ∷ [])) ++ rest ps) (entries_marks es at k t (n + 1)) ∙ simp append_assoc

with_operand : (ps : List Piece) (t : Tree) (ms more : List Mark) → Fresh [] (bound ps ++ names t) → shown ps ++ marks (nest ps) t ≡ ms ++ more → Completes patterns ms
with_operand ps t ms more f e = record {
  tree = plugged ps t;
  more = more ++ rest ps;
  lawful = subst (Fresh []) (sym (plug_names ps t)) f;
  same = plug_marks ps t ∙ ap (λ l. l ++ rest ps) e ∙ append_assoc ms more (rest ps);
}

-- a pattern without names adds none
no_more : (ns : List (List ℕ)) → Fresh [] ns → Fresh [] (ns ++ [])
no_more ns f = subst (Fresh []) (sym (append-nil ns)) f

viable_entry : (es : List MapEntry) (at : ℕ) (k : List ℕ) (ps : List Piece) (ms more : List Mark) → Fresh [] (bound ps ++ map_names es) → mark (nest ps + 1) (Word at k) ∷ mark (nest ps + 1) Colon ∷ [] ≡ ms ++ more → Completes patterns (shown ps ++ (to_key (nest ps) es ++ ms))
viable_entry es at k ps ms more f e =
    let n = nest ps in
    let rs = es ++ (at, k, nil) ∷ [] in
    let c = mark (n + 1) Nil ∷ mark n (Closing Curly) ∷ [] in
    let t = map_of (entries_from rs) in
    let a : marks n t ≡ mark (n + 1) OpeningMap ∷ ((entries_shown (n + 1) es ++ ((ms ++ more) ++ mark (n + 1) Nil ∷ [])) ++ mark n (Closing Curly) ∷ [])
    = ap (λ l. mark (n + 1) OpeningMap ∷ (l ++ mark n (Closing Curly) ∷ [])) (entries_marks es at k nil (n + 1) ∙ ap (λ l. entries_shown (n + 1) es ++ (l ++ mark (n + 1) Nil ∷ [])) e) in
    let b : names t ≡ map_names es = entries_names rs ∙ map_names_more es at k nil ∙ append-nil (map_names es) in
    with_operand ps t (shown ps ++ (to_key n es ++ ms)) (more ++ c) (subst (λ l. Fresh [] (bound ps ++ l)) (sym b) f) (ap (λ l. shown ps ++ l) a ∙ simp append_assoc)

pub viable : (s : Shape) → FineShape s → Completes patterns (told s)
viable (wants ps) f = with_operand ps nil (shown ps) (mark (nest ps) Nil ∷ []) (no_more (bound ps) f) refl
viable (has t ps) f = with_operand ps t (shown ps ++ marks (nest ps) t) [] f (sym (append-nil (shown ps ++ marks (nest ps) t)))
viable (wants_number ps) f = with_operand ps (negative (pos 1)) (told (wants_number ps)) (mark (nest ps) (Number (pos 1)) ∷ []) (no_more (bound ps) f) (simp append_assoc)
viable (wants_quote s ps) f = with_operand ps (text s) (told (wants_quote s ps)) (mark (nest ps) QuoteEnd ∷ []) (no_more (bound ps) f) (simp append_assoc)
viable (wants_key es ps) f = subst (Completes patterns) (ap (λ l. shown ps ++ l) (append-nil (to_key (nest ps) es))) (viable_entry es 0 (codes "a") ps [] (mark (nest ps + 1) (Word 0 (codes "a")) ∷ mark (nest ps + 1) Colon ∷ []) f refl)
viable (wants_colon es at k ps) f = viable_entry es at k ps (mark (nest ps + 1) (Word at k) ∷ []) (mark (nest ps + 1) Colon ∷ []) f refl
