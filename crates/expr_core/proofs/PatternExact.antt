-- The reader of patterns is exact.
use Rattle.std.proofs.Common.{◌≡◌, ℕ, ◌+◌, List, [], ◌∷◌, ◌++◌, length, map, Bool, true, false, Option, Some, None, Ok, refl, sym, ap, ◌∙◌, subst, append_assoc, append-nil}
use Rattle.std.specs.Prelude.{if◌then◌else◌}
use Rattle.std.proofs.lemmas.List.{map-append}
use Rattle.ast_core.specs.declared.operators.BinaryOp.TheVariants as op
use Rattle.ast_core.specs.Syntax.{Pattern}
use Rattle.ast_core.specs.Syntax as x
use Rattle.ast_core.specs.PatternView.{keys_of}
use Rattle.expr_token.specs.declared.token.Bracket.{Bracket}
use Rattle.expr_token.specs.declared.token.Bracket.TheVariants.{Round, Square, Curly}
use Rattle.expr_token.specs.declared.token.Token.{Token}
use Rattle.expr_token.specs.declared.token.Token.TheVariants.{Number, Word, Atom, Nil, Boolean, Operator, Comma, Colon, OpeningSquare, OpeningCurly, OpeningMap, Closing, Quote, QuoteEnd}
use Rattle.expr_token.specs.declared.token.Opened.{Opened}
use Rattle.expr_token.specs.Tokens.{left_open}
use Rattle.expr_core.specs.Language.{Mark, mark, Spells, Ended}
use Rattle.expr_core.specs.Outcome.{Outcome, done, stray, bad_number, too_deep, ended, Answers, outcome_of}
use Rattle.expr_core.specs.PatternGrammar.{Tree, word, number, negative, text, atom, nil, boolean, map_of, no_trees, no_entries, is_any, names, among, Fresh, Once, marks, word_pattern, meaning, patterns}
use Rattle.expr_core.specs.PatternMachine.{items, State, want, have, want_key, finish, put_closing, put_comma, put_empty, put_word, on_want, empty_map, step, finished, pattern_reader}
use Rattle.expr_core.specs.Answers.{tokens_of, AnswersPattern, at_text_end, answer_by, pattern_of}
use Rattle.expr_core.proofs.Steps.{Tells, Leads, Taken, Proof}
use Rattle.expr_core.proofs.PatternGoes.{onto, onto_append, fresh_more, goes}
use Rattle.expr_core.proofs.PatternShapes.{Head, of_list, of_tuple, MapEntry, Piece, open_items, open_entry, Shape, wants, has, wants_number, wants_quote, wants_key, wants_colon, list_names, map_names, bound, FineShape, seen_head, seen_entries, seen, seen_shape, nest, depth, same_depth, with_commas, headed, shown, told, trees_of, made, bracket, item_marks, comma_marks, names_more, made_marks, end_names, end_meaning, entries_from, entries_marks, entries_further, entries_seen, entries_mean, entries_names, map_names_more, viable}
use Rattle.expr_core.proofs.Exact.{exact, spelled_is_read, one_meaning}
use Rattle.expr_core.proofs.Texts.{stray_token, large_token, deep_token, stray_end, open_end}

-- What the reader holds next stands for the tokens so far and one more.
abbrev pub Holds : List Mark → Token → State → Type 0
Holds ms tok s = Taken State Shape seen_shape FineShape told depth ms tok s

abbrev pub Takes : List Mark → Token → Option State → Type 0
Takes ms tok None = Unit {0}
Takes ms tok (Some s) = Holds ms tok s

abbrev all_of : Tree → List Piece → List Mark
all_of t ps = shown ps ++ marks (nest ps) t

-- a pattern without names
leaf : (t : Tree) (ps : List Piece) (tok : Token) → FineShape (wants ps) → names t ≡ [] → marks (nest ps) t ≡ mark (nest ps) tok ∷ [] → Holds (shown ps) tok (have (onto [] (bound ps)) (meaning t) (seen ps))
leaf t ps tok f e h =
    let b : bound ps ++ names t ≡ bound ps = ap (λ l. bound ps ++ l) e ∙ append-nil (bound ps) in
    record {
      shape = has t ps;
      is = ap (λ l. have (onto [] l) (meaning t) (seen ps)) b;
      fine = subst (Fresh []) (sym b) f;
      same = ap (λ l. shown ps ++ l) h;
    }

-- a name that was not there before, or the word that matches everything
word_takes : (at : ℕ) (s : List ℕ) (ps : List Piece) → FineShape (wants ps) → Takes (shown ps) (Word at s) (put_word (onto [] (bound ps)) s (seen ps))
word_takes at s ps f = choose (is_any s) (among (onto [] (bound ps)) s) refl refl
  where
    choose : (a b : Bool) → is_any s ≡ a → among (onto [] (bound ps)) s ≡ b → Takes (shown ps) (Word at s) (if a then Some (have (onto [] (bound ps)) (word_pattern s) (seen ps)) else if b then None else Some (have (s ∷ onto [] (bound ps)) (word_pattern s) (seen ps)))
    choose true b h k = leaf (word at s) ps (Word at s) f (rw h refl) refl
    choose false true h k = tt
    choose false false h k =
        let e : names (word at s) ≡ s ∷ [] = rw h refl in
        let o : onto [] (bound ps ++ names (word at s)) ≡ s ∷ onto [] (bound ps) = ap (λ l. onto [] (bound ps ++ l)) e ∙ onto_append [] (bound ps) (s ∷ []) in
        record {
          shape = has (word at s) ps;
          is = ap (λ l. have l (word_pattern s) (seen ps)) o;
          fine = subst (λ l. Fresh [] (bound ps ++ l)) (sym e) (fresh_more [] (bound ps) (s ∷ []) f (k, tt));
          same = refl;
        }

-- an item that ends its list
items_taken : (h : Head) (ts : List Tree) (t : Tree) (ps : List Piece) → FineShape (has t (open_items h ts ∷ ps))
    → Holds (all_of t (open_items h ts ∷ ps)) (Closing (bracket h)) (have (onto [] ((bound ps ++ list_names ts) ++ names t)) (finish (seen_head h) (map meaning ts ++ meaning t ∷ [])) (seen ps))
items_taken h ts t ps f =
    let us = trees_of (ts ++ t ∷ []) in
    let n = nest ps in
    let c = mark n (Closing (bracket h)) ∷ [] in
    let e : marks n (made h us) ≡ headed n h ++ ((with_commas (n + 1) ts ++ marks (n + 1) t) ++ c)
    = made_marks h us n ∙ ap (λ l. headed n h ++ (l ++ c)) (item_marks ts t (n + 1)) in
    let b : bound ps ++ names (made h us) ≡ (bound ps ++ list_names ts) ++ names t = ap (λ l. bound ps ++ l) (end_names h ts t) ∙ sym (append_assoc (bound ps) (list_names ts) (names t)) in
    record {
      shape = has (made h us) ps;
      is = ap (λ l. have (onto [] l) (meaning (made h us)) (seen ps)) b ∙ ap (λ p. have (onto [] ((bound ps ++ list_names ts) ++ names t)) p (seen ps)) (end_meaning h ts t);
      fine = subst (Fresh []) (sym b) f;
      same = ap (λ l. shown ps ++ l) e ∙ simp append_assoc;
    }

-- an entry that ends its map
entry_taken : (es : List MapEntry) (at : ℕ) (k : List ℕ) (t : Tree) (ps : List Piece) → FineShape (has t (open_entry es at k ∷ ps))
    → Holds (all_of t (open_entry es at k ∷ ps)) (Closing Curly) (have (onto [] ((bound ps ++ map_names es) ++ names t)) (x.map_like (keys_of (seen_entries es ++ (k, meaning t) ∷ []))) (seen ps))
entry_taken es at k t ps f =
    let n = nest ps in
    let rs = es ++ (at, k, t) ∷ [] in
    let b : bound ps ++ names (map_of (entries_from rs)) ≡ (bound ps ++ map_names es) ++ names t = ap (λ l. bound ps ++ l) (entries_names rs ∙ map_names_more es at k t) ∙ sym (append_assoc (bound ps) (map_names es) (names t)) in
    record {
      shape = has (map_of (entries_from rs)) ps;
      is = ap (λ l. have (onto [] l) (meaning (map_of (entries_from rs))) (seen ps)) b ∙ ap (λ l. have (onto [] ((bound ps ++ map_names es) ++ names t)) (x.map_like (keys_of l)) (seen ps)) (entries_mean rs ∙ entries_seen es at k t);
      fine = subst (Fresh []) (sym b) f;
      same = ap (λ l. shown ps ++ mark (n + 1) OpeningMap ∷ (l ++ mark n (Closing Curly) ∷ [])) (entries_marks es at k t (n + 1)) ∙ simp append_assoc;
    }

closing_takes : (b : Bracket) (t : Tree) (ps : List Piece) → FineShape (has t ps) → Takes (all_of t ps) (Closing b) (put_closing (onto [] (bound ps ++ names t)) b (meaning t) (seen ps))
closing_takes Round t [] f = tt
closing_takes Round t (open_entry es at k ∷ ps) f = tt
closing_takes Round t (open_items of_list ts ∷ ps) f = tt
closing_takes Round t (open_items of_tuple ts ∷ ps) f = tt
closing_takes Square t [] f = tt
closing_takes Square t (open_entry es at k ∷ ps) f = tt
closing_takes Square t (open_items of_list ts ∷ ps) f = items_taken of_list ts t ps f
closing_takes Square t (open_items of_tuple ts ∷ ps) f = tt
closing_takes Curly t [] f = tt
closing_takes Curly t (open_entry es at k ∷ ps) f = entry_taken es at k t ps f
closing_takes Curly t (open_items of_list ts ∷ ps) f = tt
closing_takes Curly t (open_items of_tuple ts ∷ ps) f = items_taken of_tuple ts t ps f

comma_takes : (t : Tree) (ps : List Piece) → FineShape (has t ps) → Takes (all_of t ps) Comma (put_comma (onto [] (bound ps ++ names t)) (meaning t) (seen ps))
comma_takes t [] f = tt
comma_takes t (open_items h ts ∷ ps) f =
    let us = ts ++ t ∷ [] in
    let b : bound ps ++ list_names us ≡ (bound ps ++ list_names ts) ++ names t = ap (λ l. bound ps ++ l) (names_more ts t) ∙ sym (append_assoc (bound ps) (list_names ts) (names t)) in
    record {
      shape = wants (open_items h us ∷ ps);
      is = ap (λ l. want (onto [] l) (items (seen_head h) (map meaning us) ∷ seen ps)) b ∙ ap (λ l. want (onto [] ((bound ps ++ list_names ts) ++ names t)) (items (seen_head h) l ∷ seen ps)) (map-append meaning ts (t ∷ []));
      fine = subst (Fresh []) (sym b) f;
      same = ap (λ l. shown ps ++ (headed (nest ps) h ++ l)) (comma_marks ts t (nest ps + 1)) ∙ simp append_assoc;
    }
comma_takes t (open_entry es at k ∷ ps) f =
    let rs = es ++ (at, k, t) ∷ [] in
    let b : bound ps ++ map_names rs ≡ (bound ps ++ map_names es) ++ names t = ap (λ l. bound ps ++ l) (map_names_more es at k t) ∙ sym (append_assoc (bound ps) (map_names es) (names t)) in
    record {
      shape = wants_key rs ps;
      is = ap (λ l. want_key (onto [] l) (seen_entries rs) (seen ps)) b ∙ ap (λ l. want_key (onto [] ((bound ps ++ map_names es) ++ names t)) l (seen ps)) (entries_seen es at k t);
      fine = subst (Fresh []) (sym b) f;
      same = ap (λ l. shown ps ++ mark (nest ps + 1) OpeningMap ∷ l) (entries_further es at k t (nest ps + 1)) ∙ simp append_assoc;
    }

empty_taken : (h : Head) (ps : List Piece) → FineShape (wants (open_items h [] ∷ ps)) → Holds (shown (open_items h [] ∷ ps)) (Closing (bracket h)) (have (onto [] (bound ps ++ [])) (finish (seen_head h) []) (seen ps))
empty_taken of_list ps f = record { shape = has (made of_list no_trees) ps; is = refl; fine = f; same = simp (append_assoc, append-nil) }
empty_taken of_tuple ps f = record { shape = has (made of_tuple no_trees) ps; is = refl; fine = f; same = simp (append_assoc, append-nil) }

empty_takes : (b : Bracket) (ps : List Piece) → FineShape (wants ps) → Takes (shown ps) (Closing b) (put_empty (onto [] (bound ps)) b (seen ps))
empty_takes Round [] f = tt
empty_takes Round (open_entry es at k ∷ ps) f = tt
empty_takes Round (open_items of_list ts ∷ ps) f = tt
empty_takes Round (open_items of_tuple ts ∷ ps) f = tt
empty_takes Square [] f = tt
empty_takes Square (open_entry es at k ∷ ps) f = tt
empty_takes Square (open_items of_list [] ∷ ps) f = empty_taken of_list ps f
empty_takes Square (open_items of_list (t ∷ ts) ∷ ps) f = tt
empty_takes Square (open_items of_tuple ts ∷ ps) f = tt
empty_takes Curly [] f = tt
empty_takes Curly (open_entry es at k ∷ ps) f = tt
empty_takes Curly (open_items of_list ts ∷ ps) f = tt
empty_takes Curly (open_items of_tuple [] ∷ ps) f = empty_taken of_tuple ps f
empty_takes Curly (open_items of_tuple (t ∷ ts) ∷ ps) f = tt

-- a list or a map without items so far
opens : (ps : List Piece) → bound ps ++ [] ≡ bound ps
opens ps = append-nil (bound ps)

want_takes : (tok : Token) (ps : List Piece) → FineShape (wants ps) → Takes (shown ps) tok (on_want tok (onto [] (bound ps)) (seen ps))
want_takes (Word at s) ps f = word_takes at s ps f
want_takes (Number n) ps f = leaf (number n) ps (Number n) f refl refl
want_takes (Operator op.Minus) ps f = record { shape = wants_number ps; is = refl; fine = f; same = refl }
want_takes (Operator o) ps f = tt
want_takes (Quote s) ps f = record { shape = wants_quote s ps; is = refl; fine = f; same = refl }
want_takes (Atom s) ps f = leaf (atom s) ps (Atom s) f refl refl
want_takes Nil ps f = leaf nil ps Nil f refl refl
want_takes (Boolean b) ps f = leaf (boolean b) ps (Boolean b) f refl refl
want_takes OpeningSquare ps f = record { shape = wants (open_items of_list [] ∷ ps); is = ap (λ l. want (onto [] l) (seen (open_items of_list [] ∷ ps))) (opens ps); fine = subst (Fresh []) (sym (opens ps)) f; same = refl }
want_takes OpeningCurly ps f = record { shape = wants (open_items of_tuple [] ∷ ps); is = ap (λ l. want (onto [] l) (seen (open_items of_tuple [] ∷ ps))) (opens ps); fine = subst (Fresh []) (sym (opens ps)) f; same = refl }
want_takes OpeningMap ps f = record { shape = wants_key [] ps; is = ap (λ l. want_key (onto [] l) [] (seen ps)) (opens ps); fine = subst (Fresh []) (sym (opens ps)) f; same = refl }
want_takes (Closing b) ps f = empty_takes b ps f
want_takes _ ps f = tt

have_takes : (tok : Token) (t : Tree) (ps : List Piece) → FineShape (has t ps) → Takes (told (has t ps)) tok (step (seen_shape (has t ps)) tok)
have_takes (Closing b) t ps f = closing_takes b t ps f
have_takes Comma t ps f = comma_takes t ps f
have_takes _ t ps f = tt

-- a pattern of two tokens
second : (t : Tree) (ps : List Piece) (a b : Token) → FineShape (wants ps) → names t ≡ [] → marks (nest ps) t ≡ mark (nest ps) a ∷ mark (nest ps) b ∷ [] → Holds (shown ps ++ mark (nest ps) a ∷ []) b (have (onto [] (bound ps)) (meaning t) (seen ps))
second t ps a b f e h =
    let c : bound ps ++ names t ≡ bound ps = ap (λ l. bound ps ++ l) e ∙ append-nil (bound ps) in
    record {
      shape = has t ps;
      is = ap (λ l. have (onto [] l) (meaning t) (seen ps)) c;
      fine = subst (Fresh []) (sym c) f;
      same = ap (λ l. shown ps ++ l) h ∙ simp append_assoc;
    }

number_takes : (tok : Token) (ps : List Piece) → FineShape (wants_number ps) → Takes (told (wants_number ps)) tok (step (seen_shape (wants_number ps)) tok)
number_takes (Number n) ps f = second (negative n) ps (Operator op.Minus) (Number n) f refl refl
number_takes _ ps f = tt

quote_takes : (tok : Token) (s : List ℕ) (ps : List Piece) → FineShape (wants_quote s ps) → Takes (told (wants_quote s ps)) tok (step (seen_shape (wants_quote s ps)) tok)
quote_takes QuoteEnd s ps f = second (text s) ps (Quote s) QuoteEnd f refl refl
quote_takes _ s ps f = tt

-- a map without entries ends
map_takes : (es : List MapEntry) (ps : List Piece) → FineShape (wants_key es ps) → Takes (told (wants_key es ps)) (Closing Curly) (empty_map (onto [] (bound ps ++ map_names es)) (seen_entries es) (seen ps))
map_takes [] ps f = record { shape = has (map_of no_entries) ps; is = refl; fine = f; same = simp append_assoc }
map_takes (e ∷ es) ps f = tt

key_takes : (tok : Token) (es : List MapEntry) (ps : List Piece) → FineShape (wants_key es ps) → Takes (told (wants_key es ps)) tok (step (seen_shape (wants_key es ps)) tok)
key_takes (Word at k) es ps f = record { shape = wants_colon es at k ps; is = refl; fine = f; same = simp append_assoc }
key_takes (Closing Round) es ps f = tt
key_takes (Closing Square) es ps f = tt
key_takes (Closing Curly) es ps f = map_takes es ps f
key_takes _ es ps f = tt

colon_takes : (tok : Token) (es : List MapEntry) (at : ℕ) (k : List ℕ) (ps : List Piece) → FineShape (wants_colon es at k ps) → Takes (told (wants_colon es at k ps)) tok (step (seen_shape (wants_colon es at k ps)) tok)
colon_takes Colon es at k ps f = record { shape = wants (open_entry es at k ∷ ps); is = refl; fine = f; same = simp append_assoc }
colon_takes _ es at k ps f = tt

takes : (s : Shape) (tok : Token) → FineShape s → Takes (told s) tok (step (seen_shape s) tok)
takes (wants ps) tok f = want_takes tok ps f
takes (has t ps) tok f = have_takes tok t ps f
takes (wants_number ps) tok f = number_takes tok ps f
takes (wants_quote s ps) tok f = quote_takes tok s ps f
takes (wants_key es ps) tok f = key_takes tok es ps f
takes (wants_colon es at k ps) tok f = colon_takes tok es at k ps f

pub taken : (s : Shape) (tok : Token) (u : State) → FineShape s → step (seen_shape s) tok ≡ Some u → Holds (told s) tok u
taken s tok u f e = subst (Takes (told s) tok) e (takes s tok f)

-- where the text may end, nothing is left below
pub tells : (s : Shape) (p : Pattern) → FineShape s → finished (seen_shape s) ≡ Some p → Tells patterns (told s) p
tells (has t []) p f e = record { tree = t; lawful = f; same = refl; means = cc }
tells (has t (q ∷ qs)) p f e = cc
tells (wants ps) p f e = cc
tells (wants_number ps) p f e = cc
tells (wants_quote s ps) p f e = cc
tells (wants_key es ps) p f e = cc
tells (wants_colon es at k ps) p f e = cc

pub leads : (t : Tree) → Once t → Leads patterns pattern_reader t
leads t f = record { state = have (onto [] (names t)) (meaning t) []; goes = goes t [] [] f; finished = refl }

abbrev pub pattern_proof : Proof patterns pattern_reader
pattern_proof = record {
  Shape = Shape;
  seen = seen_shape;
  Fine = FineShape;
  told = told;
  deep = depth;
  first = wants [];
  first_seen = refl;
  first_fine = tt;
  first_told = refl;
  same_depth = same_depth;
  takes = taken;
  viable = viable;
  ends = tells;
  leads = leads;
}

-- what becomes of tokens is right
pub pattern_outcome : (ts : List Token) → Answers patterns ts (outcome_of pattern_reader ts)
pattern_outcome ts = exact patterns pattern_reader pattern_proof ts

at_the_end : (bytes : List ℕ) (ps : List Opened) → left_open bytes ≡ ps → Ended patterns (tokens_of bytes) → AnswersPattern bytes (at_text_end ps (length bytes))
at_the_end bytes [] h e = stray_end patterns bytes e h
at_the_end bytes (p ∷ ps) h e = open_end patterns bytes p ps e h

by_outcome : (bytes : List ℕ) (o : Outcome Pattern) → Answers patterns (tokens_of bytes) o → AnswersPattern bytes (answer_by (λ p. Ok p) bytes o)
by_outcome bytes (done p) a = a
by_outcome bytes (stray n) a = stray_token patterns bytes n a
by_outcome bytes (bad_number n) a = large_token patterns bytes n a
by_outcome bytes (too_deep n) a = deep_token patterns bytes n a
by_outcome bytes ended a = at_the_end bytes (left_open bytes) refl a

-- What becomes of a text is right: a pattern where the text is written as it, and else the one refusal with its place.
pub pattern_exact : (bytes : List ℕ) → AnswersPattern bytes (pattern_of bytes)
pattern_exact bytes = by_outcome bytes (outcome_of pattern_reader (tokens_of bytes)) (pattern_outcome (tokens_of bytes))

-- What is written is read.
pub pattern_is_read : (bytes : List ℕ) (p : Pattern) → Spells patterns (tokens_of bytes) p → pattern_of bytes ≡ Ok p
pattern_is_read bytes p s = ap (answer_by (λ q. Ok q) bytes) (spelled_is_read patterns pattern_reader pattern_proof (tokens_of bytes) p s)

-- A text is written as one pattern.
pub one_pattern : (bytes : List ℕ) (p q : Pattern) → Spells patterns (tokens_of bytes) p → Spells patterns (tokens_of bytes) q → p ≡ q
one_pattern bytes p q s t = one_meaning patterns pattern_reader pattern_proof (tokens_of bytes) p q s t
