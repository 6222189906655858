-- The tokens of a pattern lead the reader to it, each at its depth.
use Rattle.std.proofs.Common.{◌≡◌, ℕ, ◌+◌, List, [], ◌∷◌, ◌++◌, Bool, true, false, Some, None, refl, sym, subst, append_assoc}
use Rattle.std.specs.Prelude.{if◌then◌else◌}
use Rattle.ast_core.specs.Syntax.{Pattern}
use Rattle.ast_core.specs.Syntax as x
use Rattle.ast_core.specs.PatternView.{keys_of}
use Rattle.expr_token.specs.declared.token.Bracket.{Bracket}
use Rattle.expr_token.specs.declared.token.Bracket.TheVariants.{Square, Curly}
use Rattle.expr_token.specs.declared.token.Token.TheVariants.{Closing}
use Rattle.expr_core.specs.Language.{Mark, mark}
use Rattle.expr_core.specs.PatternGrammar.{Tree, word, number, negative, text, atom, nil, boolean, list, tuple, map_of, Trees, no_trees, tree, Entries, no_entries, entry, is_any, names, all_names, entry_names, among, Fresh, marks, listed, more_listed, entry_marks, more_entries, word_pattern, meaning, meanings, entry_meanings}
use Rattle.expr_core.specs.PatternMachine.{Opener, listing, tupling, Frames, items, valued, State, want, have, want_number, want_quote, want_key, want_colon, finish, put_closing, put_empty, nest, pattern_reader}
use Rattle.expr_core.proofs.Steps as steps

-- the names before, with more that follow
abbrev pub onto : List (List ℕ) → List (List ℕ) → List (List ℕ)
onto seen [] = seen
onto seen (n ∷ ns) = onto (n ∷ seen) ns

pub onto_append : (seen a b : List (List ℕ)) → onto seen (a ++ b) ≡ onto (onto seen a) b
onto_append seen [] b = refl
onto_append seen (n ∷ a) b = onto_append (n ∷ seen) a b

-- names that stand once, taken apart and put together
pub fresh_apart : (seen a b : List (List ℕ)) → Fresh seen (a ++ b) → Fresh seen a × Fresh (onto seen a) b
fresh_apart seen [] b f = (tt, f)
fresh_apart seen (n ∷ a) b f = let r = fresh_apart (n ∷ seen) a b f.1 in ((f.0, r.0), r.1)

pub fresh_more : (seen a b : List (List ℕ)) → Fresh seen a → Fresh (onto seen a) b → Fresh seen (a ++ b)
fresh_more seen [] b f g = g
fresh_more seen (n ∷ a) b f g = (f.0, fresh_more (n ∷ seen) a b f.1 g)

abbrev pub Goes : State → List Mark → State → Type 0
Goes s ms s' = steps.Goes pattern_reader s ms s'

join_front : (a b c : List Mark) (s u v : State) → Goes s a u → Goes u (b ++ c) v → Goes s ((a ++ b) ++ c) v
join_front a b c s u v h k = steps.join_front pattern_reader a b c s u v h k

-- the bracket that ends a list
abbrev pub closer : Opener → Bracket
closer listing = Square
closer tupling = Curly

end_step : (o : Opener) (ns : List (List ℕ)) (ps : List Pattern) (p : Pattern) (fs : Frames) → put_closing ns (closer o) p (items o ps ∷ fs) ≡ Some (have ns (finish o (ps ++ p ∷ [])) fs)
end_step listing ns ps p fs = refl
end_step tupling ns ps p fs = refl

empty_step : (o : Opener) (ns : List (List ℕ)) (fs : Frames) → put_empty ns (closer o) (items o [] ∷ fs) ≡ Some (have ns (finish o []) fs)
empty_step listing ns fs = refl
empty_step tupling ns fs = refl

-- a name that was not there before
word_step : (b : Bool) (ns : List (List ℕ)) (s : List ℕ) (p : Pattern) (fs : Frames) → Fresh ns (if b then [] else s ∷ [])
    → (if b then Some (have ns p fs) else if among ns s then None else Some (have (s ∷ ns) p fs)) ≡ Some (have (onto ns (if b then [] else s ∷ [])) p fs)
word_step true ns s p fs f = refl
word_step false ns s p fs f = rw f.0 refl

mutual
  pub goes : (t : Tree) (ns : List (List ℕ)) (fs : Frames) → Fresh ns (names t) → Goes (want ns fs) (marks (nest fs) t) (have (onto ns (names t)) (meaning t) fs)
  goes (word at s) ns fs f = (have (onto ns (names (word at s))) (word_pattern s) fs, word_step (is_any s) ns s (word_pattern s) fs f, refl, refl)
  goes (number n) ns fs f = (have ns (meaning (number n)) fs, refl, refl, refl)
  goes (negative n) ns fs f = (want_number ns fs, refl, refl, (have ns (meaning (negative n)) fs, refl, refl, refl))
  goes (text s) ns fs f = (want_quote ns s fs, refl, refl, (have ns (meaning (text s)) fs, refl, refl, refl))
  goes (atom s) ns fs f = (have ns (meaning (atom s)) fs, refl, refl, refl)
  goes nil ns fs f = (have ns (meaning nil) fs, refl, refl, refl)
  goes (boolean b) ns fs f = (have ns (meaning (boolean b)) fs, refl, refl, refl)
  goes (list ts) ns fs f = (want ns (items listing [] ∷ fs), refl, refl, goes_items ts listing ns fs f)
  goes (tuple ts) ns fs f = (want ns (items tupling [] ∷ fs), refl, refl, goes_items ts tupling ns fs f)
  goes (map_of es) ns fs f = (want_key ns [] fs, refl, refl, goes_entries es ns fs f)

  pub goes_items : (ts : Trees) (o : Opener) (ns : List (List ℕ)) (fs : Frames) → Fresh ns (all_names ts)
      → Goes (want ns (items o [] ∷ fs)) (listed (nest fs + 1) ts ++ mark (nest fs) (Closing (closer o)) ∷ []) (have (onto ns (all_names ts)) (finish o (meanings ts)) fs)
  goes_items no_trees o ns fs f = (have ns (finish o []) fs, empty_step o ns fs, refl, refl)
  goes_items (tree t ts) o ns fs f =
      let c = mark (nest fs) (Closing (closer o)) ∷ [] in
      let g = fresh_apart ns (names t) (all_names ts) f in
      subst (λ l. Goes (want ns (items o [] ∷ fs)) (listed (nest fs + 1) (tree t ts) ++ c) (have l (finish o (meaning t ∷ meanings ts)) fs)) (sym (onto_append ns (names t) (all_names ts)))
      (join_front (marks (nest fs + 1) t) (more_listed (nest fs + 1) ts) c _ _ _ (goes t ns (items o [] ∷ fs) g.0) (goes_more ts (meaning t) o [] (onto ns (names t)) fs g.1))

  pub goes_more : (ts : Trees) (p : Pattern) (o : Opener) (ps : List Pattern) (ns : List (List ℕ)) (fs : Frames) → Fresh ns (all_names ts)
      → Goes (have ns p (items o ps ∷ fs)) (more_listed (nest fs + 1) ts ++ mark (nest fs) (Closing (closer o)) ∷ []) (have (onto ns (all_names ts)) (finish o (ps ++ p ∷ meanings ts)) fs)
  goes_more no_trees p o ps ns fs f = (have ns (finish o (ps ++ p ∷ [])) fs, end_step o ns ps p fs, refl, refl)
  goes_more (tree t ts) p o ps ns fs f =
      let c = mark (nest fs) (Closing (closer o)) ∷ [] in
      let g = fresh_apart ns (names t) (all_names ts) f in
      let ps' = ps ++ p ∷ [] in
      let ns' = onto ns (names t) in (
        want ns (items o ps' ∷ fs),
        refl,
        refl,
        join_front (marks (nest fs + 1) t) (more_listed (nest fs + 1) ts) c _ _ _ (goes t ns (items o ps' ∷ fs) g.0)
            (subst (λ l. Goes (have ns' (meaning t) (items o ps' ∷ fs)) (more_listed (nest fs + 1) ts ++ c) (have l (finish o (ps ++ p ∷ meaning t ∷ meanings ts)) fs)) (sym (onto_append ns (names t) (all_names ts)))
            (subst (λ l. Goes (have ns' (meaning t) (items o ps' ∷ fs)) (more_listed (nest fs + 1) ts ++ c) (have (onto ns' (all_names ts)) (finish o l) fs)) (append_assoc ps (p ∷ []) (meaning t ∷ meanings ts)) (goes_more ts (meaning t) o ps' ns' fs g.1))),
      )

  pub goes_entries : (es : Entries) (ns : List (List ℕ)) (fs : Frames) → Fresh ns (entry_names es)
      → Goes (want_key ns [] fs) (entry_marks (nest fs + 1) es ++ mark (nest fs) (Closing Curly) ∷ []) (have (onto ns (entry_names es)) (x.map_like (keys_of (entry_meanings es))) fs)
  goes_entries no_entries ns fs f = (have ns (x.map_like (keys_of [])) fs, refl, refl, refl)
  goes_entries (entry at k t es) ns fs f =
      let c = mark (nest fs) (Closing Curly) ∷ [] in
      let g = fresh_apart ns (names t) (entry_names es) f in (
        want_colon ns [] k fs,
        refl,
        refl,
        (
          want ns (valued [] k ∷ fs),
          refl,
          refl,
          subst (λ l. Goes (want ns (valued [] k ∷ fs)) ((marks (nest fs + 1) t ++ more_entries (nest fs + 1) es) ++ c) (have l (x.map_like (keys_of ((k, meaning t) ∷ entry_meanings es))) fs)) (sym (onto_append ns (names t) (entry_names es)))
              (join_front (marks (nest fs + 1) t) (more_entries (nest fs + 1) es) c _ _ _ (goes t ns (valued [] k ∷ fs) g.0) (goes_further es (meaning t) k [] (onto ns (names t)) fs g.1)),
        ),
      )

  pub goes_further : (es : Entries) (p : Pattern) (k : List ℕ) (ps : List (List ℕ × Pattern)) (ns : List (List ℕ)) (fs : Frames) → Fresh ns (entry_names es)
      → Goes (have ns p (valued ps k ∷ fs)) (more_entries (nest fs + 1) es ++ mark (nest fs) (Closing Curly) ∷ []) (have (onto ns (entry_names es)) (x.map_like (keys_of (ps ++ (k, p) ∷ entry_meanings es))) fs)
  goes_further no_entries p k ps ns fs f = (have ns (x.map_like (keys_of (ps ++ (k, p) ∷ []))) fs, refl, refl, refl)
  goes_further (entry at k' t es) p k ps ns fs f =
      let c = mark (nest fs) (Closing Curly) ∷ [] in
      let g = fresh_apart ns (names t) (entry_names es) f in
      let ps' = ps ++ (k, p) ∷ [] in
      let ns' = onto ns (names t) in (
        want_key ns ps' fs,
        refl,
        refl,
        (
          want_colon ns ps' k' fs,
          refl,
          refl,
          (
            want ns (valued ps' k' ∷ fs),
            refl,
            refl,
            join_front (marks (nest fs + 1) t) (more_entries (nest fs + 1) es) c _ _ _ (goes t ns (valued ps' k' ∷ fs) g.0)
                (subst (λ l. Goes (have ns' (meaning t) (valued ps' k' ∷ fs)) (more_entries (nest fs + 1) es ++ c) (have l (x.map_like (keys_of (ps ++ (k, p) ∷ (k', meaning t) ∷ entry_meanings es))) fs)) (sym (onto_append ns (names t) (entry_names es)))
                (subst (λ l. Goes (have ns' (meaning t) (valued ps' k' ∷ fs)) (more_entries (nest fs + 1) es ++ c) (have (onto ns' (entry_names es)) (x.map_like (keys_of l)) fs)) (append_assoc ps ((k, p) ∷ []) ((k', meaning t) ∷ entry_meanings es)) (goes_further es (meaning t) k' ps' ns' fs g.1))),
          ),
        ),
      )
