-- From where an expression is wanted, the tokens of a tree lead to that tree, each at its depth.
use Rattle.std.proofs.Common.{◌≡◌, ℕ, ◌+◌, ◌≤◌, List, [], ◌∷◌, ◌++◌, Bool, true, false, ◌&&◌, Option, Some, None, refl, sym, ap, ◌∙◌, subst, arith, append_assoc, append-nil}
use Rattle.std.specs.Prelude.{nat_le, if◌then◌else◌}
use Rattle.std.proofs.lemmas.Bool.{le-leb}
use Rattle.ast_core.specs.declared.operators.UnaryOp.TheVariants as un
use Rattle.ast_core.specs.declared.operators.BinaryOp.{BinaryOp}
use Rattle.ast_core.specs.Syntax.{Expr}
use Rattle.ast_core.specs.Syntax as x
use Rattle.ast_core.specs.ExprView.{Part, expr_part, parts_of}
use Rattle.expr_token.specs.declared.token.Bracket.{Bracket}
use Rattle.expr_token.specs.declared.token.Bracket.TheVariants.{Round, Square, Curly}
use Rattle.expr_token.specs.declared.token.Token.TheVariants.{Dot, Operator, Pipe, Comma, If, OpeningRound, CallOpening, IndexOpening, Closing, PartClosing, QuoteEnd}
use Rattle.expr_core.specs.Language.{Mark, mark}
use Rattle.expr_core.specs.Functions.{earlier}
use Rattle.expr_core.specs.Grammar.{binds, left_of, may_deny, Callee, plain, marked, callee_at, callee_name, Key, word_key, text_key, key_text, bare, inside, Tree, number, text, atom, nil, boolean, assign, name, parens, before, between, field, index, list, tuple, map_of, call, piped, choice, choice_else, Trees, no_trees, tree, Parts, no_parts, part, Entries, no_entries, entry, holds, denies, callee_token, Grouped, AllGrouped, PartsGrouped, EntriesGrouped, key_marks, marks, listed, more_listed, part_marks, entry_marks, more_entries, plain_parts, meaning, meanings, part_meanings, entry_meanings, unknown, unknown_item, unknown_part, unknown_entry}
use Rattle.expr_core.specs.Machine.{Value, Opener, listing, tupling, calling, piping, Frames, operand, ahead, paren, indexed, items, putting, valued, test, inner_test, yes_of, no_of, State, want, have, want_assign, want_field, want_call, want_arguments, want_if, want_do, want_else, want_part, want_key, want_colon, want_quote, want_arrow, closed, finish, map_from, need, reduce, put_operator, put_pipe, put_closing, put_part, put_comma, step, nest, expr_reader}
use Rattle.expr_core.proofs.Tables.{le_left, left_5, binds_below, earlier_none, earlier_assoc}
use Rattle.expr_core.proofs.Steps as steps
use Rattle.expr_core.proofs.Opens.{means, held, opened, behind, reduced, if_true, closes, stops}

-- a value, and a bracket that is open below it
abbrev pub Waits : Frames → Type 0
Waits fs = (v : Value) → reduce 0 v fs ≡ (v, fs)

-- the bracket that ends a list
abbrev pub closer : Opener → Bracket
closer listing = Square
closer tupling = Curly
closer (calling at s) = Round
closer (piping l at s) = Round

-- a tree that holds like a value leaves nothing open
pub whole : (t : Tree) (fs : Frames) → 11 ≤ holds t → opened t fs ≡ (held t, fs)
whole (before o t) fs h = absurd (omega arith)
whole (between o l r) fs h = absurd (omega (arith, binds_below o))
whole (choice bare t y) fs h = absurd (omega arith)
whole (choice_else bare t y z) fs h = absurd (omega arith)
whole (choice inside t y) fs h = refl
whole (choice_else inside t y z) fs h = refl
whole (number n) fs h = refl
whole (text s ps) fs h = refl
whole (atom s) fs h = refl
whole nil fs h = refl
whole (boolean b) fs h = refl
whole (assign n s) fs h = refl
whole (name n s) fs h = refl
whole (parens t) fs h = refl
whole (field t n s) fs h = refl
whole (index t u) fs h = refl
whole (list ts) fs h = refl
whole (tuple ts) fs h = refl
whole (map_of es) fs h = refl
whole (call c ts) fs h = refl
whole (piped l c ts) fs h = absurd (omega arith)

abbrev pub Goes : State → List Mark → State → Type 0
Goes s ms s' = steps.Goes expr_reader s ms s'

join : (a b : List Mark) (s u v : State) → Goes s a u → Goes u b v → Goes s (a ++ b) v
join a b s u v h k = steps.join expr_reader a b s u v h k

join_front : (a b c : List Mark) (s u v : State) → Goes s a u → Goes u (b ++ c) v → Goes s ((a ++ b) ++ c) v
join_front a b c s u v h k = steps.join_front expr_reader a b c s u v h k

and_none : (a : List Mark) (s u : State) → Goes s a u → Goes s (a ++ []) u
and_none a s u h = steps.and_none expr_reader a s u h

closing_step : (b : Bracket) (t : Tree) (fs : Frames) → Grouped t → Waits fs → step (behind (opened t fs)) (Closing b) ≡ put_closing b (held t) fs
closing_step b t fs g w = ap (λ p. put_closing b p.0 p.1) (closes t 0 fs g (omega arith) ∙ w (held t))

part_step : (s : List ℕ) (t : Tree) (fs : Frames) → Grouped t → Waits fs → step (behind (opened t fs)) (PartClosing s) ≡ put_part s (held t) fs
part_step s t fs g w = ap (λ p. put_part s p.0 p.1) (closes t 0 fs g (omega arith) ∙ w (held t))

comma_step : (t : Tree) (fs : Frames) → Grouped t → 1 ≤ holds t → ((v : Value) → reduce 1 v fs ≡ (v, fs)) → step (behind (opened t fs)) Comma ≡ put_comma (held t) fs
comma_step t fs g h w = ap (λ p. put_comma p.0 p.1) (closes t 1 fs g h ∙ w (held t))

operator_step : (o : BinaryOp) (t : Tree) (fs : Frames) → Grouped t → left_of (binds o) ≤ holds t → may_deny o (denies t) ≡ true → need fs ≤ binds o
    → step (behind (opened t fs)) (Operator o) ≡ Some (want (operand o (held t) ∷ fs))
operator_step o t fs g h d w =
    let a : reduced (left_of (binds o)) (opened t fs) ≡ (held t, fs) = closes t (left_of (binds o)) fs g h ∙ stops (binds o) (held t) fs (binds_below o) w in
    ap (λ p. put_operator o p.0 p.1) a ∙ three _ _ _ (Some (want (operand o (held t) ∷ fs))) (le-leb _ _ h) (le-leb _ _ w) d
  where
    three : (a b c : Bool) (x : Option State) → a ≡ true → b ≡ true → c ≡ true → (if a && (b && c) then x else None) ≡ x
    three a b c x h k l = rw (h, k, l) refl

pipe_step : (t : Tree) (fs : Frames) → Grouped t → 5 ≤ holds t → need fs ≤ 5 → step (behind (opened t fs)) Pipe ≡ Some (want_call (held t) fs)
pipe_step t fs g h w =
    let a : reduced 5 (opened t fs) ≡ (held t, fs) = closes t 5 fs g h ∙ (ap (λ n. reduce n (held t) fs) left_5 ∙ stops 5 (held t) fs (omega arith) w) in
    ap (λ p. put_pipe p.0 p.1) a ∙ two _ _ (Some (want_call (held t) fs)) (le-leb 5 _ h) (le-leb _ 5 w)
  where
    two : (a b : Bool) (x : Option State) → a ≡ true → b ≡ true → (if a && b then x else None) ≡ x
    two a b x h k = rw (h, k) refl

dot_step : (t : Tree) (fs : Frames) → 11 ≤ holds t → step (behind (opened t fs)) Dot ≡ Some (want_field (held t) fs)
dot_step t fs h = ap (λ p. step (behind p) Dot) (whole t fs h) ∙ if_true (nat_le 11 (holds t)) (Some (want_field (held t) fs)) None (le-leb 11 _ h)

index_step : (t : Tree) (fs : Frames) → 11 ≤ holds t → step (behind (opened t fs)) IndexOpening ≡ Some (want (indexed (held t) ∷ fs))
index_step t fs h = ap (λ p. step (behind p) IndexOpening) (whole t fs h) ∙ if_true (nat_le 11 (holds t)) (Some (want (indexed (held t) ∷ fs))) None (le-leb 11 _ h)

end_step : (o : Opener) (es : List Expr) (u : Option ℕ) (v : Value) (fs : Frames) → put_closing (closer o) v (items o es u ∷ fs) ≡ Some (have (finish o (es ++ v.meant.expr ∷ []) (earlier u v.meant.unknown)) fs)
end_step listing es u v fs = refl
end_step tupling es u v fs = refl
end_step (calling at s) es u v fs = refl
end_step (piping l at s) es u v fs = refl

empty_step : (o : Opener) (fs : Frames) → step (want (items o [] None ∷ fs)) (Closing (closer o)) ≡ Some (have (finish o [] None) fs)
empty_step listing fs = refl
empty_step tupling fs = refl
empty_step (calling at s) fs = refl
empty_step (piping l at s) fs = refl

-- an `if` and a parenthesis, up to the comma behind its test
if_opens : (b : Bool) (t : Tree) (fs : Frames) (k : List Mark) (s : State) → nat_le (need fs) 0 ≡ b → Grouped t → 1 ≤ holds t
    → ((gs : Frames) → need gs ≤ holds t → nest gs ≡ nest fs + 1 + 1 → Goes (want gs) (marks (nest fs + 1 + 1) t) (behind (opened t gs)))
    → Goes (want_do inside (means t) fs) k s
    → Goes (want fs) (mark (nest fs + 1) If ∷ mark (nest fs + 1 + 1) OpeningRound ∷ (marks (nest fs + 1 + 1) t ++ mark (nest fs + 1 + 1) Comma ∷ k)) s
if_opens true t fs k s e g h lead go_on = (
  want (test ∷ fs),
  if_true (nat_le (need fs) 0) (Some (want (test ∷ fs))) (Some (want_if fs)) e,
  refl,
  (
    want (paren ∷ test ∷ fs),
    refl,
    refl,
    join (marks (nest fs + 1 + 1) t) (mark (nest fs + 1 + 1) Comma ∷ k) _ _ s (lead (paren ∷ test ∷ fs) (omega arith) refl)
        (want_do inside (means t) fs, comma_step t (paren ∷ test ∷ fs) g h (λ v. refl) ∙ if_true (nat_le 1 (holds t)) (Some (want_do inside (means t) fs)) None (le-leb 1 _ h), refl, go_on),
  ),
)
if_opens false t fs k s e g h lead go_on = (
  want_if fs,
  rw e refl,
  refl,
  (
    want (inner_test ∷ fs),
    refl,
    refl,
    join (marks (nest fs + 1 + 1) t) (mark (nest fs + 1 + 1) Comma ∷ k) _ _ s (lead (inner_test ∷ fs) h refl)
        (want_do inside (means t) fs, comma_step t (inner_test ∷ fs) g h (λ v. refl), refl, go_on),
  ),
)

-- the name of a pipe's call
callee_goes : (c : Callee) (v : Value) (fs : Frames) (ms : List Mark) (s : State) → Goes (want_arguments (piping v (callee_at c) (callee_name c)) fs) ms s → Goes (want_call v fs) (mark (nest fs) (callee_token c) ∷ ms) s
callee_goes (plain at n) v fs ms s h = (want_arguments (piping v at n) fs, refl, refl, h)
callee_goes (marked at n) v fs ms s h = (want_arguments (piping v at n) fs, refl, refl, h)

-- a key and what ends it
key_goes : (k : Key) (ps : List (List ℕ × Expr)) (u : Option ℕ) (fs : Frames) (ms : List Mark) (s : State) → Goes (want (valued ps u (key_text k) ∷ fs)) ms s → Goes (want_key ps u fs) (key_marks (nest fs + 1) k ++ ms) s
key_goes (word_key at n) ps u fs ms s h = (want_colon ps u n fs, refl, refl, (want (valued ps u n ∷ fs), refl, refl, h))
key_goes (text_key n) ps u fs ms s h = (want_quote ps u n fs, refl, refl, (want_arrow ps u n fs, refl, refl, (want (valued ps u n ∷ fs), refl, refl, h)))

-- the first unknown call of a list that has one more
one_further : (u a b : Option ℕ) → earlier (earlier u a) b ≡ earlier u (earlier a b)
one_further u a b = earlier_assoc u a b

mutual
  pub goes : (t : Tree) (fs : Frames) → Grouped t → need fs ≤ holds t → Goes (want fs) (marks (nest fs) t) (behind (opened t fs))
  goes (number d) fs g h = (have (held (number d)) fs, refl, refl, refl)
  goes (text s ps) fs g h = (want_part (plain_parts s) None fs, refl, refl, goes_parts ps (plain_parts s) None fs g)
  goes (atom s) fs g h = (have (held (atom s)) fs, refl, refl, refl)
  goes nil fs g h = (have (held nil) fs, refl, refl, refl)
  goes (boolean b) fs g h = (have (held (boolean b)) fs, refl, refl, refl)
  goes (assign i s) fs g h = (want_assign fs, refl, refl, (have (held (assign i s)) fs, refl, refl, refl))
  goes (name i s) fs g h = (have (held (name i s)) fs, refl, refl, refl)
  goes (parens t) fs g h = (
    want (paren ∷ fs),
    refl,
    refl,
    join (marks (nest fs + 1) t) _ _ _ _ (goes t (paren ∷ fs) g (omega arith)) (have (held (parens t)) fs, closing_step Round t (paren ∷ fs) g (λ v. refl), refl, refl),
  )
  goes (before un.Minus t) fs g h = (want (ahead un.Minus ∷ fs), refl, refl, goes t (ahead un.Minus ∷ fs) g.1 g.0)
  goes (before un.Bang t) fs g h = (want (ahead un.Bang ∷ fs), refl, refl, goes t (ahead un.Bang ∷ fs) g.1 g.0)
  goes (before un.Not t) fs g h = (want (ahead un.Not ∷ fs), refl, refl, goes t (ahead un.Not ∷ fs) g.1 g.0)
  goes (between o l r) fs g h =
      join (marks (nest fs) l) _ _ _ _ (goes l fs g.3 (omega (arith, le_left (binds o))))
      (want (operand o (held l) ∷ fs), operator_step o l fs g.3 g.0 g.2 h, refl, goes r (operand o (held l) ∷ fs) g.4 g.1)
  goes (field t i s) fs g h =
      join (marks (nest fs) t) _ _ _ _ (goes t fs g.1 (omega arith)) (want_field (held t) fs, dot_step t fs g.0, refl, (have (held (field t i s)) fs, refl, refl, refl))
  goes (index t u) fs g h =
      join (marks (nest fs) t) _ _ _ _ (goes t fs g.2 (omega arith)) (
        want (indexed (held t) ∷ fs),
        index_step t fs g.0,
        refl,
        join (marks (nest fs + 1) u) _ _ _ _ (goes u (indexed (held t) ∷ fs) g.3 g.1) (have (held (index t u)) fs, closing_step Square u (indexed (held t) ∷ fs) g.3 (λ v. refl), refl, refl),
      )
  goes (list ts) fs g h = (want (items listing [] None ∷ fs), refl, refl, goes_items ts listing fs g)
  goes (tuple ts) fs g h = (want (items tupling [] None ∷ fs), refl, refl, goes_items ts tupling fs g)
  goes (map_of es) fs g h = (want_key [] None fs, refl, refl, goes_entries es fs g)
  goes (call (plain i s) ts) fs g h = (have (held (name i s)) fs, refl, refl, (want (items (calling i s) [] None ∷ fs), refl, refl, goes_items ts (calling i s) fs g))
  goes (call (marked i s) ts) fs g h = (want_arguments (calling i s) fs, refl, refl, (want (items (calling i s) [] None ∷ fs), refl, refl, goes_items ts (calling i s) fs g))
  goes (piped l c ts) fs g h =
      let o = piping (held l) (callee_at c) (callee_name c) in
      join (marks (nest fs) l) _ _ _ _ (goes l fs g.1 (omega arith))
      (want_call (held l) fs, pipe_step l fs g.1 g.0 h, refl, callee_goes c (held l) fs (mark (nest fs + 1) CallOpening ∷ (listed (nest fs + 1) ts ++ mark (nest fs) (Closing Round) ∷ [])) (have (held (piped l c ts)) fs) (want (items o [] None ∷ fs), refl, refl, goes_items ts o fs g.2))
  goes (choice bare t y) fs g h = (
    want (test ∷ fs),
    if_true (nat_le (need fs) 0) (Some (want (test ∷ fs))) (Some (want_if fs)) (le-leb (need fs) 0 h),
    refl,
    join (marks (nest fs + 1) t) _ _ _ _ (goes t (test ∷ fs) g.2 g.0) (
      want_do bare (means t) fs,
      comma_step t (test ∷ fs) g.2 g.0 (λ v. refl),
      refl,
      (
        want (yes_of bare (means t) ∷ fs),
        refl,
        refl,
        and_none (marks (nest fs + 1) y) _ _ (goes y (yes_of bare (means t) ∷ fs) g.3 g.1),
      ),
    ),
  )
  goes (choice_else bare t y z) fs g h = (
    want (test ∷ fs),
    if_true (nat_le (need fs) 0) (Some (want (test ∷ fs))) (Some (want_if fs)) (le-leb (need fs) 0 h),
    refl,
    join (marks (nest fs + 1) t) _ _ _ _ (goes t (test ∷ fs) g.3 g.0) (
      want_do bare (means t) fs,
      comma_step t (test ∷ fs) g.3 g.0 (λ v. refl),
      refl,
      (
        want (yes_of bare (means t) ∷ fs),
        refl,
        refl,
        join (marks (nest fs + 1) y) _ _ _ _ (goes y (yes_of bare (means t) ∷ fs) g.4 g.1) (
          want_else bare (means t) (means y) fs,
          comma_step y (yes_of bare (means t) ∷ fs) g.4 g.1 (λ v. refl),
          refl,
          (
            want (no_of bare (means t) (means y) ∷ fs),
            refl,
            refl,
            and_none (marks (nest fs + 1) z) _ _ (goes z (no_of bare (means t) (means y) ∷ fs) g.5 g.2),
          ),
        ),
      ),
    ),
  )
  goes (choice inside t y) fs g h =
      if_opens (nat_le (need fs) 0) t fs _ _ refl g.2 g.0 (λ gs i e. subst (λ n. Goes (want gs) (marks n t) (behind (opened t gs))) e (goes t gs g.2 i)) (
        want (yes_of inside (means t) ∷ fs),
        refl,
        refl,
        join (marks (nest fs + 1 + 1) y) _ _ _ _ (goes y (yes_of inside (means t) ∷ fs) g.3 g.1)
            (have (held (choice inside t y)) fs, closing_step Round y (yes_of inside (means t) ∷ fs) g.3 (λ v. refl), refl, refl),
      )
  goes (choice_else inside t y z) fs g h =
      if_opens (nat_le (need fs) 0) t fs _ _ refl g.3 g.0 (λ gs i e. subst (λ n. Goes (want gs) (marks n t) (behind (opened t gs))) e (goes t gs g.3 i)) (
        want (yes_of inside (means t) ∷ fs),
        refl,
        refl,
        join (marks (nest fs + 1 + 1) y) _ _ _ _ (goes y (yes_of inside (means t) ∷ fs) g.4 g.1) (
          want_else inside (means t) (means y) fs,
          comma_step y (yes_of inside (means t) ∷ fs) g.4 g.1 (λ v. refl),
          refl,
          (
            want (no_of inside (means t) (means y) ∷ fs),
            refl,
            refl,
            join (marks (nest fs + 1 + 1) z) _ _ _ _ (goes z (no_of inside (means t) (means y) ∷ fs) g.5 g.2)
                (have (held (choice_else inside t y z)) fs, closing_step Round z (no_of inside (means t) (means y) ∷ fs) g.5 (λ v. refl), refl, refl),
          ),
        ),
      )

  pub goes_items : (ts : Trees) (o : Opener) (fs : Frames) → AllGrouped ts → Goes (want (items o [] None ∷ fs)) (listed (nest fs + 1) ts ++ mark (nest fs) (Closing (closer o)) ∷ []) (have (finish o (meanings ts) (unknown_item ts)) fs)
  goes_items no_trees o fs g = (have (finish o [] None) fs, empty_step o fs, refl, refl)
  goes_items (tree t ts) o fs g =
      let c = mark (nest fs) (Closing (closer o)) ∷ [] in
      join_front (marks (nest fs + 1) t) (more_listed (nest fs + 1) ts) c _ _ _ (goes t (items o [] None ∷ fs) g.1 g.0) (goes_more ts t o [] None fs g.0 g.1 g.2)

  pub goes_more : (ts : Trees) (t : Tree) (o : Opener) (es : List Expr) (u : Option ℕ) (fs : Frames) → 1 ≤ holds t → Grouped t → AllGrouped ts
      → Goes (behind (opened t (items o es u ∷ fs))) (more_listed (nest fs + 1) ts ++ mark (nest fs) (Closing (closer o)) ∷ []) (have (finish o (es ++ meaning t ∷ meanings ts) (earlier u (earlier (unknown t) (unknown_item ts)))) fs)
  goes_more no_trees t o es u fs h g gs = (
    have (finish o (es ++ meaning t ∷ []) (earlier u (unknown t))) fs,
    closing_step (closer o) t (items o es u ∷ fs) g (λ v. refl) ∙ end_step o es u (held t) fs,
    refl,
    ap (λ w. have (finish o (es ++ meaning t ∷ []) (earlier u w)) fs) (sym (earlier_none (unknown t))),
  )
  goes_more (tree t' ts) t o es u fs h g gs =
      let c = mark (nest fs) (Closing (closer o)) ∷ [] in
      let es' = es ++ meaning t ∷ [] in
      let u' = earlier u (unknown t) in (
        want (items o es' u' ∷ fs),
        comma_step t (items o es u ∷ fs) g h (λ v. refl),
        refl,
        join_front (marks (nest fs + 1) t') (more_listed (nest fs + 1) ts) c _ _ _ (goes t' (items o es' u' ∷ fs) gs.1 gs.0)
            (subst (λ w. Goes (behind (opened t' (items o es' u' ∷ fs))) (more_listed (nest fs + 1) ts ++ c) (have (finish o (es ++ meaning t ∷ meaning t' ∷ meanings ts) w) fs)) (one_further u (unknown t) (earlier (unknown t') (unknown_item ts)))
            (subst (λ l. Goes (behind (opened t' (items o es' u' ∷ fs))) (more_listed (nest fs + 1) ts ++ c) (have (finish o l (earlier u' (earlier (unknown t') (unknown_item ts)))) fs)) (append_assoc es (meaning t ∷ []) (meaning t' ∷ meanings ts)) (goes_more ts t' o es' u' fs gs.0 gs.1 gs.2))),
      )

  pub goes_parts : (ps : Parts) (qs : List Part) (u : Option ℕ) (fs : Frames) → PartsGrouped ps
      → Goes (want_part qs u fs) (part_marks (nest fs) ps ++ mark (nest fs) QuoteEnd ∷ []) (have (closed (x.text_of (parts_of (qs ++ part_meanings ps))) (earlier u (unknown_part ps))) fs)
  goes_parts no_parts qs u fs g = (
    have (closed (x.text_of (parts_of qs)) u) fs,
    refl,
    refl,
    ap (λ l. have (closed (x.text_of (parts_of l)) u) fs) (sym (append-nil qs)) ∙ ap (λ w. have (closed (x.text_of (parts_of (qs ++ []))) w) fs) (sym (earlier_none u)),
  )
  goes_parts (part t s ps) qs u fs g =
      let c = mark (nest fs) QuoteEnd ∷ [] in
      let qs' = qs ++ expr_part (meaning t) ∷ plain_parts s in
      let u' = earlier u (unknown t) in
      let e : qs' ++ part_meanings ps ≡ qs ++ part_meanings (part t s ps) = append_assoc qs (expr_part (meaning t) ∷ plain_parts s) (part_meanings ps) in (
        want (putting qs u ∷ fs),
        refl,
        refl,
        join_front (marks (nest fs + 1) t) (mark (nest fs) (PartClosing s) ∷ part_marks (nest fs) ps) c _ _ _ (goes t (putting qs u ∷ fs) g.1 g.0) (
          want_part qs' u' fs,
          part_step s t (putting qs u ∷ fs) g.1 (λ v. refl),
          refl,
          subst (λ w. Goes (want_part qs' u' fs) (part_marks (nest fs) ps ++ c) (have (closed (x.text_of (parts_of (qs ++ part_meanings (part t s ps)))) w) fs)) (one_further u (unknown t) (unknown_part ps))
              (subst (λ l. Goes (want_part qs' u' fs) (part_marks (nest fs) ps ++ c) (have (closed (x.text_of (parts_of l)) (earlier u' (unknown_part ps))) fs)) e (goes_parts ps qs' u' fs g.2)),
        ),
      )

  pub goes_entries : (es : Entries) (fs : Frames) → EntriesGrouped es → Goes (want_key [] None fs) (entry_marks (nest fs + 1) es ++ mark (nest fs) (Closing Curly) ∷ []) (have (map_from (entry_meanings es) (unknown_entry es)) fs)
  goes_entries no_entries fs g = (have (map_from [] None) fs, refl, refl, refl)
  goes_entries (entry k t es) fs g =
      let c = mark (nest fs) (Closing Curly) ∷ [] in
      subst (λ l. Goes (want_key [] None fs) l (have (map_from (entry_meanings (entry k t es)) (unknown_entry (entry k t es))) fs)) (sym (append_assoc (key_marks (nest fs + 1) k) (marks (nest fs + 1) t ++ more_entries (nest fs + 1) es) c))
      (key_goes k [] None fs _ _ (join_front (marks (nest fs + 1) t) (more_entries (nest fs + 1) es) c _ _ _ (goes t (valued [] None (key_text k) ∷ fs) g.1 g.0) (goes_further es k t [] None fs g.0 g.1 g.2)))

  pub goes_further : (es : Entries) (k : Key) (t : Tree) (ps : List (List ℕ × Expr)) (u : Option ℕ) (fs : Frames) → 1 ≤ holds t → Grouped t → EntriesGrouped es
      → Goes (behind (opened t (valued ps u (key_text k) ∷ fs))) (more_entries (nest fs + 1) es ++ mark (nest fs) (Closing Curly) ∷ []) (have (map_from (ps ++ (key_text k, meaning t) ∷ entry_meanings es) (earlier u (earlier (unknown t) (unknown_entry es)))) fs)
  goes_further no_entries k t ps u fs h g gs = (
    have (map_from (ps ++ (key_text k, meaning t) ∷ []) (earlier u (unknown t))) fs,
    closing_step Curly t (valued ps u (key_text k) ∷ fs) g (λ v. refl),
    refl,
    ap (λ w. have (map_from (ps ++ (key_text k, meaning t) ∷ []) (earlier u w)) fs) (sym (earlier_none (unknown t))),
  )
  goes_further (entry k' t' es) k t ps u fs h g gs =
      let c = mark (nest fs) (Closing Curly) ∷ [] in
      let ps' = ps ++ (key_text k, meaning t) ∷ [] in
      let u' = earlier u (unknown t) in
      let n = nest fs + 1 in (
        want_key ps' u' fs,
        comma_step t (valued ps u (key_text k) ∷ fs) g h (λ v. refl),
        refl,
        subst (λ l. Goes (want_key ps' u' fs) l (have (map_from (ps ++ (key_text k, meaning t) ∷ (key_text k', meaning t') ∷ entry_meanings es) (earlier u (earlier (unknown t) (earlier (unknown t') (unknown_entry es))))) fs)) (sym (append_assoc (key_marks n k') (marks n t' ++ more_entries n es) c))
            (key_goes k' ps' u' fs _ _ (join_front (marks n t') (more_entries n es) c _ _ _ (goes t' (valued ps' u' (key_text k') ∷ fs) gs.1 gs.0)
            (subst (λ w. Goes (behind (opened t' (valued ps' u' (key_text k') ∷ fs))) (more_entries n es ++ c) (have (map_from (ps ++ (key_text k, meaning t) ∷ (key_text k', meaning t') ∷ entry_meanings es) w) fs)) (one_further u (unknown t) (earlier (unknown t') (unknown_entry es)))
            (subst (λ l. Goes (behind (opened t' (valued ps' u' (key_text k') ∷ fs))) (more_entries n es ++ c) (have (map_from l (earlier u' (earlier (unknown t') (unknown_entry es)))) fs)) (append_assoc ps ((key_text k, meaning t) ∷ []) ((key_text k', meaning t') ∷ entry_meanings es)) (goes_further es k' t' ps' u' fs gs.0 gs.1 gs.2))))),
      )
