-- A reader's outcome is the right one.
use Rattle.std.proofs.Common.{◌≡◌, ℕ, ◌+◌, ◌<◌, ◌≤◌, List, [], ◌∷◌, ◌++◌, length, take, Bool, true, false, Option, Some, None, refl, sym, ap, ◌∙◌, subst, arith, append_assoc, append-nil, length-append}
use Rattle.std.specs.Prelude.{option_and_then, nat_le, if◌then◌else◌}
use Rattle.std.specs.List.{slice_get}
use Rattle.std.proofs.lemmas.Bool.{leb-true, le-leb}
use Rattle.std.proofs.lemmas.Bool.Decides.{nat_tests}
use Rattle.std.proofs.lemmas.List.{map-append}
use Rattle.std.proofs.Math.Seq.{take-append_seam}
use Rattle.expr_token.specs.declared.token.Token.{Token}
use Rattle.expr_token.specs.declared.token.Token.TheVariants.{Number, BadNumber, Word, Function, Atom, Nil, Boolean, At, Dot, Operator, Bang, NotWord, Pipe, Comma, Colon, Arrow, If, DoColon, ElseColon, OpeningRound, CallOpening, OpeningSquare, IndexOpening, OpeningCurly, OpeningMap, Closing, Quote, PartOpening, PartClosing, QuoteEnd, Foreign}
use Rattle.expr_core.specs.Language.{Mark, mark, Language, spelled_by, Reads, Begins, AllShallow, Spells, Begun, IsDeep, FaultAt, DeepAt}
use Rattle.expr_core.specs.Outcome.{Outcome, done, too_deep, Answers, Reader, at_end, at_fault, on_step, outcome, outcome_of}
use Rattle.expr_core.proofs.Steps.{Goes, run, goes_runs, Proof}

chained : {S : Type 0} (o : Option S) (f g : S → Option S) → option_and_then g (option_and_then f o) ≡ option_and_then (λ s. option_and_then g (f s)) o
chained None f g = refl
chained (Some s) f g = refl

same_then : {S : Type 0} (f g : S → Option S) (o : Option S) → ((s : S) → f s ≡ g s) → option_and_then f o ≡ option_and_then g o
same_then f g None e = refl
same_then f g (Some s) e = e s

some_eq : {S : Type 0} (s u : S) → Some s ≡ Some u → s ≡ u
some_eq s u e = cc

none_is_some : {S : Type 0} (s : S) → None ≡ Some s → ⊥
none_is_some s e = cc

shallow_more : (ms : List Mark) (m : Mark) → AllShallow ms → m.depth ≤ 64 → AllShallow (ms ++ m ∷ [])
shallow_more [] m h k = (k, tt)
shallow_more (n ∷ ms) m h k = (h.0, shallow_more ms m h.1 k)

first_of_all : (before after : List Token) → take (length before) (before ++ after) ≡ before
first_of_all before after = take-append_seam before after

one_more : (before : List Token) (t : Token) (after : List Token) → take (length before + 1) (before ++ t ∷ after) ≡ before ++ t ∷ []
one_more before t after =
    let n : length (before ++ t ∷ []) ≡ length before + 1 = length-append before (t ∷ []) in
    ap (λ i. take i (before ++ t ∷ after)) (sym n)
    ∙ ap (take (length (before ++ t ∷ []))) (sym (append_assoc before (t ∷ []) after))
    ∙ take-append_seam (before ++ t ∷ []) after

within_all : (before : List Token) (t : Token) (after : List Token) → length before < length (before ++ t ∷ after)
within_all before t after = omega (arith, length-append before (t ∷ after))

that_token : (before : List Token) (t : Token) (after : List Token) → slice_get (before ++ t ∷ after) (length before) ≡ Some t
that_token [] t after = refl
that_token (b ∷ before) t after = that_token before t after

above : (n : ℕ) → nat_le n 64 ≡ false → 64 < n
above n k = grind (arith, nat_tests)

is_other : (t : Token) (o : Option Token) → o ≡ Some t → (t ≡ BadNumber → ⊥) → o ≡ Some BadNumber → ⊥
is_other t o e h k = h (some_eq t BadNumber (sym e ∙ k))

-- the fault is named by its token
fault_answer : (L : Language) (ts : List Token) (t : Token) (n : ℕ) → FaultAt L ts n → slice_get ts n ≡ Some t → Answers L ts (at_fault t n)
fault_answer L ts BadNumber n f e = record { fault = f; number = e }
fault_answer L ts (Number d) n f e = record { fault = f; other = is_other (Number d) (slice_get ts n) e (λ k. cc) }
fault_answer L ts (Word at s) n f e = record { fault = f; other = is_other (Word at s) (slice_get ts n) e (λ k. cc) }
fault_answer L ts (Function at s) n f e = record { fault = f; other = is_other (Function at s) (slice_get ts n) e (λ k. cc) }
fault_answer L ts (Atom s) n f e = record { fault = f; other = is_other (Atom s) (slice_get ts n) e (λ k. cc) }
fault_answer L ts Nil n f e = record { fault = f; other = is_other Nil (slice_get ts n) e (λ k. cc) }
fault_answer L ts (Boolean b) n f e = record { fault = f; other = is_other (Boolean b) (slice_get ts n) e (λ k. cc) }
fault_answer L ts At n f e = record { fault = f; other = is_other At (slice_get ts n) e (λ k. cc) }
fault_answer L ts Dot n f e = record { fault = f; other = is_other Dot (slice_get ts n) e (λ k. cc) }
fault_answer L ts (Operator o) n f e = record { fault = f; other = is_other (Operator o) (slice_get ts n) e (λ k. cc) }
fault_answer L ts Bang n f e = record { fault = f; other = is_other Bang (slice_get ts n) e (λ k. cc) }
fault_answer L ts NotWord n f e = record { fault = f; other = is_other NotWord (slice_get ts n) e (λ k. cc) }
fault_answer L ts Pipe n f e = record { fault = f; other = is_other Pipe (slice_get ts n) e (λ k. cc) }
fault_answer L ts Comma n f e = record { fault = f; other = is_other Comma (slice_get ts n) e (λ k. cc) }
fault_answer L ts Colon n f e = record { fault = f; other = is_other Colon (slice_get ts n) e (λ k. cc) }
fault_answer L ts Arrow n f e = record { fault = f; other = is_other Arrow (slice_get ts n) e (λ k. cc) }
fault_answer L ts If n f e = record { fault = f; other = is_other If (slice_get ts n) e (λ k. cc) }
fault_answer L ts DoColon n f e = record { fault = f; other = is_other DoColon (slice_get ts n) e (λ k. cc) }
fault_answer L ts ElseColon n f e = record { fault = f; other = is_other ElseColon (slice_get ts n) e (λ k. cc) }
fault_answer L ts OpeningRound n f e = record { fault = f; other = is_other OpeningRound (slice_get ts n) e (λ k. cc) }
fault_answer L ts CallOpening n f e = record { fault = f; other = is_other CallOpening (slice_get ts n) e (λ k. cc) }
fault_answer L ts OpeningSquare n f e = record { fault = f; other = is_other OpeningSquare (slice_get ts n) e (λ k. cc) }
fault_answer L ts IndexOpening n f e = record { fault = f; other = is_other IndexOpening (slice_get ts n) e (λ k. cc) }
fault_answer L ts OpeningCurly n f e = record { fault = f; other = is_other OpeningCurly (slice_get ts n) e (λ k. cc) }
fault_answer L ts OpeningMap n f e = record { fault = f; other = is_other OpeningMap (slice_get ts n) e (λ k. cc) }
fault_answer L ts (Closing b) n f e = record { fault = f; other = is_other (Closing b) (slice_get ts n) e (λ k. cc) }
fault_answer L ts (Quote s) n f e = record { fault = f; other = is_other (Quote s) (slice_get ts n) e (λ k. cc) }
fault_answer L ts PartOpening n f e = record { fault = f; other = is_other PartOpening (slice_get ts n) e (λ k. cc) }
fault_answer L ts (PartClosing s) n f e = record { fault = f; other = is_other (PartClosing s) (slice_get ts n) e (λ k. cc) }
fault_answer L ts QuoteEnd n f e = record { fault = f; other = is_other QuoteEnd (slice_get ts n) e (λ k. cc) }
fault_answer L ts Foreign n f e = record { fault = f; other = is_other Foreign (slice_get ts n) e (λ k. cc) }

run_append : {A : Type 0} (R : Reader A) (a b : List Token) (s : R.State) → run R s (a ++ b) ≡ option_and_then (λ s'. run R s' b) (run R s a)
run_append R [] b s = refl
run_append R (t ∷ a) b s =
    same_then (λ s'. run R s' (a ++ b)) (λ s'. option_and_then (λ u. run R u b) (run R s' a)) (R.step s t) (run_append R a b)
    ∙ sym (chained (R.step s t) (λ s'. run R s' a) (λ u. run R u b))

-- from where the reader has come to, what follows is run
run_from : {A : Type 0} (R : Reader A) (before after : List Token) (s : R.State) → run R R.start before ≡ Some s → run R R.start (before ++ after) ≡ run R s after
run_from R before after s e = run_append R before after R.start ∙ ap (option_and_then (λ s'. run R s' after)) e

run_one : {A : Type 0} (R : Reader A) (before : List Token) (t : Token) (s s' : R.State) → run R R.start before ≡ Some s → R.step s t ≡ Some s' → run R R.start (before ++ t ∷ []) ≡ Some s'
run_one R before t s s' e k = run_from R before (t ∷ []) s e ∙ ap (option_and_then (λ u. Some u)) k

module _ (L : Language) (R : Reader L.Meaning) (P : Proof L R) where
  -- a reading is run to its end
  runs : (ts : List Token) (t : L.Tree) (r : Reads L ts t) → run R R.start ts ≡ Some (P.leads t r.lawful).state
  runs ts t r =
      let l = P.leads t r.lawful in
      ap (run R R.start) (sym r.spelled) ∙ goes_runs R (L.marks t) R.start l.state l.goes

  -- What is known where the reader stands.
  pub record Stands (before : List Token) (u : P.Shape) : Type 0 where
    pub fine : P.Fine u
    pub came : run R R.start before ≡ Some (P.seen u)
    pub spelled : spelled_by (P.told u) ≡ before
    pub shallow : AllShallow (P.told u)

  begun : (before : List Token) (u : P.Shape) → Stands before u → Begun L before
  begun before u h = let c = P.viable u h.fine in record { tree = c.tree; front = P.told u; more = c.more; lawful = c.lawful; same = c.same; spelled = h.spelled; shallow = h.shallow }

  -- where the text may end, what is held is a reading of it
  ends_well : (u : P.Shape) (m : L.Meaning) (ts : List Token) → Stands ts u → R.finished (P.seen u) ≡ Some m → Spells L ts m
  ends_well u m ts h e =
      let k = P.ends u m h.fine e in
      record { tree = k.tree; reads = record { lawful = k.lawful; spelled = ap spelled_by k.same ∙ h.spelled }; shallow = subst AllShallow (sym k.same) h.shallow; means = k.means }

  -- a text that is read ends where it may
  finishes : (ts : List Token) (s : R.State) (t : L.Tree) → run R R.start ts ≡ Some s → Reads L ts t → R.finished s ≡ Some (L.meaning t)
  finishes ts s t e r =
      let l = P.leads t r.lawful in
      ap R.finished (some_eq s l.state (sym e ∙ runs ts t r)) ∙ l.finished

  at_the_end : (ts : List Token) (u : P.Shape) (o : Option L.Meaning) → Stands ts u → R.finished (P.seen u) ≡ o → Answers L ts (at_end o)
  at_the_end ts u (Some m) h e = ends_well u m ts h e
  at_the_end ts u None h e = record { begun = begun ts u h; unread = λ t r. none_is_some (L.meaning t) (sym e ∙ finishes ts (P.seen u) t h.came r) }

  faults : (before : List Token) (t : Token) (after : List Token) (u : P.Shape) → Stands before u → R.step (P.seen u) t ≡ None → FaultAt L (before ++ t ∷ after) (length before)
  faults before t after u h e = record {
    within = within_all before t after;
    begun = subst (Begun L) (sym (first_of_all before (t ∷ after))) (begun before u h);
    over = subst (λ l. Begins L l → ⊥) (sym (one_more before t after)) none;
  }
    where
      none : Begins L (before ++ t ∷ []) → ⊥
      none (more, tree, r) =
          let a = runs ((before ++ t ∷ []) ++ more) tree r in
          let b : run R R.start (before ++ t ∷ more) ≡ None = run_from R before (t ∷ more) (P.seen u) h.came ∙ ap (option_and_then (λ s'. run R s' more)) e in
          let c = ap (run R R.start) (append_assoc before (t ∷ []) more) in
          none_is_some (P.leads tree r.lawful).state (sym b ∙ (sym c ∙ a))

  too_far : (before : List Token) (t : Token) (after : List Token) (u w : P.Shape) → Stands before u → P.Fine w → P.told w ≡ P.told u ++ mark (P.deep w) t ∷ [] → 64 < P.deep w → DeepAt L (before ++ t ∷ after) (length before)
  too_far before t after u w h f e d = record {
    within = within_all before t after;
    begun = subst (Begun L) (sym (first_of_all before (t ∷ after))) (begun before u h);
    deep = subst (IsDeep L) (sym (one_more before t after)) (let c = P.viable w f in record {
      tree = c.tree;
      front = P.told u;
      last = mark (P.deep w) t;
      more = c.more;
      lawful = c.lawful;
      same = c.same ∙ ap (λ l. l ++ c.more) e;
      spelled = map-append (λ m. m.token) (P.told u) (mark (P.deep w) t ∷ []) ∙ ap (λ l. l ++ t ∷ []) h.spelled;
      deep = d;
    });
  }

  stands_more : (before : List Token) (t : Token) (u w : P.Shape) → Stands before u → R.step (P.seen u) t ≡ Some (P.seen w) → P.Fine w → P.told w ≡ P.told u ++ mark (P.deep w) t ∷ [] → P.deep w ≤ 64 → Stands (before ++ t ∷ []) w
  stands_more before t u w h s f e d = record {
    fine = f;
    came = run_one R before t (P.seen u) (P.seen w) h.came s;
    spelled = ap spelled_by e ∙ map-append (λ m. m.token) (P.told u) (mark (P.deep w) t ∷ []) ∙ ap (λ l. l ++ t ∷ []) h.spelled;
    shallow = subst AllShallow (sym e) (shallow_more (P.told u) (mark (P.deep w) t) h.shallow d);
  }

  -- the answers behind one more token
  abbrev Onward : List Token → Token → List Token → Type 0
  Onward before t ts = (w : P.Shape) → Stands (before ++ t ∷ []) w → Answers L ((before ++ t ∷ []) ++ ts) (outcome R ts (length (before ++ t ∷ [])) (P.seen w))

  further : (before : List Token) (t : Token) (ts : List Token) (u w : P.Shape) → Onward before t ts → Stands before u → R.step (P.seen u) t ≡ Some (P.seen w) → P.Fine w → P.told w ≡ P.told u ++ mark (P.deep w) t ∷ [] → (b : Bool) → nat_le (P.deep w) 64 ≡ b
      → Answers L (before ++ t ∷ ts) (if b then outcome R ts (length before + 1) (P.seen w) else too_deep (length before))
  further before t ts u w go_on h s f e true k =
      let i = go_on w (stands_more before t u w h s f e (leb-true _ _ k)) in
      let n : length (before ++ t ∷ []) ≡ length before + 1 = length-append before (t ∷ []) in
      subst (λ l. Answers L l (outcome R ts (length before + 1) (P.seen w))) (append_assoc before (t ∷ []) ts)
      (subst (λ j. Answers L ((before ++ t ∷ []) ++ ts) (outcome R ts j (P.seen w))) n i)
  further before t ts u w go_on h s f e false k = too_far before t ts u w h f e (above (P.deep w) k)

  at_depth : (before : List Token) (t : Token) (ts : List Token) (u w : P.Shape) → Onward before t ts → Stands before u → R.step (P.seen u) t ≡ Some (P.seen w) → P.Fine w → P.told w ≡ P.told u ++ mark (P.deep w) t ∷ []
      → Answers L (before ++ t ∷ ts) (on_step R.depth (outcome R ts (length before + 1)) t (length before) (Some (P.seen w)))
  at_depth before t ts u w go_on h s f e = rw (P.same_depth w) (further before t ts u w go_on h s f e (nat_le (P.deep w) 64) refl)

  next : (before : List Token) (t : Token) (ts : List Token) (u : P.Shape) (o : Option R.State) → Onward before t ts → Stands before u → R.step (P.seen u) t ≡ o → Answers L (before ++ t ∷ ts) (on_step R.depth (outcome R ts (length before + 1)) t (length before) o)
  next before t ts u None go_on h e = fault_answer L (before ++ t ∷ ts) t (length before) (faults before t ts u h e) (that_token before t ts)
  next before t ts u (Some s) go_on h e =
      let k = P.takes u t s h.fine e in
      subst (λ v. Answers L (before ++ t ∷ ts) (on_step R.depth (outcome R ts (length before + 1)) t (length before) (Some v))) k.is
      (at_depth before t ts u k.shape go_on h (e ∙ ap (λ v. Some v) (sym k.is)) k.fine k.same)

  answers : (ts before : List Token) (u : P.Shape) → Stands before u → Answers L (before ++ ts) (outcome R ts (length before) (P.seen u))
  answers [] before u h = subst (λ l. Answers L l (at_end (R.finished (P.seen u)))) (sym (append-nil before)) (at_the_end before u (R.finished (P.seen u)) h refl)
  answers (t ∷ ts) before u h = next before t ts u (R.step (P.seen u) t) (λ w k. answers ts (before ++ t ∷ []) w k) h refl

  -- the outcome of tokens is the right one
  pub exact : (ts : List Token) → Answers L ts (outcome_of R ts)
  exact ts =
      subst (λ s. Answers L ts (outcome R ts 0 s)) P.first_seen
      (answers ts [] P.first (record { fine = P.first_fine; came = ap (λ s. Some s) (sym P.first_seen); spelled = ap spelled_by P.first_told; shallow = subst AllShallow (sym P.first_told) tt }))

  -- tokens that spell something lead there
  shallow_run : (ms : List Mark) (s u : R.State) (n : ℕ) → Goes R s ms u → AllShallow ms → outcome R (spelled_by ms) n s ≡ at_end (R.finished u)
  shallow_run [] s u n h a = ap (λ x. at_end (R.finished x)) h
  shallow_run (m ∷ ms) s u n h a =
      let rest = outcome R (spelled_by ms) (n + 1) in
      let d : R.depth h.0 ≤ 64 = subst (λ (x : ℕ). x ≤ 64) (sym h.2) a.0 in
      ap (on_step R.depth rest m.token n) h.1
      ∙ shallow_step (nat_le (R.depth h.0) 64) (rest h.0) (too_deep n) (le-leb _ 64 d)
      ∙ shallow_run ms h.0 u (n + 1) h.3 a.1
    where
      shallow_step : (b : Bool) (x y : Outcome L.Meaning) → b ≡ true → (if b then x else y) ≡ x
      shallow_step b x y h = rw h refl

  pub spelled_is_read : (ts : List Token) (m : L.Meaning) → Spells L ts m → outcome_of R ts ≡ done m
  spelled_is_read ts m s =
      let l = P.leads s.tree s.reads.lawful in
      ap (λ i. outcome R i 0 R.start) (sym s.reads.spelled)
      ∙ shallow_run (L.marks s.tree) R.start l.state 0 l.goes s.shallow
      ∙ ap at_end l.finished
      ∙ ap (λ x. done x) s.means

  done_eq : (m n : L.Meaning) (o : Outcome L.Meaning) → o ≡ done m → o ≡ done n → m ≡ n
  done_eq m n o h k = same (sym h ∙ k)
    where
      same : done m ≡ done n → m ≡ n
      same e = cc

  -- tokens spell one thing
  pub one_meaning : (ts : List Token) (m n : L.Meaning) → Spells L ts m → Spells L ts n → m ≡ n
  one_meaning ts m n s t = done_eq m n (outcome_of R ts) (spelled_is_read ts m s) (spelled_is_read ts n t)
