-- Signs have one answer.
use Rattle.std.proofs.Common.{◌≡◌, ℕ, ◌+◌, ◌<◌, List, [], ◌∷◌, ◌++◌, length, take, zero, suc, true, false, ◌⊎◌, inl, inr, Some, None, Result, Ok, Err, refl, sym, ap, ◌∙◌, subst, arith, append_assoc, append-nil, true≢false}
use Rattle.std.specs.List.{slice_get}
use Rattle.ast_core.specs.Syntax.{Location, Nodes}
use Rattle.heex_reader.specs.declared.fault.TemplateKind.{TemplateKind}
use Rattle.heex_reader.specs.declared.fault.TemplateKind.TheVariants as kind
use Rattle.heex_reader.specs.Located.{Fault, faulty}
use Rattle.heex_reader.specs.Signs.{Sign, opens, block, broken_opening, Placed}
use Rattle.heex_reader.specs.Contents.{Content}
use Rattle.heex_reader.specs.Grammar.{no_trees}
use Rattle.heex_reader.specs.Machine.{Frame, in_tag, frame_of, broken_open, opened, within, State, step, finished, go_on, read_from, outcome}
use Rattle.heex_reader.specs.Answers.{OpensNoVoid, Sane, Begins, Open, open_after, awaits, is_opening, fault_of, StrayAt, DeepAt, LeftOpen, Refuses, Answers, byte_of}
use Rattle.heex_reader.proofs.Shapes.{Shape, inner, awaiting, behind, frames_of, content, seen, ready, as_many_frames, as_many_open}
use Rattle.heex_reader.proofs.Taken.{Taken, Strays, Deepens, Met}
use Rattle.heex_reader.proofs.Takes.{meets}
use Rattle.heex_reader.proofs.Exact.{Stands, begun, over, its_byte, one_taken, at_first, is_read}

-- Signs about one of them.
record Split (ps : List Placed) (n : ℕ) (p : Placed) : Type 0 where
  after : List Placed
  front : take n ps ++ p ∷ after ≡ ps
  through : take (n + 1) ps ≡ take n ps ++ p ∷ []

some_eq : (p q : Placed) → Some p ≡ Some q → p ≡ q
some_eq p q e = cc

none_is_some : (p : Placed) → None ≡ Some p → ⊥
none_is_some p e = cc

split : (ps : List Placed) (n : ℕ) (p : Placed) → slice_get ps n ≡ Some p → Split ps n p
split [] n p e = absurd (none_is_some p e)
split (q ∷ ps) zero p e =
    let same : q ≡ p = some_eq q p e in
    record { after = ps; front = ap (λ x. x ∷ ps) (sym same); through = ap (λ x. x ∷ []) same }
split (q ∷ ps) (suc n) p e =
    let r = split ps n p e in
    let m : suc n + 1 ≡ suc (n + 1) = omega arith in
    record { after = r.after; front = ap (λ l. q ∷ l) r.front; through = ap (λ k. take k (q ∷ ps)) m ∙ ap (λ l. q ∷ l) r.through }

fewer : (a b : List Placed) → Begins (a ++ b) → Begins a
fewer a b h =
    let r = h.2 in
    (b ++ h.0, h.1, record { lawful = r.lawful; shallow = r.shallow; same = r.same ∙ append_assoc a b h.0 })

sane_front : (a b : List Placed) → Sane (a ++ b) → Sane a
sane_front [] b v = tt
sane_front (p ∷ a) b v = (v.0, sane_front a b v.1)

sane_sign : (a : List Placed) (p : Placed) (b : List Placed) → Sane (a ++ p ∷ b) → OpensNoVoid p.sign
sane_sign [] p b v = v.0
sane_sign (q ∷ a) p b v = sane_sign a p b v.1

fault_is_no_state : (f : Fault) (u : State) → Err f ≡ Ok u → ⊥
fault_is_no_state f u e = cc

abbrev first_byte : List Open → ℕ
first_byte [] = 0
first_byte (o ∷ os) = byte_of o

opened_full : (at : ℕ) (f : Frame) (fs : List Frame) (u : State) → length fs ≡ 128 → opened at f fs ≡ Ok u → ⊥
opened_full at f fs u n e =
    let full : opened at f fs ≡ faulty at kind.TooDeep = rw n refl in
    fault_is_no_state (record { at = at; kind = kind.TooDeep }) u (sym full ∙ e)

broken_full : (at b : ℕ) (k : TemplateKind) (fs : List Frame) (u : State) → length fs ≡ 128 → broken_open at b k fs ≡ Ok u → ⊥
broken_full at b k fs u n e =
    let full : broken_open at b k fs ≡ faulty at kind.TooDeep = rw n refl in
    fault_is_no_state (record { at = at; kind = kind.TooDeep }) u (sym full ∙ e)

module _ (place : ℕ → Location) where
  -- Where the reader has come to.
  abbrev Reached : List Placed → Type 0
  Reached ps = (s : Shape) × Stands place ps s

  reach_next : (before ps : List Placed) (p : Placed) (s : Shape) (r : Result State Fault) → Stands place before s → Begins (before ++ p ∷ ps) → step place p (seen place s) ≡ r → Met place s p r
      → ((w : Shape) → Stands place (before ++ p ∷ []) w → Reached ((before ++ p ∷ []) ++ ps)) → Reached (before ++ p ∷ ps)
  reach_next before ps p s (Err f) h b e k further =
      absurd (over place before p s f h e (fewer (before ++ p ∷ []) ps (subst Begins (sym (append_assoc before (p ∷ []) ps)) b)))
  reach_next before ps p s (Ok u) h b e k further = subst Reached (append_assoc before (p ∷ []) ps) (further k.shape (one_taken place before p s u h e k))

  -- signs that begin a template are taken
  reach : (ps before : List Placed) (s : Shape) → Stands place before s → Sane ps → Begins (before ++ ps) → Reached (before ++ ps)
  reach [] before s h v b = subst Reached (sym (append-nil before)) (s, h)
  reach (p ∷ ps) before s h v b =
      reach_next before ps p s (step place p (seen place s)) h b refl (meets place s p v.0 h.fine)
      (λ w k. reach ps (before ++ p ∷ []) w k v.1 (subst Begins (sym (append_assoc before (p ∷ []) ps)) b))

  reached : (ps : List Placed) → Sane ps → Begins ps → Reached ps
  reached ps v b = reach ps [] (inner no_trees []) (at_first place) v b

  -- where the reader refuses a sign, the outcome is its fault
  at_sign : (before after : List Placed) (p : Placed) (s : Shape) (f : Fault) (r : Result State Fault) → Stands place before s → step place p (seen place s) ≡ r → Met place s p r
      → ((u : State) → step place p (seen place s) ≡ Ok u → Taken place s p u → ⊥) → ((x : Fault) → Strays s p x ⊎ Deepens s p x → x ≡ f) → outcome place (before ++ p ∷ after) ≡ Err f
  at_sign before after p s f (Ok u) h e k not_taken so = absurd (not_taken u e k)
  at_sign before after p s f (Err x) h e k not_taken so = h.came (p ∷ after) ∙ ap (go_on place (λ t. read_from place t after)) e ∙ ap (λ y. Err y) (so x k)

  stray_is_told : (ps : List Placed) (n : ℕ) (f : Fault) → Sane ps → StrayAt ps n f → outcome place ps ≡ Err f
  stray_is_told ps n f v k =
      let c = split ps n k.sign k.is in
      let w : Sane (take n ps ++ k.sign ∷ c.after) = subst Sane (sym c.front) v in
      let q = reached (take n ps) (sane_front (take n ps) (k.sign ∷ c.after) w) k.begun in
      let h = q.1 in
      let m = meets place q.0 k.sign (sane_sign (take n ps) k.sign c.after w) h.fine in
      subst (λ l. outcome place l ≡ Err f) c.front
      (at_sign (take n ps) c.after k.sign q.0 f (step place k.sign (seen place q.0)) h refl m
      (λ u e t. k.over (subst Begins (sym c.through) (begun place (take n ps ++ k.sign ∷ []) t.shape (one_taken place (take n ps) k.sign q.0 u h e t))))
      (λ x y. said q.0 h x y))
    where
      said : (s : Shape) → Stands place (take n ps) s → (x : Fault) → Strays s k.sign x ⊎ Deepens s k.sign x → x ≡ f
      said s h x (inl y) = y.said ∙ ap (λ os. fault_of (awaits os) k.sign) (sym h.opened) ∙ sym k.told
      said s h x (inr y) =
          let less : length (open_after (take n ps)) < 128 = k.shallow (ap awaits h.opened ∙ y.more) y.opening in
          let all : length (open_after (take n ps)) ≡ 128 = ap length h.opened ∙ y.deep in
          absurd (omega (arith, less, all))

  -- a sign that opens one too many is not taken
  too_many : (sign : Sign) (at : ℕ) (c : Content) (fs : List Frame) (u : State) → length fs ≡ 128 → is_opening sign ≡ true → within place at sign c fs ≡ Ok u → ⊥
  too_many (opens t) at c fs u n o e = opened_full at (in_tag at t c) fs u n e
  too_many (block b) at c fs u n o e = opened_full at (frame_of at c b) fs u n e
  too_many (broken_opening b k) at c fs u n o e = broken_full at b k fs u n e
  too_many _ at c fs u n o e = absurd (true≢false (sym o))

  not_taken_deep : (s : Shape) (p : Placed) (u : State) → awaits (behind s) ≡ false → is_opening p.sign ≡ true → length (behind s) ≡ 128 → step place p (seen place s) ≡ Ok u → ⊥
  not_taken_deep (awaiting b n e g ps) p u a o d k = true≢false a
  not_taken_deep (inner f ps) p u a o d k =
      too_many p.sign p.at (content place ps f) (frames_of place ps) u (omega (arith, d, as_many_frames place ps, as_many_open ps)) o (sym (ready place ps p (content place ps f)) ∙ k)

  deep_is_told : (ps : List Placed) (n : ℕ) (f : Fault) → Sane ps → DeepAt ps n f → outcome place ps ≡ Err f
  deep_is_told ps n f v k =
      let c = split ps n k.sign k.is in
      let w : Sane (take n ps ++ k.sign ∷ c.after) = subst Sane (sym c.front) v in
      let q = reached (take n ps) (sane_front (take n ps) (k.sign ∷ c.after) w) k.begun in
      let h = q.1 in
      let m = meets place q.0 k.sign (sane_sign (take n ps) k.sign c.after w) h.fine in
      let a : awaits (behind q.0) ≡ false = ap awaits (sym h.opened) ∙ k.more in
      let d : length (behind q.0) ≡ 128 = ap length (sym h.opened) ∙ k.deep in
      subst (λ l. outcome place l ≡ Err f) c.front
      (at_sign (take n ps) c.after k.sign q.0 f (step place k.sign (seen place q.0)) h refl m (λ u e t. not_taken_deep q.0 k.sign u a k.opening d e) (λ x y. said q.0 a d x y))
    where
      said : (s : Shape) → awaits (behind s) ≡ false → length (behind s) ≡ 128 → (x : Fault) → Strays s k.sign x ⊎ Deepens s k.sign x → x ≡ f
      said s a d x (inl y) =
          let less : length (behind s) < 128 = y.shallow a k.opening in
          absurd (omega (arith, less, d))
      said s a d x (inr y) = y.said ∙ sym k.told

  left_open : (s : Shape) (ps : List Placed) (f : Fault) → open_after ps ≡ behind s → LeftOpen ps f → finished place (seen place s) ≡ Err f
  left_open (inner g []) ps f o k = absurd (none_left (k.innermost) k.others (sym o ∙ k.is))
    where
      none_left : (x : Open) (xs : List Open) → [] ≡ x ∷ xs → ⊥
      none_left x xs e = cc
  left_open (inner g (p ∷ qs)) ps f o k =
      let b : p.at ≡ byte_of k.innermost = ap first_byte (sym o ∙ k.is) in
      ap (λ n. Err (record { at = n; kind = kind.Unclosed })) (its_byte place p.kind p.at (content place qs p.before) ∙ b) ∙ ap (λ x. Err x) (sym k.told)
  left_open (awaiting b n e g qs) ps f o k =
      let c : n ≡ byte_of k.innermost = ap first_byte (sym o ∙ k.is) in
      ap (λ m. Err (record { at = m; kind = kind.Unclosed })) c ∙ ap (λ x. Err x) (sym k.told)

  left_is_told : (ps : List Placed) (f : Fault) → Sane ps → LeftOpen ps f → outcome place ps ≡ Err f
  left_is_told ps f v k =
      let q = reached ps v k.begun in
      let h = q.1 in
      ap (outcome place) (sym (append-nil ps)) ∙ h.came [] ∙ left_open q.0 ps f h.opened k

  -- what is refused is told
  pub is_refused : (ps : List Placed) (f : Fault) → Sane ps → Refuses ps f → outcome place ps ≡ Err f
  is_refused ps f v (inl k) = stray_is_told ps k.0 f v k.1
  is_refused ps f v (inr (inl k)) = deep_is_told ps k.0 f v k.1
  is_refused ps f v (inr (inr k)) = left_is_told ps f v k

  -- no other answer is right
  pub one_answer : (ps : List Placed) (r : Result Nodes Fault) → Sane ps → Answers place ps r → outcome place ps ≡ r
  one_answer ps (Ok ns) v a = is_read place ps ns a
  one_answer ps (Err f) v a = is_refused ps f v a
