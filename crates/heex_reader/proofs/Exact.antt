-- The outcome of signs is the right one.
use Rattle.std.proofs.Common.{◌≡◌, ℕ, ◌+◌, ◌<◌, List, [], ◌∷◌, ◌++◌, length, take, ◌⊎◌, inl, inr, Some, Result, Ok, Err, refl, sym, ap, ◌∙◌, subst, arith, append_assoc, append-nil, length-append}
use Rattle.std.specs.List.{slice_get}
use Rattle.std.proofs.Math.Seq.{take-append_seam}
use Rattle.ast_core.specs.Syntax.{Location, Nodes}
use Rattle.heex_reader.specs.declared.fault.TemplateKind.TheVariants as kind
use Rattle.heex_reader.specs.Located.{Fault}
use Rattle.heex_reader.specs.Signs.{Placed}
use Rattle.heex_reader.specs.Contents.{Content, nothing_yet}
use Rattle.heex_reader.specs.Grammar.{Forest, no_trees, forest_signs, block_nodes}
use Rattle.heex_reader.specs.Machine.{State, beginning, step, finished, go_on, read_from, outcome}
use Rattle.heex_reader.specs.Machine as machine
use Rattle.heex_reader.specs.Answers.{Sane, Reads, Spells, Begins, Open, open_at, awaits_clause, open_behind, open_from, open_after, awaits, fault_of, StrayAt, DeepAt, Refuses, Answers}
use Rattle.heex_reader.proofs.Goes.{forest_goes}
use Rattle.heex_reader.proofs.Shapes.{Kind, of_tag, of_yes, of_no, of_loop, of_clause, Shape, inner, awaiting, open_pieces, behind, told, FineShape, frame_as, content, seen}
use Rattle.heex_reader.proofs.Closed.{viable}
use Rattle.heex_reader.proofs.Taken.{Taken, Strays, Deepens, Met}
use Rattle.heex_reader.proofs.Takes.{meets}

-- Lists of signs.
one_more : (before : List Placed) (p : Placed) (after : List Placed) → take (length before + 1) (before ++ p ∷ after) ≡ before ++ p ∷ []
one_more before p after =
    let n : length (before ++ p ∷ []) ≡ length before + 1 = length-append before (p ∷ []) in
    ap (λ i. take i (before ++ p ∷ after)) (sym n)
    ∙ ap (take (length (before ++ p ∷ []))) (sym (append_assoc before (p ∷ []) after))
    ∙ take-append_seam (before ++ p ∷ []) after

that_sign : (before : List Placed) (p : Placed) (after : List Placed) → slice_get (before ++ p ∷ after) (length before) ≡ Some p
that_sign [] p after = refl
that_sign (b ∷ before) p after = that_sign before p after

open_more : (os : List Open) (ps : List Placed) (p : Placed) → open_from os (ps ++ p ∷ []) ≡ open_behind (open_from os ps) p
open_more os [] p = refl
open_more os (q ∷ ps) p = open_more (open_behind os q) ps p

ok_is_no_fault : (ns : Nodes) (f : Fault) → Ok ns ≡ Err f → ⊥
ok_is_no_fault ns f e = cc

module _ (place : ℕ → Location) where
  -- A template is read.
  whole_is_read : (ps : List Placed) (f : Forest) → Reads ps f → outcome place ps ≡ Ok (block_nodes place f)
  whole_is_read ps f r =
      ap (outcome place) (sym r.same ∙ sym (append-nil (forest_signs f)))
      ∙ forest_goes place f nothing_yet [] [] r.lawful (omega (arith, r.shallow)) (λ p c. refl)

  pub is_read : (ps : List Placed) (ns : Nodes) → Spells place ps ns → outcome place ps ≡ Ok ns
  is_read ps ns s = whole_is_read ps s.0 s.1 ∙ ap (λ x. Ok x) s.2

  -- What is known where the reader stands.
  pub record Stands (before : List Placed) (s : Shape) : Type 0 where
    pub fine : FineShape s
    pub came : (more : List Placed) → read_from place beginning (before ++ more) ≡ read_from place (seen place s) more
    pub spelled : told s ≡ before
    pub opened : open_after before ≡ behind s

  pub begun : (before : List Placed) (s : Shape) → Stands before s → Begins before
  begun before s h = subst Begins h.spelled (viable s h.fine)

  -- no template goes on with a sign that the reader refuses
  pub over : (before : List Placed) (p : Placed) (s : Shape) (f : Fault) → Stands before s → step place p (seen place s) ≡ Err f → Begins (before ++ p ∷ []) → ⊥
  over before p s f h e b =
      let o : outcome place ((before ++ p ∷ []) ++ b.0) ≡ Err f = ap (outcome place) (append_assoc before (p ∷ []) b.0) ∙ h.came (p ∷ b.0) ∙ ap (go_on place (λ t. read_from place t b.0)) e in
      ok_is_no_fault (block_nodes place b.1) f (sym (whole_is_read ((before ++ p ∷ []) ++ b.0) b.1 b.2) ∙ o)

  -- A sign that is refused.
  stray : (before after : List Placed) (p : Placed) (s : Shape) (f : Fault) → Stands before s → step place p (seen place s) ≡ Err f → Strays s p f → StrayAt (before ++ p ∷ after) (length before) f
  stray before after p s f h e k =
      let t : take (length before) (before ++ p ∷ after) ≡ before = take-append_seam before (p ∷ after) in
      let o : open_after (take (length before) (before ++ p ∷ after)) ≡ behind s = ap open_after t ∙ h.opened in
      record {
        sign = p;
        is = that_sign before p after;
        begun = subst Begins (sym t) (begun before s h);
        over = λ b. over before p s f h e (subst Begins (one_more before p after) b);
        shallow = λ a i. subst (λ os. length os < 128) (sym o) (k.shallow (ap awaits (sym o) ∙ a) i);
        told = k.said ∙ ap (λ os. fault_of (awaits os) p) (sym o);
      }

  deep : (before after : List Placed) (p : Placed) (s : Shape) (f : Fault) → Stands before s → Deepens s p f → DeepAt (before ++ p ∷ after) (length before) f
  deep before after p s f h k =
      let t : take (length before) (before ++ p ∷ after) ≡ before = take-append_seam before (p ∷ after) in
      let o : open_after (take (length before) (before ++ p ∷ after)) ≡ behind s = ap open_after t ∙ h.opened in
      record {
        sign = p;
        is = that_sign before p after;
        begun = subst Begins (sym t) (begun before s h);
        more = ap awaits o ∙ k.more;
        opening = k.opening;
        deep = ap length o ∙ k.deep;
        told = k.said;
      }

  -- The end.
  pub its_byte : (k : Kind) (n : ℕ) (c : Content) → machine.byte_of place (frame_as place k n c) ≡ n
  its_byte (of_tag t) n c = refl
  its_byte (of_yes e) n c = refl
  its_byte (of_no e y m) n c = refl
  its_byte (of_loop p e) n c = refl
  its_byte (of_clause e g es m p) n c = refl

  at_end : (s : Shape) (ps : List Placed) → Stands ps s → Answers place ps (finished place (seen place s))
  at_end (inner f []) ps h = (f, record { lawful = h.fine.0.0; shallow = omega (arith, h.fine.0.1); same = h.spelled }, refl)
  at_end (inner f (p ∷ qs)) ps h = inr (inr (record {
    begun = begun ps (inner f (p ∷ qs)) h;
    innermost = open_at p.at;
    others = open_pieces qs;
    is = h.opened;
    told = ap (λ n. record { at = n; kind = kind.Unclosed }) (its_byte p.kind p.at (content place qs p.before));
  }))
  at_end (awaiting b n e g qs) ps h = inr (inr (record { begun = begun ps (awaiting b n e g qs) h; innermost = awaits_clause n; others = open_pieces qs; is = h.opened; told = refl }))

  -- From sign to sign.
  pub one_taken : (before : List Placed) (p : Placed) (s : Shape) (u : State) → Stands before s → step place p (seen place s) ≡ Ok u → (k : Taken place s p u) → Stands (before ++ p ∷ []) k.shape
  one_taken before p s u h e k = record {
    fine = k.fine;
    came = λ more. ap (read_from place beginning) (append_assoc before (p ∷ []) more) ∙ h.came (p ∷ more) ∙ ap (go_on place (λ t. read_from place t more)) e ∙ ap (λ t. read_from place t more) (sym k.is);
    spelled = k.same ∙ ap (λ l. l ++ p ∷ []) h.spelled;
    opened = open_more [] before p ∙ ap (λ os. open_behind os p) h.opened ∙ sym k.opened;
  }

  -- the answers behind one more sign
  abbrev Onward : List Placed → List Placed → Type 0
  Onward before ps = (s : Shape) → Stands before s → Answers place (before ++ ps) (read_from place (seen place s) ps)

  refused : (before ps : List Placed) (p : Placed) (s : Shape) (f : Fault) → Stands before s → step place p (seen place s) ≡ Err f → Strays s p f ⊎ Deepens s p f → Refuses (before ++ p ∷ ps) f
  refused before ps p s f h e (inl k) = inl (length before, stray before ps p s f h e k)
  refused before ps p s f h e (inr k) = inr (inl (length before, deep before ps p s f h k))

  next : (before ps : List Placed) (p : Placed) (s : Shape) (r : Result State Fault) → Onward (before ++ p ∷ []) ps → Stands before s → step place p (seen place s) ≡ r → Met place s p r
      → Answers place (before ++ p ∷ ps) (go_on place (λ t. read_from place t ps) r)
  next before ps p s (Err f) further h e k = refused before ps p s f h e k
  next before ps p s (Ok u) further h e k =
      subst (λ l. Answers place l (read_from place u ps)) (append_assoc before (p ∷ []) ps)
      (subst (λ t. Answers place ((before ++ p ∷ []) ++ ps) (read_from place t ps)) k.is (further k.shape (one_taken before p s u h e k)))

  answers : (ps before : List Placed) (s : Shape) → Sane ps → Stands before s → Answers place (before ++ ps) (read_from place (seen place s) ps)
  answers [] before s v h = subst (λ l. Answers place l (finished place (seen place s))) (sym (append-nil before)) (at_end s before h)
  answers (p ∷ ps) before s v h = next before ps p s (step place p (seen place s)) (λ w k. answers ps (before ++ p ∷ []) w v.1 k) h refl (meets place s p v.0 h.fine)

  pub at_first : Stands [] (inner no_trees [])
  at_first = record { fine = ((tt, omega arith), tt); came = λ more. refl; spelled = refl; opened = refl }

  -- The outcome of signs is the right one.
  pub exact : (ps : List Placed) → Sane ps → Answers place ps (outcome place ps)
  exact ps v = answers ps [] (inner no_trees []) v at_first
