-- What is open, seen as the machine's frames.
use Rattle.std.proofs.Common.{◌≡◌, ℕ, List, [], ◌∷◌, Bool, true, false, Some, None, Result, Ok, cond, refl, sym, ap, subst, ◌∙◌}
use Rattle.ast_core.specs.Syntax as model
use Rattle.ast_core.specs.ExprView.{expr_view}
use Rattle.ast_core.specs.PatternView.{pattern_view}
use Rattle.ast_core.specs.declared.pattern.Pattern.{Pattern}
use Rattle.heex_reader.specs.declared.sign.Sign.{Sign}
use Rattle.heex_reader.specs.declared.sign.Sign.TheVariants as sign
use Rattle.heex_reader.specs.declared.frame.Open.{Open}
use Rattle.heex_reader.specs.declared.frame.Open.TheVariants as open_form
use Rattle.heex_reader.specs.declared.frame.Frame.{Frame}
use Rattle.heex_reader.specs.declared.fault.TemplateKind.TheVariants as kind
use Rattle.heex_reader.specs.declared.machine.Early.TheVariants as early_form
use Rattle.heex_reader.specs.declared.refusal.ReadFault.{ReadFault}
use Rattle.heex_reader.specs.declared.state.State.{State}
use Rattle.heex_reader.specs.Located.{Fault, faulty}
use Rattle.heex_reader.specs.Signs as signs
use Rattle.heex_reader.specs.Grammar.{sign_at, is_blank}
use Rattle.heex_reader.specs.Contents as contents
use Rattle.heex_reader.specs.Contents.{nothing_yet, nodes_in}
use Rattle.heex_reader.specs.Machine as machine
use Rattle.heex_reader.specs.Seen.{content_view, sign_view, framed, seen, first_of, opens_call, awaits_clause, first_opens_call, first_byte, awaits, early_of, clause_step, AllAt}
use Rattle.heex_reader.specs.Leads.{state_view, Leads}

pub in_call_first : (fs : List Frame) → machine.in_call (seen fs) ≡ first_opens_call (first_of fs)
in_call_first [] = refl
in_call_first (f ∷ fs) = by f.form f.spot.byte (content_view f.before)
  where
    by : (o : Open) (n : ℕ) (c : contents.Content) → machine.in_call (framed o n c ∷ seen fs) ≡ opens_call o
    by (open_form.Tag t) n c = refl
    by (open_form.Yes e) n c = refl
    by (open_form.No e ms) n c = refl
    by (open_form.Loop g) n c = refl
    by (open_form.BeforeClauses e) n c = refl
    by (open_form.Clause e cs p) n c = refl

pub step_within : (place : ℕ → model.Location) (at : ℕ) (s : signs.Sign) (here : contents.Content) (fs : List Frame) → awaits fs ≡ false
    → machine.step place (sign_at at s) (record { here = here; frames = seen fs }) ≡ machine.within place at s here (seen fs)
step_within place at s here [] e = refl
step_within place at s here (f ∷ fs) e = by f.form f.spot.byte (content_view f.before) e
  where
    by : (o : Open) (n : ℕ) (c : contents.Content) → awaits_clause o ≡ false
        → machine.step place (sign_at at s) (record { here = here; frames = framed o n c ∷ seen fs }) ≡ machine.within place at s here (framed o n c ∷ seen fs)
    by (open_form.Tag t) n c k = refl
    by (open_form.Yes x) n c k = refl
    by (open_form.No x ms) n c k = refl
    by (open_form.Loop g) n c k = refl
    by (open_form.BeforeClauses x) n c k = cc
    by (open_form.Clause x cs p) n c k = refl

-- what may stand before the first clause leaves no trace
pub first_gap : (place : ℕ → model.Location) (at : ℕ) (s : Sign) (here : contents.Content) (fs : List Frame) → awaits fs ≡ true → early_of s ≡ early_form.Gap
    → machine.step place (sign_at at (sign_view s)) (record { here = here; frames = seen fs }) ≡ Ok (record { here = nothing_yet; frames = seen fs })
first_gap place at s here [] e k = cc
first_gap place at s here (f ∷ fs) e k = by f.form f.spot.byte (content_view f.before) e
  where
    blank : (n : ℕ) (x : model.Expr) (c : contents.Content) (b : Bool) → cond b early_form.Gap early_form.Stray ≡ early_form.Gap
        → cond {A = Result machine.State Fault} b (Ok (record { here = nothing_yet; frames = machine.before_clauses n x c ∷ seen fs })) (faulty at kind.BadBlock) ≡ Ok (record { here = nothing_yet; frames = machine.before_clauses n x c ∷ seen fs })
    blank n x c true g = refl
    blank n x c false g = cc

    gap : (n : ℕ) (x : model.Expr) (c : contents.Content) (z : Sign) → early_of z ≡ early_form.Gap
        → machine.before_first place at (sign_view z) n x c (seen fs) ≡ Ok (record { here = nothing_yet; frames = machine.before_clauses n x c ∷ seen fs })
    gap n x c sign.Dropped g = refl
    gap n x c (sign.Words t) g = blank n x c (is_blank t) g
    gap n x c (sign.Value p) g = cc
    gap n x c (sign.Whole t) g = cc
    gap n x c (sign.Opens t) g = cc
    gap n x c (sign.Closes name) g = cc
    gap n x c (sign.Block b) g = cc
    gap n x c (sign.ClauseHead p) g = cc
    gap n x c sign.Otherwise g = cc
    gap n x c sign.Ends g = cc
    gap n x c (sign.Broken b y) g = cc
    gap n x c (sign.BrokenOpening b y) g = cc

    by : (o : Open) (n : ℕ) (c : contents.Content) → awaits_clause o ≡ true
        → machine.step place (sign_at at (sign_view s)) (record { here = here; frames = framed o n c ∷ seen fs }) ≡ Ok (record { here = nothing_yet; frames = framed o n c ∷ seen fs })
    by (open_form.Tag t) n c w = cc
    by (open_form.Yes x) n c w = cc
    by (open_form.No x ms) n c w = cc
    by (open_form.Loop g) n c w = cc
    by (open_form.BeforeClauses x) n c w = gap n (expr_view x) c s k
    by (open_form.Clause x cs p) n c w = cc

-- a clause's head is the first
pub first_head : (place : ℕ → model.Location) (at : ℕ) (s : Sign) (q : Pattern) (here : contents.Content) (fs : List Frame) → awaits fs ≡ true → early_of s ≡ early_form.Head q
    → machine.step place (sign_at at (sign_view s)) (record { here = here; frames = seen fs }) ≡ clause_step place at (pattern_view q) nothing_yet (seen fs)
first_head place at s q here [] e k = cc
first_head place at s q here (f ∷ fs) e k = by f.form f.spot.byte (content_view f.before) e
  where
    blank : {A : Type 0} → (b : Bool) → cond b early_form.Gap early_form.Stray ≡ early_form.Head q → A
    blank true g = cc
    blank false g = cc

    head : (n : ℕ) (x : model.Expr) (c : contents.Content) (z : Sign) → early_of z ≡ early_form.Head q
        → machine.before_first place at (sign_view z) n x c (seen fs) ≡ Ok (record { here = nothing_yet; frames = machine.in_clause n x [] (pattern_view q) c ∷ seen fs })
    head n x c sign.Dropped g = cc
    head n x c (sign.Words t) g = blank (is_blank t) g
    head n x c (sign.Value p) g = cc
    head n x c (sign.Whole t) g = cc
    head n x c (sign.Opens t) g = cc
    head n x c (sign.Closes name) g = cc
    head n x c (sign.Block b) g = cc
    head n x c (sign.ClauseHead p) g = let same : p ≡ q = cc in ap (λ r. Ok (record { here = nothing_yet; frames = machine.in_clause n x [] (pattern_view r) c ∷ seen fs })) same
    head n x c sign.Otherwise g = cc
    head n x c sign.Ends g = cc
    head n x c (sign.Broken b y) g = cc
    head n x c (sign.BrokenOpening b y) g = cc

    by : (o : Open) (n : ℕ) (c : contents.Content) → awaits_clause o ≡ true
        → machine.step place (sign_at at (sign_view s)) (record { here = here; frames = framed o n c ∷ seen fs }) ≡ clause_step place at (pattern_view q) nothing_yet (framed o n c ∷ seen fs)
    by (open_form.Tag t) n c w = cc
    by (open_form.Yes x) n c w = cc
    by (open_form.No x ms) n c w = cc
    by (open_form.Loop g) n c w = cc
    by (open_form.BeforeClauses x) n c w = head n (expr_view x) c s k
    by (open_form.Clause x cs p) n c w = cc

-- nothing else stands before the first clause
pub first_strays : (place : ℕ → model.Location) (at : ℕ) (s : Sign) (here : contents.Content) (fs : List Frame) → awaits fs ≡ true → early_of s ≡ early_form.Stray
    → machine.step place (sign_at at (sign_view s)) (record { here = here; frames = seen fs }) ≡ faulty at kind.BadBlock
first_strays place at s here [] e k = cc
first_strays place at s here (f ∷ fs) e k = by f.form f.spot.byte (content_view f.before) e
  where
    blank : (n : ℕ) (x : model.Expr) (c : contents.Content) (b : Bool) → cond b early_form.Gap early_form.Stray ≡ early_form.Stray
        → cond {A = Result machine.State Fault} b (Ok (record { here = nothing_yet; frames = machine.before_clauses n x c ∷ seen fs })) (faulty at kind.BadBlock) ≡ faulty at kind.BadBlock
    blank n x c true g = cc
    blank n x c false g = refl

    stray : (n : ℕ) (x : model.Expr) (c : contents.Content) (z : Sign) → early_of z ≡ early_form.Stray
        → machine.before_first place at (sign_view z) n x c (seen fs) ≡ faulty at kind.BadBlock
    stray n x c sign.Dropped g = cc
    stray n x c (sign.Words t) g = blank n x c (is_blank t) g
    stray n x c (sign.Value p) g = refl
    stray n x c (sign.Whole t) g = refl
    stray n x c (sign.Opens t) g = refl
    stray n x c (sign.Closes name) g = refl
    stray n x c (sign.Block b) g = refl
    stray n x c (sign.ClauseHead p) g = cc
    stray n x c sign.Otherwise g = refl
    stray n x c sign.Ends g = refl
    stray n x c (sign.Broken b y) g = refl
    stray n x c (sign.BrokenOpening b y) g = refl

    by : (o : Open) (n : ℕ) (c : contents.Content) → awaits_clause o ≡ true
        → machine.step place (sign_at at (sign_view s)) (record { here = here; frames = framed o n c ∷ seen fs }) ≡ faulty at kind.BadBlock
    by (open_form.Tag t) n c w = cc
    by (open_form.Yes x) n c w = cc
    by (open_form.No x ms) n c w = cc
    by (open_form.Loop g) n c w = cc
    by (open_form.BeforeClauses x) n c w = stray n (expr_view x) c s k
    by (open_form.Clause x cs p) n c w = cc

-- where a sign before the first clause leads
pub gap_leads : (place : ℕ → model.Location) (at : ℕ) (s : Sign) (here : contents.Content) (fs : List Frame) (z : State) → awaits fs ≡ true → early_of s ≡ early_form.Gap
    → state_view z ≡ record { here = nothing_yet; frames = seen fs } → z.frames ≡ fs → AllAt place fs
    → Leads place (Ok z) (machine.step place (sign_at at (sign_view s)) (record { here = here; frames = seen fs }))
gap_leads place at s here fs z e k is same all = (first_gap place at s here fs e k ∙ ap (λ (y : machine.State). Ok y) (sym is), subst (AllAt place) (sym same) all)

pub head_leads : (place : ℕ → model.Location) (at : ℕ) (s : Sign) (q : Pattern) (here : contents.Content) (fs : List Frame) (z : State) (r : Result State ReadFault) → awaits fs ≡ true → early_of s ≡ early_form.Head q
    → state_view z ≡ record { here = nothing_yet; frames = seen fs } → z.frames ≡ fs → AllAt place fs
    → (AllAt place z.frames → Leads place r (clause_step place at (pattern_view q) (content_view z.here) (seen z.frames)))
    → Leads place r (machine.step place (sign_at at (sign_view s)) (record { here = here; frames = seen fs }))
head_leads place at s q here fs z r e k is same all goes =
    let there : machine.step place (sign_at at (sign_view s)) (record { here = here; frames = seen fs }) ≡ clause_step place at (pattern_view q) (content_view z.here) (seen z.frames) =
    first_head place at s q here fs e k ∙ ap (λ (y : machine.State). clause_step place at (pattern_view q) y.here y.frames) (sym is) in
    subst (λ (x : Result machine.State Fault). Leads place r x) (sym there) (goes (subst (AllAt place) (sym same) all))

-- the end of the text
pub ends_well : (place : ℕ → model.Location) (here : contents.Content) (fs : List Frame) → first_byte (first_of fs) ≡ None
    → machine.finished place (record { here = here; frames = seen fs }) ≡ Ok (nodes_in here)
ends_well place here [] e = refl
ends_well place here (f ∷ fs) e = cc

pub ends_early : (place : ℕ → model.Location) (here : contents.Content) (fs : List Frame) (b : ℕ) → first_byte (first_of fs) ≡ Some b
    → machine.finished place (record { here = here; frames = seen fs }) ≡ faulty b kind.Unclosed
ends_early place here [] b e = cc
ends_early place here (f ∷ fs) b e = by f.form f.spot.byte (content_view f.before) (let same : f.spot.byte ≡ b = cc in same)
  where
    by : (o : Open) (n : ℕ) (c : contents.Content) → n ≡ b → machine.finished place (record { here = here; frames = framed o n c ∷ seen fs }) ≡ faulty b kind.Unclosed
    by (open_form.Tag t) n c k = ap (λ m. faulty m kind.Unclosed) k
    by (open_form.Yes x) n c k = ap (λ m. faulty m kind.Unclosed) k
    by (open_form.No x ms) n c k = ap (λ m. faulty m kind.Unclosed) k
    by (open_form.Loop g) n c k = ap (λ m. faulty m kind.Unclosed) k
    by (open_form.BeforeClauses x) n c k = ap (λ m. faulty m kind.Unclosed) k
    by (open_form.Clause x cs p) n c k = ap (λ m. faulty m kind.Unclosed) k
