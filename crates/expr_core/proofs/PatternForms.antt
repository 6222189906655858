-- What the forms of patterns stand for, and their frames in memory.
use Rattle.std.proofs.Common.{◌≡◌, ℕ, ℤ, ◌+◌, ◌<◌, arith, Bool, List, [], ◌∷◌, ◌++◌, map, length, refl, sym, ap, ◌∙◌, length-append}
use Rattle.std.proofs.lemmas.List.{map-append}
use Rattle.ast_core.specs.declared.pattern.Pattern.{Pattern}
use Rattle.ast_core.specs.declared.pattern.PatternPair.{PatternPair}
use Rattle.ast_core.specs.declared.pattern.Pattern.TheOpen.{Pattern-F}
use Rattle.ast_core.specs.declared.pattern.Pattern.TheVariants as form
use Rattle.ast_core.specs.declared.pattern.Pattern.TheViews.{roll-PatternPair}
use Rattle.ast_core.specs.declared.pattern.Pattern.TheFolds.{fold-roll-Pattern, fold-roll-PatternPair}
use Rattle.value_core.specs.Value as value
use Rattle.ast_core.specs.Syntax as model
use Rattle.ast_core.specs.PatternView.{patterns_of, keys_of, pattern_view, pattern_step, pattern_pair_step}
use Rattle.ast_core.specs.NamesIn.{pattern_pair_view}
use Rattle.std.specs.Prelude.{true, false, Some, None}
use Rattle.expr_token.specs.declared.token.Bracket.{Bracket}
use Rattle.expr_token.specs.declared.token.Bracket.TheVariants.{Round, Square, Curly}
use Rattle.expr_core.specs.declared.pattern_frame.PatternOpener.{PatternOpener}
use Rattle.expr_core.specs.declared.pattern_frame.PatternOpener.TheVariants.{Listing, Tupling}
use Rattle.expr_core.specs.declared.pattern_frame.PatternFrame.{PatternFrame}
use Rattle.expr_core.specs.declared.pattern_frame.PatternMode.{PatternMode}
use Rattle.expr_core.specs.declared.pattern_frame.PatternMode.TheVariants.{Want, Have, WantNumber, WantQuote, WantKey, WantColon}
use Rattle.expr_core.specs.PatternMachine as machine
use Rattle.expr_core.specs.SeenPattern.{opener_view, frame_view, piled, state_of, has_bracket}

pub sees_any : pattern_view form.Any ≡ model.any
sees_any = ap pattern_view (sym form.rolls-Any) ∙ fold-roll-Pattern model.Pattern (List ℕ × model.Pattern) pattern_step pattern_pair_step Pattern-F.Any

pub sees_name : (t : List ℕ) → pattern_view (form.Name t) ≡ model.named t
sees_name t = ap pattern_view (sym (form.rolls-Name t)) ∙ fold-roll-Pattern model.Pattern (List ℕ × model.Pattern) pattern_step pattern_pair_step (Pattern-F.Name t)

pub sees_number : (n : ℤ) → pattern_view (form.Number n) ≡ model.literal (value.whole_number n)
sees_number n = ap pattern_view (sym (form.rolls-Number n)) ∙ fold-roll-Pattern model.Pattern (List ℕ × model.Pattern) pattern_step pattern_pair_step (Pattern-F.Number n)

pub sees_text : (t : List ℕ) → pattern_view (form.Text t) ≡ model.literal (value.text t)
sees_text t = ap pattern_view (sym (form.rolls-Text t)) ∙ fold-roll-Pattern model.Pattern (List ℕ × model.Pattern) pattern_step pattern_pair_step (Pattern-F.Text t)

pub sees_atom : (t : List ℕ) → pattern_view (form.Atom t) ≡ model.literal (value.atom t)
sees_atom t = ap pattern_view (sym (form.rolls-Atom t)) ∙ fold-roll-Pattern model.Pattern (List ℕ × model.Pattern) pattern_step pattern_pair_step (Pattern-F.Atom t)

pub sees_nil : pattern_view form.Nil ≡ model.literal value.nil
sees_nil = ap pattern_view (sym form.rolls-Nil) ∙ fold-roll-Pattern model.Pattern (List ℕ × model.Pattern) pattern_step pattern_pair_step Pattern-F.Nil

pub sees_bool : (b : Bool) → pattern_view (form.Bool b) ≡ model.literal (value.boolean b)
sees_bool b = ap pattern_view (sym (form.rolls-Bool b)) ∙ fold-roll-Pattern model.Pattern (List ℕ × model.Pattern) pattern_step pattern_pair_step (Pattern-F.Bool b)

pub sees_tuple : (ps : List Pattern) → pattern_view (form.Tuple ps) ≡ model.tuple_like (patterns_of (map pattern_view ps))
sees_tuple ps = ap pattern_view (sym (form.rolls-Tuple ps)) ∙ fold-roll-Pattern model.Pattern (List ℕ × model.Pattern) pattern_step pattern_pair_step (Pattern-F.Tuple ps)

pub sees_list : (ps : List Pattern) → pattern_view (form.List ps) ≡ model.list_like (patterns_of (map pattern_view ps))
sees_list ps = ap pattern_view (sym (form.rolls-List ps)) ∙ fold-roll-Pattern model.Pattern (List ℕ × model.Pattern) pattern_step pattern_pair_step (Pattern-F.List ps)

pub sees_map : (ps : List PatternPair) → pattern_view (form.Map ps) ≡ model.map_like (keys_of (map pattern_pair_view ps))
sees_map ps = ap pattern_view (sym (form.rolls-Map ps)) ∙ fold-roll-Pattern model.Pattern (List ℕ × model.Pattern) pattern_step pattern_pair_step (Pattern-F.Map ps)

pub sees_pair : (k : List ℕ) (p : Pattern) → pattern_pair_view (roll-PatternPair (record { key = k; pattern = p })) ≡ (k, pattern_view p)
sees_pair k p = fold-roll-PatternPair model.Pattern (List ℕ × model.Pattern) pattern_step pattern_pair_step (record { key = k; pattern = p })

-- lists with one more at their end
pub items_more : (ps : List Pattern) (p : Pattern) → map pattern_view (ps ++ p ∷ []) ≡ map pattern_view ps ++ pattern_view p ∷ []
items_more ps p = map-append pattern_view ps (p ∷ [])

pub pairs_more : (ps : List PatternPair) (k : List ℕ) (p : Pattern) → map pattern_pair_view (ps ++ roll-PatternPair (record { key = k; pattern = p }) ∷ []) ≡ map pattern_pair_view ps ++ (k, pattern_view p) ∷ []
pairs_more ps k p = map-append pattern_pair_view ps (roll-PatternPair (record { key = k; pattern = p }) ∷ []) ∙ ap (λ q. map pattern_pair_view ps ++ q ∷ []) (sees_pair k p)

pub piled_more : (fs : List PatternFrame) (f : PatternFrame) → piled (fs ++ f ∷ []) ≡ frame_view f ∷ piled fs
piled_more [] f = refl
piled_more (g ∷ fs) f = ap (λ l. l ++ frame_view g ∷ []) (piled_more fs f)

pub nest_length : (fs : machine.Frames) → machine.nest fs ≡ length fs
nest_length [] = refl
nest_length (f ∷ fs) = omega (arith, nest_length fs)

pub piled_length : (fs : List PatternFrame) → length (piled fs) ≡ length fs
piled_length [] = refl
piled_length (f ∷ fs) = length-append (piled fs) (frame_view f ∷ []) ∙ (ap (λ n. n + 1) (piled_length fs) ∙ omega arith)

pub nest_piled : (fs : List PatternFrame) → machine.nest (piled fs) ≡ length fs
nest_piled fs = nest_length (piled fs) ∙ piled_length fs

-- what a bracket ends, and what it does not
pub items_end : (b : Bracket) (o : PatternOpener) (ns : List (List ℕ)) (ps : List model.Pattern) (p : model.Pattern) (fs : machine.Frames) → has_bracket o b ≡ true → machine.put_closing ns b p (machine.items (opener_view o) ps ∷ fs) ≡ Some (machine.have ns (machine.finish (opener_view o) (ps ++ p ∷ [])) fs)
items_end Round Listing ns ps p fs e = cc
items_end Square Listing ns ps p fs e = refl
items_end Curly Listing ns ps p fs e = cc
items_end Round Tupling ns ps p fs e = cc
items_end Square Tupling ns ps p fs e = cc
items_end Curly Tupling ns ps p fs e = refl

pub items_stay : (b : Bracket) (o : PatternOpener) (ns : List (List ℕ)) (ps : List model.Pattern) (p : model.Pattern) (fs : machine.Frames) → has_bracket o b ≡ false → machine.put_closing ns b p (machine.items (opener_view o) ps ∷ fs) ≡ None
items_stay Round Listing ns ps p fs e = refl
items_stay Square Listing ns ps p fs e = cc
items_stay Curly Listing ns ps p fs e = refl
items_stay Round Tupling ns ps p fs e = refl
items_stay Square Tupling ns ps p fs e = refl
items_stay Curly Tupling ns ps p fs e = cc

pub nothing_ends : (ns : List (List ℕ)) (b : Bracket) (p : model.Pattern) → machine.put_closing ns b p [] ≡ None
nothing_ends ns Round p = refl
nothing_ends ns Square p = refl
nothing_ends ns Curly p = refl

pub empty_ends : (b : Bracket) (o : PatternOpener) (ns : List (List ℕ)) (fs : machine.Frames) → has_bracket o b ≡ true → machine.put_empty ns b (machine.items (opener_view o) [] ∷ fs) ≡ Some (machine.have ns (machine.finish (opener_view o) []) fs)
empty_ends Round Listing ns fs e = cc
empty_ends Square Listing ns fs e = refl
empty_ends Curly Listing ns fs e = cc
empty_ends Round Tupling ns fs e = cc
empty_ends Square Tupling ns fs e = cc
empty_ends Curly Tupling ns fs e = refl

pub empty_stays : (b : Bracket) (o : PatternOpener) (ns : List (List ℕ)) (fs : machine.Frames) → has_bracket o b ≡ false → machine.put_empty ns b (machine.items (opener_view o) [] ∷ fs) ≡ None
empty_stays Round Listing ns fs e = refl
empty_stays Square Listing ns fs e = cc
empty_stays Curly Listing ns fs e = refl
empty_stays Round Tupling ns fs e = refl
empty_stays Square Tupling ns fs e = refl
empty_stays Curly Tupling ns fs e = cc

pub filled_stays : (b : Bracket) (o : PatternOpener) (ns : List (List ℕ)) (x : model.Pattern) (ps : List model.Pattern) (fs : machine.Frames) → machine.put_empty ns b (machine.items (opener_view o) (x ∷ ps) ∷ fs) ≡ None
filled_stays Round Listing ns x ps fs = refl
filled_stays Square Listing ns x ps fs = refl
filled_stays Curly Listing ns x ps fs = refl
filled_stays Round Tupling ns x ps fs = refl
filled_stays Square Tupling ns x ps fs = refl
filled_stays Curly Tupling ns x ps fs = refl

pub entries_stay : (b : Bracket) (ns : List (List ℕ)) (ps : List (List ℕ × model.Pattern)) (k : List ℕ) (fs : machine.Frames) → machine.put_empty ns b (machine.valued ps k ∷ fs) ≡ None
entries_stay Round ns ps k fs = refl
entries_stay Square ns ps k fs = refl
entries_stay Curly ns ps k fs = refl

pub nothing_stays : (ns : List (List ℕ)) (b : Bracket) → machine.put_empty ns b [] ≡ None
nothing_stays ns Round = refl
nothing_stays ns Square = refl
nothing_stays ns Curly = refl

-- a pattern is not finished while something is open
filled : (p : model.Pattern) (ns : List (List ℕ)) (fs : machine.Frames) → 0 < length fs → machine.finished (machine.have ns p fs) ≡ None
filled p ns [] h = absurd (omega arith)
filled p ns (f ∷ fs) h = refl

pub unfinished : (m : PatternMode) (ns : List (List ℕ)) (fs : List PatternFrame) → (fs ≡ [] → false ≡ true) → machine.finished (state_of m ns (piled fs)) ≡ None
unfinished m ns [] h = let e : false ≡ true = h refl in cc
unfinished Want ns (f ∷ fs) h = refl
unfinished (Have p) ns (f ∷ fs) h = filled (pattern_view p) ns (piled (f ∷ fs)) (omega (arith, piled_length (f ∷ fs)))
unfinished WantNumber ns (f ∷ fs) h = refl
unfinished (WantQuote s) ns (f ∷ fs) h = refl
unfinished (WantKey ps) ns (f ∷ fs) h = refl
unfinished (WantColon ps k) ns (f ∷ fs) h = refl
