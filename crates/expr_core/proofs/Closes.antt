-- What a bracket ends, and what it does not.
use Rattle.std.proofs.Common.{◌≡◌, ℕ, List, [], ◌∷◌, ◌++◌, true, false, Option, Some, None, refl}
use Rattle.std.specs.Prelude.{nat_le, if◌then◌else◌}
use Rattle.ast_core.specs.declared.operators.UnaryOp.{UnaryOp}
use Rattle.ast_core.specs.declared.operators.BinaryOp.{BinaryOp}
use Rattle.ast_core.specs.declared.expr.TextPart.{TextPart}
use Rattle.ast_core.specs.Syntax.{Expr}
use Rattle.ast_core.specs.ExprView.{Part}
use Rattle.expr_token.specs.declared.token.Bracket.{Bracket}
use Rattle.expr_token.specs.declared.token.Bracket.TheVariants.{Round, Square, Curly}
use Rattle.expr_core.specs.declared.value.Style.{Style}
use Rattle.expr_core.specs.declared.value.Style.TheVariants.{Bare, Inside}
use Rattle.expr_core.specs.declared.frame.Opener.{Opener}
use Rattle.expr_core.specs.declared.frame.Opener.TheVariants.{Listing, Tupling, Calling, Piping}
use Rattle.expr_core.specs.declared.frame.Frame.{Frame}
use Rattle.expr_core.specs.declared.frame.Frame.TheVariants as frame
use Rattle.expr_core.specs.Functions.{earlier}
use Rattle.expr_core.specs.Grammar as grammar
use Rattle.expr_core.specs.Machine as machine
use Rattle.expr_core.specs.Seen.{opener_view, style_view, frame_view, has_bracket, ends_choice, is_test}

pub items_end : (b : Bracket) (o : Opener) (es : List Expr) (u : Option ℕ) (v : machine.Value) → has_bracket o b ≡ true → machine.ended_by b v (machine.items (opener_view o) es u) ≡ Some (machine.finish (opener_view o) (es ++ v.meant.expr ∷ []) (earlier u v.meant.unknown))
items_end Round Listing es u v e = cc
items_end Square Listing es u v e = refl
items_end Curly Listing es u v e = cc
items_end Round Tupling es u v e = cc
items_end Square Tupling es u v e = cc
items_end Curly Tupling es u v e = refl
items_end Round (Calling c) es u v e = refl
items_end Square (Calling c) es u v e = cc
items_end Curly (Calling c) es u v e = cc
items_end Round (Piping l c) es u v e = refl
items_end Square (Piping l c) es u v e = cc
items_end Curly (Piping l c) es u v e = cc

pub items_stay : (b : Bracket) (o : Opener) (es : List Expr) (u : Option ℕ) (v : machine.Value) → has_bracket o b ≡ false → machine.ended_by b v (machine.items (opener_view o) es u) ≡ None
items_stay Round Listing es u v e = refl
items_stay Square Listing es u v e = cc
items_stay Curly Listing es u v e = refl
items_stay Round Tupling es u v e = refl
items_stay Square Tupling es u v e = refl
items_stay Curly Tupling es u v e = cc
items_stay Round (Calling c) es u v e = cc
items_stay Square (Calling c) es u v e = refl
items_stay Curly (Calling c) es u v e = refl
items_stay Round (Piping l c) es u v e = cc
items_stay Square (Piping l c) es u v e = refl
items_stay Curly (Piping l c) es u v e = refl

pub empty_ends : (b : Bracket) (o : Opener) (u : Option ℕ) (fs : machine.Frames) → has_bracket o b ≡ true → machine.put_empty b (machine.items (opener_view o) [] u ∷ fs) ≡ Some (machine.have (machine.finish (opener_view o) [] u) fs)
empty_ends Round Listing u fs e = cc
empty_ends Square Listing u fs e = refl
empty_ends Curly Listing u fs e = cc
empty_ends Round Tupling u fs e = cc
empty_ends Square Tupling u fs e = cc
empty_ends Curly Tupling u fs e = refl
empty_ends Round (Calling c) u fs e = refl
empty_ends Square (Calling c) u fs e = cc
empty_ends Curly (Calling c) u fs e = cc
empty_ends Round (Piping l c) u fs e = refl
empty_ends Square (Piping l c) u fs e = cc
empty_ends Curly (Piping l c) u fs e = cc

pub empty_stays : (b : Bracket) (o : Opener) (u : Option ℕ) (fs : machine.Frames) → has_bracket o b ≡ false → machine.put_empty b (machine.items (opener_view o) [] u ∷ fs) ≡ None
empty_stays Round Listing u fs e = refl
empty_stays Square Listing u fs e = cc
empty_stays Curly Listing u fs e = refl
empty_stays Round Tupling u fs e = refl
empty_stays Square Tupling u fs e = refl
empty_stays Curly Tupling u fs e = cc
empty_stays Round (Calling c) u fs e = cc
empty_stays Square (Calling c) u fs e = refl
empty_stays Curly (Calling c) u fs e = refl
empty_stays Round (Piping l c) u fs e = cc
empty_stays Square (Piping l c) u fs e = refl
empty_stays Curly (Piping l c) u fs e = refl

pub filled_stays : (b : Bracket) (o : Opener) (x : Expr) (es : List Expr) (u : Option ℕ) (fs : machine.Frames) → machine.put_empty b (machine.items (opener_view o) (x ∷ es) u ∷ fs) ≡ None
filled_stays Round Listing x es u fs = refl
filled_stays Square Listing x es u fs = refl
filled_stays Curly Listing x es u fs = refl
filled_stays Round Tupling x es u fs = refl
filled_stays Square Tupling x es u fs = refl
filled_stays Curly Tupling x es u fs = refl
filled_stays Round (Calling c) x es u fs = refl
filled_stays Square (Calling c) x es u fs = refl
filled_stays Curly (Calling c) x es u fs = refl
filled_stays Round (Piping l c) x es u fs = refl
filled_stays Square (Piping l c) x es u fs = refl
filled_stays Curly (Piping l c) x es u fs = refl

pub choice_ends : (b : Bracket) (s : Style) (t : grammar.Meant) (v : machine.Value) → ends_choice b s ≡ true → machine.ended_by b v (machine.yes_of (style_view s) t) ≡ Some (machine.chosen (style_view s) t v.meant)
choice_ends Round Bare t v e = cc
choice_ends Round Inside t v e = refl
choice_ends Square Bare t v e = cc
choice_ends Square Inside t v e = cc
choice_ends Curly Bare t v e = cc
choice_ends Curly Inside t v e = cc

pub choice_stays : (b : Bracket) (s : Style) (t : grammar.Meant) (v : machine.Value) → ends_choice b s ≡ false → machine.ended_by b v (machine.yes_of (style_view s) t) ≡ None
choice_stays Round Bare t v e = refl
choice_stays Round Inside t v e = cc
choice_stays Square Bare t v e = refl
choice_stays Square Inside t v e = refl
choice_stays Curly Bare t v e = refl
choice_stays Curly Inside t v e = refl

pub other_choice_ends : (b : Bracket) (s : Style) (t y : grammar.Meant) (v : machine.Value) → ends_choice b s ≡ true → machine.ended_by b v (machine.no_of (style_view s) t y) ≡ Some (machine.chosen_else (style_view s) t y v.meant)
other_choice_ends Round Bare t y v e = cc
other_choice_ends Round Inside t y v e = refl
other_choice_ends Square Bare t y v e = cc
other_choice_ends Square Inside t y v e = cc
other_choice_ends Curly Bare t y v e = cc
other_choice_ends Curly Inside t y v e = cc

pub other_choice_stays : (b : Bracket) (s : Style) (t y : grammar.Meant) (v : machine.Value) → ends_choice b s ≡ false → machine.ended_by b v (machine.no_of (style_view s) t y) ≡ None
other_choice_stays Round Bare t y v e = refl
other_choice_stays Round Inside t y v e = cc
other_choice_stays Square Bare t y v e = refl
other_choice_stays Square Inside t y v e = refl
other_choice_stays Curly Bare t y v e = refl
other_choice_stays Curly Inside t y v e = refl

pub operand_stays : (b : Bracket) (v : machine.Value) (o : BinaryOp) (l : machine.Value) → machine.ended_by b v (machine.operand o l) ≡ None
operand_stays Round v o l = refl
operand_stays Square v o l = refl
operand_stays Curly v o l = refl

pub ahead_stays : (b : Bracket) (v : machine.Value) (o : UnaryOp) → machine.ended_by b v (machine.ahead o) ≡ None
ahead_stays Round v o = refl
ahead_stays Square v o = refl
ahead_stays Curly v o = refl

pub putting_stays : (b : Bracket) (v : machine.Value) (ps : List Part) (u : Option ℕ) → machine.ended_by b v (machine.putting ps u) ≡ None
putting_stays Round v ps u = refl
putting_stays Square v ps u = refl
putting_stays Curly v ps u = refl

pub test_stays : (b : Bracket) (v : machine.Value) → machine.ended_by b v machine.test ≡ None
test_stays Round v = refl
test_stays Square v = refl
test_stays Curly v = refl

pub inner_test_stays : (b : Bracket) (v : machine.Value) → machine.ended_by b v machine.inner_test ≡ None
inner_test_stays Round v = refl
inner_test_stays Square v = refl
inner_test_stays Curly v = refl

pub nothing_stays : (b : Bracket) → machine.put_empty b [] ≡ None
nothing_stays Round = refl
nothing_stays Square = refl
nothing_stays Curly = refl

-- a list without items is no other frame
pub empty_operand : (b : Bracket) (o : BinaryOp) (l : machine.Value) (fs : machine.Frames) → machine.put_empty b ((machine.operand o l) ∷ fs) ≡ None
empty_operand Round o l fs = refl
empty_operand Square o l fs = refl
empty_operand Curly o l fs = refl

pub empty_ahead : (b : Bracket) (o : UnaryOp) (fs : machine.Frames) → machine.put_empty b ((machine.ahead o) ∷ fs) ≡ None
empty_ahead Round o fs = refl
empty_ahead Square o fs = refl
empty_ahead Curly o fs = refl

pub empty_paren : (b : Bracket) (fs : machine.Frames) → machine.put_empty b (machine.paren ∷ fs) ≡ None
empty_paren Round fs = refl
empty_paren Square fs = refl
empty_paren Curly fs = refl

pub empty_indexed : (b : Bracket) (w : machine.Value) (fs : machine.Frames) → machine.put_empty b ((machine.indexed w) ∷ fs) ≡ None
empty_indexed Round w fs = refl
empty_indexed Square w fs = refl
empty_indexed Curly w fs = refl

pub empty_putting : (b : Bracket) (ps : List Part) (u : Option ℕ) (fs : machine.Frames) → machine.put_empty b ((machine.putting ps u) ∷ fs) ≡ None
empty_putting Round ps u fs = refl
empty_putting Square ps u fs = refl
empty_putting Curly ps u fs = refl

pub empty_valued : (b : Bracket) (ps : List (List ℕ × Expr)) (u : Option ℕ) (k : List ℕ) (fs : machine.Frames) → machine.put_empty b ((machine.valued ps u k) ∷ fs) ≡ None
empty_valued Round ps u k fs = refl
empty_valued Square ps u k fs = refl
empty_valued Curly ps u k fs = refl

pub empty_test : (b : Bracket) (fs : machine.Frames) → machine.put_empty b (machine.test ∷ fs) ≡ None
empty_test Round fs = refl
empty_test Square fs = refl
empty_test Curly fs = refl

pub empty_inner_test : (b : Bracket) (fs : machine.Frames) → machine.put_empty b (machine.inner_test ∷ fs) ≡ None
empty_inner_test Round fs = refl
empty_inner_test Square fs = refl
empty_inner_test Curly fs = refl

pub empty_yes : (b : Bracket) (s : grammar.Style) (t : grammar.Meant) (fs : machine.Frames) → machine.put_empty b ((machine.yes_of s t) ∷ fs) ≡ None
empty_yes Round s t fs = refl
empty_yes Square s t fs = refl
empty_yes Curly s t fs = refl

pub empty_no : (b : Bracket) (s : grammar.Style) (t y : grammar.Meant) (fs : machine.Frames) → machine.put_empty b ((machine.no_of s t y) ∷ fs) ≡ None
empty_no Round s t y fs = refl
empty_no Square s t y fs = refl
empty_no Curly s t y fs = refl

pub ruleset empties = (empty_operand, empty_ahead, empty_paren, empty_indexed, empty_putting, empty_valued, empty_test, empty_inner_test, empty_yes, empty_no)

-- a part of a text ends no other frame
pub part_stays : (s : List ℕ) (v : machine.Value) (f : Frame) → ((ps : List TextPart) (u : Option ℕ) → f ≡ frame.Putting ps u → ⊥) → (fs : machine.Frames) → machine.put_part s v (frame_view f ∷ fs) ≡ None
part_stays s v (frame.Putting ps u) h fs = absurd (h ps u refl)
part_stays s v (frame.Operand o l) h fs = refl
part_stays s v (frame.Ahead o) h fs = refl
part_stays s v frame.Paren h fs = refl
part_stays s v (frame.Indexed w) h fs = refl
part_stays s v (frame.Items o es u) h fs = refl
part_stays s v (frame.Valued ps u k) h fs = refl
part_stays s v frame.Test h fs = refl
part_stays s v frame.InnerTest h fs = refl
part_stays s v (frame.Yes o t) h fs = refl
part_stays s v (frame.No o t y) h fs = refl

pub test_goes : (v : machine.Value) (f : Frame) (fs : machine.Frames) → is_test f ≡ true → machine.put_comma v (machine.paren ∷ frame_view f ∷ fs) ≡ (if nat_le 1 v.holds then Some (machine.want_do grammar.inside v.meant fs) else None)
test_goes v frame.Test fs e = refl
test_goes v (frame.Operand o l) fs e = cc
test_goes v (frame.Ahead o) fs e = cc
test_goes v frame.Paren fs e = cc
test_goes v (frame.Indexed w) fs e = cc
test_goes v (frame.Items o es u) fs e = cc
test_goes v (frame.Putting ps u) fs e = cc
test_goes v (frame.Valued ps u k) fs e = cc
test_goes v frame.InnerTest fs e = cc
test_goes v (frame.Yes s t) fs e = cc
test_goes v (frame.No s t y) fs e = cc

pub other_stays : (v : machine.Value) (f : Frame) (fs : machine.Frames) → is_test f ≡ false → machine.put_comma v (machine.paren ∷ frame_view f ∷ fs) ≡ None
other_stays v frame.Test fs e = cc
other_stays v (frame.Operand o l) fs e = refl
other_stays v (frame.Ahead o) fs e = refl
other_stays v frame.Paren fs e = refl
other_stays v (frame.Indexed w) fs e = refl
other_stays v (frame.Items o es u) fs e = refl
other_stays v (frame.Putting ps u) fs e = refl
other_stays v (frame.Valued ps u k) fs e = refl
other_stays v frame.InnerTest fs e = refl
other_stays v (frame.Yes s t) fs e = refl
other_stays v (frame.No s t y) fs e = refl
