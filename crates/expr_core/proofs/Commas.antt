-- Where a comma leads.
use Rattle.std.proofs.Common.{◌≡◌, ℕ, List, ◌∷◌, Option, refl}
use Rattle.std.specs.Prelude.{option_map}
use Rattle.ast_core.specs.declared.expr.Expr.{Expr}
use Rattle.ast_core.specs.declared.expr.Pair.{Pair}
use Rattle.expr_core.specs.declared.value.Meant.{Meant}
use Rattle.expr_core.specs.declared.value.Style.{Style}
use Rattle.expr_core.specs.declared.frame.Opener.{Opener}
use Rattle.expr_core.specs.declared.frame.Frame.{Frame}
use Rattle.expr_core.specs.declared.frame.Frame.TheVariants as frame
use Rattle.expr_core.specs.Machine as machine
use Rattle.expr_core.specs.Seen.{style_view, frame_view, test_style, choice_goes_on}

pub in_test : (v : machine.Value) (f : Frame) (fs : machine.Frames) → ((s : Style) (t : Meant) → f ≡ frame.Yes s t → ⊥) → choice_goes_on (frame_view f) v fs ≡ option_map (λ s. machine.want_do (style_view s) v.meant fs) (test_style f)
in_test v frame.Test fs n = refl
in_test v frame.InnerTest fs n = refl
in_test v (frame.Operand o l) fs n = refl
in_test v (frame.Ahead o) fs n = refl
in_test v frame.Paren fs n = refl
in_test v (frame.Indexed w) fs n = refl
in_test v (frame.Items o es u) fs n = refl
in_test v (frame.Putting ps u) fs n = refl
in_test v (frame.Valued ps u k) fs n = refl
in_test v (frame.Yes s t) fs n = absurd (n s t refl)
in_test v (frame.No s t y) fs n = refl

pub in_choice : (v : machine.Value) (f : Frame) (fs : machine.Frames) → ((o : Opener) (es : List Expr) (u : Option ℕ) → f ≡ frame.Items o es u → ⊥) → ((ps : List Pair) (u : Option ℕ) (k : List ℕ) → f ≡ frame.Valued ps u k → ⊥) → (f ≡ frame.Paren → ⊥) → machine.put_comma v (frame_view f ∷ fs) ≡ choice_goes_on (frame_view f) v fs
in_choice v frame.Test fs i e p = refl
in_choice v frame.InnerTest fs i e p = refl
in_choice v (frame.Operand o l) fs i e p = refl
in_choice v (frame.Ahead o) fs i e p = refl
in_choice v frame.Paren fs i e p = absurd (p refl)
in_choice v (frame.Indexed w) fs i e p = refl
in_choice v (frame.Items o es u) fs i e p = absurd (i o es u refl)
in_choice v (frame.Putting ps u) fs i e p = refl
in_choice v (frame.Valued ps u k) fs i e p = absurd (e ps u k refl)
in_choice v (frame.Yes s t) fs i e p = refl
in_choice v (frame.No s t y) fs i e p = refl
