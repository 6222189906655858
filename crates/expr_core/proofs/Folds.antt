-- A frame with its value, and those before it that group to the right.
use Rattle.std.proofs.Common.{◌≡◌, ℕ, ◌≤◌, List, Some, true, sym, ap, subst, Result, Ok, Err}
use Rattle.std.specs.Prelude.{IfOk}
use Rattle.std.proofs.lemmas.Bool.{leb-true}
use Rattle.ast_core.specs.declared.operators.BinaryOp.{BinaryOp}
use Rattle.expr_core.specs.declared.frame.Frame.{Frame}
use Rattle.expr_core.specs.declared.frame.Frame.TheVariants as frame
use Rattle.expr_core.specs.declared.value.Value.{Value}
use Rattle.expr_core.specs.Grammar.{binds}
use Rattle.expr_core.specs.Machine as machine
use Rattle.expr_core.specs.Seen.{value_view, seen, folded, is_closed_by}
use Rattle.expr_core.specs.Gathers.{KeepsReduced, FoldsOn}

-- nothing before it is taken
pub kept_both : {E : Type 0} (r : Result Value E) (b : ℕ) (w : machine.Value) (fs : List Frame) → IfOk r (λ v. value_view v ≡ w) → KeepsReduced b w fs fs r
kept_both (Ok v) b w fs e = λ n k. ap (λ (x : machine.Value). machine.reduce n x (seen fs)) (sym e)
kept_both (Err f) b w fs e = tt

pub kept_frame : {E : Type 0} (r : Result Value E) (f : Frame) (w : machine.Value) (fs : List Frame) → IfOk r (λ v. value_view v ≡ folded f w) → FoldsOn f w fs fs r
kept_frame (Ok v) f w fs e = λ n k. ap (λ (x : machine.Value). machine.reduce n x (seen fs)) (sym e)
kept_frame (Err f') f w fs e = tt

pub kept_operand : {E : Type 0} (r : Result Value E) (o : BinaryOp) (l : Value) (w : machine.Value) (fs gs : List Frame) → KeepsReduced (binds o) (machine.both o (value_view l) w) fs gs r → FoldsOn (frame.Operand o l) w fs gs r
kept_operand (Ok v) o l w fs gs h = λ n k. h n (leb-true n (binds o) k)
kept_operand (Err f) o l w fs gs h = tt
