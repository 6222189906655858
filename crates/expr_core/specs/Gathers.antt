-- Operators that group to the right, gathered from the last one.
use Rattle.std.specs.Prelude.{◌≡◌, ◌≤◌, ℕ, List, map, reverse, Bool, true, false, nat_eq, Option, Some, None, Result, IfOk}
use Rattle.ast_core.specs.ExprView.{expr_view, right_chain}
use Rattle.ast_core.specs.NamesIn.{operand_view}
use Rattle.expr_core.specs.declared.frame.Frame.{Frame}
use Rattle.expr_core.specs.declared.frame.Frame.TheVariants as frame
use Rattle.expr_core.specs.declared.chain.Gathered.{Gathered}
use Rattle.expr_core.specs.Grammar.{binds, meant}
use Rattle.expr_core.specs.Machine as machine
use Rattle.expr_core.specs.declared.value.Value.{Value}
use Rattle.expr_core.specs.Seen.{value_view, seen, folded, is_closed_by}

-- whether this is an operator that groups to the right
abbrev pub groups_right : Option Frame → Bool
groups_right (Some (frame.Operand o l)) = nat_eq (binds o) 7
groups_right f = false

-- the value of gathered operands
abbrev pub gathered_view : Gathered → machine.Value
gathered_view g = record {
  meant = meant (right_chain (expr_view g.first.meant.expr) (map operand_view (reverse g.behind))) g.unknown;
  holds = 7;
  denies = g.first.denies;
  callee = None;
}

-- at an operator that binds at most so tightly, an answer and what is left are reduced as this value and what there was
abbrev pub KeepsReduced : {E : Type 0} → ℕ → machine.Value → List Frame → List Frame → Result Value E → Type 0
KeepsReduced b w fs gs r = IfOk r (λ v. (n : ℕ) → n ≤ b → machine.reduce n w (seen fs) ≡ machine.reduce n (value_view v) (seen gs))

-- the same at each operator that ends this frame
abbrev pub FoldsOn : {E : Type 0} → Frame → machine.Value → List Frame → List Frame → Result Value E → Type 0
FoldsOn f w fs gs r = IfOk r (λ v. (n : ℕ) → is_closed_by n (Some f) ≡ true → machine.reduce n (folded f w) (seen fs) ≡ machine.reduce n (value_view v) (seen gs))
