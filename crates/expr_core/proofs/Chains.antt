-- Operators that group to the right, gathered from the last one.
use Rattle.std.proofs.Common.{◌≡◌, ℕ, ◌≤◌, List, [], ◌∷◌, ◌++◌, map, Bool, true, Option, Some, None, Box, sym, ap, ◌∙◌, arith}
use Rattle.std.specs.Prelude.{reverse, Result, Ok, Err, IfOk}
use Rattle.std.proofs.lemmas.Bool.{le-leb, eqb-true}
use Rattle.std.proofs.lemmas.List.{reverse-append}
use Rattle.ast_core.specs.Syntax as model
use Rattle.ast_core.specs.declared.operators.BinaryOp.{BinaryOp}
use Rattle.std.specs.declared.alloc.Global.{Global}
use Rattle.ast_core.specs.declared.expr.Expr.{Expr}
use Rattle.ast_core.specs.declared.expr.Expr.TheVariants as form
use Rattle.ast_core.specs.declared.expr.Operand.{Operand}
use Rattle.ast_core.specs.ExprView.{expr_view, right_chain}
use Rattle.ast_core.specs.NamesIn.{operand_view}
use Rattle.expr_core.specs.declared.frame.Frame.{Frame}
use Rattle.expr_core.specs.declared.frame.Frame.TheVariants as frame
use Rattle.expr_core.specs.declared.value.Value.{Value}
use Rattle.expr_core.specs.declared.chain.Gathered.{Gathered}
use Rattle.expr_core.specs.Grammar.{binds, meant}
use Rattle.expr_core.specs.Machine as machine
use Rattle.expr_core.specs.Seen.{value_view, seen, folded, is_closed_by}
use Rattle.expr_core.specs.Gathers.{groups_right, gathered_view}
use Rattle.expr_core.proofs.Forms.{sees_right}
use Rattle.expr_core.proofs.Stacks.{reduce_goes}

pub closes_right : (n : ℕ) (f : Frame) → n ≤ 7 → groups_right (Some f) ≡ true → is_closed_by n (Some f) ≡ true
closes_right n (frame.Operand o l) h e = let b : binds o ≡ 7 = eqb-true (binds o) 7 e in le-leb n (binds o) (omega arith)
closes_right n (frame.Ahead o) h e = cc
closes_right n frame.Paren h e = cc
closes_right n (frame.Indexed w) h e = cc
closes_right n (frame.Items o es u) h e = cc
closes_right n (frame.Putting ps u) h e = cc
closes_right n (frame.Valued ps u k) h e = cc
closes_right n frame.Test h e = cc
closes_right n frame.InnerTest h e = cc
closes_right n (frame.Yes s t) h e = cc
closes_right n (frame.No s t y) h e = cc

pub reduce_right : (n : ℕ) (v : machine.Value) (f : Frame) (fs : List Frame) → n ≤ 7 → groups_right (Some f) ≡ true → machine.reduce n v (seen (f ∷ fs)) ≡ machine.reduce n (folded f v) (seen fs)
reduce_right n v f fs h e = reduce_goes n v f fs (closes_right n f h e)

-- a chain with one more operand before it
pub right_front : (l f : model.Expr) (os gs : List Operand) (x : Operand) (o : BinaryOp) → gs ≡ os ++ x ∷ [] → operand_view x ≡ (o, f) → right_chain l (map operand_view (reverse gs)) ≡ model.binary o l (right_chain f (map operand_view (reverse os)))
right_front l f os gs x o more sees =
    ap (λ g. right_chain l (map operand_view (reverse g))) more
    ∙ ap (λ g. right_chain l (map operand_view g)) (reverse-append os (x ∷ []))
    ∙ ap (λ p. right_chain l (p ∷ map operand_view (reverse os))) sees

abbrev value_of : model.Expr → Option ℕ → Bool → machine.Value
value_of e u d = record { meant = meant e u; holds = 7; denies = d; callee = None }

-- the chain of gathered operands
pub gathered_seen : (g : Gathered) (b : Box Expr Global) (os : List Operand) → b.value ≡ g.first.meant.expr → os ≡ reverse g.behind → value_view (record { meant = record { expr = form.RightChain b os; unknown = g.unknown }; holds = 7; denies = g.first.denies; callee = None }) ≡ gathered_view g
gathered_seen g b os p q =
    ap (λ (e : model.Expr). value_of e g.unknown g.first.denies)
    (sees_right b os
    ∙ ap (λ (e : Expr). right_chain (expr_view e) (map operand_view os)) p
    ∙ ap (λ (l : List Operand). right_chain (expr_view g.first.meant.expr) (map operand_view l)) q)

-- what was kept so far is kept by the chain
pub chain_keeps : {E : Type 0} (r : Result Value E) (u w : machine.Value) (fs gs : machine.Frames) → ((n : ℕ) → n ≤ 7 → machine.reduce n u fs ≡ machine.reduce n w gs) → IfOk r (λ v. value_view v ≡ w) → IfOk r (λ v. (n : ℕ) → n ≤ 7 → machine.reduce n u fs ≡ machine.reduce n (value_view v) gs)
chain_keeps (Ok v) u w fs gs h e = λ n k. h n k ∙ ap (λ (x : machine.Value). machine.reduce n x gs) (sym e)
chain_keeps (Err f) u w fs gs h e = tt
