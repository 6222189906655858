-- Chains, seen as nested expressions.
use Rattle.std.proofs.Common.{◌≡◌, [], ◌∷◌, refl, pos}
use Rattle.std.specs.Prelude.{codes}
use Rattle.ast_core.specs.declared.operators.BinaryOp.TheVariants as op
use Rattle.ast_core.specs.declared.operators.Function.TheVariants as call
use Rattle.ast_core.specs.Syntax.{Expr, number, name, at, var, field, index, binary, call_of, no_exprs, expr}
use Rattle.ast_core.specs.ExprView.{field_step, index_step, path_of, left_chain, right_chain, pipes_of}

abbrev a : Expr
a = name (var (codes "a"))

abbrev b : Expr
b = name (at (codes "b"))

abbrev c : Expr
c = number (pos 1)

-- a - b + c
left : left_chain a ((op.Minus, b) ∷ (op.Plus, c) ∷ []) ≡ binary op.Plus (binary op.Minus a b) c
left = refl

-- a ++ b ++ c
right : right_chain a ((op.Append, b) ∷ (op.Append, c) ∷ []) ≡ binary op.Append a (binary op.Append b c)
right = refl

-- a.k[b].l
path : path_of a (field_step (codes "k") ∷ index_step b ∷ field_step (codes "l") ∷ []) ≡ field (index (field a (codes "k")) b) (codes "l")
path = refl

-- a |> max(b) |> abs()
pipes : pipes_of a ((call.Max, expr b no_exprs) ∷ (call.Abs, no_exprs) ∷ []) ≡ call_of call.Abs (expr (call_of call.Max (expr a (expr b no_exprs))) no_exprs)
pipes = refl
