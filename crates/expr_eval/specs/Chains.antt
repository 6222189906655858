-- Chains of operators, steps and pipes, from the value that stands first.
use Rattle.std.specs.Prelude.{ℕ, List, [], ◌∷◌, Ok}
use Rattle.value_core.specs.Value as model
use Rattle.value_core.specs.Value.{Values, value}
use Rattle.ast_core.specs.declared.operators.BinaryOp.{BinaryOp}
use Rattle.ast_core.specs.declared.operators.Function.{Function}
use Rattle.ast_core.specs.Syntax.{Expr, Exprs}
use Rattle.ast_core.specs.ExprView.{Step, field_step, index_step, Part, plain_part, expr_part, right_chain}
use Rattle.doc_model.specs.Environment.{Env}
use Rattle.doc_model.specs.Evaluation.{Res, then_do, on_res, or_else_do, decided, printed, field_of, index_of, eval_binary, eval_function, eval_expr, eval_exprs}
use Rattle.expr_eval.specs.declared.right_chain.Waiting.{Waiting}
use Rattle.expr_eval.specs.Held.{held_view}

-- each step takes the value before it, unless an earlier one raised
abbrev pub chain : {X : Type 0} → (X → model.Value → Res model.Value) → Res model.Value → List X → Res model.Value
chain f r [] = r
chain f r (x ∷ xs) = chain f (then_do r (f x)) xs

-- an operator and its right operand, behind a left value
abbrev pub operand_on : Env → BinaryOp × Expr → model.Value → Res model.Value
operand_on env o v = or_else_do (decided o.0 v) (then_do (eval_expr env o.1) (eval_binary o.0 v))

-- a field or an index of a value
abbrev pub step_on : Env → Step → model.Value → Res model.Value
step_on env (field_step k) v = field_of k v
step_on env (index_step e) v = then_do (eval_expr env e) (index_of v)

-- a call whose first argument is there
abbrev pub call_on : Env → Function × Exprs → model.Value → Res model.Value
call_on env c v = then_do (on_res (value v) (eval_exprs env c.1)) (eval_function c.0)

-- operators that group to the right, behind their first value
abbrev pub right_on : Env → model.Value → List (BinaryOp × Expr) → Res model.Value
right_on env v [] = Ok v
right_on env v (o ∷ os) = or_else_do (decided o.0 v) (then_do (eval_expr env (right_chain o.1 os)) (eval_binary o.0 v))

-- a left value that waits for its right operand
abbrev pub waiting_view : Waiting → BinaryOp × model.Value
waiting_view w = (w.op, held_view w.left)

-- the waiting values and their operators, the last first
abbrev pub back : List (BinaryOp × model.Value) → Res model.Value → Res model.Value
back [] r = r
back (w ∷ ws) r = then_do (back ws r) (eval_binary w.0 w.1)

-- a piece of a text
abbrev pub part_text : Env → Part → Res (List ℕ)
part_text env (plain_part t) = Ok t
part_text env (expr_part e) = then_do (eval_expr env e) printed

-- values, before those of a result
abbrev pub prepend : List model.Value → Res Values → Res Values
prepend [] r = r
prepend (v ∷ vs) r = on_res (value v) (prepend vs r)
