-- The value of an expression that goes on: along its chain, from the value that stands first.
use Rattle.std.proofs.Common.{◌≡◌, List, map, Box, sym, ap, ◌∙◌}
use Rattle.std.specs.declared.alloc.Global.{Global}
use Rattle.ast_core.specs.declared.expr.Expr.{Expr}
use Rattle.ast_core.specs.declared.expr.Expr.TheVariants as form
use Rattle.ast_core.specs.declared.expr.PathStep.{PathStep}
use Rattle.ast_core.specs.declared.expr.Operand.{Operand}
use Rattle.ast_core.specs.declared.expr.PipeCall.{PipeCall}
use Rattle.ast_core.specs.ExprView.{expr_view}
use Rattle.ast_core.specs.NamesIn.{step_view, operand_view, call_view}
use Rattle.doc_model.specs.Environment.{Env}
use Rattle.doc_model.specs.Evaluation.{then_do, eval_expr}
use Rattle.expr_eval.specs.Chains.{chain, operand_on, step_on, call_on, right_on}
use Rattle.expr_eval.proofs.Chained.{left_is, path_is, pipes_is, right_is}
use Rattle.expr_eval.proofs.Forms.{path_form, left_form, right_form, pipes_form}

pub along_path : (env : Env) (e x : Expr) (b : Box Expr Global) (ss : List PathStep) → e ≡ form.Path b ss → x ≡ b.value
    → eval_expr env (expr_view e) ≡ chain (step_on env) (eval_expr env (expr_view x)) (map step_view ss)
along_path env e x b ss is at =
    ap (λ y. eval_expr env (expr_view y)) is ∙ ap (eval_expr env) (path_form b ss) ∙ path_is env (expr_view b.value) (map step_view ss)
    ∙ ap (λ y. chain (step_on env) (eval_expr env (expr_view y)) (map step_view ss)) (sym at)

pub along_left : (env : Env) (e x : Expr) (b : Box Expr Global) (os : List Operand) → e ≡ form.LeftChain b os → x ≡ b.value
    → eval_expr env (expr_view e) ≡ chain (operand_on env) (eval_expr env (expr_view x)) (map operand_view os)
along_left env e x b os is at =
    ap (λ y. eval_expr env (expr_view y)) is ∙ ap (eval_expr env) (left_form b os) ∙ left_is env (expr_view b.value) (map operand_view os)
    ∙ ap (λ y. chain (operand_on env) (eval_expr env (expr_view y)) (map operand_view os)) (sym at)

pub along_right : (env : Env) (e x : Expr) (b : Box Expr Global) (os : List Operand) → e ≡ form.RightChain b os → x ≡ b.value
    → eval_expr env (expr_view e) ≡ then_do (eval_expr env (expr_view x)) (λ v. right_on env v (map operand_view os))
along_right env e x b os is at =
    ap (λ y. eval_expr env (expr_view y)) is ∙ ap (eval_expr env) (right_form b os) ∙ right_is env (expr_view b.value) (map operand_view os)
    ∙ ap (λ y. then_do (eval_expr env (expr_view y)) (λ v. right_on env v (map operand_view os))) (sym at)

pub along_pipes : (env : Env) (e x : Expr) (b : Box Expr Global) (cs : List PipeCall) → e ≡ form.Pipes b cs → x ≡ b.value
    → eval_expr env (expr_view e) ≡ chain (call_on env) (eval_expr env (expr_view x)) (map call_view cs)
along_pipes env e x b cs is at =
    ap (λ y. eval_expr env (expr_view y)) is ∙ ap (eval_expr env) (pipes_form b cs) ∙ pipes_is env (expr_view b.value) (map call_view cs)
    ∙ ap (λ y. chain (call_on env) (eval_expr env (expr_view y)) (map call_view cs)) (sym at)
