use Rattle.std.proofs.Common.{[], None, refl}
use Rattle.value_core.specs.View.{view}
use Rattle.ast_core.specs.ExprView.{expr_view}
use Rattle.ast_core.specs.Free.{free_names}
use Rattle.doc_model.specs.Evaluation.{eval_expr}
use Rattle.doc_model.proofs.Names.{agree_same, eval_agrees}
use Rattle.expr_eval.specs.Scope.{env_over}
use Rattle.expr_eval.proofs.Results.{gives_as}
use Rattle.expr_eval.proofs.evaluate.eval_over.Goals as goal

-- no expression reads streams or components
pub returns : goal.returns
returns c = λ streams components.
    let e = expr_view c.args.expr.now in
    let a = env_over c.args.given.now c.args.assigns.now c.args.variables.now streams components in
    let b = env_over c.args.given.now c.args.assigns.now c.args.variables.now None [] in
    gives_as view c.value_of.result (eval_expr a e) (eval_expr b e) (eval_agrees e a b (agree_same a b (free_names e) refl refl)) c.value_of.ensures
