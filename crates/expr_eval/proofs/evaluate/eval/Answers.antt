use Rattle.std.proofs.Common.{List, subst}
use Rattle.text_core.specs.declared.by_key.KeyValue.{KeyValue}
use Rattle.value_core.specs.View.{view}
use Rattle.value_core.specs.declared.value.Value.{Value}
use Rattle.ast_core.specs.ExprView.{expr_view}
use Rattle.doc_model.specs.Evaluation.{eval_expr}
use Rattle.expr_eval.specs.Gives.{Gives}
use Rattle.expr_eval.specs.Scope.{env_over}
use Rattle.expr_eval.proofs.evaluate.eval.Goals as goal

-- nothing stands over the assigns
pub returns : goal.returns
returns c = λ streams components.
    subst (λ (given : List (KeyValue Value)). Gives view c.eval_over.result (eval_expr (env_over given c.args.assigns.now c.args.variables.now streams components) (expr_view c.args.expr.now)))
    c.new-given.ensures (c.eval_over.ensures streams components)
