use Rattle.value_core.specs.View.{view, values_view}
use Rattle.ast_core.specs.ExprView.{expr_view}
use Rattle.ast_core.specs.PatternView.{pattern_view}
use Rattle.doc_model.specs.Evaluation.{eval_expr}
use Rattle.diff_render.specs.Scope.{scope_in}
use Rattle.diff_render.proofs.Looped.{rows_bound}
use Rattle.diff_render.proofs.rows.row_scopes.Goals as goal

pub returns : goal.returns
returns c body =
    let as' = c.args.assigns.now in
    let vs = c.args.variables.now in
    let listed = c.in_ok-items.ensures in
    rows_bound as' vs (pattern_view c.args.pattern.now) c.in_ok-bindings.field-0 (values_view c.in_ok-items.items) listed.0 (view c.in_ok-list.list) (eval_expr (scope_in as' vs) (expr_view c.args.list.now))
    c.in_ok-list.ensures listed.1 listed.2 c.in_ok-bindings.ensures
