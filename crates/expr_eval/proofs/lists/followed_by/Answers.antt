use Rattle.std.proofs.Common.{ap, ◌∙◌}
use Rattle.value_core.specs.View.{values_view}
use Rattle.doc_model.specs.Evaluation.{append_values}
use Rattle.expr_eval.proofs.Views.{values_append}
use Rattle.expr_eval.proofs.lists.followed_by.Goals as goal

pub returns : goal.returns
returns c =
    ap values_view (c.from_vec.ensures ∙ c.in_ok-append.ensures.items) ∙ values_append c.into_vec-items.result.items c.into_vec-more.result.items
    ∙ ap (λ xs. append_values (values_view xs) (values_view c.into_vec-more.result.items)) c.into_vec-items.ensures
    ∙ ap (λ xs. append_values (values_view c.args.items) (values_view xs)) c.into_vec-more.ensures
