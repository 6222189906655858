use Rattle.std.proofs.Common.{ap, ◌∙◌}
use Rattle.value_core.specs.View.{values_view}
use Rattle.doc_model.specs.Evaluation.{reverse_values}
use Rattle.expr_eval.proofs.Views.{values_reverse}
use Rattle.expr_eval.proofs.lists.reversed.Goals as goal

pub returns : goal.returns
returns c =
    ap values_view (c.from_vec.ensures ∙ c.reverse.ensures.items) ∙ values_reverse c.into_vec-copies.result.items
    ∙ ap (λ xs. reverse_values (values_view xs)) c.into_vec-copies.ensures ∙ ap reverse_values c.in_ok-copy_values.ensures
