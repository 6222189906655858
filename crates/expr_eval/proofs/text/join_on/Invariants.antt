use Rattle.std.proofs.Common.{◌≡◌, ◌++◌, drop}
use Rattle.value_core.specs.View.{values_view}
use Rattle.doc_model.specs.Evaluation.{on_res}
use Rattle.expr_eval.specs.Operands.{joined_on}
use Rattle.expr_eval.proofs.text.join_on.Given as goal

-- what was joined so far, and then the rest, is the whole
abbrev pub invariant-items : goal.invariant-items
invariant-items l =
    on_res (λ s. l.fn.text ++ s) (joined_on l.between (values_view l.items)) ≡ on_res (λ s. l.text ++ s) (joined_on l.between (values_view (drop l.item-index l.items)))
