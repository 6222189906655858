use Rattle.std.proofs.Common.{◌≡◌, drop}
use Rattle.value_core.specs.View.{view, values_view}
use Rattle.doc_model.specs.Evaluation.{is_member}
use Rattle.expr_eval.proofs.lists.is_member.Given as goal

-- none of the items passed is the same
abbrev pub invariant-items : goal.invariant-items
invariant-items l = is_member (view l.value) (values_view l.items) ≡ is_member (view l.value) (values_view (drop l.item-index l.item-items))
