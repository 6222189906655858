use Rattle.std.proofs.Common.{◌≡◌, ◌-◌, ◌++◌, length, take, drop, sym, ap, ◌∙◌, arith}
use Rattle.std.proofs.lemmas.List.{take_all, length-drop}
use Rattle.value_core.specs.View.{view, values_view}
use Rattle.value_core.proofs.Order.{cons_at}
use Rattle.doc_model.specs.Evaluation.{both, on_res, joined}
use Rattle.expr_eval.specs.Gives.{text_as_is}
use Rattle.expr_eval.specs.Operands.{joined_on}
use Rattle.expr_eval.proofs.Results.{gives_as, both_on}
use Rattle.expr_eval.proofs.Listed.{joined_first}
use Rattle.expr_eval.proofs.text.join.Goals as goal

pub returns : goal.returns
returns c =
    let all = c.as_slice.result.now in
    let cut : take (length all - 1) (drop 1 all) ≡ drop 1 all = take_all (length all - 1) (drop 1 all) (omega (arith, length-drop 1 all)) in
    let rest = joined_on c.args.between.now (values_view (drop 1 all)) in
    gives_as text_as_is c.join_on.result _ (on_res (λ s. c.in_ok-text.text ++ s) (joined_on c.args.between.now (values_view (take (length all - 1) (drop 1 all)))))
    (ap (λ l. joined c.args.between.now (values_view l)) (sym c.as_slice.ensures ∙ cons_at all 0 c.first-item.result c.in-len1-up.len_at_least c.first-item.is)
    ∙ joined_first c.args.between.now (view c.first-item.result) (values_view (drop 1 all))
    ∙ ap (λ r. both (λ a b. a ++ b) r rest) c.in_ok-text.ensures
    ∙ both_on (λ a b. a ++ b) c.in_ok-text.text rest
    ∙ ap (λ l. on_res (λ s. c.in_ok-text.text ++ s) (joined_on c.args.between.now (values_view l))) (sym cut))
    c.join_on.ensures
