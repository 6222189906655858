use Rattle.std.proofs.Common.{rules, ◌+◌, ◌++◌, drop, Err, sym, ap, ◌∙◌}
use Rattle.value_core.specs.View.{values_view}
use Rattle.doc_model.specs.Evaluation.{on_res}
use Rattle.expr_eval.specs.Gives.{Gives, text_as_is}
use Rattle.expr_eval.specs.Operands.{joined_on}
use Rattle.expr_eval.proofs.Listed.{items_on, items_stop}
use Rattle.expr_eval.proofs.text.join_on.Goals as goal

pub returns-in_err-more : goal.returns-in_err-more
returns-in_err-more c =
    let total = on_res (λ s. c.args.text ++ s) (joined_on c.args.between.now (values_view c.args.items.now)) in
    let h : Gives text_as_is (Err c.in_err-more.field-0.0) total
    = items_stop text_as_is text_as_is c.args.between.now c.items.text c.args.items.now c.items.item-index c.item-item.result c.in_err-more.field-0.0 total c.items-test.true c.item-item.is c.items.invariant c.in_err-more.ensures in
    search (rules, h)

pub items-preserved : goal.items-preserved
items-preserved c =
    items_on c.args.between.now c.items.text c.in_ok-more.more c.args.items.now c.items.item-index c.item-item.result _ c.items-test.true c.item-item.is c.items.invariant c.in_ok-more.ensures
    ∙ ap (λ s. on_res (λ r. s ++ r) (joined_on c.args.between.now (values_view (drop (c.items.item-index + 1) c.args.items.now))))
    (sym (c.in_ok-push_str-2.ensures.ok ∙ ap (λ m. c.push_str.new.self ++ m) c.as_str.ensures ∙ ap (λ m. m ++ c.in_ok-more.more) c.in_ok-push_str.ensures.ok))
