use Rattle.std.proofs.Common.{rules, Ok, Err, map, ap, ◌∙◌}
use Rattle.doc_model.specs.Evaluation.{eval_binary}
use Rattle.expr_eval.specs.Chains.{back, waiting_view}
use Rattle.expr_eval.specs.Gives.{Gives}
use Rattle.expr_eval.specs.Held.{held_view}
use Rattle.expr_eval.proofs.Chained.{taken, back_stops}
use Rattle.expr_eval.proofs.right_chain.take_back.Goals as goal

pub returns-in_err-value : goal.returns-in_err-value
returns-in_err-value c =
    let total = back (map waiting_view c.args.waiting) (Ok (held_view c.args.last)) in
    let here = taken c.waiting.waiting c.pop.new.self c.in-Some.field-0 (held_view c.waiting.value) total c.in-Some.ensures c.waiting.invariant in
    let h : Gives held_view (Err c.in_err-value.field-0.0) total
    = back_stops held_view (map waiting_view c.pop.new.self) (eval_binary c.in-Some.field-0.op (held_view c.in-Some.field-0.left) (held_view c.waiting.value)) c.in_err-value.field-0.0 total here c.in_err-value.ensures in
    search (rules, h)

pub waiting-preserved : goal.waiting-preserved
waiting-preserved c =
    taken c.waiting.waiting c.pop.new.self c.in-Some.field-0 (held_view c.waiting.value) (back (map waiting_view c.args.waiting) (Ok (held_view c.args.last))) c.in-Some.ensures c.waiting.invariant
    ∙ ap (back (map waiting_view c.pop.new.self)) c.in_ok-value.ensures
