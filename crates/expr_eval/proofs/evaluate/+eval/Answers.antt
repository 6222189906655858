use Rattle.std.proofs.Common.{rules, ◌≤◌, ◌+◌, ◌++◌, ◌∷◌, [], drop, length, map, Ok, Err, sym, ap, ◌∙◌, arith}
use Rattle.std.proofs.lemmas.List.{map-append}
use Rattle.text_core.specs.Keyed.{with_key}
use Rattle.value_core.specs.View.{view, values_view, assigns_view}
use Rattle.ast_core.specs.declared.expr.Operand.{out-Operand}
use Rattle.ast_core.specs.declared.expr.Pair.{out-Pair}
use Rattle.ast_core.specs.ExprView.{expr_view, exprs_view, parts_of, pairs_of}
use Rattle.ast_core.specs.NamesIn.{part_view, pair_view, step_view, operand_view, call_view}
use Rattle.value_core.specs.declared.raise.Raise.TheVariants.{NoAssign, NoVariable}
use Rattle.doc_model.specs.Environment.{lookup}
use Rattle.doc_model.specs.Evaluation.{or_raise, on_res, then_do, eval_expr, eval_exprs, eval_pairs, eval_parts, eval_binary}
use Rattle.expr_eval.specs.Chains.{chain, operand_on, step_on, call_on, right_on, back, waiting_view, prepend}
use Rattle.expr_eval.specs.declared.right_chain.Waiting.{Waiting}
use Rattle.expr_eval.specs.Gives.{Gives, text_as_is, truth_as_is}
use Rattle.expr_eval.specs.Held.{held_view, held_values}
use Rattle.expr_eval.specs.Operands.{decides}
use Rattle.expr_eval.specs.Scope.{env_of, seen, place_view}
use Rattle.expr_eval.proofs.Results.{gives_as, fault_then}
use Rattle.expr_eval.proofs.Keys.{pairs_into, pairs_from_none}
use Rattle.expr_eval.proofs.Forms.{assign_form, name_form, operand_form, pair_form}
use Rattle.expr_eval.proofs.Along.{along_path, along_left, along_right, along_pipes}
use Rattle.expr_eval.proofs.Chained.{chain_on, chain_stops, chain_begins, chain_ends, operand_met, operand_judged, right_decided, right_judged, right_stops, right_step, right_ends}
use Rattle.expr_eval.proofs.Listed.{exprs_on, exprs_stop, exprs_end, parts_begin, parts_on, parts_stop, parts_end, pairs_on, pairs_stop, pairs_end}
use Rattle.expr_eval.proofs.evaluate.+eval.Goals as goal

pub left_chain-returns-in_err-value : goal.left_chain-returns-in_err-value
left_chain-returns-in_err-value t c =
    let total = chain (operand_on (env_of c.args.scope)) (Ok (held_view c.args.first)) (map operand_view c.args.rest.now) in
    let h : Gives held_view (Err c.in_err-value.field-0.0) total
    = chain_stops held_view held_view (operand_on (env_of c.args.scope)) operand_view c.as_slice-operand-items.result.now c.rest.operand-index c.operand-item.result (held_view c.rest.value) c.in_err-value.field-0.0 total c.rest-test.true c.operand-item.is c.rest.invariant c.in_err-value.ensures in
    search (rules, h)

pub left_chain-rest-preserved : goal.left_chain-rest-preserved
left_chain-rest-preserved t c =
    chain_on (operand_on (env_of c.args.scope)) operand_view c.as_slice-operand-items.result.now c.rest.operand-index c.operand-item.result (held_view c.rest.value) (held_view c.in_ok-value.value) (chain (operand_on (env_of c.args.scope)) (Ok (held_view c.args.first)) (map operand_view c.args.rest.now)) c.rest-test.true c.operand-item.is c.rest.invariant c.in_ok-value.ensures

pub pipes-returns-in_err-value : goal.pipes-returns-in_err-value
pipes-returns-in_err-value t c =
    let total = chain (call_on (env_of c.args.scope)) (Ok (held_view c.args.first)) (map call_view c.args.calls.now) in
    let h : Gives held_view (Err c.in_err-value.field-0.0) total
    = chain_stops held_view held_view (call_on (env_of c.args.scope)) call_view c.as_slice-pipe-items.result.now c.calls.pipe-index c.pipe-item.result (held_view c.calls.value) c.in_err-value.field-0.0 total c.calls-test.true c.pipe-item.is c.calls.invariant c.in_err-value.ensures in
    search (rules, h)

pub pipes-calls-preserved : goal.pipes-calls-preserved
pipes-calls-preserved t c =
    chain_on (call_on (env_of c.args.scope)) call_view c.as_slice-pipe-items.result.now c.calls.pipe-index c.pipe-item.result (held_view c.calls.value) (held_view c.in_ok-value.value) (chain (call_on (env_of c.args.scope)) (Ok (held_view c.args.first)) (map call_view c.args.calls.now)) c.calls-test.true c.pipe-item.is c.calls.invariant c.in_ok-value.ensures

pub text_of-returns-in_err-more : goal.text_of-returns-in_err-more
text_of-returns-in_err-more t c =
    let total = eval_parts (env_of c.args.scope) (parts_of (map part_view c.args.parts.now)) in
    let h : Gives text_as_is (Err c.in_err-more.field-0.0) total
    = parts_stop text_as_is text_as_is (env_of c.args.scope) c.as_slice-part-items.result.now c.parts.part-index c.part-item.result c.parts.text c.in_err-more.field-0.0 total c.parts-test.true c.part-item.is c.parts.invariant c.in_err-more.ensures in
    search (rules, h)

pub text_of-parts-preserved : goal.text_of-parts-preserved
text_of-parts-preserved t c =
    let rest = eval_parts (env_of c.args.scope) (parts_of (map part_view (drop (c.parts.part-index + 1) c.as_slice-part-items.result.now))) in
    parts_on (env_of c.args.scope) c.as_slice-part-items.result.now c.parts.part-index c.part-item.result c.parts.text c.in_ok-more.more (eval_parts (env_of c.args.scope) (parts_of (map part_view c.args.parts.now))) c.parts-test.true c.part-item.is c.parts.invariant c.in_ok-more.ensures
    ∙ ap (λ s. on_res (λ r. s ++ r) rest) (ap (λ m. c.parts.text ++ m) (sym c.as_str.ensures) ∙ sym c.in_ok-push_str.ensures.ok)

pub text_of-returns : goal.text_of-returns
text_of-returns t c =
    let past : length c.as_slice-part-items.result.now ≤ c.parts.part-index = omega arith in
    parts_end (env_of c.args.scope) c.as_slice-part-items.result.now c.parts.part-index c.parts.text (eval_parts (env_of c.args.scope) (parts_of (map part_view c.args.parts.now))) past c.parts.invariant

pub entries_of-pairs-init : goal.entries_of-pairs-init
entries_of-pairs-init t c =
    pairs_from_none (env_of c.args.scope) (pairs_of (map pair_view c.args.pairs.now))
    ∙ ap (λ es. pairs_into (env_of c.args.scope) (assigns_view es) (pairs_of (map pair_view c.args.pairs.now))) (sym c.new-entries.ensures)
    ∙ ap (λ ps. pairs_into (env_of c.args.scope) (assigns_view c.new-entries.result) (pairs_of (map pair_view ps))) (sym c.as_slice-pair-items.ensures)

pub entries_of-returns-in_err-value : goal.entries_of-returns-in_err-value
entries_of-returns-in_err-value t c =
    let h : Gives assigns_view (Err c.in_err-value.field-0.0) (eval_pairs (env_of c.args.scope) (pairs_of (map pair_view c.args.pairs.now)))
    = pairs_stop view assigns_view (env_of c.args.scope) c.as_slice-pair-items.result.now c.pairs.pair-index c.pair-item.result (out-Pair c.pair-item.result).key (expr_view (out-Pair c.pair-item.result).value) c.pairs.entries c.in_err-value.field-0.0 (eval_pairs (env_of c.args.scope) (pairs_of (map pair_view c.args.pairs.now))) c.pairs-test.true c.pair-item.is (pair_form c.pair-item.result) c.pairs.invariant c.in_err-value.ensures in
    search (rules, h)

pub entries_of-pairs-preserved : goal.entries_of-pairs-preserved
entries_of-pairs-preserved t c =
    let rest = pairs_of (map pair_view (drop (c.pairs.pair-index + 1) c.as_slice-pair-items.result.now)) in
    pairs_on (env_of c.args.scope) c.as_slice-pair-items.result.now c.pairs.pair-index c.pair-item.result (out-Pair c.pair-item.result).key (expr_view (out-Pair c.pair-item.result).value) c.pairs.entries c.in_ok-value.value (eval_pairs (env_of c.args.scope) (pairs_of (map pair_view c.args.pairs.now))) c.pairs-test.true c.pair-item.is (pair_form c.pair-item.result) c.pairs.invariant c.in_ok-value.ensures
    ∙ ap (λ es. pairs_into (env_of c.args.scope) (assigns_view es) rest) (ap (λ k. with_key k c.in_ok-value.value c.pairs.entries) (sym c.in_ok-copy.ensures) ∙ sym c.in_ok-insert.ensures.ok)

pub entries_of-returns : goal.entries_of-returns
entries_of-returns t c =
    let past : length c.as_slice-pair-items.result.now ≤ c.pairs.pair-index = omega arith in
    pairs_end (env_of c.args.scope) c.as_slice-pair-items.result.now c.pairs.pair-index (assigns_view c.pairs.entries) (eval_pairs (env_of c.args.scope) (pairs_of (map pair_view c.args.pairs.now))) past c.pairs.invariant

pub operate-returns : goal.operate-returns
operate-returns t c =
    let o = c.args.operand.now in
    gives_as held_view c.binary.result (operand_on (env_of c.args.scope) (operand_view o) (held_view c.args.left)) (eval_binary (out-Operand o).op (held_view c.args.left) (held_view c.in_ok-right.right))
    (operand_met (env_of c.args.scope) o (out-Operand o).op (expr_view (out-Operand o).value) (operand_form o) (held_view c.args.left) (held_view c.in_ok-right.right) (ap (decides (out-Operand o).op) (sym c.value.ensures) ∙ c.in_ok-decides.ensures ∙ ap Ok c.if-branch.false) c.in_ok-right.ensures)
    c.binary.ensures

pub operate-returns-in_err-decides : goal.operate-returns-in_err-decides
operate-returns-in_err-decides t c =
    let o = c.args.operand.now in
    let op = (out-Operand o).op in
    let judged : Gives truth_as_is (Err c.in_err-decides.field-0.0) (decides op (held_view c.args.left))
    = gives_as truth_as_is (Err c.in_err-decides.field-0.0) (decides op (held_view c.args.left)) (decides op (view c.value.result.now)) (ap (decides op) (sym c.value.ensures)) c.in_err-decides.ensures in
    let h : Gives held_view (Err c.in_err-decides.field-0.0) (operand_on (env_of c.args.scope) (operand_view o) (held_view c.args.left))
    = operand_judged (env_of c.args.scope) o op (expr_view (out-Operand o).value) (operand_form o) (held_view c.args.left) truth_as_is held_view c.in_err-decides.field-0.0 judged in
    search (rules, h)

pub right_chain-rest-init : goal.right_chain-rest-init
right_chain-rest-init t c =
    ap (λ os. right_on (env_of c.args.scope) (held_view c.args.first) (map operand_view os)) (sym c.as_slice-operand-items.ensures)
    ∙ sym (ap (λ ws. back (map waiting_view ws) (right_on (env_of c.args.scope) (held_view c.args.first) (map operand_view c.as_slice-operand-items.result.now))) c.new-waiting.ensures)

pub right_chain-returns-in_err-decides : goal.right_chain-returns-in_err-decides
right_chain-returns-in_err-decides t c =
    let op = (out-Operand c.operand-item.result).op in
    let judged : Gives truth_as_is (Err c.in_err-decides.field-0.0) (decides op (held_view c.rest.last))
    = gives_as truth_as_is (Err c.in_err-decides.field-0.0) (decides op (held_view c.rest.last)) (decides op (view c.value.result.now)) (ap (decides op) (sym c.value.ensures)) c.in_err-decides.ensures in
    let h : Gives held_view (Err c.in_err-decides.field-0.0) (right_on (env_of c.args.scope) (held_view c.args.first) (map operand_view c.args.rest.now))
    = right_judged (env_of c.args.scope) c.as_slice-operand-items.result.now c.rest.operand-index c.operand-item.result (out-Operand c.operand-item.result).op (expr_view (out-Operand c.operand-item.result).value) (map waiting_view c.rest.waiting) (held_view c.rest.last) (right_on (env_of c.args.scope) (held_view c.args.first) (map operand_view c.args.rest.now)) c.rest-test.true c.operand-item.is (operand_form c.operand-item.result) c.rest.invariant truth_as_is held_view c.in_err-decides.field-0.0 judged in
    search (rules, h)

pub right_chain-returns-in_err-right : goal.right_chain-returns-in_err-right
right_chain-returns-in_err-right t c =
    let h : Gives held_view (Err c.in_err-right.field-0.0) (right_on (env_of c.args.scope) (held_view c.args.first) (map operand_view c.args.rest.now))
    = right_stops (env_of c.args.scope) c.as_slice-operand-items.result.now c.rest.operand-index c.operand-item.result (out-Operand c.operand-item.result).op (expr_view (out-Operand c.operand-item.result).value) (map waiting_view c.rest.waiting) (held_view c.rest.last) (right_on (env_of c.args.scope) (held_view c.args.first) (map operand_view c.args.rest.now)) c.rest-test.true c.operand-item.is (operand_form c.operand-item.result) c.rest.invariant held_view held_view c.in_err-right.field-0.0 (ap (decides (out-Operand c.operand-item.result).op) (sym c.value.ensures) ∙ c.in_ok-decides.ensures ∙ ap Ok c.if-branch.false) c.in_err-right.ensures in
    search (rules, h)

pub right_chain-returns-then-branch : goal.right_chain-returns-then-branch
right_chain-returns-then-branch t c =
    gives_as held_view c.take_back.result (right_on (env_of c.args.scope) (held_view c.args.first) (map operand_view c.args.rest.now)) (back (map waiting_view c.rest.waiting) (Ok (held_view c.rest.last)))
    (right_decided (env_of c.args.scope) c.as_slice-operand-items.result.now c.rest.operand-index c.operand-item.result (out-Operand c.operand-item.result).op (expr_view (out-Operand c.operand-item.result).value) (map waiting_view c.rest.waiting) (held_view c.rest.last) (right_on (env_of c.args.scope) (held_view c.args.first) (map operand_view c.args.rest.now)) c.rest-test.true c.operand-item.is (operand_form c.operand-item.result) c.rest.invariant (ap (decides (out-Operand c.operand-item.result).op) (sym c.value.ensures) ∙ c.in_ok-decides.ensures ∙ ap Ok c.if-branch.true))
    c.take_back.ensures

pub right_chain-rest-preserved : goal.right_chain-rest-preserved
right_chain-rest-preserved t c =
    let rest = right_on (env_of c.args.scope) (held_view c.in_ok-right.right) (map operand_view (drop (c.rest.operand-index + 1) c.as_slice-operand-items.result.now)) in
    let waits : Waiting = record { op = (out-Operand c.operand-item.result).op; left = c.rest.last } in
    right_step (env_of c.args.scope) c.as_slice-operand-items.result.now c.rest.operand-index c.operand-item.result (out-Operand c.operand-item.result).op (expr_view (out-Operand c.operand-item.result).value) (map waiting_view c.rest.waiting) (held_view c.rest.last) (right_on (env_of c.args.scope) (held_view c.args.first) (map operand_view c.args.rest.now)) c.rest-test.true c.operand-item.is (operand_form c.operand-item.result) c.rest.invariant (held_view c.in_ok-right.right) (ap (decides (out-Operand c.operand-item.result).op) (sym c.value.ensures) ∙ c.in_ok-decides.ensures ∙ ap Ok c.if-branch.false) c.in_ok-right.ensures
    ∙ sym (ap (λ l. back (map waiting_view l) rest) c.in_ok-push.ensures.ok ∙ ap (λ l. back l rest) (map-append waiting_view c.rest.waiting (waits ∷ [])))

pub right_chain-returns : goal.right_chain-returns
right_chain-returns t c =
    let past : length c.as_slice-operand-items.result.now ≤ c.rest.operand-index = omega arith in
    gives_as held_view c.take_back-2.result (right_on (env_of c.args.scope) (held_view c.args.first) (map operand_view c.args.rest.now)) (back (map waiting_view c.rest.waiting) (Ok (held_view c.rest.last)))
    (right_ends (env_of c.args.scope) c.as_slice-operand-items.result.now c.rest.operand-index (map waiting_view c.rest.waiting) (held_view c.rest.last) (right_on (env_of c.args.scope) (held_view c.args.first) (map operand_view c.args.rest.now)) past c.rest.invariant)
    c.take_back-2.ensures

pub text_of-parts-init : goal.text_of-parts-init
text_of-parts-init t c =
    parts_begin (eval_parts (env_of c.args.scope) (parts_of (map part_view c.args.parts.now))) c.new-text.result c.new-text.ensures
    ∙ ap (λ ps. on_res (λ s. c.new-text.result ++ s) (eval_parts (env_of c.args.scope) (parts_of (map part_view ps)))) (sym c.as_slice-part-items.ensures)

pub left_chain-returns : goal.left_chain-returns
left_chain-returns t c =
    let past : length c.as_slice-operand-items.result.now ≤ c.rest.operand-index = omega arith in
    chain_ends (operand_on (env_of c.args.scope)) operand_view c.as_slice-operand-items.result.now c.rest.operand-index (held_view c.rest.value) (chain (operand_on (env_of c.args.scope)) (Ok (held_view c.args.first)) (map operand_view c.args.rest.now)) past c.rest.invariant

pub pipes-returns : goal.pipes-returns
pipes-returns t c =
    let past : length c.as_slice-pipe-items.result.now ≤ c.calls.pipe-index = omega arith in
    chain_ends (call_on (env_of c.args.scope)) call_view c.as_slice-pipe-items.result.now c.calls.pipe-index (held_view c.calls.value) (chain (call_on (env_of c.args.scope)) (Ok (held_view c.args.first)) (map call_view c.args.calls.now)) past c.calls.invariant

pub held_of-returns-in-Assign : goal.held_of-returns-in-Assign
held_of-returns-in-Assign t c =
    let env = env_of c.args.scope in
    gives_as held_view c.found.result (eval_expr env (expr_view c.args.expr.now)) (or_raise (seen c.assign.result) NoAssign)
    (ap (λ e. eval_expr env (expr_view e)) c.in-Assign.is ∙ ap (eval_expr env) (assign_form c.in-Assign.name)
    ∙ ap (λ o. or_raise o NoAssign) (ap (λ k. lookup k env.assigns) (sym c.as_str.ensures) ∙ sym c.assign.ensures))
    c.found.ensures

pub held_of-returns-in-Name : goal.held_of-returns-in-Name
held_of-returns-in-Name t c =
    let env = env_of c.args.scope in
    gives_as held_view c.found-in-Name.result (eval_expr env (expr_view c.args.expr.now)) (or_raise (seen c.variable.result) NoVariable)
    (ap (λ e. eval_expr env (expr_view e)) c.in-Name.is ∙ ap (eval_expr env) (name_form c.in-Name.name)
    ∙ ap (λ o. or_raise o NoVariable) (ap (λ k. lookup k env.variables) (sym c.as_str-in-Name.ensures) ∙ sym c.variable.ensures))
    c.found-in-Name.ensures

pub walk-returns-in_err-at : goal.walk-returns-in_err-at
walk-returns-in_err-at t c =
    let total = chain (step_on (env_of c.args.scope)) (Ok (view c.args.from.now)) (map step_view c.args.steps.now) in
    let h : Gives place_view (Err c.in_err-at.field-0.0) total
    = chain_stops place_view place_view (step_on (env_of c.args.scope)) step_view c.as_slice-step-items.result.now c.steps.step-index c.step-item.result (place_view c.steps.at) c.in_err-at.field-0.0 total c.steps-test.true c.step-item.is c.steps.invariant c.in_err-at.ensures in
    search (rules, h)

pub walk-steps-preserved : goal.walk-steps-preserved
walk-steps-preserved t c =
    chain_on (step_on (env_of c.args.scope)) step_view c.as_slice-step-items.result.now c.steps.step-index c.step-item.result (place_view c.steps.at) (place_view c.in_ok-at.at) (chain (step_on (env_of c.args.scope)) (Ok (view c.args.from.now)) (map step_view c.args.steps.now)) c.steps-test.true c.step-item.is c.steps.invariant c.in_ok-at.ensures

pub held_of-returns-in_err-held_of-in-LeftChain : goal.held_of-returns-in_err-held_of-in-LeftChain
held_of-returns-in_err-held_of-in-LeftChain t c =
    let env = env_of c.args.scope in
    let first = eval_expr env (expr_view c.deref-in-LeftChain.result.now) in
    let rest = map operand_view c.in-LeftChain.rest in
    let fault = c.in_err-held_of-in-LeftChain.field-0.0 in
    let h : Gives held_view (Err fault) (eval_expr env (expr_view c.args.expr.now))
    = gives_as held_view (Err fault) (eval_expr env (expr_view c.args.expr.now)) (chain (operand_on env) first rest)
    (along_left env c.args.expr.now c.deref-in-LeftChain.result.now c.in-LeftChain.first c.in-LeftChain.rest c.in-LeftChain.is c.deref-in-LeftChain.ensures)
    (chain_begins held_view held_view (operand_on env) first rest fault c.in_err-held_of-in-LeftChain.ensures) in
    search (rules, h)

pub held_of-returns-in_ok-held_of-in-LeftChain : goal.held_of-returns-in_ok-held_of-in-LeftChain
held_of-returns-in_ok-held_of-in-LeftChain t c =
    let env = env_of c.args.scope in
    let rest = map operand_view c.in-LeftChain.rest in
    gives_as held_view c.left_chain.result (eval_expr env (expr_view c.args.expr.now)) (chain (operand_on env) (Ok (held_view c.in_ok-held_of-in-LeftChain.field-0)) rest)
    (along_left env c.args.expr.now c.deref-in-LeftChain.result.now c.in-LeftChain.first c.in-LeftChain.rest c.in-LeftChain.is c.deref-in-LeftChain.ensures
    ∙ ap (λ r. chain (operand_on env) r rest) c.in_ok-held_of-in-LeftChain.ensures)
    c.left_chain.ensures

pub held_of-returns-in_err-held_of-in-Pipes : goal.held_of-returns-in_err-held_of-in-Pipes
held_of-returns-in_err-held_of-in-Pipes t c =
    let env = env_of c.args.scope in
    let first = eval_expr env (expr_view c.deref-in-Pipes.result.now) in
    let rest = map call_view c.in-Pipes.calls in
    let fault = c.in_err-held_of-in-Pipes.field-0.0 in
    let h : Gives held_view (Err fault) (eval_expr env (expr_view c.args.expr.now))
    = gives_as held_view (Err fault) (eval_expr env (expr_view c.args.expr.now)) (chain (call_on env) first rest)
    (along_pipes env c.args.expr.now c.deref-in-Pipes.result.now c.in-Pipes.first c.in-Pipes.calls c.in-Pipes.is c.deref-in-Pipes.ensures)
    (chain_begins held_view held_view (call_on env) first rest fault c.in_err-held_of-in-Pipes.ensures) in
    search (rules, h)

pub held_of-returns-in_ok-held_of-in-Pipes : goal.held_of-returns-in_ok-held_of-in-Pipes
held_of-returns-in_ok-held_of-in-Pipes t c =
    let env = env_of c.args.scope in
    let rest = map call_view c.in-Pipes.calls in
    gives_as held_view c.pipes.result (eval_expr env (expr_view c.args.expr.now)) (chain (call_on env) (Ok (held_view c.in_ok-held_of-in-Pipes.field-0)) rest)
    (along_pipes env c.args.expr.now c.deref-in-Pipes.result.now c.in-Pipes.first c.in-Pipes.calls c.in-Pipes.is c.deref-in-Pipes.ensures
    ∙ ap (λ r. chain (call_on env) r rest) c.in_ok-held_of-in-Pipes.ensures)
    c.pipes.ensures

pub held_of-returns-in_err-held_of-in-RightChain : goal.held_of-returns-in_err-held_of-in-RightChain
held_of-returns-in_err-held_of-in-RightChain t c =
    let env = env_of c.args.scope in
    let first = eval_expr env (expr_view c.deref-in-RightChain.result.now) in
    let rest = map operand_view c.in-RightChain.rest in
    let fault = c.in_err-held_of-in-RightChain.field-0.0 in
    let h : Gives held_view (Err fault) (eval_expr env (expr_view c.args.expr.now))
    = gives_as held_view (Err fault) (eval_expr env (expr_view c.args.expr.now)) (then_do first (λ v. right_on env v rest))
    (along_right env c.args.expr.now c.deref-in-RightChain.result.now c.in-RightChain.first c.in-RightChain.rest c.in-RightChain.is c.deref-in-RightChain.ensures)
    (fault_then held_view held_view fault first (λ v. right_on env v rest) c.in_err-held_of-in-RightChain.ensures) in
    search (rules, h)

pub held_of-returns-in_ok-held_of-in-RightChain : goal.held_of-returns-in_ok-held_of-in-RightChain
held_of-returns-in_ok-held_of-in-RightChain t c =
    let env = env_of c.args.scope in
    let rest = map operand_view c.in-RightChain.rest in
    gives_as held_view c.right_chain.result (eval_expr env (expr_view c.args.expr.now)) (right_on env (held_view c.in_ok-held_of-in-RightChain.field-0) rest)
    (along_right env c.args.expr.now c.deref-in-RightChain.result.now c.in-RightChain.first c.in-RightChain.rest c.in-RightChain.is c.deref-in-RightChain.ensures
    ∙ ap (λ r. then_do r (λ v. right_on env v rest)) c.in_ok-held_of-in-RightChain.ensures)
    c.right_chain.ensures

pub values_of-returns-in_err-value : goal.values_of-returns-in_err-value
values_of-returns-in_err-value t c =
    let total = eval_exprs (env_of c.args.scope) (exprs_view c.args.exprs.now) in
    let h : Gives values_view (Err c.in_err-value.field-0.0) total
    = exprs_stop view view values_view (env_of c.args.scope) c.as_slice-expr-items.result.now c.exprs.expr-index c.expr-item.result c.exprs.values c.in_err-value.field-0.0 total c.exprs-test.true c.expr-item.is c.exprs.invariant c.in_err-value.ensures in
    search (rules, h)

pub values_of-exprs-preserved : goal.values_of-exprs-preserved
values_of-exprs-preserved t c =
    let rest = eval_exprs (env_of c.args.scope) (exprs_view (drop (c.exprs.expr-index + 1) c.as_slice-expr-items.result.now)) in
    exprs_on view (env_of c.args.scope) c.as_slice-expr-items.result.now c.exprs.expr-index c.expr-item.result c.exprs.values c.in_ok-value.value (eval_exprs (env_of c.args.scope) (exprs_view c.args.exprs.now)) c.exprs-test.true c.expr-item.is c.exprs.invariant c.in_ok-value.ensures
    ∙ ap (λ vs. prepend (map view vs) rest) (sym c.in_ok-push.ensures.ok)

pub values_of-returns : goal.values_of-returns
values_of-returns t c =
    let past : length c.as_slice-expr-items.result.now ≤ c.exprs.expr-index = omega arith in
    exprs_end view (env_of c.args.scope) c.as_slice-expr-items.result.now c.exprs.expr-index c.exprs.values (eval_exprs (env_of c.args.scope) (exprs_view c.args.exprs.now)) past c.exprs.invariant

pub arguments_on-returns-in_err-argument : goal.arguments_on-returns-in_err-argument
arguments_on-returns-in_err-argument t c =
    let total = prepend (map held_view c.args.given) (eval_exprs (env_of c.args.scope) (exprs_view c.args.exprs.now)) in
    let h : Gives held_values (Err c.in_err-argument.field-0.0) total
    = exprs_stop held_view held_view held_values (env_of c.args.scope) c.as_slice-expr-items.result.now c.exprs.expr-index c.expr-item.result c.exprs.arguments c.in_err-argument.field-0.0 total c.exprs-test.true c.expr-item.is c.exprs.invariant c.in_err-argument.ensures in
    search (rules, h)

pub arguments_on-exprs-preserved : goal.arguments_on-exprs-preserved
arguments_on-exprs-preserved t c =
    let rest = eval_exprs (env_of c.args.scope) (exprs_view (drop (c.exprs.expr-index + 1) c.as_slice-expr-items.result.now)) in
    exprs_on held_view (env_of c.args.scope) c.as_slice-expr-items.result.now c.exprs.expr-index c.expr-item.result c.exprs.arguments c.in_ok-argument.argument (prepend (map held_view c.args.given) (eval_exprs (env_of c.args.scope) (exprs_view c.args.exprs.now))) c.exprs-test.true c.expr-item.is c.exprs.invariant c.in_ok-argument.ensures
    ∙ ap (λ hs. prepend (map held_view hs) rest) (sym c.in_ok-push.ensures.ok)

pub arguments_on-returns : goal.arguments_on-returns
arguments_on-returns t c =
    let past : length c.as_slice-expr-items.result.now ≤ c.exprs.expr-index = omega arith in
    exprs_end held_view (env_of c.args.scope) c.as_slice-expr-items.result.now c.exprs.expr-index c.exprs.arguments (prepend (map held_view c.args.given) (eval_exprs (env_of c.args.scope) (exprs_view c.args.exprs.now))) past c.exprs.invariant

pub walk-returns : goal.walk-returns
walk-returns t c =
    let past : length c.as_slice-step-items.result.now ≤ c.steps.step-index = omega arith in
    let total = chain (step_on (env_of c.args.scope)) (Ok (view c.args.from.now)) (map step_view c.args.steps.now) in
    chain_ends (step_on (env_of c.args.scope)) step_view c.as_slice-step-items.result.now c.steps.step-index (place_view c.steps.at) total past c.steps.invariant

pub held_of-returns-in_err-held_of-in-Path : goal.held_of-returns-in_err-held_of-in-Path
held_of-returns-in_err-held_of-in-Path t c =
    let env = env_of c.args.scope in
    let from = eval_expr env (expr_view c.deref.result.now) in
    let steps = map step_view c.in-Path.steps in
    let fault = c.in_err-held_of-in-Path.field-0.0 in
    let h : Gives held_view (Err fault) (eval_expr env (expr_view c.args.expr.now))
    = gives_as held_view (Err fault) (eval_expr env (expr_view c.args.expr.now)) (chain (step_on env) from steps)
    (along_path env c.args.expr.now c.deref.result.now c.in-Path.value c.in-Path.steps c.in-Path.is c.deref.ensures)
    (chain_begins held_view held_view (step_on env) from steps fault c.in_err-held_of-in-Path.ensures) in
    search (rules, h)

pub held_of-returns-in_ok-held_of-in-Path : goal.held_of-returns-in_ok-held_of-in-Path
held_of-returns-in_ok-held_of-in-Path t c =
    let env = env_of c.args.scope in
    let steps = map step_view c.in-Path.steps in
    gives_as held_view c.path.result (eval_expr env (expr_view c.args.expr.now)) (chain (step_on env) (Ok (held_view c.in_ok-held_of-in-Path.field-0)) steps)
    (along_path env c.args.expr.now c.deref.result.now c.in-Path.value c.in-Path.steps c.in-Path.is c.deref.ensures
    ∙ ap (λ r. chain (step_on env) r steps) c.in_ok-held_of-in-Path.ensures)
    c.path.ensures
