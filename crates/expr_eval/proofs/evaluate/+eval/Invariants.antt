use Rattle.std.proofs.Common.{◌≡◌, ◌++◌, drop, map, Ok}
use Rattle.value_core.specs.View.{view, assigns_view}
use Rattle.ast_core.specs.ExprView.{exprs_view, parts_of, pairs_of}
use Rattle.ast_core.specs.NamesIn.{part_view, pair_view, step_view, operand_view, call_view}
use Rattle.doc_model.specs.Evaluation.{on_res, eval_exprs, eval_pairs, eval_parts}
use Rattle.expr_eval.specs.Chains.{chain, operand_on, step_on, call_on, right_on, back, waiting_view, prepend}
use Rattle.expr_eval.specs.Held.{held_view}
use Rattle.expr_eval.specs.Scope.{env_of, place_view}
use Rattle.expr_eval.proofs.Keys.{pairs_into}
use Rattle.expr_eval.proofs.evaluate.+eval.Given as goal

-- what was evaluated so far, and then what the rest gives, is the whole
abbrev pub invariant-values_of-exprs : goal.invariant-values_of-exprs
invariant-values_of-exprs l =
    eval_exprs (env_of l.scope) (exprs_view l.exprs)
    ≡ prepend (map view l.values) (eval_exprs (env_of l.scope) (exprs_view (drop l.expr-index l.expr-items)))

abbrev pub invariant-arguments_on-exprs : goal.invariant-arguments_on-exprs
invariant-arguments_on-exprs l =
    prepend (map held_view l.initial.arguments) (eval_exprs (env_of l.scope) (exprs_view l.exprs))
    ≡ prepend (map held_view l.arguments) (eval_exprs (env_of l.scope) (exprs_view (drop l.expr-index l.expr-items)))

abbrev pub invariant-entries_of-pairs : goal.invariant-entries_of-pairs
invariant-entries_of-pairs l =
    eval_pairs (env_of l.scope) (pairs_of (map pair_view l.pairs))
    ≡ pairs_into (env_of l.scope) (assigns_view l.entries) (pairs_of (map pair_view (drop l.pair-index l.pair-items)))

abbrev pub invariant-text_of-parts : goal.invariant-text_of-parts
invariant-text_of-parts l =
    eval_parts (env_of l.scope) (parts_of (map part_view l.parts))
    ≡ on_res (λ s. l.text ++ s) (eval_parts (env_of l.scope) (parts_of (map part_view (drop l.part-index l.part-items))))

abbrev pub invariant-walk-steps : goal.invariant-walk-steps
invariant-walk-steps l =
    chain (step_on (env_of l.scope)) (Ok (view l.fn.from)) (map step_view l.steps)
    ≡ chain (step_on (env_of l.scope)) (Ok (place_view l.at)) (map step_view (drop l.step-index l.step-items))

abbrev pub invariant-left_chain-rest : goal.invariant-left_chain-rest
invariant-left_chain-rest l =
    chain (operand_on (env_of l.scope)) (Ok (held_view l.initial.value)) (map operand_view l.rest)
    ≡ chain (operand_on (env_of l.scope)) (Ok (held_view l.value)) (map operand_view (drop l.operand-index l.operand-items))

abbrev pub invariant-pipes-calls : goal.invariant-pipes-calls
invariant-pipes-calls l =
    chain (call_on (env_of l.scope)) (Ok (held_view l.initial.value)) (map call_view l.calls)
    ≡ chain (call_on (env_of l.scope)) (Ok (held_view l.value)) (map call_view (drop l.pipe-index l.pipe-items))

-- the values that wait take what stands to their right
abbrev pub invariant-right_chain-rest : goal.invariant-right_chain-rest
invariant-right_chain-rest l =
    right_on (env_of l.scope) (held_view l.initial.last) (map operand_view l.rest)
    ≡ back (map waiting_view l.waiting) (right_on (env_of l.scope) (held_view l.last) (map operand_view (drop l.operand-index l.operand-items)))
