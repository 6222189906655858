use Rattle.std.proofs.Common.{◌++◌, sym, ap, ◌∙◌}
use Rattle.ast_core.specs.NamesIn.{all_names, expr_reads, part_reads, pair_reads, step_reads, operand_reads, call_reads}
use Rattle.ast_core.specs.Walk.{met}
use Rattle.ast_core.specs.declared.expr.Expr.TheVariants as form
use Rattle.ast_core.proofs.Walks.{met_next, met_as, met_both, met_then}
use Rattle.ast_core.proofs.ExprReads.{reads_text, reads_map, reads_path, reads_if, reads_if_only, reads_call, reads_pipes, reads_items, reads_chain, reads_pair, reads_operand, reads_pipe_call}
use Rattle.ast_core.proofs.walk.Walk.+expr.Goals as goal

pub read_expr-returns-in-Text : goal.read_expr-returns-in-Text
read_expr-returns-in-Text t c = met_as _ _ _ _ _ (ap expr_reads c.in-Text.is ∙ reads_text _) c.read_parts.ensures

pub read_expr-returns-in-Map : goal.read_expr-returns-in-Map
read_expr-returns-in-Map t c = met_as _ _ _ _ _ (ap expr_reads c.in-Map.is ∙ reads_map _) c.read_pairs.ensures

pub read_expr-returns-in-List : goal.read_expr-returns-in-List
read_expr-returns-in-List t c = met_as _ _ _ _ _ (reads_items _ _ c.in-List.is) c.read_exprs-in-List.ensures

pub read_expr-returns-in-Call : goal.read_expr-returns-in-Call
read_expr-returns-in-Call t c = met_as _ _ _ _ _ (ap expr_reads c.in-Call.is ∙ reads_call _ _) c.read_exprs.ensures

pub read_expr-returns-in_ok-read_expr-in-Path : goal.read_expr-returns-in_ok-read_expr-in-Path
read_expr-returns-in_ok-read_expr-in-Path t c =
    met_then _ (expr_reads c.in-Path.value.value) (all_names step_reads c.in-Path.steps) _ c.args.self.now c.read_expr.new.self c.read_steps.new.self
    (ap expr_reads c.in-Path.is ∙ reads_path _ _)
    (c.in_ok-read_expr-in-Path.ensures ∙ ap (λ e. met (expr_reads e) c.args.self.now) c.deref.ensures)
    c.read_steps.ensures

pub read_expr-returns-in_ok-read_expr-in-Pipes : goal.read_expr-returns-in_ok-read_expr-in-Pipes
read_expr-returns-in_ok-read_expr-in-Pipes t c =
    met_then _ (expr_reads c.in-Pipes.first.value) (all_names call_reads c.in-Pipes.calls) _ c.args.self.now c.read_expr-in-Pipes.new.self c.read_calls.new.self
    (ap expr_reads c.in-Pipes.is ∙ reads_pipes _ _)
    (c.in_ok-read_expr-in-Pipes.ensures ∙ ap (λ e. met (expr_reads e) c.args.self.now) c.deref-in-Pipes.ensures)
    c.read_calls.ensures

pub read_expr-returns-in_ok-read_expr-in-LeftChain : goal.read_expr-returns-in_ok-read_expr-in-LeftChain
read_expr-returns-in_ok-read_expr-in-LeftChain t c =
    met_then _ (expr_reads c.in-LeftChain.first.value) (all_names operand_reads c.in-LeftChain.rest) _ c.args.self.now c.read_expr-in-LeftChain.new.self c.read_operands.new.self
    (reads_chain _ _ _ c.in-LeftChain.is)
    (c.in_ok-read_expr-in-LeftChain.ensures ∙ ap (λ e. met (expr_reads e) c.args.self.now) c.deref-in-LeftChain.ensures)
    c.read_operands.ensures

pub read_expr-returns-in-Some : goal.read_expr-returns-in-Some
read_expr-returns-in-Some t c =
    met_then _ (expr_reads c.in-If.test.value ++ expr_reads c.in-If.yes.value) (expr_reads c.in-Some.no.value) _ c.args.self.now c.read_expr-in-If-2.new.self c.read_expr-in-Some.new.self
    (ap expr_reads (c.in-If.is ∙ ap (form.If c.in-If.test c.in-If.yes) c.in-Some.is) ∙ reads_if _ _ _)
    (met_both (expr_reads c.in-If.test.value) (expr_reads c.in-If.yes.value) c.args.self.now c.read_expr-in-If.new.self c.read_expr-in-If-2.new.self
    (c.in_ok-read_expr-in-If.ensures ∙ ap (λ e. met (expr_reads e) c.args.self.now) c.deref-in-If.ensures)
    (c.in_ok-read_expr-in-If-2.ensures ∙ ap (λ e. met (expr_reads e) c.read_expr-in-If.new.self) c.deref-in-If-2.ensures))
    (met_as _ _ _ c.read_expr-in-If-2.new.self c.read_expr-in-Some.new.self (ap expr_reads (sym c.deref-in-Some.ensures)) c.read_expr-in-Some.ensures)

pub read_expr-returns-in-None : goal.read_expr-returns-in-None
read_expr-returns-in-None t c =
    met_both (expr_reads c.in-If.test.value) (expr_reads c.in-If.yes.value) c.args.self.now c.read_expr-in-If.new.self c.read_expr-in-If-2.new.self
    (c.in_ok-read_expr-in-If.ensures ∙ ap (λ e. met (expr_reads e) c.args.self.now) c.deref-in-If.ensures)
    (c.in_ok-read_expr-in-If-2.ensures ∙ ap (λ e. met (expr_reads e) c.read_expr-in-If.new.self) c.deref-in-If-2.ensures)
    ∙ ap (λ ns. met ns c.args.self.now) (sym (ap expr_reads (c.in-If.is ∙ ap (form.If c.in-If.test c.in-If.yes) c.in-None.is) ∙ reads_if_only _ _))

pub read_exprs-exprs-preserved : goal.read_exprs-exprs-preserved
read_exprs-exprs-preserved t c =
    met_next expr_reads c.as_slice-expr-items.result.now c.exprs.expr-index c.expr-item.result c.exprs.self c.read_expr.new.self _ c.exprs-test.true c.expr-item.is c.in_ok-read_expr.ensures c.exprs.invariant

pub read_parts-parts-preserved : goal.read_parts-parts-preserved
read_parts-parts-preserved t c =
    met_next part_reads c.as_slice-part-items.result.now c.parts.part-index c.part-item.result c.parts.self c.read_part.new.self _ c.parts-test.true c.part-item.is c.in_ok-read_part.ensures c.parts.invariant

pub read_pairs-pairs-preserved : goal.read_pairs-pairs-preserved
read_pairs-pairs-preserved t c =
    met_next pair_reads c.as_slice-pair-items.result.now c.pairs.pair-index c.pair-item.result c.pairs.self c.read_expr.new.self _ c.pairs-test.true c.pair-item.is (c.in_ok-read_expr.ensures ∙ ap (λ ns. met ns c.pairs.self) (sym (reads_pair c.pair-item.result))) c.pairs.invariant

pub read_steps-steps-preserved : goal.read_steps-steps-preserved
read_steps-steps-preserved t c =
    met_next step_reads c.as_slice-step-items.result.now c.steps.step-index c.step-item.result c.steps.self c.read_step.new.self _ c.steps-test.true c.step-item.is c.in_ok-read_step.ensures c.steps.invariant

pub read_operands-operands-preserved : goal.read_operands-operands-preserved
read_operands-operands-preserved t c =
    met_next operand_reads c.as_slice-operand-items.result.now c.operands.operand-index c.operand-item.result c.operands.self c.read_expr.new.self _ c.operands-test.true c.operand-item.is (c.in_ok-read_expr.ensures ∙ ap (λ ns. met ns c.operands.self) (sym (reads_operand c.operand-item.result))) c.operands.invariant

pub read_calls-calls-preserved : goal.read_calls-calls-preserved
read_calls-calls-preserved t c =
    met_next call_reads c.as_slice-call-items.result.now c.calls.call-index c.call-item.result c.calls.self c.read_exprs.new.self _ c.calls-test.true c.call-item.is (c.in_ok-read_exprs.ensures ∙ ap (λ ns. met ns c.calls.self) (sym (reads_pipe_call c.call-item.result))) c.calls.invariant
