use Rattle.std.proofs.Common.{◌≡◌, drop}
use Rattle.ast_core.specs.NamesIn.{all_names, expr_reads, part_reads, pair_reads, step_reads, operand_reads, call_reads}
use Rattle.ast_core.specs.Walk.{met}
use Rattle.ast_core.proofs.walk.Walk.+expr.Given as goal

abbrev pub invariant-read_calls-calls : goal.invariant-read_calls-calls
invariant-read_calls-calls l = met (all_names call_reads (drop l.call-index l.call-items)) l.self ≡ met (all_names call_reads l.call-items) l.initial.self

abbrev pub invariant-read_exprs-exprs : goal.invariant-read_exprs-exprs
invariant-read_exprs-exprs l = met (all_names expr_reads (drop l.expr-index l.expr-items)) l.self ≡ met (all_names expr_reads l.expr-items) l.initial.self

abbrev pub invariant-read_operands-operands : goal.invariant-read_operands-operands
invariant-read_operands-operands l = met (all_names operand_reads (drop l.operand-index l.operand-items)) l.self ≡ met (all_names operand_reads l.operand-items) l.initial.self

abbrev pub invariant-read_pairs-pairs : goal.invariant-read_pairs-pairs
invariant-read_pairs-pairs l = met (all_names pair_reads (drop l.pair-index l.pair-items)) l.self ≡ met (all_names pair_reads l.pair-items) l.initial.self

abbrev pub invariant-read_parts-parts : goal.invariant-read_parts-parts
invariant-read_parts-parts l = met (all_names part_reads (drop l.part-index l.part-items)) l.self ≡ met (all_names part_reads l.part-items) l.initial.self

abbrev pub invariant-read_steps-steps : goal.invariant-read_steps-steps
invariant-read_steps-steps l = met (all_names step_reads (drop l.step-index l.step-items)) l.self ≡ met (all_names step_reads l.step-items) l.initial.self
