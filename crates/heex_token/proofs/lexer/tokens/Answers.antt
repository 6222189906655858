use Rattle.std.proofs.Common.{length, subst, sym, arith}
use Rattle.heex_token.specs.Answers.{Answered, Spans, Apart}
use Rattle.heex_token.proofs.Cutting.{answer_cuts, answer_inner}
use Rattle.heex_token.proofs.Passing.{all_read, of_all}
use Rattle.heex_token.proofs.Slicing.{answer_slices}
use Rattle.heex_token.proofs.lexer.tokens.Goals as goal

pub returns-clause-answer : goal.returns-clause-answer
returns-clause-answer c = subst (Answered c.ended.result) (sym (all_read c.args.text.now c.more.lexer c.more.invariant c.more-test.false)) c.ended.ensures

pub returns-clause-spans : goal.returns-clause-spans
returns-clause-spans c = of_all (Spans 0 (length c.args.text.now)) c.ended.result c.more.lexer.region.inside c.more.lexer.list c.ended.ensures (subst (λ n. Spans 0 n c.more.lexer.list) (omega arith) c.more.invariant.spans)

pub returns-clause-apart : goal.returns-clause-apart
returns-clause-apart c = of_all Apart c.ended.result c.more.lexer.region.inside c.more.lexer.list c.ended.ensures c.more.invariant.apart

pub returns-clause-slices : goal.returns-clause-slices
returns-clause-slices c = answer_slices c.args.text.now c.ended.result (returns-clause-answer c)

pub returns-clause-cuts : goal.returns-clause-cuts
returns-clause-cuts c = answer_cuts c.args.text.now c.ended.result c.utf8.text (returns-clause-answer c) (returns-clause-spans c) (returns-clause-apart c)

pub returns-clause-inner : goal.returns-clause-inner
returns-clause-inner c = answer_inner c.args.text.now c.ended.result c.utf8.text (returns-clause-answer c) (returns-clause-spans c) (returns-clause-apart c)
