use Rattle.std.proofs.Common.{reverse, ap, ◌∙◌}
use Rattle.expr_token.specs.Lexing.{innermost}
use Rattle.expr_token.proofs.Passing.{started, all_read, all_left}
use Rattle.expr_token.proofs.lexer.lex.Goals as goal

pub more-init : goal.more-init
more-init c = started c.args.text.now c.new.result c.new-2.result c.new.ensures c.new-2.ensures

pub more-preserved : goal.more-preserved
more-preserved c = c.in_ok-step.ensures.going c.more.invariant

pub returns-clause-tokens : goal.returns-clause-tokens
returns-clause-tokens c = all_read c.args.text.now c.more.lexer c.more.invariant c.more-test.false

pub returns-clause-open : goal.returns-clause-open
returns-clause-open c = c.innermost-unclosed.ensures ∙ ap (λ os. innermost (reverse os)) c.as_slice.ensures ∙ ap innermost (all_left c.args.text.now c.more.lexer c.more.invariant c.more-test.false)
