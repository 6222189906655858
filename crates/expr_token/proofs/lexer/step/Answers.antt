use Rattle.expr_token.proofs.Passing.{stepped}
use Rattle.expr_token.proofs.lexer.step.Goals as goal

pub returns : goal.returns
returns c = stepped c.args.text.now c.args.lexer.now c.pass.new.lexer c.in_ok-cut.cut c.requires c.in_ok-cut.ensures c.in_ok-pass.ensures.list c.in_ok-pass.ensures.openings c.in_ok-pass.ensures.near c.in_ok-pass.ensures.at
