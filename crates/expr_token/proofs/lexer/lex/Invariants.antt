use Rattle.std.proofs.Common.{◌-◌, length}
use Rattle.expr_token.specs.Lexing.{Going}
use Rattle.expr_token.proofs.lexer.lex.Given as goal

abbrev pub invariant-more : goal.invariant-more
invariant-more l = Going l.text l.lexer

abbrev pub decreases-more : goal.decreases-more
decreases-more l = length l.text - l.lexer.at
