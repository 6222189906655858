use Rattle.std.proofs.Common.{◌-◌, length}
use Rattle.heex_token.specs.Lexing.{Going}
use Rattle.heex_token.proofs.lexer.tokens.Given as goal

abbrev pub invariant-more : goal.invariant-more
invariant-more l = Going l.text l.lexer

abbrev pub decreases-more : goal.decreases-more
decreases-more l = length l.text - l.lexer.at
