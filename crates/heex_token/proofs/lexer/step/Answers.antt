use Rattle.heex_token.proofs.Passing.{stepped}
use Rattle.heex_token.proofs.lexer.step.Goals as goal

pub returns-in_ok-pass-in-Piece-clause-going : goal.returns-in_ok-pass-in-Piece-clause-going
returns-in_ok-pass-in-Piece-clause-going c = stepped c.args.text.now c.args.lexer.now c.pass.new.lexer c.in_ok-form.field-0 c.in-Piece.form c.in-Piece.size c.in-Piece.inside c.requires.within c.in-Piece.is c.in_ok-form.ensures.value c.in_ok-form.ensures.within
    c.in_ok-pass-in-Piece.ensures.list c.in_ok-pass-in-Piece.ensures.region c.in_ok-pass-in-Piece.ensures.at c.requires.going
