use Rattle.std.proofs.lemmas.Str.{IsCharBoundary-after_ascii}
use Rattle.expr_token.proofs.sign.piece_behind.Goals as goal

pub piece-requires : goal.piece-requires
piece-requires c = IsCharBoundary-after_ascii c.args.text.now c.args.at c.utf8.text c.requires.within c.requires.ascii
