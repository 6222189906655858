use Rattle.heex_reader.proofs.FaultPlaces.{expr_within}
use Rattle.heex_reader.proofs.piece.read_expr_within.Goals as goal

pub returns-clause-within : goal.returns-clause-within
returns-clause-within c = expr_within c.args.text.now c.read_expr.result c.read_expr.ensures.refused
