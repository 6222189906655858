use Rattle.heex_reader.proofs.FaultPlaces.{pattern_within}
use Rattle.heex_reader.proofs.piece.read_pattern_within.Goals as goal

pub returns-clause-within : goal.returns-clause-within
returns-clause-within c = pattern_within c.args.text.now c.read_pattern.result c.read_pattern.ensures.refused
