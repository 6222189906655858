use Rattle.heex_reader.proofs.Readings.{templates_are_spelled}
use Rattle.heex_reader.proofs.laws.templates_are_spelled.Goals as goal

pub returns : goal.returns
returns c = templates_are_spelled
