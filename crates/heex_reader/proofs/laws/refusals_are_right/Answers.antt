use Rattle.heex_reader.proofs.Readings.{refusals_are_right}
use Rattle.heex_reader.proofs.laws.refusals_are_right.Goals as goal

pub returns : goal.returns
returns c = refusals_are_right
