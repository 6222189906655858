use Rattle.script_core.proofs.Laws.{reads_as_spelled, names_bad_line}
use Rattle.script_core.proofs.read.script_law.Goals as goal

pub returns-clause-script : goal.returns-clause-script
returns-clause-script c = reads_as_spelled

pub returns-clause-bad_line : goal.returns-clause-bad_line
returns-clause-bad_line c = names_bad_line
