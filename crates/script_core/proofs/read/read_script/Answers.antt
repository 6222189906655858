use Rattle.script_core.proofs.Laws.{read_spelled, bad_line}
use Rattle.script_core.proofs.read.read_script.Goals as goal

pub returns-clause-read : goal.returns-clause-read
returns-clause-read c = read_spelled c.args.text.now c.read_text.result c.read_text.ensures.read

pub returns-clause-bad_line : goal.returns-clause-bad_line
returns-clause-bad_line c = λ n e. bad_line c.args.text.now n (c.read_text.ensures.bad_line n e)
