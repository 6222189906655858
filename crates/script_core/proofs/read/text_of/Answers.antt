use Rattle.script_core.proofs.Lines.{text_yes, text_no}
use Rattle.script_core.proofs.read.text_of.Goals as goal

pub returns-in-Ok : goal.returns-in-Ok
returns-in-Ok c = text_yes c.args.bytes.now c.in-Ok.text.now c.in-Ok.ensures.cases.0 c.in-Ok.ensures.cases.1

pub returns-in-Err : goal.returns-in-Err
returns-in-Err c = text_no c.args.bytes.now c.in-Err.ensures.cases.0
