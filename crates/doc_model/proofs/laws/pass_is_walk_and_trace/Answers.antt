use Rattle.doc_model.proofs.AtProcess.{walk_of_process}
use Rattle.doc_model.proofs.laws.pass_is_walk_and_trace.Goals as goal

pub returns : goal.returns
returns c = walk_of_process
