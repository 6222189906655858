use Rattle.doc_model.proofs.Leans.{session_goes_on}
use Rattle.doc_model.proofs.laws.session_goes_on.Goals as goal

pub returns : goal.returns
returns c = session_goes_on
