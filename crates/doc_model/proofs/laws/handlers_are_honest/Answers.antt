use Rattle.doc_model.proofs.Handlers.{honest}
use Rattle.doc_model.proofs.laws.handlers_are_honest.Goals as goal

pub returns : goal.returns
returns c = honest
