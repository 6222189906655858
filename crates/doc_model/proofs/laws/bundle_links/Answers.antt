use Rattle.doc_model.proofs.Leans.{bundle_links}
use Rattle.doc_model.proofs.laws.bundle_links.Goals as goal

pub returns : goal.returns
returns c = bundle_links
