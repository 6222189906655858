use Rattle.doc_model.proofs.Settles.{settled_shows}
use Rattle.doc_model.proofs.laws.settled_shows.Goals as goal

pub returns : goal.returns
returns c = settled_shows
