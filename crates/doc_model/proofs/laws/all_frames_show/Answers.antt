use Rattle.doc_model.proofs.Journals.{all_frames_show}
use Rattle.doc_model.proofs.laws.all_frames_show.Goals as goal

pub returns : goal.returns
returns c = all_frames_show
