use Rattle.std.proofs.Common.{map, refl}
use Rattle.diff_tree.specs.Parts.{pushed_of}
use Rattle.doc_model.specs.Process.{diff_body}
use Rattle.process_core.proofs.diffs.replied.Goals as goal

pub returns : goal.returns
returns c = ((λ d plain is. c.in_ok-frames.ensures (diff_body d (map pushed_of c.args.rest.pushed)) (c.reply_body-body.ensures d plain is)), refl, refl, refl)
