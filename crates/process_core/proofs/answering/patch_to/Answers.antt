use Rattle.wire_v2.specs.Message as model
use Rattle.wire_v2.specs.View.{head_view}
use Rattle.process_core.proofs.Acted.{for_url}
use Rattle.process_core.proofs.answering.patch_to.Goals as goal

pub returns-clause-ok : goal.returns-clause-ok
returns-clause-ok g c =
    for_url g.V.Views.meaning c.args.app.now c.args.process.now c.patch.new.process c.args.free (model.patch (head_view c.args.head)) c.as_str.result.now c.args.url c.patch.result c.as_str.ensures c.patch.ensures.ok
