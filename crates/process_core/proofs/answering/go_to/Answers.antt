use Rattle.wire_v2.specs.Message as model
use Rattle.wire_v2.specs.View.{head_view}
use Rattle.process_core.proofs.Acted.{for_url}
use Rattle.process_core.proofs.answering.go_to.Goals as goal

pub returns-clause-ok : goal.returns-clause-ok
returns-clause-ok g c =
    for_url g.V.Views.meaning c.args.app.now c.args.process.now c.join.new.process c.args.free (model.join (head_view c.args.head)) c.as_str.result.now c.args.url c.join.result c.as_str.ensures c.join.ensures.ok
