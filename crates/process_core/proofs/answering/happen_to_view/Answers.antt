use Rattle.wire_v2.specs.View.{event_value_view, head_view}
use Rattle.value_core.specs.View.{view}
use Rattle.process_core.proofs.Acted.{for_value}
use Rattle.process_core.proofs.answering.happen_to_view.Goals as goal

pub returns-clause-ok : goal.returns-clause-ok
returns-clause-ok g c =
    for_value g.V.Views.meaning c.args.app.now c.args.process.now c.event.new.process c.args.free (head_view c.args.head.now) c.args.name.now (event_value_view c.args.value) (view c.in_ok-value.value) c.event.result c.in_ok-value.ensures c.event.ensures.ok
