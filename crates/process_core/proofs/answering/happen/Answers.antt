use Rattle.std.proofs.Common.{Some, None}
use Rattle.wire_v2.specs.View.{event_value_view, head_view}
use Rattle.process_core.proofs.Acted.{for_absent, for_component}
use Rattle.process_core.proofs.answering.happen.Goals as goal

pub returns-in-Some-clause-ok : goal.returns-in-Some-clause-ok
returns-in-Some-clause-ok g c =
    let meaning = g.V.Views.meaning in
    let app = c.args.app.now in
    let before = c.args.process.now in
    let head = head_view c.args.head in
    let value = event_value_view c.args.value in
    for_component meaning app before before c.args.free head c.args.name value c.args.component (Some c.in-Some.field-0) c.absent_component.result c.in-Some.is
    (for_absent meaning app before before c.args.free head c.args.name value c.in-Some.field-0 c.absent_component.result c.absent_component.ensures)

pub returns-clause-ok : goal.returns-clause-ok
returns-clause-ok g c =
    for_component g.V.Views.meaning c.args.app.now c.args.process.now c.happen_to_view.new.process c.args.free (head_view c.args.head) c.args.name (event_value_view c.args.value) c.args.component None c.happen_to_view.result c.in-None.is
    c.happen_to_view.ensures.ok
