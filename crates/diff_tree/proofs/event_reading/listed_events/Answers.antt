use Rattle.std.proofs.Common.{◌∙◌, sym, ap, Some}
use Rattle.serde_json.specs.View.{view, items_view}
use Rattle.diff_tree.proofs.Shapes.{listed}
use Rattle.diff_tree.proofs.event_reading.listed_events.Goals as goal

pub returns-clause-ok : goal.returns-clause-ok
returns-clause-ok c =
    let read = c.in_ok-events.ensures.ok in
    let js = c.as_slice-items.result.now in
    listed (view c.args.value.now) js c.in_ok-events.events (ap (λ l. Some (items_view l)) c.as_slice-items.ensures.value ∙ c.in-Some.ensures)
    (sym c.is_empty.ensures ∙ c.if-is_empty.false) read.0 read.1
