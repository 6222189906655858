use Rattle.std.proofs.Common.{◌∙◌, ap, Some}
use Rattle.serde_json.specs.View.{view, items_view}
use Rattle.wire_v2.proofs.Shapes.{list_is_empty}
use Rattle.wire_v2.proofs.frame_reading.is_empty_list.Goals as goal

pub returns-in-Some : goal.returns-in-Some
returns-in-Some c = c.is_empty.ensures ∙ list_is_empty (view c.args.value.now) c.as_slice.result.now (ap (λ l. Some (items_view l)) c.as_slice.ensures.value ∙ c.in-Some.ensures)
