use Rattle.serde_json.specs.View.{view}
use Rattle.wire_v2.proofs.Shapes.{object_is_empty}
use Rattle.wire_v2.proofs.frame_reading.is_empty_object.Goals as goal

pub returns-in-Some : goal.returns-in-Some
returns-in-Some c = object_is_empty (view c.args.value.now) c.in-Some.members.now.entries c.is_empty.result c.in-Some.ensures c.is_empty.ensures
