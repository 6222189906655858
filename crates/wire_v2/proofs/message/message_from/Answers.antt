use Rattle.std.proofs.Common.{◌≡◌, Some, is_some, true, rules}
use Rattle.serde_json.specs.Find.{as_object, as_str}
use Rattle.serde_json.specs.View.{view}
use Rattle.wire_v2.specs.Message.{head_of}
use Rattle.wire_v2.specs.View.{head_view}
use Rattle.wire_v2.proofs.Items.{by_items}
use Rattle.wire_v2.proofs.message.message_from.Goals as goal

pub returns-in-Some-2 : goal.returns-in-Some-2
returns-in-Some-2 c =
    let text : as_str (view c.args.event.now) ≡ Some c.in-Some.event.now = search rules in
    let head : head_of (view c.args.join_ref.now) (view c.args.reference.now) (view c.args.topic.now) ≡ Some (head_view c.in-Some-2.head) = search rules in
    let is : is_some (as_object (view c.args.payload.now)) ≡ true = search rules in
    let e = by_items (view c.args.join_ref.now) (view c.args.reference.now) (view c.args.topic.now) (view c.args.event.now) (view c.args.payload.now) c.in-Some.event.now (head_view c.in-Some-2.head) text is head in
    rw e c.message_by_topic.ensures
