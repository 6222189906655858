-- What the program's messages stand for.
use Rattle.value_core.specs.View.{view}
use Rattle.wire_v2.specs.Message as model
use Rattle.wire_v2.specs.declared.head.MessageHead.{MessageHead}
use Rattle.wire_v2.specs.declared.event.EventValue.{EventValue}
use Rattle.wire_v2.specs.declared.event.EventValue.TheVariants as event_value
use Rattle.wire_v2.specs.declared.message.Message.{Message}
use Rattle.wire_v2.specs.declared.message.Message.TheVariants as message

abbrev pub head_view : MessageHead → model.MessageHead
head_view h = record { join_reference = h.join_ref; reference = h.reference; topic = h.topic }

abbrev pub event_value_view : EventValue → model.EventValue
event_value_view (event_value.Plain v) = model.plain_value (view v)
event_value_view (event_value.Form t) = model.form_text t

abbrev pub message_view : Message → model.Message
message_view (message.Beat h) = model.beat (head_view h)
message_view (message.Join h url) = model.join (head_view h) url
message_view (message.Leave h) = model.leave (head_view h)
message_view (message.Event h name v cid) = model.event (head_view h) name (event_value_view v) cid
message_view (message.Patch h url) = model.patch (head_view h) url
message_view (message.WillDestroy h) = model.will_destroy (head_view h)
message_view (message.Destroyed h) = model.destroyed (head_view h)
