-- What the program's effects stand for, and what a handler's answer means.
use Rattle.std.specs.Prelude.{◌≡◌, List, map, Option, Some, None, Result, Ok, Err}
use Rattle.value_core.specs.View.{view}
use Rattle.view_api.specs.Effect as model
use Rattle.view_api.specs.declared.effect.Effect.{Effect}
use Rattle.view_api.specs.declared.effect.Effect.TheVariants.{Assign, StreamInsert, StreamDelete, StreamReset, Subscribe, Unsubscribe, Publish, SendSelf, PushEvent}
use Rattle.view_api.specs.declared.views.ViewFault.{ViewFault}
use Rattle.view_api.specs.declared.views.ViewFault.TheVariants.{Raised, OutOfMemory}

abbrev pub effect_view : Effect → model.Effect
effect_view (Assign name value) = model.assign_to name (view value)
effect_view (StreamInsert name dom_id item at limit) = model.stream_insert name dom_id (view item) at limit
effect_view (StreamDelete name dom_id) = model.stream_delete name dom_id
effect_view (StreamReset name) = model.stream_reset name
effect_view (Subscribe topic) = model.subscribe topic
effect_view (Unsubscribe topic) = model.unsubscribe topic
effect_view (Publish topic value) = model.publish topic (view value)
effect_view (SendSelf value) = model.send_self (view value)
effect_view (PushEvent name value) = model.push_event name (view value)

abbrev pub effects_view : List Effect → List model.Effect
effects_view = map effect_view

-- an answer gives the effects that are meant, and raises exactly where none are; want of memory alone is free
abbrev pub Means : Result (List Effect) ViewFault → Option (List model.Effect) → Type 0
Means (Ok es) o = o ≡ Some (effects_view es)
Means (Err Raised) o = o ≡ None
Means (Err OutOfMemory) o = Unit {0}
