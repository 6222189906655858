-- What stands for the process during a message, and what becomes of it by effects.
use Rattle.std.specs.Prelude.{◌≡◌, ℕ, ◌+◌, List, ◌++◌, length, map, Result, Ok, Err, IsErr}
use Rattle.serde_json.specs.Data.{Data}
use Rattle.serde_json.specs.View.{view as json_view}
use Rattle.serde_json.specs.declared.value.Value as json
use Rattle.text_core.specs.declared.by_key.KeyValue.{KeyValue}
use Rattle.value_core.specs.View.{view, assigns_view}
use Rattle.value_core.specs.declared.value.Value.{Value}
use Rattle.view_api.specs.Effect.{Effect}
use Rattle.machine_api.specs.declared.machine.Action as asked
use Rattle.machine_api.specs.declared.machine.Action.TheVariants.{Subscribe, Unsubscribe, Publish}
use Rattle.diff_tree.specs.declared.push.Push.{Push}
use Rattle.diff_tree.specs.Parts.{pushed_of}
use Rattle.doc_model.specs.Environment.{Stream}
use Rattle.doc_model.specs.Evaluation.{Res}
use Rattle.doc_model.specs.Effects as model
use Rattle.doc_model.specs.Effects.{Action, to_subscribe, to_unsubscribe, to_publish, Waiting, sent, inbox_limit, Applied, apply_effect}
use Rattle.effects_apply.specs.declared.fault.EffectFault.{EffectFault}
use Rattle.effects_apply.specs.declared.fault.EffectFault.TheVariants.{Raised, OutOfMemory}
use Rattle.effects_apply.specs.declared.rest.Rest.{Rest}

-- what is asked of the outside
abbrev pub action_view : asked.Action → Action
action_view (Subscribe topic generation) = to_subscribe topic generation
action_view (Unsubscribe topic generation) = to_unsubscribe topic generation
action_view (Publish topic value) = to_publish topic value

-- the process beside its assigns, where `w` waited in its inbox before the message
abbrev pub rest_view : List Waiting → Rest → model.Rest
rest_view w r = record {
  generation = r.generation;
  inbox = w ++ map (λ v. sent r.generation (view v)) r.sent;
  actions = map action_view r.actions;
  pushed = map pushed_of r.pushed;
}

-- what is free is what the inbox lacks of its limit
abbrev pub CountsFree : List Waiting → Rest → Type 0
CountsFree w r = length (rest_view w r).inbox + r.free ≡ inbox_limit

-- assigns with streams, and the process beside them
abbrev pub applied_view : List (KeyValue Value) → (List ℕ → Stream) → List Waiting → Rest → Applied
applied_view present streams w r = (record { assigns = assigns_view present; streams = streams }, rest_view w r)

-- what a step gives is what the assigns and the rest now stand for, with some streams, or it raises;
-- want of memory is free
abbrev pub Becomes : Result (Unit {0}) EffectFault → Res Applied → List (KeyValue Value) → List Waiting → Rest → Type 0
Becomes (Ok _) given present w r = CountsFree w r × ((streams : List ℕ → Stream) × (given ≡ Ok (applied_view present streams w r)))
Becomes (Err Raised) given present w r = IsErr given
Becomes (Err OutOfMemory) given present w r = Unit {0}

-- a step of the definition is done, whatever the streams and whatever waited before the message
abbrev pub Does : Result (Unit {0}) EffectFault → (Applied → Res Applied) → List (KeyValue Value) → Rest → List (KeyValue Value) → Rest → Type 0
Does result step before old after new =
    (streams : List ℕ → Stream) (w : List Waiting) → CountsFree w old → Becomes result (step (applied_view before streams w old)) after w new

-- an effect is done that leaves the assigns as they are, whatever they are
abbrev pub DoesBeside : Result (Unit {0}) EffectFault → Effect → Rest → Rest → Type 0
DoesBeside result e old new = (present : List (KeyValue Value)) → Does result (apply_effect e) present old present new

-- the JSON value that is given, or a raise; want of memory is free
abbrev pub GivesJson : Result json.Value EffectFault → Res Data → Type 0
GivesJson (Ok j) given = given ≡ Ok (json_view j)
GivesJson (Err Raised) given = IsErr given
GivesJson (Err OutOfMemory) given = Unit {0}

-- an event of that name with the JSON value that is given, or a raise; want of memory is free
abbrev pub GivesPush : Result Push EffectFault → List ℕ → Res Data → Type 0
GivesPush (Ok p) name given = (p.name ≡ name) × (given ≡ Ok (json_view p.payload))
GivesPush (Err Raised) name given = IsErr given
GivesPush (Err OutOfMemory) name given = Unit {0}
