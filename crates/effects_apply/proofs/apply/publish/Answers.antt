use Rattle.std.proofs.Common.{rules}
use Rattle.serde_json.specs.View.{view as json_view}
use Rattle.serde_json.specs.Written.{compact_text}
use Rattle.value_core.specs.View.{view}
use Rattle.machine_api.specs.declared.machine.Action.TheVariants.{Publish}
use Rattle.effects_apply.proofs.Floats.{sendable_no_float}
use Rattle.effects_apply.proofs.Steps.{acts}
use Rattle.effects_apply.proofs.apply.publish.Goals as goal

pub compact-requires : goal.compact-requires
compact-requires c = sendable_no_float (view c.args.value.now) (json_view c.in_ok-json.json) c.in_ok-json.ensures

pub returns-clause-does : goal.returns-clause-does
returns-clause-does c = λ present streams w h.
    rw c.in_ok-json.ensures
    (acts present streams w c.args.rest.now h (Publish c.args.topic.now (compact_text (json_view c.in_ok-json.json))) c.push.new.self (search rules))
