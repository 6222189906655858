use Rattle.std.proofs.Common.{◌≡◌, ◌∙◌, sym, true, false, true≢false}
use Rattle.serde_json.specs.View.{view as json_view}
use Rattle.value_core.specs.View.{view}
use Rattle.effects_apply.proofs.Floats.{sendable_no_float}
use Rattle.effects_apply.proofs.judge.sendable_push.Goals as goal

-- what may be sent has no fraction
pub returns-in-None : goal.returns-in-None
returns-in-None c = absurd (true≢false (sym c.in-None.ensures.0 ∙ sendable_no_float (view c.args.value.now) (json_view c.in_ok-payload.payload) c.in_ok-payload.ensures))
