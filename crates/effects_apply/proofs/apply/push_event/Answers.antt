use Rattle.std.proofs.Common.{rules}
use Rattle.value_core.specs.View.{view}
use Rattle.effects_apply.proofs.Steps.{pushes_named}
use Rattle.effects_apply.proofs.apply.push_event.Goals as goal

pub returns-clause-does : goal.returns-clause-does
returns-clause-does c = λ present streams w h.
    pushes_named present streams w c.args.rest.now h c.in_ok-push.push c.args.name (view c.args.value.now) c.push.new.self c.in_ok-push.ensures.0 c.in_ok-push.ensures.1 (search rules)
