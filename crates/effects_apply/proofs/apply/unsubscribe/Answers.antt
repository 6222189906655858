use Rattle.std.proofs.Common.{rules}
use Rattle.machine_api.specs.declared.machine.Action.TheVariants.{Unsubscribe}
use Rattle.effects_apply.proofs.Steps.{acts}
use Rattle.effects_apply.proofs.apply.unsubscribe.Goals as goal

pub returns-clause-does : goal.returns-clause-does
returns-clause-does c = λ present streams w h.
    acts present streams w c.args.rest.now h (Unsubscribe c.args.topic.now c.args.rest.now.generation) c.push.new.self (search rules)
