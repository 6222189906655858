use Rattle.machine_api.specs.declared.machine.Action.TheVariants.{Subscribe}
use Rattle.effects_apply.proofs.Steps.{acts}
use Rattle.std.proofs.Common.{rules}
use Rattle.effects_apply.proofs.apply.subscribe.Goals as goal

pub returns-clause-does : goal.returns-clause-does
returns-clause-does c = λ present streams w h.
    acts present streams w c.args.rest.now h (Subscribe c.args.topic.now c.args.rest.now.generation) c.push.new.self (search rules)
