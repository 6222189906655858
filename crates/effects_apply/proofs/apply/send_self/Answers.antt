use Rattle.std.proofs.Common.{rules, ◌≡◌, ◌+◌, ◌-◌}
use Rattle.serde_json.specs.View.{view as json_view}
use Rattle.effects_apply.proofs.Steps.{sends}
use Rattle.effects_apply.proofs.apply.send_self.Goals as goal

pub returns-clause-does : goal.returns-clause-does
returns-clause-does c = λ present streams w h.
    let rest = c.args.rest.now in
    let one_less : (rest.free - 1) + 1 ≡ rest.free = search rules in
    sends present streams w rest h c.args.value (json_view c.in_ok-_json._json) c.push.new.self (rest.free - 1) c.in_ok-_json.ensures (search rules) one_less
