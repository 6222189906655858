use Rattle.std.proofs.Common.{rules, ◌≡◌, true, is_ok}
use Rattle.value_core.specs.View.{view}
use Rattle.doc_model.specs.Effects.{storable, position_of, limit_of}
use Rattle.effects_apply.proofs.Steps.{inserts}
use Rattle.effects_apply.proofs.apply.stream_insert.Goals as goal

pub returns : goal.returns
returns c = λ name dom_id rest present streams w h.
    let fits : is_ok (storable (view c.args.item.now)) ≡ true = search rules in
    let placed : is_ok (position_of c.args.at) ≡ true = search rules in
    let limited : is_ok (limit_of c.args.limit) ≡ true = search rules in
    inserts present streams w rest h name dom_id (view c.args.item.now) c.args.at c.args.limit fits placed limited
