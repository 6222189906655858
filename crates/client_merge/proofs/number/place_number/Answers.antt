use Rattle.std.proofs.Common.{◌≡◌, ◌∙◌, sym, true}
use Rattle.diff_tree.specs.Grammar.{is_place}
use Rattle.client_merge.proofs.Numbers.{parsed, not_parsed}
use Rattle.client_merge.proofs.number.place_number.Goals as goal

pub returns-in-Ok : goal.returns-in-Ok
returns-in-Ok c =
    let is : is_place c.args.key.now ≡ true = sym c.is_place.ensures ∙ c.if-not-is_place.false in
    let r = parsed c.in-Ok.place c.args.key.now c.in-Ok.ensures.value.0 is in
    ((is, r.0), r.1)

pub returns-in-Err : goal.returns-in-Err
returns-in-Err c = λ q. not_parsed c.in-Err.field-0 c.args.key.now c.in-Err.ensures.value.0 q.0 q.1
