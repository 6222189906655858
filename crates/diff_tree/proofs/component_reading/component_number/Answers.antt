use Rattle.std.proofs.Common.{rules, ◌≡◌, ◌≢◌, true}
use Rattle.diff_tree.specs.Grammar.{is_place}
use Rattle.diff_tree.proofs.Components.{component_is, component_large}
use Rattle.diff_tree.proofs.component_reading.component_number.Goals as goal

pub returns-else-number-eq0 : goal.returns-else-number-eq0
returns-else-number-eq0 c =
    let place : is_place c.args.key.now ≡ true = search (rules, c.is_place.ensures, c.if-not-is_place.false) in
    let some : c.in-Ok.number ≢ 0 = search (rules, c.if-number-eq0.false) in
    component_is (Unit {0}) c.args.key.now c.in-Ok.number place c.in-Ok.ensures.value.0 some

pub returns-in-Err : goal.returns-in-Err
returns-in-Err c =
    let place : is_place c.args.key.now ≡ true = search (rules, c.is_place.ensures, c.if-not-is_place.false) in
    component_large (Unit {0}) c.args.key.now tt place c.in-Err.ensures.value.0
