use Rattle.std.proofs.Common.{rules, ◌≡◌, ◌<◌, length, get_or, arith, Less, Equal}
use Rattle.text_core.proofs.Keyed.{order}
use Rattle.ast_core.proofs.Ordered.{with_less, with_equal, with_end}
use Rattle.ast_core.proofs.walk.place_of.Goals as goal

pub returns-in-Less : goal.returns-in-Less
returns-in-Less c =
    let d = c.index-names-i.result in
    let within : c.places.i < length c.args.names.now = search rules in
    let at : order c.args.name.now (get_or c.args.names.now c.places.i d) ≡ Less = search rules in
    (omega (arith, within), with_less c.args.name.now c.args.names.now c.places.i d within c.places.invariant at)

pub returns-in-Equal : goal.returns-in-Equal
returns-in-Equal c =
    let d = c.index-names-i.result in
    let within : c.places.i < length c.args.names.now = search rules in
    let at : order c.args.name.now (get_or c.args.names.now c.places.i d) ≡ Equal = search rules in
    with_equal c.args.name.now c.args.names.now c.places.i d within c.places.invariant at

pub returns : goal.returns
returns c =
    let past : length c.args.names.now ≡ c.places.i = search rules in
    (omega arith, with_end c.args.name.now c.args.names.now (λ j e below. c.places.invariant j e (omega (arith, below, past))))
