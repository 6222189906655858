use Rattle.std.proofs.Common.{rules, ◌≡◌, ◌<◌, length, get_or, arith, true}
use Rattle.std.specs.Str.{bytes_eq}
use Rattle.text_core.proofs.Keyed.{found_at, found_not}
use Rattle.text_core.proofs.by_key.find.Goals as goal

pub returns-then-eq : goal.returns-then-eq
returns-then-eq g c =
    let d = c.index-entries-i.result in
    let within : c.places.i < length c.args.entries.now = search rules in
    let at : bytes_eq c.args.key.now (get_or c.args.entries.now c.places.i d).key ≡ true = search rules in
    let both = found_at c.args.key.now c.args.entries.now c.places.i d within c.places.invariant at in
    (within, both.0, both.1)

pub returns : goal.returns
returns g c =
    let past : length c.args.entries.now ≡ c.places.i = search rules in
    found_not c.args.key.now c.args.entries.now (λ j e below. c.places.invariant j e (omega (arith, below, past)))
