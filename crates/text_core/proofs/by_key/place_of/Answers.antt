use Rattle.std.proofs.Common.{rules, ◌≡◌, ◌<◌, length, get_or, arith, Less, Equal, nat_cmp}
use Rattle.std.specs.Cmp.Lexicographic.{slice_cmp}
use Rattle.text_core.proofs.Keyed.{with_less, with_equal, with_end}
use Rattle.text_core.proofs.by_key.place_of.Goals as goal

pub returns-in-Less-clause-absent : goal.returns-in-Less-clause-absent
returns-in-Less-clause-absent g c =
    let d = c.index-entries-i.result in
    let within : c.places.i < length c.args.entries.now = search rules in
    let at : slice_cmp nat_cmp c.args.key.now (get_or c.args.entries.now c.places.i d).key ≡ Less = search rules in
    (omega (arith, within), λ v. with_less c.args.key.now v c.args.entries.now c.places.i d within c.places.invariant at)

pub returns-in-Equal-clause-found : goal.returns-in-Equal-clause-found
returns-in-Equal-clause-found g c =
    let d = c.index-entries-i.result in
    let within : c.places.i < length c.args.entries.now = search rules in
    let at : slice_cmp nat_cmp c.args.key.now (get_or c.args.entries.now c.places.i d).key ≡ Equal = search rules in
    (within, λ v. with_equal c.args.key.now v c.args.entries.now c.places.i d within c.places.invariant at)

pub returns-clause-absent : goal.returns-clause-absent
returns-clause-absent g c =
    let past : length c.args.entries.now ≡ c.places.i = search rules in
    (omega arith, λ v. with_end c.args.key.now v c.args.entries.now (λ j e below. c.places.invariant j e (omega (arith, below, past))))
