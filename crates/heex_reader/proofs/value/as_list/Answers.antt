use Rattle.std.proofs.Common.{◌≡◌, List, ℕ, ◌-◌, ◌++◌, take, refl, ap, ◌∙◌, arith}
use Rattle.heex_reader.proofs.Slots.{call, inner_cut, list_of_pieces}
use Rattle.heex_reader.proofs.value.as_list.Goals as goal

pub before_round-inner-requires : goal.before_round-inner-requires
before_round-inner-requires c = (call c.args.place c.args.text.now c.requires).ended

pub behind-rest-requires : goal.behind-rest-requires
behind-rest-requires c = inner_cut c.args.place c.args.text.now c.before_round-inner.result.now c.before_round-inner.ensures c.before_round-inner.utf8 (call c.args.place c.args.text.now c.requires)

pub returns : goal.returns
returns c =
    let from_start : c.args.place - 0 ≡ c.args.place = omega arith in
    list_of_pieces c.args.place c.args.text.now c.in_ok-list.list c.push_str.new.self c.push_str-2.new.self c.push_str-3.new.self c.push_str-3.new.self c.before_round-inner.result.now
    (call c.args.place c.args.text.now c.requires) (c.in_ok-list.ensures ∙ c.range.ensures.value ∙ ap (λ (n : ℕ). take n c.args.text.now) from_start) c.before_round-inner.ensures c.in_ok-push_str.ensures.ok
    (c.in_ok-push_str-2.ensures.ok ∙ ap (λ (r : List ℕ). c.push_str.new.self ++ r) c.behind-rest.ensures) c.in_ok-push_str-3.ensures.ok refl
