use Rattle.std.proofs.Common.{◌≡◌, ◌<◌, ◌∷◌, length, List, ℕ, Option, Some, None, option_map, map, drop, sym, ap, ◌∙◌, arith}
use Rattle.text_core.specs.Keyed.{lookup, with_key, without_key, on_value}
use Rattle.value_core.specs.Value as model
use Rattle.value_core.specs.View.{view, values_of, assigns_of}
use Rattle.params_core.specs.declared.path.Step.{Step}
use Rattle.params_core.specs.declared.path.Step.TheVariants.{At, Append}
use Rattle.params_core.specs.Form.{put_at}
use Rattle.params_core.proofs.Paths.{first_step, rest_is}
use Rattle.params_core.proofs.Places.{put_key, put_item, view-Map, view-List}
use Rattle.params_core.proofs.putting.+put_at.Goals as goal

pub returns-in_ok-insert-in-At : goal.returns-in_ok-insert-in-At
returns-in_ok-insert-in-At t c =
    let path = c.args.path.now in
    let old = option_map view c.args.old in
    let key = c.in-At.key in
    let after = c.in_ok-after-in-At.after in
    let entries = c.entries_at-entries.result in
    let some : 0 < length path = omega arith in
    let whole : path ≡ At key ∷ drop 1 path = first_step path c.step-item.result some c.step-item.is ∙ ap (λ s. s ∷ drop 1 path) c.in-At.is in
    view-Map c.insert.new.self
    ∙ ap (λ es. model.map_of (assigns_of (map (on_value view) es))) (
    c.in_ok-insert-in-At.ensures.ok
    ∙ ap (λ k. with_key k after c.remove-before.new.self) c.in_ok-again-in-At.ensures
    ∙ ap (λ es. with_key key after es) (c.remove-before.ensures.rest ∙ ap (λ k. without_key k entries) c.as_str.ensures)
    )
    ∙ put_key entries key (drop 1 path) c.args.text old c.remove-before.result after c.entries_at-entries.ensures.value c.entries_at-entries.ensures.ascending
    (c.remove-before.ensures.value ∙ ap (λ k. lookup k entries) c.as_str.ensures)
    (c.in_ok-after-in-At.ensures ∙ ap (λ p. put_at p c.args.text (option_map view c.remove-before.result)) (rest_is path some))
    ∙ sym (ap (λ p. put_at p c.args.text old) whole)

pub returns-in_ok-push-in-Append : goal.returns-in_ok-push-in-Append
returns-in_ok-push-in-Append t c =
    let path = c.args.path.now in
    let old = option_map view c.args.old in
    let some : 0 < length path = omega arith in
    let whole : path ≡ Append ∷ drop 1 path = first_step path c.step-item.result some c.step-item.is ∙ ap (λ s. s ∷ drop 1 path) c.in-Append.is in
    view-List c.push.new.self
    ∙ ap (λ vs. model.list (values_of (map view vs))) c.in_ok-push-in-Append.ensures.ok
    ∙ put_item c.items_at-items.result (drop 1 path) c.args.text old c.in_ok-item-in-Append.item c.items_at-items.ensures
    (c.in_ok-item-in-Append.ensures ∙ ap (λ p. put_at p c.args.text None) (rest_is path some))
    ∙ sym (ap (λ p. put_at p c.args.text old) whole)
