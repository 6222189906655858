use Rattle.std.proofs.Common.{◌≡◌, ◌++◌, ◌∷◌, option_map, sym, ap, ◌∙◌}
use Rattle.text_core.specs.Keyed.{keys, ascend}
use Rattle.value_core.proofs.Order.{goes_last, goes_on}
use Rattle.value_core.proofs.FromJson.{member_keys, sorted_ascends}
use Rattle.serde_json.specs.View.{members_view}
use Rattle.bundle_files.specs.StepsView.{steps_view, events_view}
use Rattle.bundle_files.specs.Manifest.{events_in}
use Rattle.bundle_files.proofs.Listed.{no_events, events_on}
use Rattle.bundle_files.proofs.manifest.events_in.Goals as goal

pub loop-name-init : goal.loop-name-init
loop-name-init c =
    let whole : c.into_iter-name-iterator.result ≡ c.args.members.now.entries = c.into_iter-name-iterator.ensures.into_iter_gives ∙ c.iter-name-items.ensures.rest in
    record {
      so_far = no_events c.args.members.now.entries c.into_iter-name-iterator.result c.new-events.result c.new-events.ensures whole;
      in_order = ap (λ l. ascend (keys l ++ member_keys c.into_iter-name-iterator.result)) c.new-events.ensures
          ∙ ap (λ ms. ascend (member_keys ms)) whole ∙ sorted_ascends c.args.members.now.entries c.iter-name-items.ensures.ordered;
    }

pub push_last-requires : goal.push_last-requires
push_last-requires c =
    goes_last c.loop-name.events c.in_ok-copy_of.field-0 c.in-Some-2.steps (member_keys c.next.new.self)
    (ap (λ k. ascend (keys c.loop-name.events ++ k ∷ member_keys c.next.new.self)) (c.in_ok-copy_of.ensures ∙ c.as_str.ensures.value)
    ∙ ap (λ ms. ascend (keys c.loop-name.events ++ member_keys ms)) (sym c.in-Some.ensures.steps) ∙ c.loop-name.invariant.in_order)

pub loop-name-preserved : goal.loop-name-preserved
loop-name-preserved c = record {
  so_far = events_on c.in-Some.name.now c.in-Some.member.now c.next.new.self c.loop-name.events c.push_last.new.self c.in_ok-copy_of.field-0 c.in-Some-2.steps _
      (c.in_ok-copy_of.ensures ∙ c.as_str.ensures.value) (sym c.in_ok-steps.ensures ∙ ap (option_map steps_view) c.in-Some-2.is) c.in_ok-push_last.ensures.ok
      (ap (λ ms. option_map (λ more. events_view c.loop-name.events ++ more) (events_in (members_view ms))) (sym c.in-Some.ensures.steps) ∙ c.loop-name.invariant.so_far);
  in_order = ap (λ l. ascend (keys l ++ member_keys c.next.new.self)) c.in_ok-push_last.ensures.ok
      ∙ goes_on c.loop-name.events c.in_ok-copy_of.field-0 c.in-Some-2.steps (member_keys c.next.new.self)
      (ap (λ k. ascend (keys c.loop-name.events ++ k ∷ member_keys c.next.new.self)) (c.in_ok-copy_of.ensures ∙ c.as_str.ensures.value)
      ∙ ap (λ ms. ascend (keys c.loop-name.events ++ member_keys ms)) (sym c.in-Some.ensures.steps) ∙ c.loop-name.invariant.in_order);
}
