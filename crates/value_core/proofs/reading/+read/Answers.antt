use Rattle.std.proofs.Common.{◌≡◌, ◌≤◌, ◌++◌, ◌∷◌, [], ◌+◌, drop, map, length, option_map, ◌∙◌, sym, ap, arith, true, string_bytes, List, String}
use Rattle.std.specs.declared.alloc.Global.{Global}
use Rattle.serde_json.specs.View.{items_view, members_view}
use Rattle.text_core.specs.Keyed.{on_value, keys, ascend}
use Rattle.value_core.specs.Json.{values_within, assigns_within}
use Rattle.value_core.specs.View.{view}
use Rattle.value_core.proofs.Order.{goes_last, goes_on}
use Rattle.value_core.proofs.FromJson.{add_values, add_assigns, member_keys, reads_on, reads_all, members_on, members_all, none_before, sorted_ascends}
use Rattle.value_core.proofs.reading.+read.Goals as goal

pub read_items-items-preserved : goal.read_items-items-preserved
read_items-items-preserved t c =
    ap (λ l. option_map (add_values (map view l)) (values_within c.args.levels (items_view (drop (c.items.item-index + 1) c.deref-item-items.result.now)))) c.in_ok-push.ensures.ok
    ∙ reads_on c.args.levels c.deref-item-items.result.now c.items.item-index c.item-item.result c.items.values c.in_ok-read.field-0 _
    c.items-test.true c.item-item.is c.in_ok-read.ensures.ok c.items.invariant

pub read_items-returns-clause-ok : goal.read_items-returns-clause-ok
read_items-returns-clause-ok t c =
    ap (λ l. values_within c.args.levels (items_view l)) (sym c.deref-item-items.ensures.value)
    ∙ (let past : length c.deref-item-items.result.now ≤ c.items.item-index = omega arith in
    reads_all c.args.levels c.deref-item-items.result.now c.items.item-index c.items.values _ past c.items.invariant)

pub read_members-members-init : goal.read_members-members-init
read_members-members-init t c =
    let whole : c.into_iter-key-iterator.result ≡ c.args.members.now.entries = c.into_iter-key-iterator.ensures.into_iter_gives ∙ c.iter-key-items.ensures.rest in
    record {
      so_far = ap (λ l. option_map (add_assigns (map (on_value view) l)) (assigns_within c.args.levels (members_view c.into_iter-key-iterator.result))) c.new-entries.ensures
          ∙ none_before (assigns_within c.args.levels (members_view c.into_iter-key-iterator.result)) ∙ ap (λ ms. assigns_within c.args.levels (members_view ms)) whole;
      in_order = ap (λ l. ascend (keys l ++ member_keys c.into_iter-key-iterator.result)) c.new-entries.ensures
          ∙ ap (λ ms. ascend (member_keys ms)) whole ∙ sorted_ascends c.args.members.now.entries c.iter-key-items.ensures.ordered;
    }

pub read_members-push_last-requires : goal.read_members-push_last-requires
read_members-push_last-requires t c =
    goes_last c.members.entries c.in_ok-copy_of.field-0 c.in_ok-value.value (member_keys c.next.new.self)
    (ap (λ k. ascend (keys c.members.entries ++ k ∷ member_keys c.next.new.self)) (c.in_ok-copy_of.ensures ∙ c.as_str.ensures.value)
    ∙ ap (λ ms. ascend (keys c.members.entries ++ member_keys ms)) (sym c.in-Some.ensures.steps) ∙ c.members.invariant.in_order)

pub read_members-members-preserved : goal.read_members-members-preserved
read_members-members-preserved t c = record {
  so_far = ap (λ l. option_map (add_assigns (map (on_value view) l)) (assigns_within c.args.levels (members_view c.next.new.self))) c.in_ok-push_last.ensures.ok
      ∙ members_on c.args.levels c.in-Some.key.now c.in-Some.member.now c.next.new.self c.members.entries c.in_ok-copy_of.field-0 c.in_ok-value.value _
      (c.in_ok-copy_of.ensures ∙ c.as_str.ensures.value) c.in_ok-value.ensures.ok
      (ap (λ ms. option_map (add_assigns (map (on_value view) c.members.entries)) (assigns_within c.args.levels (members_view ms))) (sym c.in-Some.ensures.steps) ∙ c.members.invariant.so_far);
  in_order = ap (λ l. ascend (keys l ++ member_keys c.next.new.self)) c.in_ok-push_last.ensures.ok
      ∙ goes_on c.members.entries c.in_ok-copy_of.field-0 c.in_ok-value.value (member_keys c.next.new.self)
      (ap (λ k. ascend (keys c.members.entries ++ k ∷ member_keys c.next.new.self)) (c.in_ok-copy_of.ensures ∙ c.as_str.ensures.value)
      ∙ ap (λ ms. ascend (keys c.members.entries ++ member_keys ms)) (sym c.in-Some.ensures.steps) ∙ c.members.invariant.in_order);
}

pub read_members-returns-clause-ok : goal.read_members-returns-clause-ok
read_members-returns-clause-ok t c =
    members_all c.args.levels (map (on_value view) c.members.entries) _
    (ap (λ ms. option_map (add_assigns (map (on_value view) c.members.entries)) (assigns_within c.args.levels (members_view ms))) (sym c.in-None.ensures.steps.0) ∙ c.members.invariant.so_far)
