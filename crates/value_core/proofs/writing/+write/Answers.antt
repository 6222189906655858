use Rattle.std.proofs.Common.{◌≡◌, ◌≤◌, ◌++◌, ◌∷◌, ◌+◌, drop, map, length, Option, option_map, ◌∙◌, sym, ap, arith, true}
use Rattle.serde_json.specs.Data.{Members, put}
use Rattle.serde_json.specs.View.{view as json_view, members_view}
use Rattle.text_core.specs.Keyed.{keys, ascend}
use Rattle.value_core.specs.Json.{json_of_values, json_of_assigns}
use Rattle.value_core.specs.View.{values_view, assigns_view}
use Rattle.value_core.proofs.ToJson.{add_items, add_members, names, writes_on, writes_all, puts_on, puts_all}
use Rattle.value_core.proofs.writing.+write.Goals as goal

pub write_items-items-preserved : goal.write_items-items-preserved
write_items-items-preserved t c =
    ap (λ l. option_map (add_items (map json_view l)) (json_of_values (values_view (drop (c.items.item-index + 1) c.as_slice-item-items.result.now)))) c.in_ok-push.ensures.items
    ∙ writes_on c.as_slice-item-items.result.now c.items.item-index c.item-item.result c.items.written.items c.in_ok-to_json.field-0 _
    c.items-test.true c.item-item.is c.in_ok-to_json.ensures.ok c.items.invariant

pub write_items-returns-clause-ok : goal.write_items-returns-clause-ok
write_items-returns-clause-ok t c =
    let past : length c.as_slice-item-items.result.now ≤ c.items.item-index = omega arith in
    ap (λ l. json_of_values (values_view l)) (sym c.as_slice-item-items.ensures)
    ∙ writes_all c.as_slice-item-items.result.now c.items.item-index (map json_view c.items.written.items) _ past c.items.invariant

pub write_entries-entries-preserved : goal.write_entries-entries-preserved
write_entries-entries-preserved t c =
    let before : Members = members_view c.entries.members.entries in
    let rest = drop (c.entries.entry-index + 1) c.as_slice-entry-items.result.now in
    let placed : members_view c.put.new.map.entries ≡ put c.entry-item.result.key (json_view c.in_ok-member.member) before
    = c.in_ok-put.ensures.ok ∙ ap (λ k. put k (json_view c.in_ok-member.member) before) c.as_str.ensures in
    let both = puts_on c.as_slice-entry-items.result.now c.entries.entry-index c.entry-item.result before (json_view c.in_ok-member.member) _
    c.entries-test.true c.entry-item.is c.in_ok-member.ensures.ok c.entries.invariant.in_order c.entries.invariant.so_far in
    record {
      so_far = ap (λ ms. option_map (add_members ms) (json_of_assigns (assigns_view rest))) placed ∙ both.0;
      in_order = ap (λ ms. ascend (names ms ++ keys rest)) placed ∙ both.1;
    }

pub write_entries-returns-clause-ok : goal.write_entries-returns-clause-ok
write_entries-returns-clause-ok t c =
    let past : length c.as_slice-entry-items.result.now ≤ c.entries.entry-index = omega arith in
    ap (λ l. json_of_assigns (assigns_view l)) (sym c.as_slice-entry-items.ensures.value)
    ∙ puts_all c.as_slice-entry-items.result.now c.entries.entry-index (members_view c.entries.members.entries) _ past c.entries.invariant.so_far
