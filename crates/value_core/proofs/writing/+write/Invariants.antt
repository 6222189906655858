use Rattle.std.proofs.Common.{◌≡◌, ◌++◌, drop, map, option_map, true}
use Rattle.serde_json.specs.View.{view as json_view, members_view}
use Rattle.text_core.specs.Keyed.{keys, ascend}
use Rattle.value_core.specs.Json.{json_of_values, json_of_assigns}
use Rattle.value_core.specs.View.{values_view, assigns_view}
use Rattle.value_core.proofs.ToJson.{add_items, add_members, names}
use Rattle.value_core.proofs.writing.+write.Given as goal

-- what was written so far, and then what the rest gives, is the whole
abbrev pub invariant-write_items-items : goal.invariant-write_items-items
invariant-write_items-items l =
    option_map (add_items (map json_view l.written.items)) (json_of_values (values_view (drop l.item-index l.item-items))) ≡ json_of_values (values_view l.item-items)

abbrev pub invariant-write_entries-entries : goal.invariant-write_entries-entries
invariant-write_entries-entries l = record {
  so_far : option_map (add_members (members_view l.members.entries)) (json_of_assigns (assigns_view (drop l.entry-index l.entry-items))) ≡ json_of_assigns (assigns_view l.entry-items);
  in_order : ascend (names (members_view l.members.entries) ++ keys (drop l.entry-index l.entry-items)) ≡ true;
}
