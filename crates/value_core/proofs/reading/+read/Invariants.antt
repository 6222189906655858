use Rattle.std.proofs.Common.{◌≡◌, ◌++◌, drop, map, option_map, true}
use Rattle.serde_json.specs.View.{items_view, members_view}
use Rattle.text_core.specs.Keyed.{on_value, keys, ascend}
use Rattle.value_core.specs.Json.{values_within, assigns_within}
use Rattle.value_core.specs.View.{view}
use Rattle.value_core.proofs.FromJson.{add_values, add_assigns, member_keys}
use Rattle.value_core.proofs.reading.+read.Given as goal

-- what was read so far, and then what the rest gives, is the whole
abbrev pub invariant-read_items-items : goal.invariant-read_items-items
invariant-read_items-items l =
    option_map (add_values (map view l.values)) (values_within l.levels (items_view (drop l.item-index l.item-items))) ≡ values_within l.levels (items_view l.item-items)

abbrev pub invariant-read_members-members : goal.invariant-read_members-members
invariant-read_members-members l = record {
  so_far : option_map (add_assigns (map (on_value view) l.entries)) (assigns_within l.levels (members_view l.key-iterator)) ≡ assigns_within l.levels (members_view l.members.entries);
  in_order : ascend (keys l.entries ++ member_keys l.key-iterator) ≡ true;
}
