use Rattle.std.proofs.Common.{◌≡◌, ◌++◌, map, take, drop, true}
use Rattle.serde_json.specs.View.{view, members_view}
use Rattle.text_core.specs.Keyed.{keys, ascend}
use Rattle.diff_tree.specs.Plain.{names}
use Rattle.diff_tree.specs.Parts.{seen, place_data}
use Rattle.diff_tree.proofs.Order.{join, chain}
use Rattle.diff_tree.proofs.Written.{row_array}
use Rattle.diff_tree.proofs.writing.+write.Given as goal

-- what was written so far, and then the rest, is the whole
abbrev pub invariant-places_value-places : goal.invariant-places_value-places
invariant-places_value-places l = record {
  so_far : join (members_view l.members.entries) (chain (seen (drop l.entry-index l.entry-items))) ≡ chain (seen l.entry-items);
  in_order : ascend (names (members_view l.members.entries) ++ keys (drop l.entry-index l.entry-items)) ≡ true;
}

abbrev pub invariant-rows_value-rows : goal.invariant-rows_value-rows
invariant-rows_value-rows l = map view l.values.items ≡ map row_array (take l.row-index l.row-items)

abbrev pub invariant-row_value-places : goal.invariant-row_value-places
invariant-row_value-places l = map view l.values.items ≡ map place_data (take l.place-index l.place-items)
