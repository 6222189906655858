use Rattle.std.proofs.Common.{◌≡◌, ◌++◌, map, take, drop, codes, true}
use Rattle.serde_json.specs.View.{view, items_view, members_view}
use Rattle.text_core.specs.Keyed.{keys, ascend}
use Rattle.diff_tree.specs.Plain.{names}
use Rattle.diff_tree.specs.Parts.{seen, place_data, rows_data}
use Rattle.diff_tree.specs.Grammar.{are_places, are_listed, are_rows, are_values, without}
use Rattle.diff_tree.proofs.Keys.{member_keys}
use Rattle.diff_tree.proofs.Order.{join, chain}
use Rattle.diff_tree.proofs.Listed.{Came}
use Rattle.diff_tree.proofs.Written.{row_array}
use Rattle.diff_tree.proofs.node_reading.+read.Given as goal

-- the places so far, and then the rest, are the whole
abbrev pub invariant-read_places-members : goal.invariant-read_places-members
invariant-read_places-members l = record {
  so_far : join (chain (seen l.places)) (without (codes "s") (members_view l.key-iterator)) ≡ without (codes "s") (members_view l.members.entries);
  are : are_places (members_view l.key-iterator) ≡ are_places (members_view l.members.entries);
  in_order : ascend (keys l.places ++ member_keys l.key-iterator) ≡ true;
}

-- the rows are still to come, or were read
abbrev pub invariant-read_listed-members : goal.invariant-read_listed-members
invariant-read_listed-members l = record {
  came : Came (rows_data l.rows) (members_view l.key-iterator) (members_view l.members.entries);
  are : are_listed (members_view l.key-iterator) ≡ are_listed (members_view l.members.entries);
  in_order : ascend (names (members_view l.key-iterator)) ≡ true;
}

abbrev pub invariant-rows_of_items-items : goal.invariant-rows_of_items-items
invariant-rows_of_items-items l = record {
  taken : map row_array l.rows ≡ map view (take l.item-index l.item-items);
  are : are_rows (items_view (drop l.item-index l.item-items)) ≡ are_rows (items_view l.item-items);
}

abbrev pub invariant-values_of_items-items : goal.invariant-values_of_items-items
invariant-values_of_items-items l = record {
  taken : map place_data l.values ≡ map view (take l.item-index l.item-items);
  are : are_values (items_view (drop l.item-index l.item-items)) ≡ are_values (items_view l.item-items);
}
