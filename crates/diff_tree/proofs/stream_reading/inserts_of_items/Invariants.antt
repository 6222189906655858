use Rattle.std.proofs.Common.{◌≡◌, map, take, drop}
use Rattle.serde_json.specs.View.{view, items_view}
use Rattle.diff_tree.specs.Parts.{insert_data}
use Rattle.diff_tree.specs.Grammar.{are_inserts}
use Rattle.diff_tree.proofs.stream_reading.inserts_of_items.Given as goal

abbrev pub invariant-items : goal.invariant-items
invariant-items l = record {
  taken : map insert_data l.inserts ≡ map view (take l.item-index l.items);
  are : are_inserts (items_view (drop l.item-index l.items)) ≡ are_inserts (items_view l.items);
}
