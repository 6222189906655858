use Rattle.std.proofs.Common.{◌≡◌, map, take, drop}
use Rattle.serde_json.specs.View.{view, items_view}
use Rattle.diff_tree.specs.Parts.{push_data}
use Rattle.diff_tree.specs.Grammar.{are_events}
use Rattle.diff_tree.proofs.event_reading.read_events.Given as goal

abbrev pub invariant-items : goal.invariant-items
invariant-items l = record {
  taken : map push_data l.events ≡ map view (take l.item-index l.items);
  are : are_events (items_view (drop l.item-index l.items)) ≡ are_events (items_view l.items);
}
