use Rattle.std.proofs.Common.{◌≡◌, map, take}
use Rattle.serde_json.specs.View.{view}
use Rattle.diff_tree.specs.Parts.{push_data}
use Rattle.diff_tree.proofs.writing.events_value.Given as goal

abbrev pub invariant-events : goal.invariant-events
invariant-events l = map view l.values.items ≡ map push_data (take l.event-index l.events)
