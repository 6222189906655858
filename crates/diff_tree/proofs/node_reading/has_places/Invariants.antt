use Rattle.std.proofs.Common.{◌≡◌, true}
use Rattle.serde_json.specs.View.{view}
use Rattle.diff_tree.specs.Grammar.{has_places}
use Rattle.diff_tree.proofs.node_reading.has_places.Given as goal

abbrev pub invariant-places : goal.invariant-places
invariant-places l = has_places l.place-counter (view l.value) ≡ true
