use Rattle.std.proofs.Common.{◌≡◌, map, take}
use Rattle.serde_json.specs.View.{view}
use Rattle.diff_tree.specs.Parts.{insert_data}
use Rattle.diff_tree.proofs.writing.inserts_value.Given as goal

abbrev pub invariant-inserts : goal.invariant-inserts
invariant-inserts l = map view l.values.items ≡ map insert_data (take l.insert-index l.inserts)
