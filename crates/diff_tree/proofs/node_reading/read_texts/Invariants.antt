use Rattle.std.proofs.Common.{◌≡◌, drop}
use Rattle.serde_json.specs.View.{items_view}
use Rattle.diff_tree.specs.Spelling.{texts_json}
use Rattle.diff_tree.specs.Grammar.{are_texts}
use Rattle.diff_tree.proofs.Taken.{join_items}
use Rattle.diff_tree.proofs.node_reading.read_texts.Given as goal

-- the texts so far, and then the rest, are the whole
abbrev pub invariant-items : goal.invariant-items
invariant-items l = record {
  so_far : join_items (texts_json l.texts) (items_view (drop l.item-index l.items)) ≡ items_view l.items;
  are : are_texts (items_view (drop l.item-index l.items)) ≡ are_texts (items_view l.items);
}
