-- The whole tree of what a rendering meets.
use Rattle.std.specs.Prelude.{ℕ, List, [], ◌∷◌}
use Rattle.diff_tree.specs.Tree.{Tree, text, number, node, list, stream, Trees, no_trees, tree, Rows, no_rows, row}
use Rattle.doc_model.specs.Trace.{Item, ItemRows, Items, Slots, item, item_row, met_branch, met_call, met_component, met_nothing, met_rows, met_slots, met_stream, met_text, no_item_rows, no_items, no_slots, slot_of}

-- rows, or the empty text where there are none
abbrev pub rows_tree : List (List ℕ) → Rows → Tree
rows_tree st no_rows = text []
rows_tree st (row r rs) = list st (row r rs)

-- an empty static more than there are entries
abbrev pub empties : Trees → List (List ℕ)
empties no_trees = [] ∷ []
empties (tree t ts) = [] ∷ empties ts

-- a node of the entries, or the empty text where there is none
abbrev pub slots_tree : Trees → Tree
slots_tree no_trees = text []
slots_tree (tree t ts) = node (empties (tree t ts)) (tree t ts)

-- the whole tree
abbrev mutual
  pub whole_places : Items → Trees
  whole_places no_items = no_trees
  whole_places (item i is) = tree (whole_place i) (whole_places is)

  pub whole_place : Item → Tree
  whole_place (met_text r t) = text t
  whole_place met_nothing = text []
  whole_place (met_branch i st is) = node st (whole_places is)
  whole_place (met_rows r st rs) = rows_tree st (whole_rows rs)
  whole_place (met_call st is) = node st (whole_places is)
  whole_place (met_slots ss) = slots_tree (whole_slots ss)
  whole_place (met_component n st is) = number n
  whole_place (met_stream name rs b st new) = stream name b st (whole_rows new)

  pub whole_rows : ItemRows → Rows
  whole_rows no_item_rows = no_rows
  whole_rows (item_row is rs) = row (whole_places is) (whole_rows rs)

  pub whole_slots : Slots → Trees
  whole_slots no_slots = no_trees
  whole_slots (slot_of b st is ss) = tree (node st (whole_places is)) (whole_slots ss)
