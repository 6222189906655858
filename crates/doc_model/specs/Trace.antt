-- What a rendering meets, place by place, and what it shows.
use Rattle.std.specs.Prelude.{ℕ, List, [], ◌∷◌, ◌++◌, Option}
use Rattle.value_core.specs.Value.{Value}
use Rattle.diff_tree.specs.Container.{Row, Batch, after, contents}
use Rattle.diff_tree.specs.Tree.{weave, flat}

mutual
  -- one item for each place of a node
  pub data Items : Type 0 where
    no_items : Items
    item : Item → Items → Items

  pub data Item : Type 0 where
    -- the values of the names that the place reads, and its text
    met_text : List (Option Value) → List ℕ → Item
    met_nothing : Item
    -- the branch by its position, with its statics
    met_branch : ℕ → List (List ℕ) → Items → Item
    -- the values of the names that the place reads, the statics of the body, and the rows
    met_rows : List (Option Value) → List (List ℕ) → ItemRows → Item
    met_call : List (List ℕ) → Items → Item
    met_slots : Slots → Item
    -- the component by its number, with its root
    met_component : ℕ → List (List ℕ) → Items → Item
    -- the stream and its container before, the operations, the statics of the body, and one row for each insert
    met_stream : List ℕ → List (Row (List ℕ)) → Batch (Unit {0}) → List (List ℕ) → ItemRows → Item

  pub data ItemRows : Type 0 where
    no_item_rows : ItemRows
    item_row : Items → ItemRows → ItemRows

  -- the number of each entry's body, with its statics
  pub data Slots : Type 0 where
    no_slots : Slots
    slot_of : ℕ → List (List ℕ) → Items → Slots → Slots

-- the full rendering, place by place; `mark` puts a component's mark
module _ (mark : ℕ → List ℕ → List ℕ) where
  abbrev mutual
    pub texts : Items → List (List ℕ)
    texts no_items = []
    texts (item i is) = shown i ∷ texts is

    pub shown : Item → List ℕ
    shown (met_text r t) = t
    shown met_nothing = []
    shown (met_branch i st is) = weave st (texts is)
    shown (met_rows r st rs) = flat (row_texts st rs)
    shown (met_call st is) = weave st (texts is)
    shown (met_slots ss) = shown_slots ss
    shown (met_component n st is) = mark n (weave st (texts is))
    shown (met_stream name rs b st new) = flat (contents (after b (row_texts st new) rs))

    pub row_texts : List (List ℕ) → ItemRows → List (List ℕ)
    row_texts st no_item_rows = []
    row_texts st (item_row is rs) = weave st (texts is) ∷ row_texts st rs

    pub shown_slots : Slots → List ℕ
    shown_slots no_slots = []
    shown_slots (slot_of b st is ss) = weave st (texts is) ++ shown_slots ss
