-- The tree that a client holds, and when it is whole.
use Rattle.std.specs.Prelude.{◌≡◌, ℕ, List, [], map}
use Rattle.diff_tree.specs.Container.{Row, after}
use Rattle.diff_tree.specs.Tree.{Tree, text, number, node, held, Trees, no_trees, tree, Held, held_list, show_values, weave, opened}
use Rattle.doc_model.specs.Trace.{Items, no_items, item, Item, met_text, met_nothing, met_branch, met_rows, met_call, met_slots, met_component, met_stream, ItemRows, no_item_rows, item_row, Slots, no_slots, slot_of, texts, row_texts}
use Rattle.doc_model.specs.Whole.{whole_rows, rows_tree, slots_tree}
use Rattle.diff_tree.specs.Client.{numbers_in_held}

-- the rows that a client holds show the container's texts, under the same ids; no component stands in them
abbrev pub HoldsStream : List (List ℕ) → Held → List (Row (List ℕ)) → Type 0
HoldsStream st hs container =
    ((look : ℕ → List ℕ) → map (λ r. (r.0, weave st (show_values look r.1))) (held_list hs) ≡ container) × (numbers_in_held hs ≡ [])

module _ (mark : ℕ → List ℕ → List ℕ) where
  -- each component that is met shows what `look` says
  abbrev mutual
    pub Sees : (ℕ → List ℕ) → Items → Type 0
    Sees look no_items = Unit {0}
    Sees look (item i is) = SeesItem look i × Sees look is

    pub SeesItem : (ℕ → List ℕ) → Item → Type 0
    SeesItem look (met_text r t) = Unit {0}
    SeesItem look met_nothing = Unit {0}
    SeesItem look (met_branch i st is) = Sees look is
    SeesItem look (met_rows r st rs) = SeesRows look rs
    SeesItem look (met_call st is) = Sees look is
    SeesItem look (met_slots ss) = SeesSlots look ss
    SeesItem look (met_component n st is) = look n ≡ mark n (weave st (texts mark is))
    SeesItem look (met_stream name rs b st new) = SeesRows look new

    pub SeesRows : (ℕ → List ℕ) → ItemRows → Type 0
    SeesRows look no_item_rows = Unit {0}
    SeesRows look (item_row is rs) = Sees look is × SeesRows look rs

    pub SeesSlots : (ℕ → List ℕ) → Slots → Type 0
    SeesSlots look no_slots = Unit {0}
    SeesSlots look (slot_of b st is ss) = Sees look is × SeesSlots look ss

  -- whole for a client: the whole tree, with the container's rows in place of the batch
  abbrev mutual
    pub Holds : Trees → Items → Type 0
    Holds no_trees no_items = Unit {0}
    Holds (tree t ts) (item i is) = HoldsItem t i × Holds ts is
    Holds _ _ = ⊥

    pub HoldsItem : Tree → Item → Type 0
    HoldsItem u (met_text r t) = u ≡ text t
    HoldsItem u met_nothing = u ≡ text []
    HoldsItem u (met_branch i st is) = (ts : Trees) × (u ≡ node st ts) × Holds ts is
    HoldsItem u (met_rows r st rs) = u ≡ opened (rows_tree st (whole_rows rs))
    HoldsItem u (met_call st is) = (ts : Trees) × (u ≡ node st ts) × Holds ts is
    HoldsItem u (met_slots ss) = (ts : Trees) × (u ≡ slots_tree ts) × HoldsSlots ts ss
    HoldsItem u (met_component n st is) = u ≡ number n
    HoldsItem u (met_stream name rs b st new) = (hs : Held) × (u ≡ held name st hs) × HoldsStream st hs (after b (row_texts mark st new) rs)

    pub HoldsSlots : Trees → Slots → Type 0
    HoldsSlots no_trees no_slots = Unit {0}
    HoldsSlots (tree u us) (slot_of b st is ss) = ((ts : Trees) × (u ≡ node st ts) × Holds ts is) × HoldsSlots us ss
    HoldsSlots _ _ = ⊥

-- each stream that is met began empty
abbrev mutual
  pub Fresh : Items → Type 0
  Fresh no_items = Unit {0}
  Fresh (item i is) = FreshItem i × Fresh is

  pub FreshItem : Item → Type 0
  FreshItem (met_text r t) = Unit {0}
  FreshItem met_nothing = Unit {0}
  FreshItem (met_branch i st is) = Fresh is
  FreshItem (met_rows r st rs) = FreshRows rs
  FreshItem (met_call st is) = Fresh is
  FreshItem (met_slots ss) = FreshSlots ss
  FreshItem (met_component n st is) = Unit {0}
  FreshItem (met_stream name rs b st new) = (rs ≡ []) × FreshRows new

  pub FreshRows : ItemRows → Type 0
  FreshRows no_item_rows = Unit {0}
  FreshRows (item_row is rs) = Fresh is × FreshRows rs

  pub FreshSlots : Slots → Type 0
  FreshSlots no_slots = Unit {0}
  FreshSlots (slot_of b st is ss) = Fresh is × FreshSlots ss
