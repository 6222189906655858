-- The containers that a rendering leaves, where each stream has one place in its template.
use Rattle.std.specs.Prelude.{ℕ, List, [], Option, Some, None, if◌then◌else◌}
use Rattle.std.specs.Str.{bytes_eq}
use Rattle.diff_tree.specs.Container.{Row, after}
use Rattle.doc_model.specs.Trace.{Items, no_items, item, Item, met_branch, met_stream, row_texts}
use Rattle.doc_model.specs.Left.{Containers}
use Rattle.doc_model.specs.Components.{Part, parts, part_at}

-- the first, else the second
abbrev pub or_else : {A : Type 0} → Option A → Option A → Option A
or_else None o = o
or_else (Some x) o = Some x

-- the empty container where there is none
abbrev pub or_empty : Option (List (Row (List ℕ))) → List (Row (List ℕ))
or_empty None = []
or_empty (Some c) = c

module _ (mark : ℕ → List ℕ → List ℕ) where
  abbrev mutual
    pub left_in : List ℕ → Items → Option (List (Row (List ℕ)))
    left_in s no_items = None
    left_in s (item i is) = or_else (left_item s i) (left_in s is)

    pub left_item : List ℕ → Item → Option (List (Row (List ℕ)))
    left_item s (met_branch i st is) = left_in s is
    left_item s (met_stream name rs b st new) = if bytes_eq s name then Some (after b (row_texts mark st new) rs) else None
    left_item s _ = None

  -- what a stream's place shows, or the empty container where it was not reached
  abbrev pub left : Items → Containers
  left is s = or_empty (left_in s is)

  abbrev pub left_of : Option Part → Containers
  left_of None s = []
  left_of (Some q) s = left q.items s

  abbrev pub left_to : Items → ℕ → Containers
  left_to is n = left_of (part_at n (parts is))
