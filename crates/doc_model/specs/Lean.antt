-- The lean diff between two renderings of a node: exactly the changed places.
use Rattle.std.specs.Prelude.{ℕ, suc, List, [], ◌==◌, Option, Some, None, Bool, true, false, if◌then◌else◌}
use Rattle.doc_model.specs.Environment.{same_reading}
use Rattle.diff_tree.specs.Container.{does_nothing}
use Rattle.diff_tree.specs.Tree.{text, number, node, list, Rows, no_rows, row, Change, write, inner, rows, batch, Changes, no_changes, skip, change}
use Rattle.doc_model.specs.Trace.{Item, Items, Slots, item, met_branch, met_call, met_component, met_nothing, met_rows, met_slots, met_stream, met_text, no_slots, slot_of}
use Rattle.doc_model.specs.Whole.{slots_tree, whole_places, whole_place, whole_rows, whole_slots}

-- no place is changed
abbrev pub is_empty : Changes → Bool
is_empty no_changes = true
is_empty (skip cs) = is_empty cs
is_empty (change c cs) = false

-- a change inside, unless it is empty
abbrev pub unless_empty : Changes → Option Change
unless_empty cs = if is_empty cs then None else Some (inner cs)

-- a place that changes, or one that does not
abbrev pub option_change : Option Change → Changes → Changes
option_change None cs = skip cs
option_change (Some c) cs = change c cs

-- the rows of a place whose names differ
abbrev pub rows_change : List (List ℕ) → Rows → Rows → Option Change
rows_change st no_rows no_rows = None
rows_change st no_rows (row r rs) = Some (write (list st (row r rs)))
rows_change st (row q qs) no_rows = Some (write (text []))
rows_change st (row q qs) (row r rs) = Some (rows (row r rs))

-- how many entries
abbrev pub slot_count : Slots → ℕ
slot_count no_slots = 0
slot_count (slot_of b st is ss) = suc (slot_count ss)

-- the lean diff between two renderings of a node
abbrev mutual
  pub lean_places : Items → Items → Changes
  lean_places (item i is) (item i' is') = option_change (lean_place i i') (lean_places is is')
  lean_places _ _ = no_changes

  pub lean_place : Item → Item → Option Change
  lean_place (met_text r t) (met_text r' t') = if same_reading r r' then None else Some (write (text t'))
  lean_place met_nothing met_nothing = None
  lean_place (met_branch i st is) (met_branch j st' is') =
      if i == j then unless_empty (lean_places is is') else Some (write (node st' (whole_places is')))
  lean_place (met_rows r st rs) (met_rows r' st' rs') =
      if same_reading r r' then None else rows_change st' (whole_rows rs) (whole_rows rs')
  lean_place (met_call st is) (met_call st' is') = unless_empty (lean_places is is')
  lean_place (met_slots ss) (met_slots ss') =
      if slot_count ss == slot_count ss' then unless_empty (lean_slots ss ss') else Some (write (slots_tree (whole_slots ss')))
  lean_place (met_component n st is) (met_component n' st' is') = if n == n' then None else Some (write (number n'))
  lean_place (met_stream name rs b st new) (met_stream name' rs' b' st' new') =
      if does_nothing b' then None else Some (batch name' b' (whole_rows new'))
  lean_place _ i' = Some (write (whole_place i'))

  pub lean_slots : Slots → Slots → Changes
  lean_slots (slot_of b st is ss) (slot_of b' st' is' ss') =
      option_change (if b == b' then unless_empty (lean_places is is') else Some (write (node st' (whole_places is')))) (lean_slots ss ss')
  lean_slots _ _ = no_changes
