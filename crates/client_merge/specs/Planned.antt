-- What a planned change of a held tree stands for.
use Rattle.std.specs.Prelude.{ℕ, List, [], ◌∷◌, map, Option, Some, option_map}
use Rattle.diff_tree.specs.Tree.{Tree, Change, write, inner, rows, Changes, no_changes, Trees, merge_change, merge_changes}
use Rattle.diff_tree.specs.Client.{and_then}
use Rattle.client_merge.specs.Reading.{with_change}
use Rattle.client_merge.specs.Held.{held_tree, held_rows}
use Rattle.client_merge.specs.declared.plan.HeldChange.{HeldChange}
use Rattle.client_merge.specs.declared.plan.HeldChange.TheOpen.{HeldChange-F, PlaceChange-F}
use Rattle.client_merge.specs.declared.plan.HeldChange.TheFolds.{fold-HeldChange, fold-PlaceChange}
use Rattle.client_merge.specs.declared.plan.PlaceChange.{PlaceChange}

-- a place's number, and its change if it is one
abbrev pub Placed : Type 0
Placed = ℕ × Option Change

-- changes, and that of one place
abbrev pub added : Placed → Changes → Option Changes
added p cs = and_then p.1 (with_change p.0 cs)

-- changes, and those of these places
abbrev pub gathered : List Placed → Changes → Option Changes
gathered [] cs = Some cs
gathered (p ∷ ps) cs = and_then (added p cs) (gathered ps)

abbrev pub change_step : HeldChange-F (Option Change) Placed → Option Change
change_step (HeldChange-F.Write h) = Some (write (held_tree h))
change_step (HeldChange-F.Inner ps) = option_map inner (gathered ps no_changes)
change_step (HeldChange-F.Rows rs) = Some (rows (held_rows rs))

abbrev pub placed_step : PlaceChange-F (Option Change) Placed → Placed
placed_step p = (p.place, p.change)

abbrev pub planned : HeldChange → Option Change
planned = fold-HeldChange (Option Change) Placed change_step placed_step

abbrev pub placed : PlaceChange → Placed
placed = fold-PlaceChange (Option Change) Placed change_step placed_step

abbrev pub planned_all : List PlaceChange → Option Changes
planned_all ps = gathered (map placed ps) no_changes

-- a tree after a planned change
abbrev pub merged : Tree → Option Change → Option Tree
merged t c = and_then c (merge_change t)

abbrev pub merged_all : Trees → Option Changes → Option Trees
merged_all ts cs = and_then cs (merge_changes ts)
