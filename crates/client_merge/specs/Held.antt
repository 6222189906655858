-- What a client holds, as a tree.
use Rattle.std.specs.Prelude.{ℕ, zero, suc, List, [], ◌∷◌, ◌==◌, map, Option, Some, None, if◌then◌else◌}
use Rattle.text_core.specs.declared.by_key.KeyValue.{KeyValue}
use Rattle.serde_json.specs.Data.{Data, object}
use Rattle.diff_tree.specs.Tree.{Tree, text, node, list, Trees, no_trees, tree, count, Rows, no_rows, row, show_value, show_values, show_rows, no_changes}
use Rattle.diff_tree.specs.Client.{and_then}
use Rattle.diff_tree.specs.Parts.{places_json, seen, with_statics, body_members, row_data, rows_data}
use Rattle.diff_tree.specs.declared.part.PartBody.{PartBody}
use Rattle.diff_tree.specs.declared.part.PlaceValue.{PlaceValue}
use Rattle.diff_tree.specs.declared.part.Row.{Row}
use Rattle.client_merge.specs.Reading.{changes_in, trees_of, fitting, listed_rows, listed_row}
use Rattle.client_merge.specs.declared.held.HeldNode.{HeldNode}
use Rattle.client_merge.specs.declared.held.HeldRow.{HeldRow}
use Rattle.client_merge.specs.declared.held.HeldNode.TheOpen.{HeldNode-F, HeldRow-F}
use Rattle.client_merge.specs.declared.held.HeldNode.TheFolds.{fold-HeldNode, fold-HeldRow}

abbrev pub trees_from : List Tree → Trees
trees_from [] = no_trees
trees_from (t ∷ ts) = tree t (trees_from ts)

abbrev pub rows_from : List Trees → Rows
rows_from [] = no_rows
rows_from (ts ∷ rs) = row ts (rows_from rs)

-- one level, with what is inside already seen
abbrev pub held_step : HeldNode-F Tree Trees → Tree
held_step (HeldNode-F.Text t) = text t
held_step (HeldNode-F.Node st ts) = node st (trees_from ts)
held_step (HeldNode-F.List st rs) = list st (rows_from rs)

abbrev pub row_step : HeldRow-F Tree Trees → Trees
row_step r = trees_from r.values

abbrev pub held_tree : HeldNode → Tree
held_tree = fold-HeldNode Tree Trees held_step row_step

abbrev pub held_row : HeldRow → Trees
held_row = fold-HeldRow Tree Trees held_step row_step

abbrev pub held_trees : List HeldNode → Trees
held_trees hs = trees_from (map held_tree hs)

abbrev pub held_rows : List HeldRow → Rows
held_rows rs = rows_from (map held_row rs)

-- what a tree without components shows
abbrev pub page_of : Tree → List ℕ
page_of t = show_value (λ _. []) t

abbrev pub pages_of : Trees → List (List ℕ)
pages_of ts = show_values (λ _. []) ts

-- what each of these rows shows between its statics
abbrev pub row_pages : List (List ℕ) → Rows → List (List ℕ)
row_pages st rs = show_rows (λ _. []) st rs

-- a node that is sent: its statics, where it is whole, and what stands between them
abbrev pub sent_node : Option (List (List ℕ)) → PartBody → Data
sent_node st b = object (with_statics st (body_members b))

-- the trees that are sent for the places of a node that has statics
abbrev pub trees_in : List (KeyValue PlaceValue) → Option Trees
trees_in es = and_then (changes_in (places_json (seen es)) no_changes) trees_of

-- the values of a row that is sent under so many statics
abbrev pub row_sent : ℕ → Row → Option Trees
row_sent n r = and_then (listed_row (row_data r)) (λ ts. if suc (count ts) == n then Some ts else None)

-- the rows that are sent under so many statics
abbrev pub rows_sent : ℕ → List Row → Option Rows
rows_sent n rs = and_then (listed_rows (rows_data rs)) (fitting n)

-- so many empty texts
abbrev pub blank_trees : ℕ → Trees
blank_trees zero = no_trees
blank_trees (suc n) = tree (text []) (blank_trees n)
