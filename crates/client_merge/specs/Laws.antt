-- How the JSON of trees and of changes is read.
use Rattle.std.specs.Prelude.{◌≡◌, ◌<◌, ◌^◌, ℕ, suc, length, Some, true}
use Rattle.serde_json.specs.Data.{object}
use Rattle.diff_tree.specs.Tree.{Tree, text, node, list, Trees, no_trees, tree, count, Rows, no_rows, row, all_fit, Change, write, inner, rows, Changes, no_changes, skip, change, merge_changes}
use Rattle.diff_tree.specs.Spelling.{tree_json, changes_json}
use Rattle.client_merge.specs.Reading.{change_of, tree_of}

-- texts, nodes and lists alone, each node of fewer than 2^64 places, and each row of as many values as there are places between its statics
abbrev mutual
  pub IsSmall : Tree → Type 0
  IsSmall (text t) = Unit {0}
  IsSmall (node st ts) = (count ts < 2 ^ 64) × AreSmall ts
  IsSmall (list st rs) = (all_fit (length st) rs ≡ true) × RowsAreSmall rs
  IsSmall _ = ⊥

  pub AreSmall : Trees → Type 0
  AreSmall no_trees = Unit {0}
  AreSmall (tree t ts) = IsSmall t × AreSmall ts

  pub RowsAreSmall : Rows → Type 0
  RowsAreSmall no_rows = Unit {0}
  RowsAreSmall (row ts rs) = AreSmall ts × RowsAreSmall rs

-- how many places changes reach
abbrev pub reach : Changes → ℕ
reach no_changes = 0
reach (skip cs) = suc (reach cs)
reach (change c cs) = suc (reach cs)

abbrev mutual
  pub ChangeIsSmall : Change → Type 0
  ChangeIsSmall (write t) = IsSmall t
  ChangeIsSmall (inner cs) = (reach cs < 2 ^ 64) × ChangesAreSmall cs
  ChangeIsSmall (rows rs) = RowsAreSmall rs
  ChangeIsSmall _ = ⊥

  pub ChangesAreSmall : Changes → Type 0
  ChangesAreSmall no_changes = Unit {0}
  ChangesAreSmall (skip cs) = ChangesAreSmall cs
  ChangesAreSmall (change c cs) = ChangeIsSmall c × ChangesAreSmall cs

-- the JSON of a tree reads as that tree
abbrev pub ReadsTree : Type 0
ReadsTree = (t : Tree) → IsSmall t → tree_of (tree_json t) ≡ Some t

-- the JSON of changes reads as changes that merge as they do
abbrev pub ReadsChanges : Type 0
ReadsChanges = (cs : Changes) → reach cs < 2 ^ 64 → ChangesAreSmall cs
    → (ds : Changes) × (change_of (object (changes_json 0 cs)) ≡ Some (inner ds)) × ((ts us : Trees) → merge_changes ts cs ≡ Some us → merge_changes ts ds ≡ Some us)
