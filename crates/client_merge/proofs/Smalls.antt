-- Trees of texts, nodes and lists alone, taken and merged by a client of the definitions.
use Rattle.std.proofs.Common.{◌≡◌, ℕ, zero, suc, ◌<◌, ◌^◌, List, [], ◌++◌, length, Option, Some, None, option_map, Bool, true, false, ◌&&◌, if◌then◌else◌, refl, sym, ap, ◌∙◌, subst}
use Rattle.diff_tree.specs.Tree.{Tree, text, number, node, list, stream, held, Trees, no_trees, tree, count, Rows, no_rows, row, all_fit, Change, write, inner, rows, batch, Changes, no_changes, skip, change, option_both, merge_change, merge_changes, opened, opened_all, opened_rows}
use Rattle.diff_tree.specs.Client.{PageTree, among, only_among, numbers_in, numbers_in_all, numbers_in_rows, closed, reached, dropped, judged}
use Rattle.client_merge.specs.Laws.{IsSmall, AreSmall, RowsAreSmall, ChangeIsSmall, ChangesAreSmall}
use Rattle.client_merge.specs.Alike.{IsSmallPage}
use Rattle.client_merge.proofs.Changes.{Holds, count_kept}

mutual
  pub opened_small : (t : Tree) → IsSmall t → opened t ≡ t
  opened_small (text t) h = refl
  opened_small (number n) h = absurd h
  opened_small (node st ts) h = ap (node st) (opened_smalls ts h.1)
  opened_small (list st rs) h = ap (list st) (opened_lists rs h.1)
  opened_small (stream name b st rs) h = absurd h
  opened_small (held name st hs) h = absurd h

  opened_smalls : (ts : Trees) → AreSmall ts → opened_all ts ≡ ts
  opened_smalls no_trees h = refl
  opened_smalls (tree t ts) h = ap (λ u. tree u (opened_all ts)) (opened_small t h.0) ∙ ap (tree t) (opened_smalls ts h.1)

  opened_lists : (rs : Rows) → RowsAreSmall rs → opened_rows rs ≡ rs
  opened_lists no_rows h = refl
  opened_lists (row ts rs) h = ap (λ us. row us (opened_rows rs)) (opened_smalls ts h.0) ∙ ap (row ts) (opened_lists rs h.1)

mutual
  pub no_numbers : (t : Tree) → IsSmall t → numbers_in t ≡ []
  no_numbers (text t) h = refl
  no_numbers (number n) h = absurd h
  no_numbers (node st ts) h = no_numbers_all ts h.1
  no_numbers (list st rs) h = no_numbers_rows rs h.1
  no_numbers (stream name b st rs) h = absurd h
  no_numbers (held name st hs) h = absurd h

  no_numbers_all : (ts : Trees) → AreSmall ts → numbers_in_all ts ≡ []
  no_numbers_all no_trees h = refl
  no_numbers_all (tree t ts) h = ap (λ ns. ns ++ numbers_in_all ts) (no_numbers t h.0) ∙ no_numbers_all ts h.1

  no_numbers_rows : (rs : Rows) → RowsAreSmall rs → numbers_in_rows rs ≡ []
  no_numbers_rows no_rows h = refl
  no_numbers_rows (row ts rs) h = ap (λ ns. ns ++ numbers_in_rows rs) (no_numbers_all ts h.0) ∙ no_numbers_rows rs h.1

-- ---- a page without components is as it was

closed_none : (k : ℕ) (f : ℕ → Option Tree) → closed k f [] ≡ true
closed_none zero f = refl
closed_none (suc k) f = refl

none_if : {A : Type 0} (b : Bool) (o : Option A) → o ≡ None → (if b then o else None) ≡ None
none_if true o h = h
none_if false o h = refl

pub judged_small : (k : ℕ) (p : PageTree) → numbers_in p.root ≡ [] → p.numbers ≡ [] → judged k p ≡ Some (dropped k p)
judged_small k p inside listed =
    ap (λ ns. if closed k p.component ns && closed k p.component p.numbers then Some (dropped k p) else None) inside
    ∙ ap (λ ns. if closed k p.component [] && closed k p.component ns then Some (dropped k p) else None) listed
    ∙ ap (λ b. if b && b then Some (dropped k p) else None) (closed_none k p.component)

pub dropped_small : (k : ℕ) (p : PageTree) → IsSmallPage p → IsSmallPage (dropped k p)
dropped_small k p h =
    let live : List ℕ = reached k p.component (numbers_in p.root) in
    (h.0, ap (only_among live) h.1, λ n. none_if (among n live) (p.component n) (h.2 n))

-- ---- what small changes make of small trees is small

rows_small : (rs : Rows) (t : Tree) → IsSmall t → RowsAreSmall rs → Holds (merge_change t (rows rs)) IsSmall
rows_small rs (text t) h g = tt
rows_small rs (number n) h g = tt
rows_small rs (node st ts) h g = tt
rows_small rs (list st old) h g = by (all_fit (length st) rs) refl
  where
    by : (b : Bool) → all_fit (length st) rs ≡ b → Holds (if b then Some (list st (opened_rows rs)) else None) IsSmall
    by true fits = subst (λ q. IsSmall (list st q)) (sym (opened_lists rs g)) (fits, g)
    by false fits = tt
rows_small rs (stream name b st old) h g = tt
rows_small rs (held name st hs) h g = tt

mutual
  pub merge_small : (c : Change) (t : Tree) → IsSmall t → ChangeIsSmall c → Holds (merge_change t c) IsSmall
  merge_small (write u) t h g = subst IsSmall (sym (opened_small u g)) g
  merge_small (inner cs) (text t) h g = tt
  merge_small (inner cs) (number n) h g = tt
  merge_small (inner cs) (node st ts) h g = by (merge_changes ts cs) (merges_small cs ts h.1 g.1) (count_kept cs ts)
    where
      by : (o : Option Trees) → Holds o AreSmall → Holds o (λ us. count us ≡ count ts) → Holds (option_map (node st) o) IsSmall
      by None s k = tt
      by (Some us) s k = (subst (λ n. n < 2 ^ 64) (sym k) h.0, s)
  merge_small (inner cs) (list st rs) h g = tt
  merge_small (inner cs) (stream name b st rs) h g = tt
  merge_small (inner cs) (held name st hs) h g = tt
  merge_small (rows rs) t h g = rows_small rs t h g
  merge_small (batch name b rs) t h g = absurd g

  merges_small : (cs : Changes) (ts : Trees) → AreSmall ts → ChangesAreSmall cs → Holds (merge_changes ts cs) AreSmall
  merges_small no_changes no_trees h g = tt
  merges_small (skip cs) no_trees h g = tt
  merges_small (change c cs) no_trees h g = tt
  merges_small no_changes (tree t ts) h g = h
  merges_small (skip cs) (tree t ts) h g = by (merge_changes ts cs) (merges_small cs ts h.1 g)
    where
      by : (o : Option Trees) → Holds o AreSmall → Holds (option_map (tree t) o) AreSmall
      by None s = tt
      by (Some us) s = (h.0, s)
  merges_small (change c cs) (tree t ts) h g = by (merge_change t c) (merge_changes ts cs) (merge_small c t h.0 g.0) (merges_small cs ts h.1 g.1)
    where
      by : (a : Option Tree) (o : Option Trees) → Holds a IsSmall → Holds o AreSmall → Holds (option_both tree a o) AreSmall
      by None None r s = tt
      by None (Some us) r s = tt
      by (Some u) None r s = tt
      by (Some u) (Some us) r s = (r, s)
