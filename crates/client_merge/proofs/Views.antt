-- Held trees and planned changes, seen.
use Rattle.std.proofs.Common.{◌≡◌, ℕ, zero, suc, ◌+◌, ◌<◌, List, [], ◌∷◌, ◌++◌, length, map, get_or, slice_set, Option, Some, option_map, refl, sym, ap, ◌∙◌, subst, arith}
use Rattle.diff_tree.specs.Tree.{Tree, text, node, list, Trees, no_trees, tree, count, row, opened, opened_all, opened_rows, Change, write, inner, rows}
use Rattle.client_merge.specs.Held.{trees_from, rows_from, held_step, row_step, held_tree, held_row, held_trees, held_rows, blank_trees}
use Rattle.client_merge.specs.Planned.{Placed, change_step, placed_step, planned, placed, planned_all}
use Rattle.client_merge.specs.declared.held.HeldNode.{HeldNode}
use Rattle.client_merge.specs.declared.held.HeldRow.{HeldRow, out-HeldRow}
use Rattle.client_merge.specs.declared.held.HeldNode.TheOpen.{HeldNode-F, HeldRow-F}
use Rattle.client_merge.specs.declared.held.HeldNode.TheFolds.{ind-HeldNode, map-HeldNode, map-HeldRow, fold-roll-HeldNode, fold-roll-HeldRow, fold_out-HeldRow}
use Rattle.client_merge.specs.declared.held.HeldNode.TheViews.{roll-HeldNode, roll-HeldRow}
use Rattle.client_merge.specs.declared.held.HeldNode.TheViews as node_views
use Rattle.client_merge.specs.declared.held.HeldNode.TheVariants as node_variants
use Rattle.client_merge.specs.declared.held.HeldNode.TheVariants.{rolls-Text, rolls-Node, rolls-List}
use Rattle.client_merge.specs.declared.plan.HeldChange.TheVariants as change_variants
use Rattle.client_merge.specs.declared.plan.HeldChange.TheOpen.{HeldChange-F}
use Rattle.client_merge.specs.declared.plan.HeldChange.TheFolds.{fold-roll-HeldChange, fold_out-PlaceChange}
use Rattle.client_merge.specs.declared.plan.HeldChange.TheViews as change_views
use Rattle.client_merge.specs.declared.plan.HeldChange.TheVariants.{rolls-Write, rolls-Inner, rolls-Rows}
use Rattle.client_merge.specs.declared.plan.PlaceChange.{PlaceChange, out-PlaceChange}
use Rattle.client_merge.proofs.Changes.{tree_at, tree_set}

abbrev OpenAsIs : HeldNode → Type 0
OpenAsIs h = opened (held_tree h) ≡ held_tree h

abbrev RowOpensAsIs : HeldRow → Type 0
RowOpensAsIs r = opened_all (held_row r) ≡ held_row r

abbrev NodeOpen : Type 0
NodeOpen = (h : HeldNode) × OpenAsIs h

abbrev RowOpen : Type 0
RowOpen = (r : HeldRow) × RowOpensAsIs r

opens_all : (hs : List NodeOpen) → opened_all (trees_from (map held_tree (map (λ e. e.0) hs))) ≡ trees_from (map held_tree (map (λ e. e.0) hs))
opens_all [] = refl
opens_all (e ∷ hs) = ap (λ t. tree t (opened_all (trees_from (map held_tree (map (λ e. e.0) hs))))) e.1 ∙ ap (tree (held_tree e.0)) (opens_all hs)

opens_rows : (rs : List RowOpen) → opened_rows (rows_from (map held_row (map (λ e. e.0) rs))) ≡ rows_from (map held_row (map (λ e. e.0) rs))
opens_rows [] = refl
opens_rows (e ∷ rs) = ap (λ ts. row ts (opened_rows (rows_from (map held_row (map (λ e. e.0) rs))))) e.1 ∙ ap (row (held_row e.0)) (opens_rows rs)

layer : (y : HeldNode-F NodeOpen RowOpen) → OpenAsIs (roll-HeldNode (map-HeldNode _ _ HeldNode HeldRow (λ e. e.0) (λ e. e.0) y))
layer (HeldNode-F.Text t) =
    let is = fold-roll-HeldNode Tree Trees held_step row_step (HeldNode-F.Text t) in
    ap opened is ∙ sym is
layer (HeldNode-F.Node st hs) =
    let is = fold-roll-HeldNode Tree Trees held_step row_step (HeldNode-F.Node st (map (λ e. e.0) hs)) in
    ap opened is ∙ ap (node st) (opens_all hs) ∙ sym is
layer (HeldNode-F.List st rs) =
    let is = fold-roll-HeldNode Tree Trees held_step row_step (HeldNode-F.List st (map (λ e. e.0) rs)) in
    ap opened is ∙ ap (list st) (opens_rows rs) ∙ sym is

row_layer : (y : HeldRow-F NodeOpen RowOpen) → RowOpensAsIs (roll-HeldRow (map-HeldRow _ _ HeldNode HeldRow (λ e. e.0) (λ e. e.0) y))
row_layer y =
    let is = fold-roll-HeldRow Tree Trees held_step row_step (map-HeldRow _ _ HeldNode HeldRow (λ e. e.0) (λ e. e.0) y) in
    ap opened_all is ∙ opens_all y.values ∙ sym is

-- a client takes what it holds as it is
pub open_held : (h : HeldNode) → opened (held_tree h) ≡ held_tree h
open_held =
    ind-HeldNode OpenAsIs RowOpensAsIs
    (λ x y is. subst (λ z. OpenAsIs (roll-HeldNode z)) is (layer y))
    (λ x y is. subst (λ z. RowOpensAsIs (roll-HeldRow z)) is (row_layer y))

all_open : (hs : List HeldNode) → opened_all (held_trees hs) ≡ held_trees hs
all_open [] = refl
all_open (h ∷ hs) = ap (λ t. tree t (opened_all (held_trees hs))) (open_held h) ∙ ap (tree (held_tree h)) (all_open hs)

pub row-is : (r : HeldRow) → held_row r ≡ held_trees (out-HeldRow r).values
row-is r = fold_out-HeldRow Tree Trees held_step row_step r

row_opens : (r : HeldRow) → opened_all (held_row r) ≡ held_row r
row_opens r = ap opened_all (row-is r) ∙ all_open (out-HeldRow r).values ∙ sym (row-is r)

-- so it does with rows
pub open_rows : (rs : List HeldRow) → opened_rows (held_rows rs) ≡ held_rows rs
open_rows [] = refl
open_rows (r ∷ rs) = ap (λ ts. row ts (opened_rows (held_rows rs))) (row_opens r) ∙ ap (row (held_row r)) (open_rows rs)

pub count_held : (hs : List HeldNode) → count (held_trees hs) ≡ length hs
count_held [] = refl
count_held (h ∷ hs) = ap suc (count_held hs)

pub held_at : (hs : List HeldNode) (n : ℕ) (h : HeldNode) → n < length hs → h ≡ get_or hs n h → tree_at n (held_trees hs) ≡ Some (held_tree h)
held_at [] n h small is = absurd (omega arith)
held_at (g ∷ hs) zero h small is = ap (λ x. Some (held_tree x)) (sym is)
held_at (g ∷ hs) (suc n) h small is = held_at hs n h (omega arith) is

pub held-Text : (t : List ℕ) → held_tree (node_variants.Text t) ≡ text t
held-Text t = ap held_tree (sym (rolls-Text t)) ∙ fold-roll-HeldNode Tree Trees held_step row_step (HeldNode-F.Text t)

pub held-Node : (st : List (List ℕ)) (hs : List HeldNode) → held_tree (node_views.Node st hs) ≡ node st (held_trees hs)
held-Node st hs = ap held_tree (sym (rolls-Node st hs)) ∙ fold-roll-HeldNode Tree Trees held_step row_step (HeldNode-F.Node st hs)

pub held-List : (st : List (List ℕ)) (rs : List HeldRow) → held_tree (node_views.List st rs) ≡ list st (held_rows rs)
held-List st rs = ap held_tree (sym (rolls-List st rs)) ∙ fold-roll-HeldNode Tree Trees held_step row_step (HeldNode-F.List st rs)

pub planned-Write : (h : HeldNode) → planned (change_variants.Write h) ≡ Some (write (held_tree h))
planned-Write h = ap planned (sym (rolls-Write h)) ∙ fold-roll-HeldChange (Option Change) Placed change_step placed_step (HeldChange-F.Write h)

pub planned-Inner : (ps : List PlaceChange) → planned (change_views.Inner ps) ≡ option_map inner (planned_all ps)
planned-Inner ps = ap planned (sym (rolls-Inner ps)) ∙ fold-roll-HeldChange (Option Change) Placed change_step placed_step (HeldChange-F.Inner ps)

pub planned-Rows : (rs : List HeldRow) → planned (change_variants.Rows rs) ≡ Some (rows (held_rows rs))
planned-Rows rs = ap planned (sym (rolls-Rows rs)) ∙ fold-roll-HeldChange (Option Change) Placed change_step placed_step (HeldChange-F.Rows rs)

pub placed-is : (p : PlaceChange) → placed p ≡ ((out-PlaceChange p).place, planned (out-PlaceChange p).change)
placed-is p = fold_out-PlaceChange (Option Change) Placed change_step placed_step p

pub trees_set : (hs : List HeldNode) (n : ℕ) (h : HeldNode) → held_trees (slice_set hs n h) ≡ tree_set n (held_tree h) (held_trees hs)
trees_set [] zero h = refl
trees_set [] (suc n) h = refl
trees_set (g ∷ hs) zero h = refl
trees_set (g ∷ hs) (suc n) h = ap (tree (held_tree g)) (trees_set hs n h)

pub set_twice : (ts : Trees) (n : ℕ) (t u : Tree) → tree_set n u (tree_set n t ts) ≡ tree_set n u ts
set_twice no_trees zero t u = refl
set_twice no_trees (suc n) t u = refl
set_twice (tree s ts) zero t u = refl
set_twice (tree s ts) (suc n) t u = ap (tree s) (set_twice ts n t u)

-- what stands at a place that is there
pub at_place : (hs : List HeldNode) (n : ℕ) (t : Tree) → tree_at n (held_trees hs) ≡ Some t → n < length hs
at_place [] zero t h = cc
at_place [] (suc n) t h = cc
at_place (g ∷ hs) zero t h = omega arith
at_place (g ∷ hs) (suc n) t h = let r = at_place hs n t h in omega (arith, r)

blanks_on : (n : ℕ) (hs : List HeldNode) (x : HeldNode) → held_trees hs ≡ blank_trees n → held_tree x ≡ text [] → held_trees (hs ++ x ∷ []) ≡ blank_trees (suc n)
blanks_on zero [] x h is = ap (λ t. tree t no_trees) is
blanks_on zero (g ∷ hs) x h is = cc
blanks_on (suc n) [] x h is = cc
blanks_on (suc n) (g ∷ hs) x h is = by (held_tree g) (held_trees hs) h (blanks_on n hs x)
  where
    by : (t : Tree) (ts : Trees) → tree t ts ≡ tree (text []) (blank_trees n) → (held_trees hs ≡ blank_trees n → held_tree x ≡ text [] → held_trees (hs ++ x ∷ []) ≡ blank_trees (suc n))
        → tree (held_tree g) (held_trees (hs ++ x ∷ [])) ≡ tree (text []) (blank_trees (suc n))
    by t ts e rest =
        let first : held_tree g ≡ text [] = ap first_of h in
        let others : held_trees hs ≡ blank_trees n = ap rest_of h in
        ap (λ u. tree u (held_trees (hs ++ x ∷ []))) first ∙ ap (tree (text [])) (rest others is)
      where
        first_of : Trees → Tree
        first_of no_trees = text []
        first_of (tree u us) = u

        rest_of : Trees → Trees
        rest_of no_trees = no_trees
        rest_of (tree u us) = us

pub blank_more : (n : ℕ) (hs : List HeldNode) (x : HeldNode) → held_trees hs ≡ blank_trees n → held_tree x ≡ text [] → held_trees (hs ++ x ∷ []) ≡ blank_trees (n + 1)
blank_more n hs x h is = let e : suc n ≡ n + 1 = omega arith in blanks_on n hs x h is ∙ ap blank_trees e
