-- Lists as they are sent, and rows that are taken one by one.
use Rattle.std.proofs.Common.{◌≡◌, ℕ, suc, ◌==◌, List, [], ◌∷◌, ◌++◌, length, map, Option, Some, None, option_map, is_some, Bool, true, false, ◌&&◌, if◌then◌else◌, refl, sym, ap, ◌∙◌}
use Rattle.serde_json.specs.Data.{array}
use Rattle.serde_json.specs.View.{items_of}
use Rattle.diff_tree.specs.Tree.{Tree, list, Trees, no_trees, tree, count, Rows, no_rows, row, all_fit, Change, write, rows, option_both, merge_change, opened_rows}
use Rattle.diff_tree.specs.Client.{and_then}
use Rattle.diff_tree.specs.Spelling.{texts_json}
use Rattle.diff_tree.specs.Parts.{place_data, row_data, rows_data, list_data, values_of}
use Rattle.diff_tree.proofs.Written.{row_data-out}
use Rattle.diff_tree.specs.declared.part.PlaceValue.{PlaceValue}
use Rattle.diff_tree.specs.declared.part.Row.{Row}
use Rattle.diff_tree.specs.declared.stream.StreamPart.{StreamPart}
use Rattle.client_merge.specs.Reading.{fitting, list_change, written, change_of, tree_of, merge_data, listed_rows, listed_row}
use Rattle.client_merge.specs.Held.{held_tree, held_trees, held_row, held_rows, row_sent, rows_sent}
use Rattle.client_merge.specs.declared.held.HeldNode.{HeldNode}
use Rattle.client_merge.specs.declared.held.HeldRow.{HeldRow}
use Rattle.client_merge.proofs.Members.{texts_back}
use Rattle.client_merge.proofs.Views.{count_held}

-- ---- lists

-- a list with statics
pub list_whole : (st : List (List ℕ)) (rs : List Row) → change_of (list_data (Some st) rs None) ≡ option_map (λ q. write (list st q)) (rows_sent (length st) rs)
list_whole st rs = by (listed_rows (rows_data rs))
  where
    by : (o : Option Rows) → and_then (and_then o (λ q. Some q)) (list_change (Some (array (texts_json st)))) ≡ option_map (λ q. write (list st q)) (and_then o (fitting (length st)))
    by None = refl
    by (Some q) = ap (λ (o : Option (List (List ℕ))). and_then o (λ ts. option_map (λ p. write (list ts p)) (fitting (length ts) q))) (texts_back st)

-- as a tree
pub list_tree : (st : List (List ℕ)) (rs : List Row) → tree_of (list_data (Some st) rs None) ≡ option_map (list st) (rows_sent (length st) rs)
list_tree st rs = ap (λ (o : Option Change). and_then o written) (list_whole st rs) ∙ by (rows_sent (length st) rs)
  where
    by : (o : Option Rows) → and_then (option_map (λ q. write (list st q)) o) written ≡ option_map (list st) o
    by None = refl
    by (Some q) = refl

-- a list without statics
pub list_bare : (rs : List Row) → change_of (list_data None rs None) ≡ option_map rows (listed_rows (rows_data rs))
list_bare rs = by (listed_rows (rows_data rs))
  where
    by : (o : Option Rows) → and_then (and_then o (λ q. Some q)) (list_change None) ≡ option_map rows o
    by None = refl
    by (Some q) = refl

-- a stream is no change
pub streamed : (st : Option (List (List ℕ))) (rs : List Row) (s : Option StreamPart) → is_some s ≡ true → change_of (list_data st rs s) ≡ None
streamed st rs None h = cc
streamed None rs (Some s) h = by (listed_rows (rows_data rs))
  where
    by : (o : Option Rows) → and_then (and_then o (λ q. None)) (list_change None) ≡ None
    by None = refl
    by (Some q) = refl
streamed (Some st) rs (Some s) h = by (listed_rows (rows_data rs))
  where
    by : (o : Option Rows) → and_then (and_then o (λ q. None)) (list_change (Some (array (texts_json st)))) ≡ None
    by None = refl
    by (Some q) = refl

-- rows are merged into a list alone, where they fit
pub rows_merge : (st : List (List ℕ)) (old : Rows) (rs : List Row) → merge_data (list st old) (list_data None rs None) ≡ option_map (λ q. list st (opened_rows q)) (rows_sent (length st) rs)
rows_merge st old rs = ap (λ (o : Option Change). and_then o (merge_change (list st old))) (list_bare rs) ∙ by (listed_rows (rows_data rs))
  where
    fits : (q : Rows) (b : Bool) → (if b then Some (list st (opened_rows q)) else None) ≡ option_map (λ p. list st (opened_rows p)) (if b then Some q else None)
    fits q true = refl
    fits q false = refl

    by : (o : Option Rows) → and_then (option_map rows o) (merge_change (list st old)) ≡ option_map (λ q. list st (opened_rows q)) (and_then o (fitting (length st)))
    by None = refl
    by (Some q) = fits q (all_fit (length st) q)

-- rows that fit are those that were sent
pub rows_are : (n : ℕ) (rs : List Row) (q : Rows) → rows_sent n rs ≡ Some q → listed_rows (rows_data rs) ≡ Some q
rows_are n rs q h = by (listed_rows (rows_data rs)) h
  where
    fits : (p : Rows) (b : Bool) → (if b then Some p else None) ≡ Some q → Some p ≡ Some q
    fits p true h = h
    fits p false h = cc

    by : (o : Option Rows) → and_then o (fitting n) ≡ Some q → o ≡ Some q
    by None h = cc
    by (Some p) h = fits p (all_fit n p) h

-- what is no rows merges nowhere
pub bare_only : (rs : List Row) (f : Change → Option Tree) → ((q : Rows) → f (rows q) ≡ None) → and_then (change_of (list_data None rs None)) f ≡ None
bare_only rs f h = ap (λ (o : Option Change). and_then o f) (list_bare rs) ∙ by (listed_rows (rows_data rs))
  where
    by : (o : Option Rows) → and_then (option_map rows o) f ≡ None
    by None = refl
    by (Some q) = h q

-- ---- one row after the other

abbrev pub each : ℕ → List Row → Option Rows
each n [] = Some no_rows
each n (r ∷ rs) = option_both row (row_sent n r) (each n rs)

pub each_is : (n : ℕ) (rs : List Row) → rows_sent n rs ≡ each n rs
each_is n [] = refl
each_is n (r ∷ rs) = by (listed_row (row_data r)) (listed_rows (rows_data rs)) (each_is n rs)
  where
    none : (a : Option Trees) → option_both row a None ≡ None
    none None = refl
    none (Some ts) = refl

    both : (ts : Trees) (q : Rows) (a b : Bool) → (if a && b then Some (row ts q) else None) ≡ option_both row (if a then Some ts else None) (if b then Some q else None)
    both ts q true true = refl
    both ts q true false = refl
    both ts q false b = refl

    by : (a : Option Trees) (o : Option Rows) → and_then o (fitting n) ≡ each n rs
        → and_then (option_both row a o) (fitting n) ≡ option_both row (and_then a (λ ts. if suc (count ts) == n then Some ts else None)) (each n rs)
    by None o h = refl
    by (Some ts) None h = sym (none (if suc (count ts) == n then Some ts else None)) ∙ ap (option_both row (if suc (count ts) == n then Some ts else None)) h
    by (Some ts) (Some q) h = both ts q (suc (count ts) == n) (all_fit n q) ∙ ap (option_both row (if suc (count ts) == n then Some ts else None)) h

-- rows that were taken, in front of others
abbrev pub joined : List HeldRow → Rows → Rows
joined [] q = q
joined (h ∷ hs) q = row (held_row h) (joined hs q)

joined-snoc : (hs : List HeldRow) (h : HeldRow) (q : Rows) → joined (hs ++ h ∷ []) q ≡ joined hs (row (held_row h) q)
joined-snoc [] h q = refl
joined-snoc (g ∷ hs) h q = ap (row (held_row g)) (joined-snoc hs h q)

joined-none : (hs : List HeldRow) → joined hs no_rows ≡ held_rows hs
joined-none [] = refl
joined-none (h ∷ hs) = ap (row (held_row h)) (joined-none hs)

pub row_on : (n : ℕ) (hs : List HeldRow) (h : HeldRow) (r : Row) (rest : List Row) (all : Option Rows) → row_sent n r ≡ Some (held_row h)
    → option_map (joined hs) (each n (r ∷ rest)) ≡ all → option_map (joined (hs ++ h ∷ [])) (each n rest) ≡ all
row_on n hs h r rest all is kept =
    by (each n rest) ∙ ap (λ (o : Option Trees). option_map (joined hs) (option_both row o (each n rest))) (sym is) ∙ kept
  where
    by : (o : Option Rows) → option_map (joined (hs ++ h ∷ [])) o ≡ option_map (joined hs) (option_both row (Some (held_row h)) o)
    by None = refl
    by (Some q) = ap Some (joined-snoc hs h q)

pub row_bad : (n : ℕ) (hs : List HeldRow) (r : Row) (rest : List Row) (all : Option Rows) → row_sent n r ≡ None → option_map (joined hs) (each n (r ∷ rest)) ≡ all → all ≡ None
row_bad n hs r rest all is kept = sym kept ∙ ap (λ (o : Option Trees). option_map (joined hs) (option_both row o (each n rest))) is

pub rows_first : (o : Option Rows) → option_map (joined []) o ≡ o
rows_first None = refl
rows_first (Some q) = refl

pub rows_last : (n : ℕ) (hs : List HeldRow) (all : Option Rows) → option_map (joined hs) (each n []) ≡ all → all ≡ Some (held_rows hs)
rows_last n hs all kept = sym kept ∙ ap Some (joined-none hs)

-- ---- one value after the other

abbrev pub values_sent : List PlaceValue → Option Trees
values_sent vs = listed_row (items_of (map place_data vs))

abbrev pub ahead : List HeldNode → Trees → Trees
ahead [] ts = ts
ahead (h ∷ hs) ts = tree (held_tree h) (ahead hs ts)

ahead-snoc : (hs : List HeldNode) (h : HeldNode) (ts : Trees) → ahead (hs ++ h ∷ []) ts ≡ ahead hs (tree (held_tree h) ts)
ahead-snoc [] h ts = refl
ahead-snoc (g ∷ hs) h ts = ap (tree (held_tree g)) (ahead-snoc hs h ts)

ahead-none : (hs : List HeldNode) → ahead hs no_trees ≡ held_trees hs
ahead-none [] = refl
ahead-none (h ∷ hs) = ap (tree (held_tree h)) (ahead-none hs)

pub value_on : (hs : List HeldNode) (h : HeldNode) (v : PlaceValue) (rest : List PlaceValue) (all : Option Trees) → tree_of (place_data v) ≡ Some (held_tree h)
    → option_map (ahead hs) (values_sent (v ∷ rest)) ≡ all → option_map (ahead (hs ++ h ∷ [])) (values_sent rest) ≡ all
value_on hs h v rest all is kept =
    by (values_sent rest) ∙ ap (λ (o : Option Tree). option_map (ahead hs) (option_both tree o (values_sent rest))) (sym is) ∙ kept
  where
    by : (o : Option Trees) → option_map (ahead (hs ++ h ∷ [])) o ≡ option_map (ahead hs) (option_both tree (Some (held_tree h)) o)
    by None = refl
    by (Some ts) = ap Some (ahead-snoc hs h ts)

pub value_bad : (hs : List HeldNode) (v : PlaceValue) (rest : List PlaceValue) (all : Option Trees) → tree_of (place_data v) ≡ None → option_map (ahead hs) (values_sent (v ∷ rest)) ≡ all → all ≡ None
value_bad hs v rest all is kept = sym kept ∙ ap (λ (o : Option Tree). option_map (ahead hs) (option_both tree o (values_sent rest))) is

pub values_first : (o : Option Trees) → option_map (ahead []) o ≡ o
values_first None = refl
values_first (Some ts) = refl

pub values_last : (hs : List HeldNode) (all : Option Trees) → option_map (ahead hs) (values_sent []) ≡ all → all ≡ Some (held_trees hs)
values_last hs all kept = sym kept ∙ ap Some (ahead-none hs)

-- ---- a row

abbrev placed_between : ℕ → Trees → Option Trees
placed_between n ts = if suc (count ts) == n then Some ts else None

-- a row is what its values are, where they are as many as there are places
pub row_is : (n : ℕ) (r : Row) (vs : List PlaceValue) (hs : List HeldNode) (b : Bool) → vs ≡ values_of r → values_sent vs ≡ Some (held_trees hs) → (suc (length hs) == n) ≡ b
    → row_sent n r ≡ (if b then Some (held_trees hs) else None)
row_is n r vs hs b is sent fits =
    ap (λ d. and_then (listed_row d) (placed_between n)) (row_data-out r)
    ∙ ap (λ l. and_then (values_sent l) (placed_between n)) (sym is)
    ∙ ap (λ (o : Option Trees). and_then o (placed_between n)) sent
    ∙ ap (λ m. if suc m == n then Some (held_trees hs) else None) (count_held hs)
    ∙ ap (λ (c : Bool). if c then Some (held_trees hs) else None) fits
