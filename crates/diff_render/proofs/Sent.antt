-- Values of places, rows and changes, as they are sent.
use Rattle.std.proofs.Common.{◌≡◌, ◌↔◌, IsTrue, ℕ, suc, List, [], ◌∷◌, ◌++◌, length, map, Option, Some, None, option_map, Bool, true, false, refl, sym, ap, ◌∙◌, subst, append_assoc, true≢false, if◌then◌else◌, Less, Equal, Greater, nat_cmp}
use Rattle.std.specs.Fmt.{decimal}
use Rattle.std.specs.Prelude.{codes}
use Rattle.std.specs.Ordering.{match_ordering}
use Rattle.std.specs.declared.cmp.Ordering.{Ordering}
use Rattle.std.specs.Cmp.Lexicographic.{slice_cmp}
use Rattle.serde_json.specs.Data.{Data, array, object, item, Members, no_members, member, put}
use Rattle.serde_json.specs.View.{items_of}
use Rattle.text_core.specs.declared.by_key.KeyValue.{KeyValue}
use Rattle.diff_tree.specs.Parts.{node_data, part_data, place_data, places_json, rows_items, seen, list_data, with_statics}
use Rattle.diff_tree.specs.Spelling.{change_json, changes_json, row_json, rows_json, texts_json, tree_json, trees_json}
use Rattle.diff_tree.specs.Tree.{Change, Changes, no_changes, skip, change, inner, Rows, no_rows, row, Trees, no_trees, tree, list, node, text, rows, write}
use Rattle.diff_tree.specs.declared.part.Part.{Part}
use Rattle.diff_tree.specs.declared.part.PlaceValue.{PlaceValue}
use Rattle.diff_tree.specs.declared.part.Row.{Row}
use Rattle.diff_tree.specs.declared.part.PlaceValue.TheVariants.{Node, Text}
use Rattle.doc_model.specs.Lean.{is_empty, rows_change, unless_empty}
use Rattle.doc_model.specs.Whole.{rows_tree}
use Rattle.diff_render.specs.Again.{has_rows}
use Rattle.diff_render.specs.Values.{changes_seen, numbered, numbered_changes, option_seen, options_seen, rows_in, rows_seen, trees_seen, values_seen}
use Rattle.diff_render.proofs.Puts.{node_seen, text_seen}

-- values under their numbers are the members of a node
pub numbered_trees : (k : ℕ) (ts : Trees) → numbered k (trees_seen ts) ≡ trees_json k ts
numbered_trees k no_trees = refl
numbered_trees k (tree t ts) = ap (put (decimal k) (tree_json t)) (numbered_trees (suc k) ts)

pub numbered_changed : (k : ℕ) (cs : Changes) → numbered_changes k (changes_seen cs) ≡ changes_json k cs
numbered_changed k no_changes = refl
numbered_changed k (skip cs) = numbered_changed (suc k) cs
numbered_changed k (change c cs) = ap (put (decimal k) (change_json c)) (numbered_changed (suc k) cs)

-- rows
pub row_items_of : (ts : Trees) → items_of (trees_seen ts) ≡ row_json ts
row_items_of no_trees = refl
row_items_of (tree t ts) = ap (item (tree_json t)) (row_items_of ts)

rows_items_of : (rs : Rows) → rows_items (rows_in rs) ≡ rows_json rs
rows_items_of no_rows = refl
rows_items_of (row ts rs) = ap (item (array (row_json ts))) (rows_items_of rs)

-- a node of rows with statics, and one without
pub list_seen : (st : List (List ℕ)) (rs : List Row) (ss : Rows) → rows_seen rs ≡ rows_in ss → list_data (Some st) rs None ≡ tree_json (list st ss)
list_seen st rs ss h = ap (λ l. object (put (codes "d") (array l) (put (codes "s") (array (texts_json st)) no_members))) (ap rows_items h ∙ rows_items_of ss)

pub rows_change_seen : (rs : List Row) (ss : Rows) → rows_seen rs ≡ rows_in ss → list_data None rs None ≡ change_json (rows ss)
rows_change_seen rs ss h = ap (λ l. object (put (codes "d") (array l) no_members)) (ap rows_items h ∙ rows_items_of ss)

-- there are rows where there are rows
pub no_rows_seen : (rs : Rows) → [] ≡ rows_in rs → rs ≡ no_rows
no_rows_seen no_rows h = refl
no_rows_seen (row r rs) h = cc

pub some_rows_seen : (x : List Row) (rs : Rows) → (x ≡ [] → ⊥) → rows_seen x ≡ rows_in rs → has_rows rs ≡ true
some_rows_seen x (row r rs) n h = refl
some_rows_seen [] no_rows n h = absurd (n refl)
some_rows_seen (y ∷ ys) no_rows n h = cc

pub tree_of_rows : (st : List (List ℕ)) (rs : Rows) → has_rows rs ≡ true → rows_tree st rs ≡ list st rs
tree_of_rows st no_rows h = absurd (true≢false (sym h))
tree_of_rows st (row r rs) h = refl

pub change_first : (st : List (List ℕ)) (old rs : Rows) → has_rows old ≡ false → has_rows rs ≡ true → rows_change st old rs ≡ Some (write (list st rs))
change_first st no_rows (row r rs) h k = refl
change_first st no_rows no_rows h k = absurd (true≢false (sym k))
change_first st (row q qs) rs h k = absurd (true≢false h)

pub change_again : (st : List (List ℕ)) (old rs : Rows) → has_rows old ≡ true → has_rows rs ≡ true → rows_change st old rs ≡ Some (rows rs)
change_again st (row q qs) (row r rs) h k = refl
change_again st (row q qs) no_rows h k = absurd (true≢false (sym k))
change_again st no_rows rs h k = absurd (true≢false (sym h))

pub change_gone : (st : List (List ℕ)) (old : Rows) → has_rows old ≡ true → rows_change st old no_rows ≡ Some (write (text []))
change_gone st (row q qs) h = refl
change_gone st no_rows h = absurd (true≢false (sym h))

pub change_none : (st : List (List ℕ)) (old : Rows) → has_rows old ≡ false → rows_change st old no_rows ≡ None
change_none st no_rows h = refl
change_none st (row q qs) h = absurd (true≢false h)

-- an object with a member is not empty
put_some : (k : List ℕ) (d : Data) (ms : Members) → put k d ms ≡ no_members → ⊥
put_some k d no_members h = cc
put_some k d (member l e ms) h = by (slice_cmp nat_cmp k l) h
  where
    by : (o : Ordering) → match_ordering o (member k d (member l e ms)) (member l d ms) (member l e (put k d ms)) ≡ no_members → ⊥
    by Less q = cc
    by Equal q = cc
    by Greater q = cc

pub nothing_empty : (k : ℕ) (cs : Changes) → no_members ≡ changes_json k cs → is_empty cs ≡ true
nothing_empty k no_changes h = refl
nothing_empty k (skip cs) h = nothing_empty (suc k) cs h
nothing_empty k (change c cs) h = absurd (put_some (decimal k) (change_json c) (changes_json (suc k) cs) (sym h))

pub something_not : (k : ℕ) (cs : Changes) (e : KeyValue PlaceValue) (es : List (KeyValue PlaceValue)) → places_json (seen (e ∷ es)) ≡ changes_json k cs → is_empty cs ≡ false
something_not k no_changes e es h = absurd (put_some e.key (place_data e.value) (places_json (seen es)) h)
something_not k (skip cs) e es h = something_not (suc k) cs e es h
something_not k (change c cs) e es h = refl

pub empty_inner : (cs : Changes) → is_empty cs ≡ true → None ≡ option_map change_json (unless_empty cs)
empty_inner cs h = ap (λ b. option_map change_json (if b then None else Some (inner cs))) (sym h)

pub some_inner : (cs : Changes) (p : Part) (es : List (KeyValue PlaceValue)) → is_empty cs ≡ false → part_data p ≡ node_data None es → places_json (seen es) ≡ changes_json 0 cs
    → Some (place_data (Node p)) ≡ option_map change_json (unless_empty cs)
some_inner cs p es h made members =
    ap Some (node_seen p ∙ made ∙ ap object members) ∙ ap (λ b. option_map change_json (if b then None else Some (inner cs))) (sym h)

-- a test that tells of no rows
pub rows_left : {A : Type 0} (b : Bool) (xs : List A) → (IsTrue b ↔ (xs ≡ [])) → b ≡ false → xs ≡ [] → ⊥
rows_left true xs h e k = true≢false e
rows_left false xs h e k = true≢false (sym (h.1 k))
