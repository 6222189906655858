-- Trees and diffs as JSON values.
use Rattle.std.specs.Prelude.{ℕ, zero, suc, ℤ, pos, negsuc, List, [], ◌∷◌, Option, Some, None, Bool, true, false, codes}
use Rattle.std.specs.Fmt.{decimal}
use Rattle.serde_json.specs.Data.{Data, null, boolean, number as number_of, unsigned, string, array, object, Items, no_items, item, Members, no_members, put}
use Rattle.serde_json.specs.Find.{of_integer}
use Rattle.diff_tree.specs.Container.{Position, at_end, at_index, Limit, no_limit, first_few, last_few, Insert, Batch}
use Rattle.diff_tree.specs.Tree.{Tree, text, number, node, list, stream, held, Trees, no_trees, tree, Rows, no_rows, row, Change, write, inner, rows, batch, Changes, no_changes, skip, change}
use Rattle.diff_tree.specs.Client.{PageTree, PageDiff}

-- a whole number
abbrev pub whole_number_json : ℤ → Data
whole_number_json z = number_of (of_integer z)

-- a list of texts
abbrev pub texts_json : List (List ℕ) → Items
texts_json [] = no_items
texts_json (t ∷ ts) = item (string t) (texts_json ts)

-- -1 for the end
abbrev pub position_json : Position → Data
position_json at_end = whole_number_json (negsuc 0)
position_json (at_index n) = whole_number_json (pos n)

-- a negative limit keeps the last few
abbrev pub limit_json : Limit → Data
limit_json no_limit = null
limit_json (first_few n) = whole_number_json (pos n)
limit_json (last_few zero) = whole_number_json (pos 0)
limit_json (last_few (suc n)) = whole_number_json (negsuc n)

-- each insert is its dom id, its position and its limit
abbrev pub inserts_json : List (Insert (Unit {0})) → Items
inserts_json [] = no_items
inserts_json (i ∷ is) = item (array (item (string i.id) (item (position_json i.position) (item (limit_json i.limit) no_items)))) (inserts_json is)

-- `true` after a reset
abbrev pub reset_json : Bool → Items
reset_json true = item (boolean true) no_items
reset_json false = no_items

-- the name, the inserts, the deletes, and `true` after a reset
abbrev pub batch_json : List ℕ → Batch (Unit {0}) → Data
batch_json name b = array (item (string name) (item (array (inserts_json b.inserts)) (item (array (texts_json b.deletes)) (reset_json b.reset))))

-- the keys of a node are its places' numbers from 0, and `s` for its statics
abbrev mutual
  pub tree_json : Tree → Data
  tree_json (text t) = string t
  tree_json (number n) = number_of (unsigned n)
  tree_json (node st ts) = object (put (codes "s") (array (texts_json st)) (trees_json 0 ts))
  tree_json (list st rs) = object (put (codes "d") (array (rows_json rs)) (put (codes "s") (array (texts_json st)) no_members))
  tree_json (stream name b st rs) = object (put (codes "d") (array (rows_json rs)) (put (codes "s") (array (texts_json st)) (put (codes "stream") (batch_json name b) no_members)))
  -- only a client holds it, and it is not sent
  tree_json (held name st hs) = null

  pub trees_json : ℕ → Trees → Members
  trees_json n no_trees = no_members
  trees_json n (tree t ts) = put (decimal n) (tree_json t) (trees_json (suc n) ts)

  -- a row is the list of its places' values
  pub row_json : Trees → Items
  row_json no_trees = no_items
  row_json (tree t ts) = item (tree_json t) (row_json ts)

  pub rows_json : Rows → Items
  rows_json no_rows = no_items
  rows_json (row ts rs) = item (array (row_json ts)) (rows_json rs)

abbrev mutual
  pub change_json : Change → Data
  change_json (write t) = tree_json t
  change_json (inner cs) = object (changes_json 0 cs)
  change_json (rows rs) = object (put (codes "d") (array (rows_json rs)) no_members)
  change_json (batch name b rs) = object (put (codes "d") (array (rows_json rs)) (put (codes "stream") (batch_json name b) no_members))

  pub changes_json : ℕ → Changes → Members
  changes_json n no_changes = no_members
  changes_json n (skip cs) = changes_json (suc n) cs
  changes_json n (change c cs) = put (decimal n) (change_json c) (changes_json (suc n) cs)

-- a pushed event: its name, and its payload
abbrev pub Pushed : Type 0
Pushed = List ℕ × Data

-- each pushed event is its name and its payload
abbrev pub events_json : List Pushed → Items
events_json [] = no_items
events_json (e ∷ es) = item (array (item (string e.0) (item e.1 no_items))) (events_json es)

-- `e` stands where there are pushed events
abbrev pub with_events : List Pushed → Members → Members
with_events [] ms = ms
with_events (e ∷ es) ms = put (codes "e") (array (events_json (e ∷ es))) ms

-- the trees of components by their numbers
abbrev pub components_json : (ℕ → Option Tree) → List ℕ → Members
components_json f [] = no_members
components_json f (n ∷ ns) = elim (f n) [ None ↦ components_json f ns | Some t ↦ put (decimal n) (tree_json t) (components_json f ns) ]

-- `c` stands where there are components
abbrev pub with_components : Members → Members → Members
with_components no_members ms = ms
with_components cs ms = put (codes "c") (object cs) ms

-- the members of an object
abbrev pub members_of : Data → Members
members_of (object ms) = ms
members_of _ = no_members

-- the whole tree of a page, with pushed events
abbrev pub page_tree_json : PageTree → List Pushed → Data
page_tree_json p es = object (with_events es (with_components (components_json p.component p.numbers) (members_of (tree_json p.root))))

-- the changes of components by their numbers
abbrev pub changed_json : List (ℕ × Change) → Members
changed_json [] = no_members
changed_json (c ∷ cs) = put (decimal c.0) (change_json c.1) (changed_json cs)

-- a diff, with pushed events
abbrev pub page_diff_json : PageDiff → List Pushed → Data
page_diff_json d es = object (with_events es (with_components (changed_json d.components) (changes_json 0 d.root)))
