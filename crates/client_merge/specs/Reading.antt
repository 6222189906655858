-- What a client reads in the JSON of nodes: whole trees, and changes of trees.
use Rattle.std.specs.Prelude.{ℕ, zero, suc, List, [], ◌∷◌, length, Option, Some, None, is_some, option_map, Bool, true, false, if◌then◌else◌, codes}
use Rattle.std.specs.Str.{bytes_eq}
use Rattle.std.specs.Str.Parse.{digits_value}
use Rattle.serde_json.specs.Data.{Data, string, array, object, Items, no_items, item, Members, no_members, member}
use Rattle.serde_json.specs.Find.{get_member}
use Rattle.diff_tree.specs.Tree.{Tree, text, node, list, Trees, no_trees, tree, Rows, no_rows, row, all_fit, Change, write, inner, rows, Changes, no_changes, skip, change, option_both, merge_change}
use Rattle.diff_tree.specs.Client.{and_then}
use Rattle.diff_tree.specs.Grammar.{is_place}

-- the number that the key of a place spells
abbrev pub number_of : List ℕ → ℕ
number_of k = digits_value 10 k

-- whether a place has no change
abbrev pub is_free : ℕ → Changes → Bool
is_free n no_changes = true
is_free zero (skip cs) = true
is_free zero (change d cs) = false
is_free (suc n) (skip cs) = is_free n cs
is_free (suc n) (change d cs) = is_free n cs

-- with this change of one place
abbrev pub put_change : ℕ → Change → Changes → Changes
put_change zero c no_changes = change c no_changes
put_change zero c (skip cs) = change c cs
put_change zero c (change d cs) = change c cs
put_change (suc n) c no_changes = skip (put_change n c no_changes)
put_change (suc n) c (skip cs) = skip (put_change n c cs)
put_change (suc n) c (change d cs) = change d (put_change n c cs)

-- with a change of one place more; none where that place has one already
abbrev pub with_change : ℕ → Changes → Change → Option Changes
with_change n cs c = if is_free n cs then Some (put_change n c cs) else None

-- the trees that are written, where each place from the first on is written whole
abbrev pub trees_of : Changes → Option Trees
trees_of no_changes = Some no_trees
trees_of (change (write t) cs) = option_map (tree t) (trees_of cs)
trees_of _ = None

abbrev pub texts_in : Items → Option (List (List ℕ))
texts_in no_items = Some []
texts_in (item (string t) ds) = option_map (λ ts. t ∷ ts) (texts_in ds)
texts_in (item _ ds) = None

-- the texts of an array
abbrev pub texts_of : Data → Option (List (List ℕ))
texts_of (array ds) = texts_in ds
texts_of _ = None

-- a node is written whole under its statics; without them it changes some of its places
abbrev pub node_change : Option Data → Changes → Option Change
node_change None cs = Some (inner cs)
node_change (Some d) cs = option_both (λ st ts. write (node st ts)) (texts_of d) (trees_of cs)

-- rows, where each has as many values as there are places between so many statics
abbrev pub fitting : ℕ → Rows → Option Rows
fitting n rs = if all_fit n rs then Some rs else None

-- a list is written whole under its statics; without them its rows take the place of those that are held
abbrev pub list_change : Option Data → Rows → Option Change
list_change None rs = Some (rows rs)
list_change (Some d) rs = and_then (texts_of d) (λ st. option_map (λ q. write (list st q)) (fitting (length st) rs))

-- the tree that a change writes
abbrev pub written : Change → Option Tree
written (write t) = Some t
written _ = None

-- the change that a JSON value is: a text, a list of rows under `d`, or an object whose members are `s` or places. There is none for the number of a component, nor for the rows of a stream: these are not held
abbrev mutual
  pub change_of : Data → Option Change
  change_of (string t) = Some (write (text t))
  change_of (object ms) =
      if is_some (get_member (codes "d") ms) then and_then (rows_in ms no_rows) (list_change (get_member (codes "s") ms))
      else and_then (changes_in ms no_changes) (node_change (get_member (codes "s") ms))
  change_of _ = None

  -- changes, and those of the places among members
  pub changes_in : Members → Changes → Option Changes
  changes_in no_members cs = Some cs
  changes_in (member k d ms) cs =
      if bytes_eq k (codes "s") then changes_in ms cs
      else if is_place k then and_then (and_then (change_of d) (with_change (number_of k) cs)) (changes_in ms)
      else None

  -- the rows under `d`, with no member beside it but `s`
  pub rows_in : Members → Rows → Option Rows
  rows_in no_members rs = Some rs
  rows_in (member k d ms) rs =
      if bytes_eq k (codes "s") then rows_in ms rs
      else if bytes_eq k (codes "d") then and_then (rows_of d) (rows_in ms)
      else None

  pub rows_of : Data → Option Rows
  rows_of (array ds) = listed_rows ds
  rows_of _ = None

  pub listed_rows : Items → Option Rows
  listed_rows no_items = Some no_rows
  listed_rows (item d ds) = option_both row (row_of d) (listed_rows ds)

  -- a row is the list of its places' values, each whole
  pub row_of : Data → Option Trees
  row_of (array ds) = listed_row ds
  row_of _ = None

  pub listed_row : Items → Option Trees
  listed_row no_items = Some no_trees
  listed_row (item d ds) = option_both tree (and_then (change_of d) written) (listed_row ds)

-- the tree that a JSON value is
abbrev pub tree_of : Data → Option Tree
tree_of d = and_then (change_of d) written

-- a tree after the change that a JSON value is, where it is one and fits the tree
abbrev pub merge_data : Tree → Data → Option Tree
merge_data t d = and_then (change_of d) (merge_change t)
