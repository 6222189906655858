-- Trees and changes of trees, what a tree shows, and what a change makes of it.
use Rattle.std.specs.Prelude.{ℕ, suc, List, [], ◌∷◌, ◌++◌, length, ◌==◌, Option, Some, None, option_map, Bool, true, ◌&&◌, if◌then◌else◌}
use Rattle.std.specs.Str.{bytes_eq}
use Rattle.diff_tree.specs.Container.{Row, Batch, after, contents}

mutual
  pub data Tree : Type 0 where
    text : List ℕ → Tree
    -- a component
    number : ℕ → Tree
    -- the statics, and the values of the places between them
    node : List (List ℕ) → Trees → Tree
    -- the statics of each row, and the rows
    list : List (List ℕ) → Rows → Tree
    -- a stream as it is sent: its name, the operations, the statics, and one row for each insert
    stream : List ℕ → Batch (Unit {0}) → List (List ℕ) → Rows → Tree
    -- a stream as a client holds it
    held : List ℕ → List (List ℕ) → Held → Tree

  pub data Trees : Type 0 where
    no_trees : Trees
    tree : Tree → Trees → Trees

  pub data Rows : Type 0 where
    no_rows : Rows
    row : Trees → Rows → Rows

  pub data Held : Type 0 where
    none_held : Held
    hold : List ℕ → Trees → Held → Held

mutual
  pub data Change : Type 0 where
    write : Tree → Change
    inner : Changes → Change
    rows : Rows → Change
    batch : List ℕ → Batch (Unit {0}) → Rows → Change

  -- place by place
  pub data Changes : Type 0 where
    no_changes : Changes
    skip : Changes → Changes
    change : Change → Changes → Changes

-- texts by turns
abbrev pub weave : List (List ℕ) → List (List ℕ) → List ℕ
weave [] [] = []
weave (s ∷ ss) [] = s
weave [] (x ∷ xs) = x ++ weave [] xs
weave (s ∷ ss) (x ∷ xs) = s ++ (x ++ weave ss xs)

-- texts, one after the other
abbrev pub flat : List (List ℕ) → List ℕ
flat [] = []
flat (x ∷ xs) = x ++ flat xs

-- rows as a list
abbrev pub row_list : Rows → List Trees
row_list no_rows = []
row_list (row ts rs) = ts ∷ row_list rs

-- held rows as a list
abbrev pub held_list : Held → List (Row Trees)
held_list none_held = []
held_list (hold k ts hs) = (k, ts) ∷ held_list hs

-- a list as held rows
abbrev pub held_of : List (Row Trees) → Held
held_of [] = none_held
held_of (r ∷ rs) = hold r.0 r.1 (held_of rs)

-- the page of a tree, where a component shows what `look` says
abbrev mutual
  pub show_value : (ℕ → List ℕ) → Tree → List ℕ
  show_value look (text t) = t
  show_value look (number n) = look n
  show_value look (node st ts) = weave st (show_values look ts)
  show_value look (list st rs) = flat (show_rows look st rs)
  show_value look (stream name b st rs) = flat (contents (after b (show_rows look st rs) []))
  show_value look (held name st hs) = flat (show_held look st hs)

  pub show_values : (ℕ → List ℕ) → Trees → List (List ℕ)
  show_values look no_trees = []
  show_values look (tree t ts) = show_value look t ∷ show_values look ts

  pub show_rows : (ℕ → List ℕ) → List (List ℕ) → Rows → List (List ℕ)
  show_rows look st no_rows = []
  show_rows look st (row ts rs) = weave st (show_values look ts) ∷ show_rows look st rs

  pub show_held : (ℕ → List ℕ) → List (List ℕ) → Held → List (List ℕ)
  show_held look st none_held = []
  show_held look st (hold k ts hs) = weave st (show_values look ts) ∷ show_held look st hs

-- a tree as a client takes it: each batch is applied to the empty list
abbrev mutual
  pub opened : Tree → Tree
  opened (text t) = text t
  opened (number n) = number n
  opened (node st ts) = node st (opened_all ts)
  opened (list st rs) = list st (opened_rows rs)
  opened (stream name b st rs) = held name st (held_of (after b (row_list (opened_rows rs)) []))
  opened (held name st hs) = held name st hs

  pub opened_all : Trees → Trees
  opened_all no_trees = no_trees
  opened_all (tree t ts) = tree (opened t) (opened_all ts)

  pub opened_rows : Rows → Rows
  opened_rows no_rows = no_rows
  opened_rows (row ts rs) = row (opened_all ts) (opened_rows rs)

-- how many values
abbrev pub count : Trees → ℕ
count no_trees = 0
count (tree t ts) = suc (count ts)

-- each row has as many values as there are places
abbrev pub all_fit : ℕ → Rows → Bool
all_fit n no_rows = true
all_fit n (row ts rs) = suc (count ts) == n && all_fit n rs

-- both, or none
abbrev pub option_both : {A B C : Type 0} → (A → B → C) → Option A → Option B → Option C
option_both f (Some a) (Some b) = Some (f a b)
option_both f (Some a) None = None
option_both f None b = None

-- new rows under the statics that are held
abbrev pub merge_rows : List (List ℕ) → Rows → Option Tree
merge_rows st rs = if all_fit (length st) rs then Some (list st (opened_rows rs)) else None

-- the batch applied to the rows that are held
abbrev pub merge_stream : List ℕ → List ℕ → List (List ℕ) → Held → Batch (Unit {0}) → Rows → Option Tree
merge_stream name name' st hs b rs =
    if bytes_eq name name' && all_fit (length st) rs
    then Some (held name st (held_of (after b (row_list (opened_rows rs)) (held_list hs)))) else None

-- a held tree after a change, if the change fits it
abbrev mutual
  pub merge_change : Tree → Change → Option Tree
  merge_change t (write u) = Some (opened u)
  merge_change (node st ts) (inner cs) = option_map (node st) (merge_changes ts cs)
  merge_change (list st old) (rows rs) = merge_rows st rs
  merge_change (held name st hs) (batch name' b rs) = merge_stream name name' st hs b rs
  merge_change _ _ = None

  pub merge_changes : Trees → Changes → Option Trees
  merge_changes no_trees no_changes = Some no_trees
  merge_changes (tree t ts) no_changes = Some (tree t ts)
  merge_changes (tree t ts) (skip cs) = option_map (tree t) (merge_changes ts cs)
  merge_changes (tree t ts) (change c cs) = option_both tree (merge_change t c) (merge_changes ts cs)
  merge_changes _ _ = None
