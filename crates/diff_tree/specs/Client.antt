-- What a client makes of trees and diffs, and the page that it shows.
use Rattle.std.specs.Prelude.{◌≡◌, ℕ, zero, suc, List, [], ◌∷◌, ◌++◌, ◌==◌, Option, Some, None, Bool, true, false, ◌&&◌, if◌then◌else◌}
use Rattle.diff_tree.specs.Container.{is_none}
use Rattle.diff_tree.specs.Tree.{Tree, text, number, node, list, stream, held, Trees, no_trees, tree, Rows, no_rows, row, Held, none_held, hold, show_value, Change, write, Changes, inner, merge_change, opened}

-- the tree of a page: its root, the numbers of its components, and the tree of each by its number
pub record PageTree : Type 0 where
  pub root : Tree
  pub numbers : List ℕ
  pub component : ℕ → Option Tree

-- a diff of a page: the changes of its root, and those of components by number
pub record PageDiff : Type 0 where
  pub root : Changes
  pub components : List (ℕ × Change)

-- what a client makes of it
abbrev pub changed : Option Tree → Change → Option Tree
changed (Some t) c = merge_change t c
changed None (write u) = Some (opened u)
changed None _ = None

-- with the tree of one number put in
abbrev pub with_component : ℕ → Tree → (ℕ → Option Tree) → ℕ → Option Tree
with_component n t f m = if m == n then Some t else f m

-- the second where the first gives something
abbrev pub and_then : {A B : Type 0} → Option A → (A → Option B) → Option B
and_then None f = None
and_then (Some x) f = f x

-- the trees by number after the changes, in order
abbrev pub merge_components : (ℕ → Option Tree) → List (ℕ × Change) → Option (ℕ → Option Tree)
merge_components f [] = Some f
merge_components f (c ∷ cs) = and_then (changed (f c.0) c.1) (λ t. merge_components (with_component c.0 t f) cs)

-- whether a number is one of these
abbrev pub among : ℕ → List ℕ → Bool
among n [] = false
among n (m ∷ ms) = if n == m then true else among n ms

-- a number that is new comes last
abbrev pub with_number : ℕ → List ℕ → List ℕ
with_number n ns = if among n ns then ns else ns ++ n ∷ []

-- the numbers after the changes
abbrev pub with_numbers : List (ℕ × Change) → List ℕ → List ℕ
with_numbers [] ns = ns
with_numbers (c ∷ cs) ns = with_numbers cs (with_number c.0 ns)

-- the root and the components after a diff, if each change fits
abbrev pub merge_parts : PageTree → PageDiff → Option PageTree
merge_parts p d =
    and_then (merge_change p.root (inner d.root))
    (λ t. and_then (merge_components p.component d.components) (λ f. Some (record { root = t; numbers = with_numbers d.components p.numbers; component = f })))

-- the numbers of components that stand in a tree, rows included
abbrev mutual
  pub numbers_in : Tree → List ℕ
  numbers_in (text t) = []
  numbers_in (number n) = n ∷ []
  numbers_in (node st ts) = numbers_in_all ts
  numbers_in (list st rs) = numbers_in_rows rs
  numbers_in (stream name b st rs) = numbers_in_rows rs
  numbers_in (held name st hs) = numbers_in_held hs

  pub numbers_in_all : Trees → List ℕ
  numbers_in_all no_trees = []
  numbers_in_all (tree t ts) = numbers_in t ++ numbers_in_all ts

  pub numbers_in_rows : Rows → List ℕ
  numbers_in_rows no_rows = []
  numbers_in_rows (row ts rs) = numbers_in_all ts ++ numbers_in_rows rs

  pub numbers_in_held : Held → List ℕ
  numbers_in_held none_held = []
  numbers_in_held (hold k ts hs) = numbers_in_all ts ++ numbers_in_held hs

-- each of these numbers has a tree, and the test holds of it
abbrev pub all_found : (Tree → Bool) → (ℕ → Option Tree) → List ℕ → Bool
all_found p f [] = true
all_found p f (n ∷ ns) = elim (f n) [ None ↦ false | Some t ↦ p t ] && all_found p f ns

-- each of these numbers has a component, and so have the numbers inside it, until after so many levels none is left:
-- no number lacks a component, and no component reaches itself
abbrev pub closed : ℕ → (ℕ → Option Tree) → List ℕ → Bool
closed zero f ns = is_none ns
closed (suc k) f ns = all_found (λ t. closed k f (numbers_in t)) f ns

-- the numbers one level below these
abbrev pub inside : (ℕ → Option Tree) → List ℕ → List ℕ
inside f [] = []
inside f (n ∷ ns) = elim (f n) [ None ↦ [] | Some t ↦ numbers_in t ] ++ inside f ns

-- the numbers that are reached from these within so many levels
abbrev pub reached : ℕ → (ℕ → Option Tree) → List ℕ → List ℕ
reached zero f ns = []
reached (suc k) f ns = ns ++ reached k f (inside f ns)

-- those that are among others
abbrev pub only_among : List ℕ → List ℕ → List ℕ
only_among ms [] = []
only_among ms (n ∷ ns) = if among n ms then n ∷ only_among ms ns else only_among ms ns

-- components that the root does not reach are dropped
abbrev pub dropped : ℕ → PageTree → PageTree
dropped k p =
    let live = reached k p.component (numbers_in p.root) in
    record { root = p.root; numbers = only_among live p.numbers; component = λ n. if among n live then p.component n else None }

-- a page whose numbers are good, without the components that are not reached
abbrev pub judged : ℕ → PageTree → Option PageTree
judged k p = if closed k p.component (numbers_in p.root) && closed k p.component p.numbers then Some (dropped k p) else None

-- what a client makes of its tree and a diff, where components stand at most so many levels deep in one another
abbrev pub merge_diff : ℕ → PageTree → PageDiff → Option PageTree
merge_diff k p d = and_then (merge_parts p d) (judged k)

-- the diff is good for the tree: some number of levels is enough
abbrev pub MergeDefined : PageTree → PageDiff → Type 0
MergeDefined p d = (k : ℕ) × (q : PageTree) × (merge_diff k p d ≡ Some q)

-- a page as a client takes it
abbrev pub opened_tree : PageTree → PageTree
opened_tree p = record { root = opened p.root; numbers = p.numbers; component = λ n. elim (p.component n) [ None ↦ None | Some t ↦ Some (opened t) ] }

-- what a component shows, through so many components
module _ (mark : ℕ → List ℕ → List ℕ) where
  abbrev mutual
    pub look : ℕ → (ℕ → Option Tree) → ℕ → List ℕ
    look zero f n = []
    look (suc k) f n = elim (f n) [ None ↦ [] | Some t ↦ mark n (show_value (look k f) t) ]

  abbrev pub show_tree : ℕ → PageTree → List ℕ
  show_tree k p = show_value (look k p.component) p.root
