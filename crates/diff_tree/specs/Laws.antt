-- The laws of batches, merges and clients.
use Rattle.std.specs.Prelude.{◌≡◌, ℕ, ◌≤◌, List, [], ◌∷◌, ◌++◌, Option, Some, None, true, false}
use Rattle.diff_tree.specs.Container.{Row, Insert, no_limit, Batch, has, apply_batch}
use Rattle.diff_tree.specs.Tree.{Tree}
use Rattle.diff_tree.specs.Client.{PageTree, PageDiff, among, numbers_in, closed, reached, merge_diff, show_tree}
use Rattle.diff_tree.specs.Frame.{Frame, client_takes_all}

-- no two rows have one id
abbrev pub Apart : {X : Type 0} → List (Row X) → Type 0
Apart [] = Unit {0}
Apart (r ∷ rs) = (has r.0 rs ≡ false) × Apart rs

-- a batch never puts an id twice
abbrev pub BatchKeepsApart : Type 0
BatchKeepsApart = (b : Batch (List ℕ)) (rs : List (Row (List ℕ))) → Apart rs → Apart (apply_batch b rs)

-- inserts come after resets and deletes: what is inserted last, without a limit, is there
abbrev pub InsertsComeLast : Type 0
InsertsComeLast = (b : Batch (List ℕ)) (i : Insert (List ℕ)) (rs : List (Row (List ℕ))) → i.limit ≡ no_limit → has i.id (apply_batch (record b { inserts = b.inserts ++ i ∷ [] }) rs) ≡ true

-- a component is held for each number that the root reaches, and for no other
abbrev pub HoldsReached : ℕ → PageTree → ℕ → Type 0
HoldsReached k q n =
    (among n (reached k q.component (numbers_in q.root)) ≡ true → (t : Tree) × (q.component n ≡ Some t))
    × (among n (reached k q.component (numbers_in q.root)) ≡ false → (q.component n ≡ None) × (among n q.numbers ≡ false))

-- after a merge exactly the components that the root reaches are held, and no component reaches itself
abbrev pub MergeHoldsReached : Type 0
MergeHoldsReached = (k : ℕ) (p q : PageTree) (d : PageDiff) → merge_diff k p d ≡ Some q → (closed k q.component (numbers_in q.root) ≡ true) × ((n : ℕ) → HoldsReached k q n)

-- a merge that is defined with some number of levels gives the same tree with more, and no other with fewer
abbrev pub MergeIgnoresLevels : Type 0
MergeIgnoresLevels = (k l : ℕ) (p q : PageTree) (d : PageDiff) → merge_diff k p d ≡ Some q
    → (k ≤ l → merge_diff l p d ≡ Some q) × ((r : PageTree) → merge_diff l p d ≡ Some r → r ≡ q)

-- what a client makes of frames is the same with more levels
abbrev pub ClientIgnoresLevels : Type 0
ClientIgnoresLevels = (k l : ℕ) (h h' : Option PageTree) (fs : List Frame) → k ≤ l → client_takes_all k h fs ≡ Some h' → client_takes_all l h fs ≡ Some h'

-- and so is the page that a tree shows, where no component is missing
abbrev pub ShowIgnoresLevels : Type 0
ShowIgnoresLevels = (mark : ℕ → List ℕ → List ℕ) (k l : ℕ) (p : PageTree) → k ≤ l → closed k p.component (numbers_in p.root) ≡ true → show_tree mark l p ≡ show_tree mark k p
