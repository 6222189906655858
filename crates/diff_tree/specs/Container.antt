-- A container of rows, and what a batch makes of it, whatever a row's content is.
use Rattle.std.specs.Prelude.{ℕ, zero, suc, ◌-◌, List, [], ◌∷◌, ◌++◌, length, take, drop, Bool, true, false, not, ◌&&◌, if◌then◌else◌}
use Rattle.std.specs.Str.{bytes_eq}

-- where an insert goes
pub data Position : Type 0 where
  at_end : Position
  at_index : ℕ → Position

-- how many rows are kept
pub data Limit : Type 0 where
  no_limit : Limit
  first_few : ℕ → Limit
  last_few : ℕ → Limit

-- a dom id and what stands under it
abbrev pub Row : Type 0 → Type 0
Row X = List ℕ × X

-- one insert of a batch
pub record Insert (X : Type 0) : Type 0 where
  pub id : List ℕ
  pub position : Position
  pub limit : Limit
  pub content : X

-- whether an id is there
abbrev pub has : {X : Type 0} → List ℕ → List (Row X) → Bool
has k [] = false
has k (r ∷ rs) = if bytes_eq k r.0 then true else has k rs

-- with other content under an id, in its place
abbrev pub replaced : {X : Type 0} → List ℕ → X → List (Row X) → List (Row X)
replaced k x [] = []
replaced k x (r ∷ rs) = if bytes_eq k r.0 then (k, x) ∷ rs else r ∷ replaced k x rs

-- without an id
abbrev pub deleted : {X : Type 0} → List ℕ → List (Row X) → List (Row X)
deleted k [] = []
deleted k (r ∷ rs) = if bytes_eq k r.0 then deleted k rs else r ∷ deleted k rs

-- with a row at a position, or at the end where there are fewer
abbrev pub put_at : {X : Type 0} → ℕ → Row X → List (Row X) → List (Row X)
put_at zero r rs = r ∷ rs
put_at (suc n) r [] = r ∷ []
put_at (suc n) r (q ∷ rs) = q ∷ put_at n r rs

-- with a new row
abbrev pub placed : {X : Type 0} → Position → Row X → List (Row X) → List (Row X)
placed at_end r rs = rs ++ r ∷ []
placed (at_index n) r rs = put_at n r rs

-- what a limit keeps
abbrev pub pruned : {X : Type 0} → Limit → List (Row X) → List (Row X)
pruned no_limit rs = rs
pruned (first_few n) rs = take n rs
pruned (last_few n) rs = drop (length rs - n) rs

-- after one insert: an id that is there keeps its place
abbrev pub inserted : {X : Type 0} → Insert X → List (Row X) → List (Row X)
inserted i rs = pruned i.limit (if has i.id rs then replaced i.id i.content rs else placed i.position (i.id, i.content) rs)

-- after deletes, in order
abbrev pub all_deleted : {X : Type 0} → List (List ℕ) → List (Row X) → List (Row X)
all_deleted [] rs = rs
all_deleted (k ∷ ks) rs = all_deleted ks (deleted k rs)

-- after inserts, in order, with pruning after each
abbrev pub all_inserted : {X : Type 0} → List (Insert X) → List (Row X) → List (Row X)
all_inserted [] rs = rs
all_inserted (i ∷ is) rs = all_inserted is (inserted i rs)

-- what happens to a container between two renderings
pub record Batch (X : Type 0) : Type 0 where
  pub reset : Bool
  pub deletes : List (List ℕ)
  pub inserts : List (Insert X)

-- a container after a batch: the reset, the deletes, the inserts
abbrev pub apply_batch : {X : Type 0} → Batch X → List (Row X) → List (Row X)
apply_batch b rs = all_inserted b.inserts (all_deleted b.deletes (if b.reset then [] else rs))

-- whether a list is empty
abbrev pub is_none : {X : Type 0} → List X → Bool
is_none [] = true
is_none (x ∷ xs) = false

-- a batch of operations alone, with contents filled in
abbrev pub all_filled : {X Y : Type 0} → List (Insert Y) → List X → List (Insert X)
all_filled [] xs = []
all_filled (i ∷ is) [] = []
all_filled (i ∷ is) (x ∷ xs) = record { id = i.id; position = i.position; limit = i.limit; content = x } ∷ all_filled is xs

-- the k-th insert has the k-th content
abbrev pub filled : {X Y : Type 0} → Batch Y → List X → Batch X
filled b xs = record { reset = b.reset; deletes = b.deletes; inserts = all_filled b.inserts xs }

-- the container after a batch with these contents
abbrev pub after : {X Y : Type 0} → Batch Y → List X → List (Row X) → List (Row X)
after b xs rs = apply_batch (filled b xs) rs

-- what stands under the ids, in order
abbrev pub contents : {X : Type 0} → List (Row X) → List X
contents [] = []
contents (r ∷ rs) = r.1 ∷ contents rs

-- a batch without reset, deletes and inserts
abbrev pub does_nothing : {X : Type 0} → Batch X → Bool
does_nothing b = not b.reset && (is_none b.deletes && is_none b.inserts)
