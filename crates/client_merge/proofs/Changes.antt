-- Changes with one more, merged into trees.
use Rattle.std.proofs.Common.{◌≡◌, ℕ, zero, suc, ◌<◌, ◌≤◌, [], Option, Some, None, option_map, Bool, true, false, ◌&&◌, refl, sym, ap, ◌∙◌, arith, is_some, subst}
use Rattle.diff_tree.specs.Tree.{Tree, text, Trees, no_trees, tree, count, Change, write, inner, rows, batch, Changes, no_changes, skip, change, option_both, merge_change, merge_changes, opened}
use Rattle.diff_tree.specs.Client.{and_then}
use Rattle.client_merge.specs.Reading.{is_free, put_change, trees_of, written}
use Rattle.client_merge.specs.Laws.{reach}
use Rattle.client_merge.specs.Held.{blank_trees}

-- ---- one place

abbrev pub tree_at : ℕ → Trees → Option Tree
tree_at n no_trees = None
tree_at zero (tree t ts) = Some t
tree_at (suc n) (tree t ts) = tree_at n ts

abbrev pub tree_set : ℕ → Tree → Trees → Trees
tree_set n u no_trees = no_trees
tree_set zero u (tree t ts) = tree u ts
tree_set (suc n) u (tree t ts) = tree t (tree_set n u ts)

abbrev pub merge_at : ℕ → Change → Trees → Option Trees
merge_at n c no_trees = None
merge_at zero c (tree t ts) = option_map (λ u. tree u ts) (merge_change t c)
merge_at (suc n) c (tree t ts) = option_map (tree t) (merge_at n c ts)

pub at_out : (n : ℕ) (c : Change) (ts : Trees) → count ts ≤ n → merge_at n c ts ≡ None
at_out zero c no_trees h = refl
at_out (suc n) c no_trees h = refl
at_out zero c (tree t ts) h = absurd (omega arith)
at_out (suc n) c (tree t ts) h = ap (option_map (tree t)) (at_out n c ts (omega arith))

pub at_is : (n : ℕ) (c : Change) (ts : Trees) (t : Tree) → tree_at n ts ≡ Some t → merge_at n c ts ≡ option_map (λ u. tree_set n u ts) (merge_change t c)
at_is zero c no_trees t h = cc
at_is (suc n) c no_trees t h = cc
at_is zero c (tree s ts) t h = by s t h
  where
    by : (s t : Tree) → Some s ≡ Some t → option_map (λ u. tree u ts) (merge_change s c) ≡ option_map (λ u. tree u ts) (merge_change t c)
    by s t h = let e : s ≡ t = cc in ap (λ x. option_map (λ u. tree u ts) (merge_change x c)) e
at_is (suc n) c (tree s ts) t h = ap (option_map (tree s)) (at_is n c ts t h) ∙ over (merge_change t c)
  where
    over : (o : Option Tree) → option_map (tree s) (option_map (λ u. tree_set n u ts) o) ≡ option_map (λ u. tree s (tree_set n u ts)) o
    over None = refl
    over (Some u) = refl

pub at_none : (n : ℕ) (c : Change) (ts : Trees) → tree_at n ts ≡ None → merge_at n c ts ≡ None
at_none zero c no_trees h = refl
at_none (suc n) c no_trees h = refl
at_none zero c (tree t ts) h = cc
at_none (suc n) c (tree t ts) h = ap (option_map (tree t)) (at_none n c ts h)

pub at_some : (n : ℕ) (ts : Trees) → n < count ts → is_some (tree_at n ts) ≡ true
at_some zero no_trees h = absurd (omega arith)
at_some (suc n) no_trees h = absurd (omega arith)
at_some zero (tree t ts) h = refl
at_some (suc n) (tree t ts) h = at_some n ts (omega arith)

-- ---- free places

pub free_none : (n : ℕ) → is_free n no_changes ≡ true
free_none zero = refl
free_none (suc n) = refl

pub free_put : (n m : ℕ) (c : Change) (cs : Changes) → (n ≡ m → ⊥) → is_free n (put_change m c cs) ≡ is_free n cs
free_put zero zero c cs h = absurd (h refl)
free_put zero (suc m) c no_changes h = refl
free_put zero (suc m) c (skip cs) h = refl
free_put zero (suc m) c (change d cs) h = refl
free_put (suc n) zero c no_changes h = free_none n
free_put (suc n) zero c (skip cs) h = refl
free_put (suc n) zero c (change d cs) h = refl
free_put (suc n) (suc m) c no_changes h = free_put n m c no_changes (λ e. h (ap suc e)) ∙ free_none n
free_put (suc n) (suc m) c (skip cs) h = free_put n m c cs (λ e. h (ap suc e))
free_put (suc n) (suc m) c (change d cs) h = free_put n m c cs (λ e. h (ap suc e))

pub free_same : (n : ℕ) (c : Change) (cs : Changes) → is_free n (put_change n c cs) ≡ false
free_same zero c no_changes = refl
free_same zero c (skip cs) = refl
free_same zero c (change d cs) = refl
free_same (suc n) c no_changes = free_same n c no_changes
free_same (suc n) c (skip cs) = free_same n c cs
free_same (suc n) c (change d cs) = free_same n c cs

pub put_swap : (n m : ℕ) (c d : Change) (cs : Changes) → (n ≡ m → ⊥) → put_change n c (put_change m d cs) ≡ put_change m d (put_change n c cs)
put_swap zero zero c d cs h = absurd (h refl)
put_swap zero (suc m) c d no_changes h = refl
put_swap zero (suc m) c d (skip cs) h = refl
put_swap zero (suc m) c d (change e cs) h = refl
put_swap (suc n) zero c d no_changes h = refl
put_swap (suc n) zero c d (skip cs) h = refl
put_swap (suc n) zero c d (change e cs) h = refl
put_swap (suc n) (suc m) c d no_changes h = ap skip (put_swap n m c d no_changes (λ e. h (ap suc e)))
put_swap (suc n) (suc m) c d (skip cs) h = ap skip (put_swap n m c d cs (λ e. h (ap suc e)))
put_swap (suc n) (suc m) c d (change e cs) h = ap (change e) (put_swap n m c d cs (λ q. h (ap suc q)))

-- ---- merged

pub merge_none : (ts : Trees) → merge_changes ts no_changes ≡ Some ts
merge_none no_trees = refl
merge_none (tree t ts) = refl

both_some : (o : Option Tree) (ts : Trees) → option_both tree o (Some ts) ≡ option_map (λ u. tree u ts) o
both_some None ts = refl
both_some (Some u) ts = refl

both_none : (o : Option Tree) → option_both tree o None ≡ None
both_none None = refl
both_none (Some u) = refl

some_both : (t : Tree) (o : Option Trees) → option_both tree (Some t) o ≡ option_map (tree t) o
some_both t None = refl
some_both t (Some us) = refl

-- a change more is merged into what the others made
pub merge_put : (n : ℕ) (c : Change) (cs : Changes) (ts : Trees) → is_free n cs ≡ true → merge_changes ts (put_change n c cs) ≡ and_then (merge_changes ts cs) (merge_at n c)
merge_put zero c no_changes no_trees h = refl
merge_put zero c no_changes (tree t ts) h = ap (option_both tree (merge_change t c)) (merge_none ts) ∙ both_some (merge_change t c) ts
merge_put zero c (skip cs) no_trees h = refl
merge_put zero c (skip cs) (tree t ts) h = by (merge_changes ts cs)
  where
    by : (o : Option Trees) → option_both tree (merge_change t c) o ≡ and_then (option_map (tree t) o) (merge_at zero c)
    by None = both_none (merge_change t c)
    by (Some us) = both_some (merge_change t c) us
merge_put zero c (change d cs) ts h = cc
merge_put (suc n) c no_changes no_trees h = refl
merge_put (suc n) c no_changes (tree t ts) h = ap (option_map (tree t)) (merge_put n c no_changes ts (free_none n) ∙ ap (λ o. and_then o (merge_at n c)) (merge_none ts))
merge_put (suc n) c (skip cs) no_trees h = refl
merge_put (suc n) c (skip cs) (tree t ts) h = ap (option_map (tree t)) (merge_put n c cs ts h) ∙ by (merge_changes ts cs)
  where
    by : (o : Option Trees) → option_map (tree t) (and_then o (merge_at n c)) ≡ and_then (option_map (tree t) o) (merge_at (suc n) c)
    by None = refl
    by (Some us) = refl
merge_put (suc n) c (change d cs) no_trees h = refl
merge_put (suc n) c (change d cs) (tree t ts) h = ap (option_both tree (merge_change t d)) (merge_put n c cs ts h) ∙ by (merge_change t d) (merge_changes ts cs)
  where
    by : (a : Option Tree) (o : Option Trees) → option_both tree a (and_then o (merge_at n c)) ≡ and_then (option_both tree a o) (merge_at (suc n) c)
    by None None = refl
    by None (Some us) = refl
    by (Some u) None = refl
    by (Some u) (Some us) = some_both u (merge_at n c us)

abbrev pub Holds : {A : Type 0} → Option A → (A → Type 0) → Type 0
Holds None P = Unit {0}
Holds (Some x) P = P x

pub holds : {A : Type 0} (o : Option A) (P : A → Type 0) (x : A) → Holds o P → o ≡ Some x → P x
holds None P x h e = cc
holds (Some y) P x h e = let q : y ≡ x = cc in subst P q h

pub count_kept : (cs : Changes) (ts : Trees) → Holds (merge_changes ts cs) (λ us. count us ≡ count ts)
count_kept no_changes no_trees = refl
count_kept (skip cs) no_trees = tt
count_kept (change c cs) no_trees = tt
count_kept no_changes (tree t ts) = refl
count_kept (skip cs) (tree t ts) = by (merge_changes ts cs) (count_kept cs ts)
  where
    by : (o : Option Trees) → Holds o (λ us. count us ≡ count ts) → Holds (option_map (tree t) o) (λ us. count us ≡ suc (count ts))
    by None h = tt
    by (Some us) h = ap suc h
count_kept (change c cs) (tree t ts) = by (merge_change t c) (merge_changes ts cs) (count_kept cs ts)
  where
    by : (a : Option Tree) (o : Option Trees) → Holds o (λ us. count us ≡ count ts) → Holds (option_both tree a o) (λ us. count us ≡ suc (count ts))
    by None None h = tt
    by None (Some us) h = tt
    by (Some u) None h = tt
    by (Some u) (Some us) h = ap suc h

-- a free place stays as it is
pub at_kept : (n : ℕ) (cs : Changes) (ts : Trees) → is_free n cs ≡ true → Holds (merge_changes ts cs) (λ us. tree_at n us ≡ tree_at n ts)
at_kept n no_changes no_trees h = refl
at_kept n (skip cs) no_trees h = tt
at_kept n (change c cs) no_trees h = tt
at_kept n no_changes (tree t ts) h = refl
at_kept zero (skip cs) (tree t ts) h = by (merge_changes ts cs)
  where
    by : (o : Option Trees) → Holds (option_map (tree t) o) (λ us. tree_at zero us ≡ Some t)
    by None = tt
    by (Some us) = refl
at_kept (suc n) (skip cs) (tree t ts) h = by (merge_changes ts cs) (at_kept n cs ts h)
  where
    by : (o : Option Trees) → Holds o (λ us. tree_at n us ≡ tree_at n ts) → Holds (option_map (tree t) o) (λ us. tree_at (suc n) us ≡ tree_at n ts)
    by None g = tt
    by (Some us) g = g
at_kept zero (change c cs) (tree t ts) h = cc
at_kept (suc n) (change c cs) (tree t ts) h = by (merge_change t c) (merge_changes ts cs) (at_kept n cs ts h)
  where
    by : (a : Option Tree) (o : Option Trees) → Holds o (λ us. tree_at n us ≡ tree_at n ts) → Holds (option_both tree a o) (λ us. tree_at (suc n) us ≡ tree_at n ts)
    by None None g = tt
    by None (Some us) g = tt
    by (Some u) None g = tt
    by (Some u) (Some us) g = g

-- ---- how many are written

abbrev pub writes : Changes → ℕ
writes no_changes = 0
writes (skip cs) = writes cs
writes (change c cs) = suc (writes cs)

pub writes_put : (n : ℕ) (c : Change) (cs : Changes) → is_free n cs ≡ true → writes (put_change n c cs) ≡ suc (writes cs)
writes_put zero c no_changes h = refl
writes_put zero c (skip cs) h = refl
writes_put zero c (change d cs) h = cc
writes_put (suc n) c no_changes h = writes_put n c no_changes (free_none n)
writes_put (suc n) c (skip cs) h = writes_put n c cs h
writes_put (suc n) c (change d cs) h = ap suc (writes_put n c cs h)

pub reach_put : (n : ℕ) (c : Change) (cs : Changes) → (reach cs ≤ reach (put_change n c cs)) × (n < reach (put_change n c cs))
reach_put zero c no_changes = (omega arith, omega arith)
reach_put zero c (skip cs) = (omega arith, omega arith)
reach_put zero c (change d cs) = (omega arith, omega arith)
reach_put (suc n) c no_changes = let r = reach_put n c no_changes in (omega (arith, r.0), omega (arith, r.1))
reach_put (suc n) c (skip cs) = let r = reach_put n c cs in (omega (arith, r.0), omega (arith, r.1))
reach_put (suc n) c (change d cs) = let r = reach_put n c cs in (omega (arith, r.0), omega (arith, r.1))

-- each change writes a tree that a client takes as it is
abbrev pub IsOpen : Change → Type 0
IsOpen (write u) = opened u ≡ u
IsOpen _ = ⊥

abbrev pub AllOpen : Changes → Type 0
AllOpen no_changes = Unit {0}
AllOpen (skip cs) = AllOpen cs
AllOpen (change c cs) = IsOpen c × AllOpen cs

pub open_put : (n : ℕ) (c : Change) (cs : Changes) → IsOpen c → AllOpen cs → AllOpen (put_change n c cs)
open_put zero c no_changes h g = (h, tt)
open_put zero c (skip cs) h g = (h, g)
open_put zero c (change d cs) h g = (h, g.1)
open_put (suc n) c no_changes h g = open_put n c no_changes h tt
open_put (suc n) c (skip cs) h g = open_put n c cs h g
open_put (suc n) c (change d cs) h g = (g.0, open_put n c cs h g.1)

-- whether each change writes a tree
abbrev pub all_written : Changes → Bool
all_written no_changes = true
all_written (skip cs) = all_written cs
all_written (change c cs) = is_some (written c) && all_written cs

no_and : (a : Bool) → (a && false) ≡ false
no_and true = refl
no_and false = refl

pub no_more_written : (n : ℕ) (c : Change) (cs : Changes) → is_free n cs ≡ true → all_written cs ≡ false → all_written (put_change n c cs) ≡ false
no_more_written zero c no_changes h g = cc
no_more_written zero c (skip cs) h g = ap (λ b. is_some (written c) && b) g ∙ no_and (is_some (written c))
no_more_written zero c (change d cs) h g = cc
no_more_written (suc n) c no_changes h g = cc
no_more_written (suc n) c (skip cs) h g = no_more_written n c cs h g
no_more_written (suc n) c (change d cs) h g = by (is_some (written d)) g (no_more_written n c cs h)
  where
    by : (b : Bool) → (b && all_written cs) ≡ false → (all_written cs ≡ false → all_written (put_change n c cs) ≡ false) → (b && all_written (put_change n c cs)) ≡ false
    by true g r = r g
    by false g r = refl

pub not_written : (n : ℕ) (c : Change) (cs : Changes) → is_free n cs ≡ true → written c ≡ None → all_written (put_change n c cs) ≡ false
not_written zero c no_changes h g = ap (λ o. is_some o && true) g
not_written zero c (skip cs) h g = ap (λ o. is_some o && all_written cs) g
not_written zero c (change d cs) h g = cc
not_written (suc n) c no_changes h g = not_written n c no_changes (free_none n) g
not_written (suc n) c (skip cs) h g = not_written n c cs h g
not_written (suc n) c (change d cs) h g = ap (λ b. is_some (written d) && b) (not_written n c cs h g) ∙ no_and (is_some (written d))

pub trees_whole : (cs : Changes) → Holds (trees_of cs) (λ ts. (writes cs ≡ reach cs) × (all_written cs ≡ true))
trees_whole no_changes = (refl, refl)
trees_whole (skip cs) = tt
trees_whole (change (write t) cs) = by (trees_of cs) (trees_whole cs)
  where
    by : (o : Option Trees) → Holds o (λ ts. (writes cs ≡ reach cs) × (all_written cs ≡ true)) → Holds (option_map (tree t) o) (λ ts. (suc (writes cs) ≡ suc (reach cs)) × (all_written cs ≡ true))
    by None h = tt
    by (Some ts) h = (ap suc h.0, h.1)
trees_whole (change (inner ds) cs) = tt
trees_whole (change (rows rs) cs) = tt
trees_whole (change (batch name b rs) cs) = tt

pub writes_fit : (cs : Changes) (ts : Trees) → Holds (merge_changes ts cs) (λ us. writes cs ≤ count ts)
writes_fit no_changes no_trees = omega arith
writes_fit (skip cs) no_trees = tt
writes_fit (change c cs) no_trees = tt
writes_fit no_changes (tree t ts) = omega arith
writes_fit (skip cs) (tree t ts) = by (merge_changes ts cs) (writes_fit cs ts)
  where
    by : (o : Option Trees) → Holds o (λ us. writes cs ≤ count ts) → Holds (option_map (tree t) o) (λ us. writes cs ≤ suc (count ts))
    by None h = tt
    by (Some us) h = omega (arith, h)
writes_fit (change c cs) (tree t ts) = by (merge_change t c) (merge_changes ts cs) (writes_fit cs ts)
  where
    by : (a : Option Tree) (o : Option Trees) → Holds o (λ us. writes cs ≤ count ts) → Holds (option_both tree a o) (λ us. suc (writes cs) ≤ suc (count ts))
    by None None h = tt
    by None (Some us) h = tt
    by (Some u) None h = tt
    by (Some u) (Some us) h = omega (arith, h)

pub count_blank : (n : ℕ) → count (blank_trees n) ≡ n
count_blank zero = refl
count_blank (suc n) = ap suc (count_blank n)

-- as many writes as there are blanks fill them all
pub fill : (n : ℕ) (cs : Changes) → AllOpen cs → writes cs ≡ n → Holds (merge_changes (blank_trees n) cs) (λ ts. trees_of cs ≡ Some ts)
fill zero no_changes a w = refl
fill zero (skip cs) a w = tt
fill zero (change c cs) a w = tt
fill (suc n) no_changes a w = absurd (omega arith)
fill (suc n) (skip cs) a w = by (merge_changes (blank_trees n) cs) (writes_fit cs (blank_trees n))
  where
    by : (o : Option Trees) → Holds o (λ us. writes cs ≤ count (blank_trees n)) → Holds (option_map (tree (text [])) o) (λ ts. trees_of (skip cs) ≡ Some ts)
    by None h = tt
    by (Some us) h = absurd (let c = count_blank n in omega (arith, h))
fill (suc n) (change (write u) cs) a w = by (merge_changes (blank_trees n) cs) (fill n cs a.1 (omega arith))
  where
    by : (o : Option Trees) → Holds o (λ ts. trees_of cs ≡ Some ts) → Holds (option_both tree (Some (opened u)) o) (λ ts. option_map (tree u) (trees_of cs) ≡ Some ts)
    by None h = tt
    by (Some us) h = ap (option_map (tree u)) h ∙ ap (λ v. Some (tree v us)) (sym a.0)
fill (suc n) (change (inner ds) cs) a w = absurd a.0
fill (suc n) (change (rows rs) cs) a w = absurd a.0
fill (suc n) (change (batch name b rs) cs) a w = absurd a.0
