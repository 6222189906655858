-- One planned change, applied.
use Rattle.std.proofs.Common.{◌≡◌, ◌<◌, ◌+◌, ℕ, ◌∷◌, [], ◌∙◌, List, length, get_or, slice_set, sym, ap, subst, refl, arith, true, Option, Some, None, option_map, is_some, map, IfSome, Bool, false, if◌then◌else◌}
use Rattle.diff_tree.specs.Tree.{Tree, node, list, Trees, Rows, all_fit, Change, inner, rows, Changes, merge_change, opened_rows}
use Rattle.client_merge.specs.Held.{held_tree, held_trees, held_rows}
use Rattle.client_merge.specs.Planned.{planned, merged, merged_all, placed}
use Rattle.client_merge.specs.declared.held.HeldNode.{HeldNode}
use Rattle.client_merge.specs.declared.held.HeldRow.{HeldRow}
use Rattle.client_merge.specs.declared.plan.PlaceChange.{PlaceChange, out-PlaceChange}
use Rattle.client_merge.proofs.Changes.{tree_at, tree_set}
use Rattle.client_merge.proofs.Gathered.{Step}
use Rattle.client_merge.proofs.Views.{open_rows, placed-is, trees_set, set_twice, at_place, held_at}
use Rattle.client_merge.proofs.Loops.{Applied, applied_step, applied_on, applied_last}

pub node_merges : (st : List (List ℕ)) (ts : Trees) (o : Option Changes) → merged (node st ts) (option_map inner o) ≡ option_map (node st) (merged_all ts o)
node_merges st ts None = refl
node_merges st ts (Some cs) = refl

pub node_some : (st : List (List ℕ)) (o : Option Trees) → is_some (option_map (node st) o) ≡ true → is_some o ≡ true
node_some st None h = cc
node_some st (Some ts) h = refl

pub set_in : (hs : List HeldNode) (n : ℕ) (b h : HeldNode) → held_trees (slice_set (slice_set hs n b) n h) ≡ tree_set n (held_tree h) (held_trees hs)
set_in hs n b h =
    trees_set (slice_set hs n b) n h ∙ ap (tree_set n (held_tree h)) (trees_set hs n b) ∙ set_twice (held_trees hs) n (held_tree b) (held_tree h)

-- what was taken out is what stood there
pub old_is : (hs : List HeldNode) (n : ℕ) (t : Tree) (h : HeldNode) → tree_at n (held_trees hs) ≡ Some t → h ≡ get_or hs n h → held_tree h ≡ t
old_is hs n t h at is =
    let both : Some (held_tree h) ≡ Some t = sym (held_at hs n h (at_place hs n t at) is) ∙ at in
    cc

pub one_is : (p : PlaceChange) (c : Change) → (placed p).1 ≡ Some c → planned (out-PlaceChange p).change ≡ Some c
one_is p c h = sym (ap (λ q. q.1) (placed-is p)) ∙ h

pub merges_one : (p : PlaceChange) (c : Change) (t u : Tree) → (placed p).1 ≡ Some c → merge_change t c ≡ Some u → merged t (planned (out-PlaceChange p).change) ≡ Some u
merges_one p c t u h m = ap (merged t) (one_is p c h) ∙ m

-- what one step makes of the places
pub applied_one : (ts : Trees) (all : Option Changes) (p : PlaceChange) (rest : List PlaceChange) (hs : List HeldNode) (b old new : HeldNode) → (a : Applied ts all (p ∷ rest) (held_trees hs)) → is_some (merged_all ts all) ≡ true
    → old ≡ get_or hs (out-PlaceChange p).place old → IfSome (merged (held_tree old) (planned (out-PlaceChange p).change)) (λ t. t ≡ held_tree new)
    → Applied ts all rest (held_trees (slice_set (slice_set hs (out-PlaceChange p).place b) (out-PlaceChange p).place new))
applied_one ts all p rest hs b old new a some was made =
    let n : ℕ = (out-PlaceChange p).place in
    let s : Step ts (held_trees hs) (placed p).0 (placed p).1 (map placed rest) a.done = applied_step ts all p rest (held_trees hs) a some in
    let same : (placed p).0 ≡ n = ap (λ q. q.0) (placed-is p) in
    let at : tree_at n (held_trees hs) ≡ Some s.old = subst (λ m. tree_at m (held_trees hs) ≡ Some s.old) same s.at in
    let before : held_tree old ≡ s.old = old_is hs n s.old old at was in
    let m : merged (held_tree old) (planned (out-PlaceChange p).change) ≡ Some s.new
    = ap (λ t. merged t (planned (out-PlaceChange p).change)) before ∙ merges_one p s.one s.old s.new s.is s.merges in
    let after : s.new ≡ held_tree new = subst (λ o. IfSome o (λ t. t ≡ held_tree new)) m made in
    subst (Applied ts all rest) (ap (λ m. tree_set m s.new (held_trees hs)) same ∙ ap (λ t. tree_set n t (held_trees hs)) after ∙ sym (set_in hs n b new))
    (applied_on ts all p rest (held_trees hs) a s)

pub applied_there : (ts : Trees) (all : Option Changes) (p : PlaceChange) (rest : List PlaceChange) (hs : List HeldNode) → Applied ts all (p ∷ rest) (held_trees hs) → is_some (merged_all ts all) ≡ true
    → (out-PlaceChange p).place < length hs
applied_there ts all p rest hs a some =
    let s : Step ts (held_trees hs) (placed p).0 (placed p).1 (map placed rest) a.done = applied_step ts all p rest (held_trees hs) a some in
    subst (λ m. m < length hs) (ap (λ q. q.0) (placed-is p)) (at_place hs (placed p).0 s.old s.at)

pub if_some : {A : Type 0} (o : Option A) (P : A → Type 0) → (is_some o ≡ true → (x : A) → o ≡ Some x → P x) → IfSome o P
if_some None P h = tt
if_some (Some x) P h = h refl x refl

pub node_if : (st : List (List ℕ)) (o : Option Trees) (us : Trees) → IfSome o (λ ts. ts ≡ us) → IfSome (option_map (node st) o) (λ t. t ≡ node st us)
node_if st None us h = tt
node_if st (Some ts) us h = ap (node st) h

pub counted_on : {A : Type 0} (m n : ℕ) (l : List A) (x : A) (rest : List A) → m ≡ length l → l ≡ x ∷ rest → n + 1 ≡ m → n ≡ length rest
counted_on m n l x rest h is step = let long = ap length is in omega arith

pub none_left : {A : Type 0} (m : ℕ) (l : List A) → m ≡ length l → m ≡ 0 → l ≡ []
none_left m [] h z = refl
none_left m (x ∷ l) h z = absurd (omega arith)

pub applied_all : (ts now : Trees) (all : Option Changes) (rest : List PlaceChange) → (is_some (merged_all ts all) ≡ true → Applied ts all rest now) → rest ≡ [] → IfSome (merged_all ts all) (λ us. us ≡ now)
applied_all ts now all rest a none = if_some (merged_all ts all) (λ us. us ≡ now) (λ some us is.
    let both : Some us ≡ Some now = sym is ∙ applied_last ts all now (subst (λ (l : List PlaceChange). Applied ts all l now) none (a some)) in
    cc)

pub some_node : (st : List (List ℕ)) (o : Option Trees) → is_some o ≡ true → is_some (option_map (node st) o) ≡ true
some_node st None h = h
some_node st (Some ts) h = h

-- a list with other rows
pub rows_if : (st : List (List ℕ)) (old : Rows) (rs : List HeldRow) → IfSome (merge_change (list st old) (rows (held_rows rs))) (λ t. t ≡ list st (held_rows rs))
rows_if st old rs = by (all_fit (length st) (held_rows rs))
  where
    by : (b : Bool) → IfSome (if b then Some (list st (opened_rows (held_rows rs))) else None) (λ t. t ≡ list st (held_rows rs))
    by true = ap (list st) (open_rows rs)
    by false = tt
