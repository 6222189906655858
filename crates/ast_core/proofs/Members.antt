-- The assigns and the variables among names: those that are mentioned, in byte order, none twice.
use Rattle.std.proofs.Common.{◌≡◌, ◌⊎◌, inl, inr, ◌↔◌, ℕ, zero, suc, List, [], ◌∷◌, Contains, IsTrue, Bool, true, ◌&&◌, refl, sym, ap, ◌∙◌, arith, Less, Equal, Greater}
use Rattle.std.specs.Ordering.{is_lt, match_ordering}
use Rattle.std.specs.declared.cmp.Ordering.{Ordering}
use Rattle.std.proofs.lemmas.Map.Lookups.{exact_bytes}
use Rattle.text_core.specs.Keyed.{is_before, ascend}
use Rattle.text_core.proofs.Keyed.{order, both_of}
use Rattle.ast_core.specs.Syntax.{Name, at, var}
use Rattle.ast_core.specs.Reads.{with_name, assigns_in, variables_in}
use Rattle.ast_core.proofs.Ordered.{below}

here : {X : Type 0} (y x : X) (xs : List X) → y ≡ x → Contains (y ∷ xs) x
here y x xs e = (0, omega arith, e)

later : {X : Type 0} (y x : X) (xs : List X) → Contains xs x → Contains (y ∷ xs) x
later y x xs (i, small, e) = (suc i, omega arith, e)

first_or : {X : Type 0} (y x : X) (xs : List X) → Contains (y ∷ xs) x → (y ≡ x) ⊎ Contains xs x
first_or y x xs (zero, small, e) = inl e
first_or y x xs (suc i, small, e) = inr (i, omega arith, e)

none_there : {X Y : Type 0} (x : X) → Contains [] x → Y
none_there x (i, small, e) = absurd (omega arith)

in_with : (k x : List ℕ) (ls : List (List ℕ)) → Contains (with_name k ls) x → (k ≡ x) ⊎ Contains ls x
in_with k x [] h = first_or k x [] h
in_with k x (l ∷ ls) h = by (order k l) h (in_with k x ls)
  where
    by_first : (Contains (with_name k ls) x → (k ≡ x) ⊎ Contains ls x) → (l ≡ x) ⊎ Contains (with_name k ls) x → (k ≡ x) ⊎ Contains (l ∷ ls) x
    by_first rest (inl e) = inr (here l x ls e)
    by_first rest (inr g) = elim (rest g) [ inl e ↦ inl e | inr f ↦ inr (later l x ls f) ]

    by : (o : Ordering) → Contains (match_ordering o (k ∷ l ∷ ls) (l ∷ ls) (l ∷ with_name k ls)) x → (Contains (with_name k ls) x → (k ≡ x) ⊎ Contains ls x) → (k ≡ x) ⊎ Contains (l ∷ ls) x
    by Less g rest = first_or k x (l ∷ ls) g
    by Equal g rest = inr g
    by Greater g rest = by_first rest (first_or l x (with_name k ls) g)

with_in : (k x : List ℕ) (ls : List (List ℕ)) → (k ≡ x) ⊎ Contains ls x → Contains (with_name k ls) x
with_in k x [] (inl e) = here k x [] e
with_in k x [] (inr g) = none_there x g
with_in k x (l ∷ ls) h = by (order k l) refl h (with_in k x ls)
  where
    by_first : ((k ≡ x) ⊎ Contains ls x → Contains (with_name k ls) x) → (l ≡ x) ⊎ Contains ls x → Contains (l ∷ with_name k ls) x
    by_first rest (inl e) = here l x (with_name k ls) e
    by_first rest (inr g) = later l x (with_name k ls) (rest (inr g))

    by : (o : Ordering) → order k l ≡ o → (k ≡ x) ⊎ Contains (l ∷ ls) x → ((k ≡ x) ⊎ Contains ls x → Contains (with_name k ls) x)
        → Contains (match_ordering o (k ∷ l ∷ ls) (l ∷ ls) (l ∷ with_name k ls)) x
    by Less is (inl e) rest = here k x (l ∷ ls) e
    by Less is (inr g) rest = later k x (l ∷ ls) g
    by Equal is (inl e) rest = here l x ls (sym (exact_bytes k l is) ∙ e)
    by Equal is (inr g) rest = g
    by Greater is (inl e) rest = later l x (with_name k ls) (rest (inl e))
    by Greater is (inr g) rest = by_first rest (first_or l x ls g)

assign_there : (k : List ℕ) (ns : List Name) → Contains (assigns_in ns) k → Contains ns (at k)
assign_there k [] h = none_there k h
assign_there k (at a ∷ ns) h = by (in_with a k (assigns_in ns) h) (assign_there k ns)
  where
    by : (a ≡ k) ⊎ Contains (assigns_in ns) k → (Contains (assigns_in ns) k → Contains ns (at k)) → Contains (at a ∷ ns) (at k)
    by (inl e) rest = here (at a) (at k) ns (ap at e)
    by (inr g) rest = later (at a) (at k) ns (rest g)
assign_there k (var v ∷ ns) h = later (var v) (at k) ns (assign_there k ns h)

there_assign : (k : List ℕ) (ns : List Name) → Contains ns (at k) → Contains (assigns_in ns) k
there_assign k [] h = none_there (at k) h
there_assign k (at a ∷ ns) h = by (first_or (at a) (at k) ns h) (there_assign k ns)
  where
    by : (at a ≡ at k) ⊎ Contains ns (at k) → (Contains ns (at k) → Contains (assigns_in ns) k) → Contains (with_name a (assigns_in ns)) k
    by (inl e) rest = let same : a ≡ k = cc in with_in a k (assigns_in ns) (inl same)
    by (inr g) rest = with_in a k (assigns_in ns) (inr (rest g))
there_assign k (var v ∷ ns) h = by (first_or (var v) (at k) ns h) (there_assign k ns)
  where
    by : (var v ≡ at k) ⊎ Contains ns (at k) → (Contains ns (at k) → Contains (assigns_in ns) k) → Contains (assigns_in ns) k
    by (inl e) rest = let no_such : ⊥ = cc in absurd no_such
    by (inr g) rest = rest g

pub exact_assigns : (k : List ℕ) (ns : List Name) → Contains (assigns_in ns) k ↔ Contains ns (at k)
exact_assigns k ns = (assign_there k ns, there_assign k ns)

variable_there : (k : List ℕ) (ns : List Name) → Contains (variables_in ns) k → Contains ns (var k)
variable_there k [] h = none_there k h
variable_there k (at a ∷ ns) h = later (at a) (var k) ns (variable_there k ns h)
variable_there k (var v ∷ ns) h = by (in_with v k (variables_in ns) h) (variable_there k ns)
  where
    by : (v ≡ k) ⊎ Contains (variables_in ns) k → (Contains (variables_in ns) k → Contains ns (var k)) → Contains (var v ∷ ns) (var k)
    by (inl e) rest = here (var v) (var k) ns (ap var e)
    by (inr g) rest = later (var v) (var k) ns (rest g)

there_variable : (k : List ℕ) (ns : List Name) → Contains ns (var k) → Contains (variables_in ns) k
there_variable k [] h = none_there (var k) h
there_variable k (at a ∷ ns) h = by (first_or (at a) (var k) ns h) (there_variable k ns)
  where
    by : (at a ≡ var k) ⊎ Contains ns (var k) → (Contains ns (var k) → Contains (variables_in ns) k) → Contains (variables_in ns) k
    by (inl e) rest = let no_such : ⊥ = cc in absurd no_such
    by (inr g) rest = rest g
there_variable k (var v ∷ ns) h = by (first_or (var v) (var k) ns h) (there_variable k ns)
  where
    by : (var v ≡ var k) ⊎ Contains ns (var k) → (Contains ns (var k) → Contains (variables_in ns) k) → Contains (with_name v (variables_in ns)) k
    by (inl e) rest = let same : v ≡ k = cc in with_in v k (variables_in ns) (inl same)
    by (inr g) rest = with_in v k (variables_in ns) (inr (rest g))

pub exact_variables : (k : List ℕ) (ns : List Name) → Contains (variables_in ns) k ↔ Contains ns (var k)
exact_variables k ns = (variable_there k ns, there_variable k ns)

both_to : (a b : Bool) → a ≡ true → b ≡ true → (a && b) ≡ true
both_to a b h k = rw (h, k) refl

before_with : (l k : List ℕ) (ls : List (List ℕ)) → is_lt (order l k) ≡ true → is_before l ls ≡ true → is_before l (with_name k ls) ≡ true
before_with l k [] h g = h
before_with l k (m ∷ ls) h g = by (order k m)
  where
    by : (o : Ordering) → is_before l (match_ordering o (k ∷ m ∷ ls) (m ∷ ls) (m ∷ with_name k ls)) ≡ true
    by Less = h
    by Equal = g
    by Greater = g

with_ascends : (k : List ℕ) (ls : List (List ℕ)) → ascend ls ≡ true → ascend (with_name k ls) ≡ true
with_ascends k [] h = refl
with_ascends k (l ∷ ls) h = by (order k l) refl (with_ascends k ls p.1)
  where
    p : (is_before l ls ≡ true) × (ascend ls ≡ true)
    p = both_of (is_before l ls) (ascend ls) h

    by : (o : Ordering) → order k l ≡ o → ascend (with_name k ls) ≡ true → ascend (match_ordering o (k ∷ l ∷ ls) (l ∷ ls) (l ∷ with_name k ls)) ≡ true
    by Less is rest = both_to _ _ (ap is_lt is) h
    by Equal is rest = h
    by Greater is rest = both_to _ _ (before_with l k ls (ap is_lt (below k l is)) p.0) rest

pub assigns_ascend : (ns : List Name) → IsTrue (ascend (assigns_in ns))
assigns_ascend [] = refl
assigns_ascend (at a ∷ ns) = with_ascends a (assigns_in ns) (assigns_ascend ns)
assigns_ascend (var v ∷ ns) = assigns_ascend ns

pub variables_ascend : (ns : List Name) → IsTrue (ascend (variables_in ns))
variables_ascend [] = refl
variables_ascend (at a ∷ ns) = variables_ascend ns
variables_ascend (var v ∷ ns) = with_ascends v (variables_in ns) (variables_ascend ns)
