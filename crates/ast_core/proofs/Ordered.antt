-- Names in byte order: where one more goes, and that the order in which they are met does not matter.
use Rattle.std.proofs.Common.{◌≡◌, ℕ, zero, suc, ◌<◌, List, [], ◌∷◌, length, get_or, insert, Bool, true, false, if◌then◌else◌, refl, sym, ap, ◌∙◌, arith, Less, Equal, Greater}
use Rattle.std.specs.Ordering.{match_ordering, ordering_reverse}
use Rattle.std.specs.declared.cmp.Ordering.{Ordering}
use Rattle.std.specs.Cmp.Lexicographic.{nat_list_cmp_total}
use Rattle.std.proofs.lemmas.Map.Lookups.{exact_bytes}
use Rattle.text_core.proofs.Keyed.{order}
use Rattle.ast_core.specs.declared.walk.Walk.{Walk}
use Rattle.ast_core.specs.Syntax.{Name, at, var}
use Rattle.ast_core.specs.Reads.{with_name, assigns_in, variables_in}
use Rattle.ast_core.specs.Free.{one_of}
use Rattle.ast_core.specs.Walk.{start, met}

-- the first n names are below k
abbrev pub Passed : List ℕ → List (List ℕ) → ℕ → Type 0
Passed k ls n = (j : ℕ) (d : List ℕ) → j < n → order k (get_or ls j d) ≡ Greater

pub with_less : (k : List ℕ) (ls : List (List ℕ)) (i : ℕ) (d : List ℕ) → i < length ls → Passed k ls i → order k (get_or ls i d) ≡ Less → with_name k ls ≡ insert ls i k
with_less k [] i d h before less = absurd (omega arith)
with_less k (l ∷ ls) zero d h before less = rw less refl
with_less k (l ∷ ls) (suc i) d h before less =
    rw (before 0 d (omega arith)) (ap (λ m. l ∷ m) (with_less k ls i d (omega arith) (λ j e below. before (suc j) e (omega arith)) less))

pub with_equal : (k : List ℕ) (ls : List (List ℕ)) (i : ℕ) (d : List ℕ) → i < length ls → Passed k ls i → order k (get_or ls i d) ≡ Equal → with_name k ls ≡ ls
with_equal k [] i d h before same = absurd (omega arith)
with_equal k (l ∷ ls) zero d h before same = rw same refl
with_equal k (l ∷ ls) (suc i) d h before same =
    rw (before 0 d (omega arith)) (ap (λ m. l ∷ m) (with_equal k ls i d (omega arith) (λ j e below. before (suc j) e (omega arith)) same))

pub with_end : (k : List ℕ) (ls : List (List ℕ)) → Passed k ls (length ls) → with_name k ls ≡ insert ls (length ls) k
with_end k [] before = refl
with_end k (l ∷ ls) before =
    rw (before 0 l (omega arith)) (ap (λ m. l ∷ m) (with_end k ls (λ j e below. before (suc j) e (omega arith))))

pub below : (k l : List ℕ) → order k l ≡ Greater → order l k ≡ Less
below k l h = nat_list_cmp_total.antisymm l k ∙ ap ordering_reverse h

above : (k l : List ℕ) → order k l ≡ Less → order l k ≡ Greater
above k l h = nat_list_cmp_total.antisymm l k ∙ ap ordering_reverse h

-- two names, the first below the second, in either order
swap_less : (a b : List ℕ) (ls : List (List ℕ)) → order a b ≡ Less → with_name a (with_name b ls) ≡ with_name b (with_name a ls)
swap_less a b [] h = rw (h, above a b h) refl
swap_less a b (l ∷ ls) h = by (order a l) (order b l) refl refl (swap_less a b ls h)
  where
    by : (p q : Ordering) → order a l ≡ p → order b l ≡ q → with_name a (with_name b ls) ≡ with_name b (with_name a ls)
        → with_name a (match_ordering q (b ∷ l ∷ ls) (l ∷ ls) (l ∷ with_name b ls)) ≡ with_name b (match_ordering p (a ∷ l ∷ ls) (l ∷ ls) (l ∷ with_name a ls))
    by Less Less g k rest = rw (h, above a b h, k) refl
    by Less Equal g k rest = rw (g, above a b h, k) refl
    by Less Greater g k rest = rw (g, above a b h, k) refl
    by Equal Less g k rest = let e : order b a ≡ Less = ap (order b) (exact_bytes a l g) ∙ k in let f : order b a ≡ Greater = above a b h in cc
    by Equal Equal g k rest = let e : order b a ≡ Equal = ap (order b) (exact_bytes a l g) ∙ k in let f : order b a ≡ Greater = above a b h in cc
    by Equal Greater g k rest = rw (g, k) refl
    by Greater Less g k rest = let e : order b a ≡ Less = nat_list_cmp_total.trans b l a k (below a l g) in let f : order b a ≡ Greater = above a b h in cc
    by Greater Equal g k rest = let e : order b a ≡ Less = ap (λ m. order m a) (exact_bytes b l k) ∙ below a l g in let f : order b a ≡ Greater = above a b h in cc
    by Greater Greater g k rest = rw (g, k) (ap (λ m. l ∷ m) rest)

swap : (a b : List ℕ) (ls : List (List ℕ)) → with_name a (with_name b ls) ≡ with_name b (with_name a ls)
swap a b ls = by (order a b) refl
  where
    by : (o : Ordering) → order a b ≡ o → with_name a (with_name b ls) ≡ with_name b (with_name a ls)
    by Less h = swap_less a b ls h
    by Equal h = ap (λ m. with_name m (with_name b ls)) (exact_bytes a b h) ∙ ap (λ m. with_name b (with_name m ls)) (sym (exact_bytes a b h))
    by Greater h = sym (swap_less b a ls (below a b h))

-- one more name before others
abbrev with_assign : List ℕ → Walk → Walk
with_assign k w = record w { assigns = with_name k w.assigns }

abbrev with_variable : List ℕ → Walk → Walk
with_variable k w = record w { variables = with_name k w.variables }

assign_first : (k : List ℕ) (ns : List Name) (w : Walk) → (met ns (with_assign k w)).assigns ≡ with_name k (met ns w).assigns
assign_first k [] w = refl
assign_first k (at a ∷ ns) w =
    ap (λ (ls : List (List ℕ)). (met ns (record w { assigns = ls })).assigns) (swap a k w.assigns) ∙ assign_first k ns (with_assign a w)
assign_first k (var v ∷ ns) w = by (one_of v w.bound) (λ u. assign_first k ns u)
  where
    by : (b : Bool) → ((u : Walk) → (met ns (with_assign k u)).assigns ≡ with_name k (met ns u).assigns)
        → (met ns (if b then with_assign k w else with_variable v (with_assign k w))).assigns ≡ with_name k (met ns (if b then w else with_variable v w)).assigns
    by true rest = rest w
    by false rest = rest (with_variable v w)

variable_first : (k : List ℕ) (ns : List Name) (w : Walk) → (met ns (with_variable k w)).variables ≡ with_name k (met ns w).variables
variable_first k [] w = refl
variable_first k (at a ∷ ns) w = variable_first k ns (with_assign a w)
variable_first k (var v ∷ ns) w = by (one_of v w.bound) (λ u. variable_first k ns u)
  where
    by : (b : Bool) → ((u : Walk) → (met ns (with_variable k u)).variables ≡ with_name k (met ns u).variables)
        → (met ns (if b then with_variable k w else with_variable v (with_variable k w))).variables ≡ with_name k (met ns (if b then w else with_variable v w)).variables
    by true rest = rest w
    by false rest = ap (λ (ls : List (List ℕ)). (met ns (record w { variables = ls })).variables) (swap v k w.variables) ∙ rest (with_variable v w)

-- the assigns do not turn on the variables, nor the variables on the assigns
variables_aside : (ns : List Name) (w : Walk) (vs : List (List ℕ)) → (met ns (record w { variables = vs })).assigns ≡ (met ns w).assigns
variables_aside [] w vs = refl
variables_aside (at a ∷ ns) w vs = variables_aside ns (with_assign a w) vs
variables_aside (var v ∷ ns) w vs = by (one_of v w.bound) (λ ls. variables_aside ns w ls)
  where
    by : (b : Bool) → ((ls : List (List ℕ)) → (met ns (record w { variables = ls })).assigns ≡ (met ns w).assigns)
        → (met ns (if b then record w { variables = vs } else record w { variables = with_name v vs })).assigns ≡ (met ns (if b then w else with_variable v w)).assigns
    by true rest = rest vs
    by false rest = rest (with_name v vs) ∙ sym (rest (with_name v w.variables))

assigns_aside : (ns : List Name) (w : Walk) (as' : List (List ℕ)) → (met ns (record w { assigns = as' })).variables ≡ (met ns w).variables
assigns_aside [] w as' = refl
assigns_aside (at a ∷ ns) w as' = assigns_aside ns w (with_name a as') ∙ sym (assigns_aside ns w (with_name a w.assigns))
assigns_aside (var v ∷ ns) w as' = by (one_of v w.bound) (λ u. assigns_aside ns u as')
  where
    by : (b : Bool) → ((u : Walk) → (met ns (record u { assigns = as' })).variables ≡ (met ns u).variables)
        → (met ns (if b then record w { assigns = as' } else record w { assigns = as'; variables = with_name v w.variables })).variables
        ≡ (met ns (if b then w else with_variable v w)).variables
    by true rest = rest w
    by false rest = rest (with_variable v w)

-- a walk from its beginning has met the names, in byte order
pub assigns_met : (ns : List Name) → (met ns start).assigns ≡ assigns_in ns
assigns_met [] = refl
assigns_met (at a ∷ ns) = assign_first a ns start ∙ ap (with_name a) (assigns_met ns)
assigns_met (var v ∷ ns) = variables_aside ns start (v ∷ []) ∙ assigns_met ns

pub variables_met : (ns : List Name) → (met ns start).variables ≡ variables_in ns
variables_met [] = refl
variables_met (at a ∷ ns) = assigns_aside ns start (a ∷ []) ∙ variables_met ns
variables_met (var v ∷ ns) = variable_first v ns start ∙ ap (with_name v) (variables_met ns)
