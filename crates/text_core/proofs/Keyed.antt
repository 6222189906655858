-- Entries in order of their keys stay in order, and what stands at a key.
use Rattle.std.proofs.Common.{◌≡◌, ℕ, zero, suc, ◌+◌, ◌<◌, List, [], ◌∷◌, length, get_or, set, drop, insert, add-one, drop-cons, eq-eqb, Some, None, Bool, true, false, ◌&&◌, if◌then◌else◌, refl, sym, ap, ◌∙◌, subst, arith, Less, Equal, Greater, nat_cmp, remove}
use Rattle.std.specs.Str.{bytes_eq}
use Rattle.std.specs.Ordering.{is_lt, is_eq, ordering_reverse, match_ordering}
use Rattle.std.specs.declared.cmp.Ordering.{Ordering}
use Rattle.std.specs.Cmp.Lexicographic.{slice_cmp, nat_list_cmp_total}
use Rattle.std.proofs.lemmas.Map.Text.{is_eq-slice_cmp}
use Rattle.std.proofs.lemmas.Map.Lookups.{exact_bytes}
use Rattle.text_core.specs.declared.by_key.KeyValue.{KeyValue}
use Rattle.text_core.specs.Keyed.{is_before, ascend, keys, Ascending, entry, lookup, with_key, without_key, value_at}

abbrev pub order : List ℕ → List ℕ → Ordering
order = slice_cmp nat_cmp

pub both_of : (a b : Bool) → (a && b) ≡ true → (a ≡ true) × (b ≡ true)
both_of true true h = (refl, refl)
both_of true false h = cc
both_of false b h = cc

both_to : (a b : Bool) → a ≡ true → b ≡ true → (a && b) ≡ true
both_to a b h k = rw (h, k) refl

is_less : (o : Ordering) → is_lt o ≡ true → o ≡ Less
is_less Less h = refl
is_less Equal h = cc
is_less Greater h = cc

-- a key below another is below what that is below
pub below_trans : (k l m : List ℕ) → is_lt (order k l) ≡ true → is_lt (order l m) ≡ true → is_lt (order k m) ≡ true
below_trans k l m h g = ap is_lt (nat_list_cmp_total.trans k l m (is_less _ h) (is_less _ g))

turned : (k l : List ℕ) → order k l ≡ Greater → is_lt (order l k) ≡ true
turned k l h = ap is_lt (nat_list_cmp_total.antisymm l k ∙ ap ordering_reverse h)

before_rest : {T : Type 0} (k l : List ℕ) (es : List (KeyValue T)) → is_lt (order k l) ≡ true → is_before l (keys es) ≡ true → is_before k (keys es) ≡ true
before_rest k l [] h g = refl
before_rest k l (e ∷ es) h g = below_trans k l e.key h g

before_with : {T : Type 0} (l k : List ℕ) (v : T) (es : List (KeyValue T)) → is_lt (order l k) ≡ true → is_before l (keys es) ≡ true → is_before l (keys (with_key k v es)) ≡ true
before_with l k v [] h g = h
before_with {T} l k v (e ∷ es) h g = by (order k e.key)
  where
    by : (o : Ordering) → is_before l (keys (match_ordering o (entry k v ∷ e ∷ es) (entry k v ∷ es) (e ∷ with_key k v es))) ≡ true
    by Less = h
    by Equal = h
    by Greater = g

-- entries with one more stay in order
pub with_ascends : {T : Type 0} (k : List ℕ) (v : T) (es : List (KeyValue T)) → Ascending es → Ascending (with_key k v es)
with_ascends k v [] h = refl
with_ascends {T} k v (e ∷ es) h = by (order k e.key) refl (with_ascends k v es p.1)
  where
    p : (is_before e.key (keys es) ≡ true) × (ascend (keys es) ≡ true)
    p = both_of (is_before e.key (keys es)) (ascend (keys es)) h

    by : (o : Ordering) → order k e.key ≡ o → Ascending (with_key k v es)
        → Ascending (match_ordering o (entry k v ∷ e ∷ es) (entry k v ∷ es) (e ∷ with_key k v es))
    by Less is rest = both_to _ _ (ap is_lt is) h
    by Equal is rest = both_to _ _ (subst (λ l. is_before l (keys es) ≡ true) (sym (exact_bytes k e.key is)) p.0) p.1
    by Greater is rest = both_to _ _ (before_with e.key k v es (turned k e.key is) p.0) rest

before_without : {T : Type 0} (l k : List ℕ) (es : List (KeyValue T)) → Ascending es → is_before l (keys es) ≡ true → is_before l (keys (without_key k es)) ≡ true
before_without l k [] h g = refl
before_without {T} l k (e ∷ es) h g = by (bytes_eq k e.key)
  where
    by : (b : Bool) → is_before l (keys (if b then es else e ∷ without_key k es)) ≡ true
    by true = before_rest l e.key es g (both_of (is_before e.key (keys es)) (ascend (keys es)) h).0
    by false = g

-- entries with one less stay in order
pub without_ascends : {T : Type 0} (k : List ℕ) (es : List (KeyValue T)) → Ascending es → Ascending (without_key k es)
without_ascends k [] h = refl
without_ascends {T} k (e ∷ es) h = by (bytes_eq k e.key) (without_ascends k es p.1)
  where
    p : (is_before e.key (keys es) ≡ true) × (ascend (keys es) ≡ true)
    p = both_of (is_before e.key (keys es)) (ascend (keys es)) h

    by : (b : Bool) → Ascending (without_key k es) → Ascending (if b then es else e ∷ without_key k es)
    by true rest = p.1
    by false rest = both_to _ _ (before_without e.key k es p.1 p.0) rest

-- what stands at a place, and behind it
pub cons_at : {A : Type 0} (s : List A) (i : ℕ) (x : A) → i < length s → x ≡ get_or s i x → drop i s ≡ x ∷ drop (i + 1) s
cons_at s i x h e = rw (add-one, drop-cons s i x) (ap (λ y. y ∷ drop (suc i) s) (sym e))

pub lookup_at : {T : Type 0} (k : List ℕ) (es : List (KeyValue T)) (i : ℕ) (e : KeyValue T) (b : Bool) → i < length es → e ≡ get_or es i e → b ≡ bytes_eq k e.key
    → lookup k (drop i es) ≡ (if b then Some e.value else lookup k (drop (i + 1) es))
lookup_at {T} k es i e b h is same = ap (lookup k) (cons_at es i e h is) ∙ ap (λ c. if c then Some e.value else lookup k (drop (i + 1) es)) (sym same)

-- the first n keys are below k
abbrev pub Passed : {T : Type 0} → List ℕ → List (KeyValue T) → ℕ → Type 0
Passed {T} k es n = (j : ℕ) (d : KeyValue T) → j < n → order k (get_or es j d).key ≡ Greater

pub with_less : {T : Type 0} (k : List ℕ) (v : T) (es : List (KeyValue T)) (i : ℕ) (d : KeyValue T) → i < length es → Passed k es i → order k (get_or es i d).key ≡ Less → with_key k v es ≡ insert es i (entry k v)
with_less k v [] i d h before at = absurd (omega arith)
with_less k v (e ∷ es) zero d h before at = rw at refl
with_less k v (e ∷ es) (suc i) d h before at =
    rw (before 0 d (omega arith)) (ap (λ l. e ∷ l) (with_less k v es i d (omega arith) (λ j f below. before (suc j) f (omega arith)) at))

pub with_equal : {T : Type 0} (k : List ℕ) (v : T) (es : List (KeyValue T)) (i : ℕ) (d : KeyValue T) → i < length es → Passed k es i → order k (get_or es i d).key ≡ Equal → with_key k v es ≡ set es i (entry k v)
with_equal k v [] i d h before at = absurd (omega arith)
with_equal k v (e ∷ es) zero d h before at = rw at refl
with_equal k v (e ∷ es) (suc i) d h before at =
    rw (before 0 d (omega arith)) (ap (λ l. e ∷ l) (with_equal k v es i d (omega arith) (λ j f below. before (suc j) f (omega arith)) at))

pub with_end : {T : Type 0} (k : List ℕ) (v : T) (es : List (KeyValue T)) → Passed k es (length es) → with_key k v es ≡ insert es (length es) (entry k v)
with_end k v [] before = refl
with_end k v (e ∷ es) before =
    rw (before 0 e (omega arith)) (ap (λ l. e ∷ l) (with_end k v es (λ j f below. before (suc j) f (omega arith))))

-- none of the first n keys is k
abbrev pub Missed : {T : Type 0} → List ℕ → List (KeyValue T) → ℕ → Type 0
Missed {T} k es n = (j : ℕ) (d : KeyValue T) → j < n → bytes_eq k (get_or es j d).key ≡ false

pub found_at : {T : Type 0} (k : List ℕ) (es : List (KeyValue T)) (i : ℕ) (d : KeyValue T) → i < length es → Missed k es i → bytes_eq k (get_or es i d).key ≡ true
    → (lookup k es ≡ value_at i es) × (without_key k es ≡ remove es i)
found_at k [] i d h before at = absurd (omega arith)
found_at k (e ∷ es) zero d h before at = rw at (refl, refl)
found_at k (e ∷ es) (suc i) d h before at =
    let rest = found_at k es i d (omega arith) (λ j f below. before (suc j) f (omega arith)) at in
    rw (before 0 d (omega arith)) (rest.0, ap (λ l. e ∷ l) rest.1)

pub found_not : {T : Type 0} (k : List ℕ) (es : List (KeyValue T)) → Missed k es (length es) → (lookup k es ≡ None) × (without_key k es ≡ es)
found_not k [] before = (refl, refl)
found_not k (e ∷ es) before =
    let rest = found_not k es (λ j f below. before (suc j) f (omega arith)) in
    rw (before 0 e (omega arith)) (rest.0, ap (λ l. e ∷ l) rest.1)

itself : (k : List ℕ) → bytes_eq k k ≡ true
itself [] = refl
itself (x ∷ xs) = rw (eq-eqb x x refl) (itself xs)

-- a key finds what was set at it
pub lookup_set : {T : Type 0} (k : List ℕ) (v : T) (es : List (KeyValue T)) → lookup k (with_key k v es) ≡ Some v
lookup_set k v [] = rw (itself k) refl
lookup_set {T} k v (e ∷ es) = by (order k e.key) refl (lookup_set k v es)
  where
    by : (o : Ordering) → order k e.key ≡ o → lookup k (with_key k v es) ≡ Some v
        → lookup k (match_ordering o (entry k v ∷ e ∷ es) (entry k v ∷ es) (e ∷ with_key k v es)) ≡ Some v
    by Less is rest = rw (itself k) refl
    by Equal is rest = rw (itself k) refl
    by Greater is rest = let other : bytes_eq k e.key ≡ false = sym (is_eq-slice_cmp k e.key) ∙ ap is_eq is in rw other rest

-- and each other key what it found before
pub lookup_other : {T : Type 0} (l k : List ℕ) (v : T) (es : List (KeyValue T)) → bytes_eq l k ≡ false → lookup l (with_key k v es) ≡ lookup l es
lookup_other l k v [] h = rw h refl
lookup_other {T} l k v (e ∷ es) h = by (order k e.key) refl (lookup_other l k v es h)
  where
    by : (o : Ordering) → order k e.key ≡ o → lookup l (with_key k v es) ≡ lookup l es
        → lookup l (match_ordering o (entry k v ∷ e ∷ es) (entry k v ∷ es) (e ∷ with_key k v es)) ≡ lookup l (e ∷ es)
    by Less is rest = rw h refl
    by Equal is rest = let other : bytes_eq l e.key ≡ false = subst (λ m. bytes_eq l m ≡ false) (exact_bytes k e.key is) h in rw (h, other) refl
    by Greater is rest = ap (λ o. if bytes_eq l e.key then Some e.value else o) rest

pub value_at_is : {T : Type 0} (i : ℕ) (es : List (KeyValue T)) (d : KeyValue T) → i < length es → value_at i es ≡ Some (get_or es i d).value
value_at_is i [] d h = absurd (omega arith)
value_at_is zero (e ∷ es) d h = refl
value_at_is (suc i) (e ∷ es) d h = value_at_is i es d (omega arith)

pub value_at_item : {T : Type 0} (i : ℕ) (es : List (KeyValue T)) (x : KeyValue T) → i < length es → x ≡ get_or es i x → value_at i es ≡ Some x.value
value_at_item {T} i es x h is = value_at_is i es x h ∙ ap (λ (y : KeyValue T). Some y.value) (sym is)
