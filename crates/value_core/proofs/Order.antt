-- Entries whose keys go on in order.
use Rattle.std.proofs.Common.{◌≡◌, ℕ, suc, ◌+◌, ◌<◌, List, [], ◌∷◌, ◌++◌, length, get_or, drop, map, string_bytes, String, Bool, true, false, ◌&&◌, refl, sym, ap, ◌∙◌, subst, Less, nat_cmp, add-one, drop-cons, append_assoc}
use Rattle.std.specs.Ordering.{is_lt, ordering_reverse}
use Rattle.std.specs.declared.cmp.Ordering.{Ordering}
use Rattle.std.specs.Cmp.{IsTotalOrder}
use Rattle.std.specs.Cmp.Lexicographic.{slice_cmp, nat_list_cmp_total}
use Rattle.std.specs.declared.alloc.Global.{Global}
use Rattle.text_core.specs.declared.by_key.KeyValue.{KeyValue}
use Rattle.text_core.specs.Keyed.{is_before, ascend, keys, Ascending, entry}

pub cons_at : {A : Type 0} (s : List A) (i : ℕ) (x : A) → i < length s → x ≡ get_or s i x → drop i s ≡ x ∷ drop (i + 1) s
cons_at s i x h e = rw (add-one, drop-cons s i x) (ap (λ y. y ∷ drop (suc i) s) (sym e))

pub both_of : (a b : Bool) → (a && b) ≡ true → (a ≡ true) × (b ≡ true)
both_of true true h = (refl, refl)
both_of true false h = cc
both_of false b h = cc

both_to : (a b : Bool) → a ≡ true → b ≡ true → (a && b) ≡ true
both_to a b h k = rw (h, k) refl

before_front : (k : List ℕ) (xs ys : List (List ℕ)) → is_before k (xs ++ ys) ≡ true → is_before k xs ≡ true
before_front k [] ys h = refl
before_front k (x ∷ xs) ys h = h

-- a stretch at the front is in order
pub ascend_front : (xs ys : List (List ℕ)) → ascend (xs ++ ys) ≡ true → ascend xs ≡ true
ascend_front [] ys h = refl
ascend_front (x ∷ xs) ys h =
    let p = both_of (is_before x (xs ++ ys)) (ascend (xs ++ ys)) h in
    both_to _ _ (before_front x xs ys p.0) (ascend_front xs ys p.1)

is_less : (o : Ordering) → is_lt o ≡ true → o ≡ Less
is_less Ordering.Less h = refl
is_less Ordering.Equal h = cc
is_less Ordering.Greater h = cc

-- the first of keys in order is below each that follows
pub first_below : (l : List ℕ) (xs : List (List ℕ)) (k : List ℕ) (rest : List (List ℕ)) → ascend (l ∷ (xs ++ k ∷ rest)) ≡ true → slice_cmp nat_cmp l k ≡ Less
first_below l [] k rest h = is_less _ (both_of (is_before l (k ∷ rest)) (ascend (k ∷ rest)) h).0
first_below l (x ∷ xs) k rest h =
    let p = both_of (is_before l (x ∷ (xs ++ k ∷ rest))) (ascend (x ∷ (xs ++ k ∷ rest))) h in
    nat_list_cmp_total.trans l x k (is_less _ p.0) (first_below x xs k rest p.1)

pub keys-snoc : {T : Type 0} (es : List (KeyValue T)) (e : KeyValue T) → keys (es ++ e ∷ []) ≡ keys es ++ e.key ∷ []
keys-snoc [] e = refl
keys-snoc (x ∷ es) e = ap (λ l. x.key ∷ l) (keys-snoc es e)

snoc_on : (xs : List (List ℕ)) (k : List ℕ) (rest : List (List ℕ)) → (xs ++ k ∷ []) ++ rest ≡ xs ++ k ∷ rest
snoc_on [] k rest = refl
snoc_on (x ∷ xs) k rest = ap (λ l. x ∷ l) (snoc_on xs k rest)

pub goes_on : {T : Type 0} (es : List (KeyValue T)) (k : List ℕ) (v : T) (rest : List (List ℕ)) → ascend (keys es ++ k ∷ rest) ≡ true
    → ascend (keys (es ++ entry k v ∷ []) ++ rest) ≡ true
goes_on es k v rest h = subst (λ l. ascend l ≡ true) (sym (ap (λ l. l ++ rest) (keys-snoc es (entry k v)) ∙ snoc_on (keys es) k rest)) h

pub goes_last : {T : Type 0} (es : List (KeyValue T)) (k : List ℕ) (v : T) (rest : List (List ℕ)) → ascend (keys es ++ k ∷ rest) ≡ true
    → Ascending (es ++ entry k v ∷ [])
goes_last es k v rest h = ascend_front (keys (es ++ entry k v ∷ [])) rest (goes_on es k v rest h)

pub keys_at : {T : Type 0} (es : List (KeyValue T)) (i : ℕ) (e : KeyValue T) → i < length es → e ≡ get_or es i e → keys (drop i es) ≡ e.key ∷ keys (drop (i + 1) es)
keys_at es i e h is = ap keys (cons_at es i e h is)

-- the next entry's key goes on in order
pub next_key : {S T : Type 0} (front : List (KeyValue S)) (es : List (KeyValue T)) (i : ℕ) (e : KeyValue T) (k : List ℕ) → i < length es → e ≡ get_or es i e → k ≡ e.key
    → ascend (keys front ++ keys (drop i es)) ≡ true → ascend (keys front ++ k ∷ keys (drop (i + 1) es)) ≡ true
next_key front es i e k h is same h2 =
    subst (λ l. ascend (keys front ++ l) ≡ true) (keys_at es i e h is ∙ ap (λ l. l ∷ keys (drop (i + 1) es)) (sym same)) h2
