-- Keys that go on in order, in entries and in members.
use Rattle.std.proofs.Common.{◌≡◌, ℕ, suc, ◌+◌, ◌<◌, List, [], ◌∷◌, ◌++◌, length, get_or, drop, map, Bool, true, false, ◌&&◌, refl, sym, ap, ◌∙◌, subst, Ordering, Less, Equal, Greater, nat_cmp, add-one, drop-cons, None}
use Rattle.std.specs.Ordering.{is_lt, is_eq, ordering_reverse}
use Rattle.std.specs.Str.{bytes_eq}
use Rattle.std.specs.Cmp.Lexicographic.{slice_cmp, nat_list_cmp_total}
use Rattle.std.proofs.lemmas.Map.Text.{is_eq-slice_cmp}
use Rattle.serde_json.specs.Data.{Data, Members, no_members, member, put}
use Rattle.serde_json.specs.Find.{get_member}
use Rattle.text_core.specs.declared.by_key.KeyValue.{KeyValue}
use Rattle.text_core.specs.Keyed.{is_before, ascend, keys, Ascending, entry, on_value}
use Rattle.text_core.proofs.Keyed.{order, both_of, below_trans}
use Rattle.diff_tree.specs.Plain.{names}

pub both_to : (a b : Bool) → a ≡ true → b ≡ true → (a && b) ≡ true
both_to a b h k = rw (h, k) refl

pub cons_at : {A : Type 0} (s : List A) (i : ℕ) (x : A) → i < length s → x ≡ get_or s i x → drop i s ≡ x ∷ drop (i + 1) s
cons_at s i x h e = rw (add-one, drop-cons s i x) (ap (λ y. y ∷ drop (suc i) s) (sym e))

pub is_less : (o : Ordering) → is_lt o ≡ true → o ≡ Less
is_less Less h = refl
is_less Equal h = cc
is_less Greater h = cc

pub before_rest : (k l : List ℕ) (ls : List (List ℕ)) → is_lt (order k l) ≡ true → is_before l ls ≡ true → is_before k ls ≡ true
before_rest k l [] h g = refl
before_rest k l (m ∷ ls) h g = below_trans k l m h g

before_front : (k : List ℕ) (xs ys : List (List ℕ)) → is_before k (xs ++ ys) ≡ true → is_before k xs ≡ true
before_front k [] ys h = refl
before_front k (x ∷ xs) ys h = h

-- a stretch at the front is in order
pub ascend_front : (xs ys : List (List ℕ)) → ascend (xs ++ ys) ≡ true → ascend xs ≡ true
ascend_front [] ys h = refl
ascend_front (x ∷ xs) ys h =
    let p = both_of (is_before x (xs ++ ys)) (ascend (xs ++ ys)) h in
    both_to _ _ (before_front x xs ys p.0) (ascend_front xs ys p.1)

-- keys stay in order where one is left out
pub ascend_without : (xs : List (List ℕ)) (k : List ℕ) (ys : List (List ℕ)) → ascend (xs ++ k ∷ ys) ≡ true → ascend (xs ++ ys) ≡ true
ascend_without [] k ys h = (both_of (is_before k ys) (ascend ys) h).1
ascend_without (x ∷ []) k ys h =
    let p = both_of (is_before x (k ∷ ys)) (ascend (k ∷ ys)) h in
    let q = both_of (is_before k ys) (ascend ys) p.1 in
    both_to _ _ (before_rest x k ys p.0 q.0) q.1
ascend_without (x ∷ y ∷ xs) k ys h =
    let p = both_of (is_before x (y ∷ (xs ++ k ∷ ys))) (ascend (y ∷ (xs ++ k ∷ ys))) h in
    both_to _ _ p.0 (ascend_without (y ∷ xs) k ys p.1)

-- the first of keys in order is below each that follows
pub first_below : (l : List ℕ) (xs : List (List ℕ)) (k : List ℕ) (rest : List (List ℕ)) → ascend (l ∷ (xs ++ k ∷ rest)) ≡ true → slice_cmp nat_cmp l k ≡ Less
first_below l [] k rest h = is_less _ (both_of (is_before l (k ∷ rest)) (ascend (k ∷ rest)) h).0
first_below l (x ∷ xs) k rest h =
    let p = both_of (is_before l (x ∷ (xs ++ k ∷ rest))) (ascend (x ∷ (xs ++ k ∷ rest))) h in
    nat_list_cmp_total.trans l x k (is_less _ p.0) (first_below x xs k rest p.1)

pub keys-snoc : {T : Type 0} (es : List (KeyValue T)) (e : KeyValue T) → keys (es ++ e ∷ []) ≡ keys es ++ e.key ∷ []
keys-snoc [] e = refl
keys-snoc (x ∷ es) e = ap (λ l. x.key ∷ l) (keys-snoc es e)

pub keys-on_value : {X Y : Type 0} (h : X → Y) (es : List (KeyValue X)) → keys (map (on_value h) es) ≡ keys es
keys-on_value h [] = refl
keys-on_value h (e ∷ es) = ap (λ l. e.key ∷ l) (keys-on_value h es)

snoc_on : (xs : List (List ℕ)) (k : List ℕ) (rest : List (List ℕ)) → (xs ++ k ∷ []) ++ rest ≡ xs ++ k ∷ rest
snoc_on [] k rest = refl
snoc_on (x ∷ xs) k rest = ap (λ l. x ∷ l) (snoc_on xs k rest)

pub goes_on : {T : Type 0} (es : List (KeyValue T)) (k : List ℕ) (v : T) (rest : List (List ℕ)) → ascend (keys es ++ k ∷ rest) ≡ true
    → ascend (keys (es ++ entry k v ∷ []) ++ rest) ≡ true
goes_on es k v rest h = subst (λ l. ascend l ≡ true) (sym (ap (λ l. l ++ rest) (keys-snoc es (entry k v)) ∙ snoc_on (keys es) k rest)) h

pub goes_last : {T : Type 0} (es : List (KeyValue T)) (k : List ℕ) (v : T) (rest : List (List ℕ)) → ascend (keys es ++ k ∷ rest) ≡ true
    → Ascending (es ++ entry k v ∷ [])
goes_last es k v rest h = ascend_front (keys (es ++ entry k v ∷ [])) rest (goes_on es k v rest h)

-- ---- members

-- members before others
abbrev pub join : Members → Members → Members
join no_members ns = ns
join (member k d ms) ns = member k d (join ms ns)

pub join-none : (ms : Members) → join ms no_members ≡ ms
join-none no_members = refl
join-none (member k d ms) = ap (member k d) (join-none ms)

pub join-join : (a b c : Members) → join (join a b) c ≡ join a (join b c)
join-join no_members b c = refl
join-join (member k d a) b c = ap (member k d) (join-join a b c)

-- a key behind all others goes last
pub put_last : (k : List ℕ) (d : Data) (ms : Members) (rest : List (List ℕ)) → ascend (names ms ++ k ∷ rest) ≡ true → put k d ms ≡ join ms (member k d no_members)
put_last k d no_members rest h = refl
put_last k d (member l e ms) rest h =
    let above : slice_cmp nat_cmp k l ≡ Greater = nat_list_cmp_total.antisymm k l ∙ ap ordering_reverse (first_below l (names ms) k rest h) in
    rw above (ap (member l e) (put_last k d ms rest (both_of (is_before l (names ms ++ k ∷ rest)) (ascend (names ms ++ k ∷ rest)) h).1))

pub names_last : (ms : Members) (k : List ℕ) (d : Data) (rest : List (List ℕ)) → names (join ms (member k d no_members)) ++ rest ≡ names ms ++ k ∷ rest
names_last no_members k d rest = refl
names_last (member l e ms) k d rest = ap (λ ns. l ∷ ns) (names_last ms k d rest)

-- a key before all others goes first
pub put_first : (k : List ℕ) (d : Data) (ms : Members) → is_before k (names ms) ≡ true → put k d ms ≡ member k d ms
put_first k d no_members h = refl
put_first k d (member l e ms) h = rw (is_less _ h) refl

-- entries as members, in their order
abbrev pub chain : List (KeyValue Data) → Members
chain [] = no_members
chain (e ∷ es) = member e.key e.value (chain es)

pub names-chain : (es : List (KeyValue Data)) → names (chain es) ≡ keys es
names-chain [] = refl
names-chain (e ∷ es) = ap (λ l. e.key ∷ l) (names-chain es)

pub chain-snoc : (es : List (KeyValue Data)) (e : KeyValue Data) → chain (es ++ e ∷ []) ≡ join (chain es) (member e.key e.value no_members)
chain-snoc [] e = refl
chain-snoc (x ∷ es) e = ap (member x.key x.value) (chain-snoc es e)

-- what stands behind a key is not that key
pub apart : (k l : List ℕ) → is_lt (order k l) ≡ true → bytes_eq k l ≡ false
apart k l h = sym (is_eq-slice_cmp k l) ∙ ap is_eq (is_less _ h)

pub apart_back : (k l : List ℕ) → is_lt (order k l) ≡ true → bytes_eq l k ≡ false
apart_back k l h = sym (is_eq-slice_cmp l k) ∙ ap is_eq (nat_list_cmp_total.antisymm l k ∙ ap ordering_reverse (is_less _ h))

pub absent : (k : List ℕ) (ms : Members) → is_before k (names ms) ≡ true → ascend (names ms) ≡ true → get_member k ms ≡ None
absent k no_members h g = refl
absent k (member l e ms) h g =
    let p = both_of (is_before l (names ms)) (ascend (names ms)) g in
    rw (is_less _ h) (absent k ms (before_rest k l (names ms) h p.0) p.1)
