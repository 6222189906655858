-- The member of a key among the others.
use Rattle.std.proofs.Common.{◌≡◌, ℕ, List, [], ◌∷◌, String, string_bytes, Global, Bool, true, false, cond, if◌then◌else◌, refl, sym, ap, ◌∙◌, subst, Ordering, Less, Equal, Greater, nat_cmp, Option, Some, None, true≢false, Result, Ok, Err, OnOk}
use Rattle.std.specs.Ordering.{is_lt, is_eq, ordering_reverse, match_ordering}
use Rattle.std.specs.Str.{bytes_eq}
use Rattle.std.specs.Cmp.Lexicographic.{slice_cmp, nat_list_cmp_total}
use Rattle.std.specs.Map.{remove_entry}
use Rattle.std.specs.BTreeMap.{is_at}
use Rattle.std.proofs.lemmas.Map.Text.{is_eq-slice_cmp}
use Rattle.std.proofs.lemmas.Map.Lookups.{exact_bytes}
use Rattle.std.proofs.lemmas.Slice.Eq.{bytes_eq-Decides}
use Rattle.serde_json.specs.Data.{Data, Members, no_members, member, put}
use Rattle.serde_json.specs.Find.{get_member}
use Rattle.serde_json.specs.View.{view, members_view}
use Rattle.text_core.specs.Keyed.{is_before, ascend}
use Rattle.text_core.proofs.Keyed.{order, both_of}
use Rattle.diff_tree.specs.Plain.{names}
use Rattle.diff_tree.specs.Grammar.{without, with_member}
use Rattle.diff_tree.proofs.Keys.{Json}
use Rattle.diff_tree.proofs.Order.{before_rest, put_first, absent, apart_back, both_to}

pub keeps_if : (b : Bool) (k l : List ℕ) (d : Data) (ms ns : Members) → b ≡ false → without k ms ≡ ns → (if b then without k ms else member l d (without k ms)) ≡ member l d ns
keeps_if b k l d ms ns h g = rw h (ap (member l d) g)

pub drops_if : (b : Bool) (k l : List ℕ) (d : Data) (ms : Members) → b ≡ true → (if b then without k ms else member l d (without k ms)) ≡ without k ms
drops_if b k l d ms h = rw h refl

apart_greater : (k l : List ℕ) → order k l ≡ Greater → bytes_eq l k ≡ false
apart_greater k l is = sym (is_eq-slice_cmp l k) ∙ ap is_eq (nat_list_cmp_total.antisymm l k ∙ ap ordering_reverse is)

-- members behind a key do not have it
above_same : (k : List ℕ) (ms : Members) → is_before k (names ms) ≡ true → ascend (names ms) ≡ true → without k ms ≡ ms
above_same k no_members h g = refl
above_same k (member l e ms) h g =
    let p = both_of (is_before l (names ms)) (ascend (names ms)) g in
    keeps_if (bytes_eq l k) k l e ms ms (apart_back k l h) (above_same k ms (before_rest k l (names ms) h p.0) p.1)

-- where it is not found it is not there
none_out : (k : List ℕ) (ms : Members) → ascend (names ms) ≡ true → get_member k ms ≡ None → without k ms ≡ ms
none_out k no_members g found = refl
none_out k (member l e ms) g found = by (order k l) refl (none_out k ms p.1)
  where
    p : (is_before l (names ms) ≡ true) × (ascend (names ms) ≡ true)
    p = both_of (is_before l (names ms)) (ascend (names ms)) g

    turned : (o : Ordering) → order k l ≡ o → match_ordering o (get_member k ms) (Some e) (get_member k ms) ≡ None
    turned o is = ap (λ q. match_ordering q (get_member k ms) (Some e) (get_member k ms)) (sym is) ∙ found

    by : (o : Ordering) → order k l ≡ o → (get_member k ms ≡ None → without k ms ≡ ms) → without k (member l e ms) ≡ member l e ms
    by Less is rest = above_same k (member l e ms) (ap is_lt is) g
    by Equal is rest = let f : Some e ≡ None = turned Equal is in cc
    by Greater is rest = keeps_if (bytes_eq l k) k l e ms ms (apart_greater k l is) (rest (turned Greater is))

-- what is found goes back to its place
put_back : (k : List ℕ) (ms : Members) (d : Data) → ascend (names ms) ≡ true → get_member k ms ≡ Some d → put k d (without k ms) ≡ ms
put_back k no_members d g found = cc
put_back k (member l e ms) d g found = by (order k l) refl (put_back k ms d p.1)
  where
    p : (is_before l (names ms) ≡ true) × (ascend (names ms) ≡ true)
    p = both_of (is_before l (names ms)) (ascend (names ms)) g

    turned : (o : Ordering) → order k l ≡ o → match_ordering o (get_member k ms) (Some e) (get_member k ms) ≡ Some d
    turned o is = ap (λ q. match_ordering q (get_member k ms) (Some e) (get_member k ms)) (sym is) ∙ found

    put_behind : (ns : Members) → order k l ≡ Greater → put k d ns ≡ ms → put k d (member l e ns) ≡ member l e ms
    put_behind ns is same = rw is (ap (member l e) same)

    put_here : without k (member l e ms) ≡ ms → k ≡ l → d ≡ e → is_before k (names ms) ≡ true → put k d (without k (member l e ms)) ≡ member l e ms
    put_here out same value first =
        ap (put k d) out ∙ put_first k d ms first ∙ ap (λ j. member j d ms) same ∙ ap (λ v. member l v ms) value

    by : (o : Ordering) → order k l ≡ o → (get_member k ms ≡ Some d → put k d (without k ms) ≡ ms) → put k d (without k (member l e ms)) ≡ member l e ms
    by Less is rest =
        let gone : get_member k ms ≡ None = absent k ms (before_rest k l (names ms) (ap is_lt is) p.0) p.1 in
        let there : get_member k ms ≡ Some d = turned Less is in
        cc
    by Equal is rest =
        let same : k ≡ l = exact_bytes k l is in
        let there : Some e ≡ Some d = turned Equal is in
        let first : is_before k (names ms) ≡ true = subst (λ j. is_before j (names ms) ≡ true) (sym same) p.0 in
        let is_k : bytes_eq l k ≡ true = sym (is_eq-slice_cmp l k) ∙ ap is_eq (nat_list_cmp_total.antisymm l k ∙ ap ordering_reverse is) in
        let out : without k (member l e ms) ≡ ms = drops_if (bytes_eq l k) k l e ms is_k ∙ above_same k ms first p.1 in
        put_here out same (cc) first
    by Greater is rest =
        ap (put k d) (keeps_if (bytes_eq l k) k l e ms (without k ms) (apart_greater k l is) refl) ∙ put_behind (without k ms) is (rest (turned Greater is))

-- the member of a key, where there is one, goes back to its place
pub with_back : (k : List ℕ) (ms : Members) → ascend (names ms) ≡ true → with_member k (get_member k ms) (without k ms) ≡ ms
with_back k ms g = by (get_member k ms) refl
  where
    by : (o : Option Data) → get_member k ms ≡ o → with_member k o (without k ms) ≡ ms
    by None found = none_out k ms g found
    by (Some d) found = put_back k ms d g found

-- ---- what is left

-- what stands behind a key does so where one more is left out
before_without : (j k : List ℕ) (ms : Members) → is_before j (names ms) ≡ true → ascend (names ms) ≡ true → is_before j (names (without k ms)) ≡ true
before_without j k no_members h g = refl
before_without j k (member l e ms) h g = by (bytes_eq l k) (before_without j k ms (before_rest j l (names ms) h p.0) p.1)
  where
    p : (is_before l (names ms) ≡ true) × (ascend (names ms) ≡ true)
    p = both_of (is_before l (names ms)) (ascend (names ms)) g

    by : (b : Bool) → is_before j (names (without k ms)) ≡ true → is_before j (names (if b then without k ms else member l e (without k ms))) ≡ true
    by true r = r
    by false r = h

pub without_ascends : (k : List ℕ) (ms : Members) → ascend (names ms) ≡ true → ascend (names (without k ms)) ≡ true
without_ascends k no_members g = refl
without_ascends k (member l e ms) g = by (bytes_eq l k) (without_ascends k ms p.1)
  where
    p : (is_before l (names ms) ≡ true) × (ascend (names ms) ≡ true)
    p = both_of (is_before l (names ms)) (ascend (names ms)) g

    by : (b : Bool) → ascend (names (without k ms)) ≡ true → ascend (names (if b then without k ms else member l e (without k ms))) ≡ true
    by true r = r
    by false r = both_to _ _ (before_without l k ms p.0 p.1) r

-- other members are found as before
pub get_without : (j k : List ℕ) (ms : Members) → bytes_eq k j ≡ false → get_member j (without k ms) ≡ get_member j ms
get_without j k no_members h = refl
get_without j k (member l e ms) h = by (bytes_eq l k) refl (get_without j k ms h)
  where
    found : (o : Ordering) → order j l ≡ o → bytes_eq l k ≡ true → get_member j ms ≡ match_ordering o (get_member j ms) (Some e) (get_member j ms)
    found Less is same = refl
    found Equal is same = absurd (true≢false (sym ((bytes_eq-Decides k j).1 (sym ((bytes_eq-Decides l k).0 same) ∙ sym (exact_bytes j l is))) ∙ h))
    found Greater is same = refl

    by : (b : Bool) → bytes_eq l k ≡ b → get_member j (without k ms) ≡ get_member j ms
        → get_member j (if b then without k ms else member l e (without k ms)) ≡ match_ordering (order j l) (get_member j ms) (Some e) (get_member j ms)
    by true is r = r ∙ found (order j l) refl is
    by false is r = ap (λ o. match_ordering (order j l) o (Some e) o) r

-- ---- entries

abbrev test_of : List ℕ → String Global → Bool
test_of k = is_at (λ (x : String Global). slice_cmp nat_cmp k (string_bytes x))

-- what a map keeps where the entry of a key is taken out
pub removed : (k : List ℕ) (es : List (String Global × Json)) → ascend (names (members_view es)) ≡ true → members_view (remove_entry (test_of k) es) ≡ without k (members_view es)
removed k [] g = refl
removed k (m ∷ es) g = by (order k l) refl (removed k es p.1)
  where
    l : List ℕ
    l = string_bytes m.0

    p : (is_before l (names (members_view es)) ≡ true) × (ascend (names (members_view es)) ≡ true)
    p = both_of (is_before l (names (members_view es))) (ascend (names (members_view es))) g

    by : (o : Ordering) → order k l ≡ o → members_view (remove_entry (test_of k) es) ≡ without k (members_view es)
        → members_view (cond (is_eq o) es (m ∷ remove_entry (test_of k) es)) ≡ without k (member l (view m.1) (members_view es))
    by Less is rest = ap (member l (view m.1)) rest ∙ sym (keeps_if (bytes_eq l k) k l (view m.1) (members_view es) (without k (members_view es)) (apart_back k l (ap is_lt is)) refl)
    by Equal is rest =
        let same : k ≡ l = exact_bytes k l is in
        let first : is_before k (names (members_view es)) ≡ true = subst (λ j. is_before j (names (members_view es)) ≡ true) (sym same) p.0 in
        sym (drops_if (bytes_eq l k) k l (view m.1) (members_view es) ((bytes_eq-Decides l k).1 (sym same)) ∙ above_same k (members_view es) first p.1)
    by Greater is rest = ap (member l (view m.1)) rest ∙ sym (keeps_if (bytes_eq l k) k l (view m.1) (members_view es) (without k (members_view es)) (apart_greater k l is) refl)

-- ---- what is taken out

pub on_ok : {A E P : Type 0} (r : Result A E) → P → OnOk r P
on_ok (Ok a) p = p
on_ok (Err e) p = tt
