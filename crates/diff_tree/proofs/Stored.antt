-- What a JSON value that is read keeps: whole numbers of 64 bits, and keys in order.
use Rattle.std.proofs.Common.{◌≡◌, ◌<◌, ◌^◌, ℕ, pos, negsuc, List, true, nat_lt, refl, sym, ap, ◌∙◌, Ordering, Less, Equal, Greater, nat_cmp, true≢false}
use Rattle.std.specs.Prelude.{⊤}
use Rattle.std.specs.Ordering.{is_lt, ordering_reverse, match_ordering}
use Rattle.std.specs.Cmp.Lexicographic.{slice_cmp, nat_list_cmp_total}
use Rattle.std.proofs.lemmas.Bool.{ltb-true}
use Rattle.serde_json.specs.Data.{Num, unsigned, negative, float, Data, null, boolean, number, string, array, object, Items, no_items, item, Members, no_members, member, put}
use Rattle.text_core.specs.Keyed.{is_before, ascend}
use Rattle.text_core.proofs.Keyed.{order, both_of}
use Rattle.diff_tree.specs.Plain.{names, is_whole_number, is_plain, items_are_plain, members_are_plain}
use Rattle.diff_tree.proofs.Order.{is_less, before_rest, both_to}

abbrev pub IsWhole : Num → Type 0
IsWhole (unsigned n) = n < 2 ^ 64
IsWhole (negative (pos n)) = ⊥
IsWhole (negative (negsuc n)) = n < 2 ^ 63
IsWhole (float x) = ⊥

-- each key of the members comes after this one
abbrev pub IsAfter : List ℕ → Members → Type 0
IsAfter k no_members = ⊤
IsAfter k (member l d ms) = (slice_cmp nat_cmp l k ≡ Greater) × IsAfter k ms

abbrev mutual
  pub IsStored : Data → Type 0
  IsStored null = ⊤
  IsStored (boolean b) = ⊤
  IsStored (number n) = IsWhole n
  IsStored (string s) = ⊤
  IsStored (array ds) = ItemsAreStored ds
  IsStored (object ms) = MembersAreStored ms

  pub ItemsAreStored : Items → Type 0
  ItemsAreStored no_items = ⊤
  ItemsAreStored (item d ds) = IsStored d × ItemsAreStored ds

  pub MembersAreStored : Members → Type 0
  MembersAreStored no_members = ⊤
  MembersAreStored (member k d ms) = IsAfter k ms × IsStored d × MembersAreStored ms

below : (m n : ℕ) → nat_lt m n ≡ true → m < n
below m n h = ltb-true m n h

whole : (n : Num) → is_whole_number n ≡ true → IsWhole n
whole (unsigned n) h = below n (2 ^ 64) h
whole (negative (pos n)) h = absurd (true≢false (sym h))
whole (negative (negsuc n)) h = below n (2 ^ 63) h
whole (float x) h = absurd (true≢false (sym h))

-- members whose keys ascend come after one that is before them
after : (k : List ℕ) (ms : Members) → is_before k (names ms) ≡ true → ascend (names ms) ≡ true → IsAfter k ms
after k no_members h g = tt
after k (member l d ms) h g =
    let p = both_of (is_before l (names ms)) (ascend (names ms)) g in
    (nat_list_cmp_total.antisymm l k ∙ ap ordering_reverse (is_less (order k l) h), after k ms (before_rest k l (names ms) h p.0) p.1)

mutual
  pub plain_stored : (d : Data) → is_plain d ≡ true → IsStored d
  plain_stored null h = tt
  plain_stored (boolean b) h = tt
  plain_stored (number n) h = whole n h
  plain_stored (string s) h = tt
  plain_stored (array ds) h = items_stored ds h
  plain_stored (object ms) h = let p = both_of (ascend (names ms)) (members_are_plain ms) h in members_stored ms p.0 p.1

  items_stored : (ds : Items) → items_are_plain ds ≡ true → ItemsAreStored ds
  items_stored no_items h = tt
  items_stored (item d ds) h = let p = both_of (is_plain d) (items_are_plain ds) h in (plain_stored d p.0, items_stored ds p.1)

  members_stored : (ms : Members) → ascend (names ms) ≡ true → members_are_plain ms ≡ true → MembersAreStored ms
  members_stored no_members g h = tt
  members_stored (member k d ms) g h =
      let p = both_of (is_before k (names ms)) (ascend (names ms)) g in
      let q = both_of (is_plain d) (members_are_plain ms) h in
      (after k ms p.0 p.1, plain_stored d q.0, members_stored ms p.1 q.1)

-- ---- what is put stays plain

before_put : (j k : List ℕ) (d : Data) (ms : Members) → is_before j (names ms) ≡ true → is_lt (order j k) ≡ true → is_before j (names (put k d ms)) ≡ true
before_put j k d no_members h l = l
before_put j k d (member m e ms) h l = by (order k m)
  where
    by : (o : Ordering) → is_before j (names (match_ordering o (member k d (member m e ms)) (member m d ms) (member m e (put k d ms)))) ≡ true
    by Less = l
    by Equal = h
    by Greater = h

put_ascends : (k : List ℕ) (d : Data) (ms : Members) → ascend (names ms) ≡ true → ascend (names (put k d ms)) ≡ true
put_ascends k d no_members g = refl
put_ascends k d (member m e ms) g = by (order k m) refl (put_ascends k d ms p.1)
  where
    p : (is_before m (names ms) ≡ true) × (ascend (names ms) ≡ true)
    p = both_of (is_before m (names ms)) (ascend (names ms)) g

    by : (o : Ordering) → order k m ≡ o → ascend (names (put k d ms)) ≡ true → ascend (names (match_ordering o (member k d (member m e ms)) (member m d ms) (member m e (put k d ms)))) ≡ true
    by Less is r = both_to _ _ (ap is_lt is) g
    by Equal is r = g
    by Greater is r = both_to _ _ (before_put m k d ms p.0 (ap is_lt (nat_list_cmp_total.antisymm m k ∙ ap ordering_reverse is))) r

put_members : (k : List ℕ) (d : Data) (ms : Members) → is_plain d ≡ true → members_are_plain ms ≡ true → members_are_plain (put k d ms) ≡ true
put_members k d no_members h g = both_to _ _ h refl
put_members k d (member m e ms) h g = by (order k m) (put_members k d ms h p.1)
  where
    p : (is_plain e ≡ true) × (members_are_plain ms ≡ true)
    p = both_of (is_plain e) (members_are_plain ms) g

    by : (o : Ordering) → members_are_plain (put k d ms) ≡ true → members_are_plain (match_ordering o (member k d (member m e ms)) (member m d ms) (member m e (put k d ms))) ≡ true
    by Less r = both_to _ _ h g
    by Equal r = both_to _ _ h p.1
    by Greater r = both_to _ _ p.0 r

pub put_plain : (k : List ℕ) (d : Data) (ms : Members) → is_plain d ≡ true → is_plain (object ms) ≡ true → is_plain (object (put k d ms)) ≡ true
put_plain k d ms h g = let p = both_of (ascend (names ms)) (members_are_plain ms) g in both_to _ _ (put_ascends k d ms p.0) (put_members k d ms h p.1)
