-- What is read from a text has the keys of objects in order, and beside floats whole numbers of 64 bits.
use Rattle.std.proofs.Common.{◌≡◌, ℕ, zero, suc, ◌^◌, ◌==◌, ◌&&◌, ◌||◌, List, drop, slice_index, nat_lt, nat_le, Option, Some, None, option_map, option_and_then, Bool, true, false, if◌then◌else◌, refl, sym, ap, ◌∙◌, true≢false, Ordering, Less, Equal, Greater}
use Rattle.std.specs.Ordering.{is_lt, ordering_reverse, match_ordering}
use Rattle.std.specs.Cmp.Lexicographic.{nat_list_cmp_total}
use Rattle.std.specs.Float.{binary64, float_is_finite}
use Rattle.fast_float.specs.Text.{minus, Parts, scan, digits_of, nearest, with_sign}
use Rattle.json.specs.Json as json
use Rattle.json.specs.Token.{Token}
use Rattle.json.specs.Lex.{tokens}
use Rattle.serde_json.specs.Data.{Num, unsigned, negative, float, Data, number, array, object, Items, item, Members, no_members, member, put}
use Rattle.serde_json.specs.Read.{is_integer, float_of, number_from, number_of, of_json, of_items, of_members, read, max_depth}
use Rattle.serde_json.specs.Find.{is_float}
use Rattle.serde_json.specs.Written.{has_float, items_have_float, members_have_float}
use Rattle.text_core.specs.Keyed.{is_before, ascend}
use Rattle.text_core.proofs.Keyed.{order}
use Rattle.diff_tree.specs.Plain.{names, is_whole_number, is_plain, items_are_plain, members_are_plain}
use Rattle.client_page.proofs.Trees.{both_to}

both_of : (a b : Bool) → (a && b) ≡ true → (a ≡ true) × (b ≡ true)
both_of true b h = (refl, h)
both_of false b h = cc

-- ---- numbers

abbrev NumberTidy : Option Num → Type 0
NumberTidy None = Unit {0}
NumberTidy (Some n) = is_float n ≡ false → is_whole_number n ≡ true

float_tidy : (sign : Bool) (p : Parts) → NumberTidy (float_of sign p)
float_tidy sign p = by (float_is_finite (nearest binary64 sign p))
  where
    by : (b : Bool) → NumberTidy (if b then Some (float (nearest binary64 sign p)) else None)
    by true = λ no. absurd (true≢false no)
    by false = tt

plus_tidy : (p : Parts) → NumberTidy (number_from false p)
plus_tidy p = by (is_integer p) (nat_lt (digits_of p) (2 ^ 64)) refl
  where
    by : (a b : Bool) → nat_lt (digits_of p) (2 ^ 64) ≡ b → NumberTidy (if a && b then Some (unsigned (digits_of p)) else float_of false p)
    by true true is = λ _. is
    by true false is = float_tidy false p
    by false b is = float_tidy false p

minus_whole : (n : ℕ) → nat_lt 0 n ≡ true → nat_le n (2 ^ 63) ≡ true → is_whole_number (negative (with_sign true n)) ≡ true
minus_whole zero h g = cc
minus_whole (suc n) h g = g

minus_tidy : (p : Parts) → NumberTidy (number_from true p)
minus_tidy p = by (is_integer p) (nat_lt 0 (digits_of p)) (nat_le (digits_of p) (2 ^ 63)) refl refl
  where
    by : (a b c : Bool) → nat_lt 0 (digits_of p) ≡ b → nat_le (digits_of p) (2 ^ 63) ≡ c → NumberTidy (if a && b && c then Some (negative (with_sign true (digits_of p))) else float_of true p)
    by true true true some small = λ _. minus_whole (digits_of p) some small
    by true true false some small = float_tidy true p
    by true false c some small = float_tidy true p
    by false b c some small = float_tidy true p

number_tidy : (s : List ℕ) → NumberTidy (number_of s)
unfolding number_of
number_tidy s = by (slice_index s 0 == minus)
  where
    by : (b : Bool) → NumberTidy (if b then number_from true (scan (drop 1 s)) else number_from false (scan s))
    by true = minus_tidy (scan (drop 1 s))
    by false = plus_tidy (scan s)

-- ---- values

abbrev Tidy : Data → Type 0
Tidy d = has_float d ≡ false → is_plain d ≡ true

abbrev ItemsTidy : Items → Type 0
ItemsTidy ds = items_have_float ds ≡ false → items_are_plain ds ≡ true

-- keys in order, and each member tidy
abbrev EachTidy : Members → Type 0
EachTidy no_members = Unit {0}
EachTidy (member k d ms) = Tidy d × EachTidy ms

abbrev MembersTidy : Members → Type 0
MembersTidy ms = (ascend (names ms) ≡ true) × EachTidy ms

abbrev Where : {A : Type 0} → (A → Type 0) → Option A → Type 0
Where P None = Unit {0}
Where P (Some x) = P x

where_map : {A B : Type 0} (P : B → Type 0) (f : A → B) (o : Option A) → Where (λ x. P (f x)) o → Where P (option_map f o)
where_map P f None h = tt
where_map P f (Some x) h = h

where_then : {A B : Type 0} (P : A → Type 0) (Q : B → Type 0) (f : A → Option B) (o : Option A) → Where P o → ((x : A) → P x → Where Q (f x)) → Where Q (option_and_then f o)
where_then P Q f None h k = tt
where_then P Q f (Some x) h k = k x h

neither : (a b : Bool) → (a || b) ≡ false → (a ≡ false) × (b ≡ false)
neither true b h = cc
neither false b h = (refl, h)

before_put : (j k : List ℕ) (d : Data) (ms : Members) → is_before j (names ms) ≡ true → is_lt (order j k) ≡ true → is_before j (names (put k d ms)) ≡ true
before_put j k d no_members h l = l
before_put j k d (member m e ms) h l = by (order k m)
  where
    by : (o : Ordering) → is_before j (names (match_ordering o (member k d (member m e ms)) (member m d ms) (member m e (put k d ms)))) ≡ true
    by Less = l
    by Equal = h
    by Greater = h

put_tidy : (k : List ℕ) (d : Data) (ms : Members) → Tidy d → MembersTidy ms → MembersTidy (put k d ms)
put_tidy k d no_members h g = (refl, (h, tt))
put_tidy k d (member m e ms) h g = by (order k m) refl (put_tidy k d ms h (p.1, g.1.1))
  where
    p : (is_before m (names ms) ≡ true) × (ascend (names ms) ≡ true)
    p = both_of (is_before m (names ms)) (ascend (names ms)) g.0

    by : (o : Ordering) → order k m ≡ o → MembersTidy (put k d ms) → MembersTidy (match_ordering o (member k d (member m e ms)) (member m d ms) (member m e (put k d ms)))
    by Less is r = (both_to _ _ (ap is_lt is) g.0, (h, g.1))
    by Equal is r = (g.0, (h, g.1.1))
    by Greater is r = (both_to _ _ (before_put m k d ms p.0 (ap is_lt (nat_list_cmp_total.antisymm m k ∙ ap ordering_reverse is))) r.0, (g.1.0, r.1))

each_plain : (ms : Members) → EachTidy ms → members_have_float ms ≡ false → members_are_plain ms ≡ true
each_plain no_members h g = refl
each_plain (member k d ms) h g =
    let p = neither (has_float d) (members_have_float ms) g in
    both_to (is_plain d) (members_are_plain ms) (h.0 p.0) (each_plain ms h.1 p.1)

object_tidy : (ms : Members) → MembersTidy ms → Tidy (object ms)
object_tidy ms h = λ g. both_to (ascend (names ms)) (members_are_plain ms) h.0 (each_plain ms h.1 g)

item_tidy : (d : Data) (ds : Items) → Tidy d → ItemsTidy ds → ItemsTidy (item d ds)
item_tidy d ds h g = λ f. let p = neither (has_float d) (items_have_float ds) f in both_to (is_plain d) (items_are_plain ds) (h p.0) (g p.1)

mutual
  json_tidy : (j : json.Json) → Where Tidy (of_json j)
  json_tidy json.null = λ _. refl
  json_tidy (json.boolean b) = λ _. refl
  json_tidy (json.number s) = by (number_of s) (number_tidy s)
    where
      by : (o : Option Num) → NumberTidy o → Where Tidy (option_map number o)
      by None h = tt
      by (Some n) h = h
  json_tidy (json.string s) = λ _. refl
  json_tidy (json.array js) = where_map Tidy array (of_items js) (items_tidy js)
  json_tidy (json.object ms) = by (of_members ms no_members) (members_tidy ms no_members (refl, tt))
    where
      by : (o : Option Members) → Where MembersTidy o → Where Tidy (option_map object o)
      by None h = tt
      by (Some found) h = object_tidy found h

  items_tidy : (js : json.Items) → Where ItemsTidy (of_items js)
  items_tidy json.no_items = λ _. refl
  items_tidy (json.item j js) =
      where_then Tidy ItemsTidy (λ d. option_map (item d) (of_items js)) (of_json j) (json_tidy j) (by (of_items js) (items_tidy js))
    where
      by : (o : Option Items) → Where ItemsTidy o → (d : Data) → Tidy d → Where ItemsTidy (option_map (item d) o)
      by None h d g = tt
      by (Some ds) h d g = item_tidy d ds g h

  members_tidy : (ms : json.Members) (found : Members) → MembersTidy found → Where MembersTidy (of_members ms found)
  members_tidy json.no_members found h = h
  members_tidy (json.member k j ms) found h =
      where_then Tidy MembersTidy (λ d. of_members ms (put k d found)) (of_json j) (json_tidy j) (λ d g. members_tidy ms (put k d found) (put_tidy k d found g h))

pub read_plain : (text : List ℕ) (d : Data) → read text ≡ Some d → has_float d ≡ false → is_plain d ≡ true
read_plain text d is whole =
    told (of_read (option_and_then (λ (p : json.Json × List Token). json.if_last p.0 p.1) (json.value max_depth (tokens text)))) is
  where
    of_read : (o : Option json.Json) → Where Tidy (option_and_then of_json o)
    of_read None = tt
    of_read (Some j) = json_tidy j

    told : Where Tidy (read text) → read text ≡ Some d → is_plain d ≡ true
    told h e = by (read text) h e
      where
        by : (o : Option Data) → Where Tidy o → o ≡ Some d → is_plain d ≡ true
        by None g f = cc
        by (Some x) g f = let same : x ≡ d = cc in ap is_plain (sym same) ∙ g (ap has_float same ∙ whole)
