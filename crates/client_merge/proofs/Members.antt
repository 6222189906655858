-- Nodes as they are sent, read place by place.
use Rattle.std.proofs.Common.{◌≡◌, ◌⊎◌, inl, inr, ℕ, suc, ◌<◌, ◌^◌, ◌==◌, List, [], ◌∷◌, length, get_or, Option, Some, None, option_map, Bool, true, false, if◌then◌else◌, refl, sym, ap, ◌∙◌, subst, arith, is_some, codes, true≢false, Ordering, Less, Equal, Greater}
use Rattle.std.specs.Ordering.{is_lt, is_eq, ordering_reverse, match_ordering}
use Rattle.std.specs.List.{list_all}
use Rattle.std.specs.Char.{is_ascii_digit}
use Rattle.std.specs.Str.{bytes_eq}
use Rattle.std.specs.Fmt.{decimal}
use Rattle.std.specs.Cmp.Lexicographic.{nat_list_cmp_total}
use Rattle.std.proofs.lemmas.Map.Text.{is_eq-slice_cmp}
use Rattle.std.proofs.lemmas.Map.Lookups.{exact_bytes}
use Rattle.std.proofs.lemmas.Fmt.{decimal-digits_value}
use Rattle.std.proofs.lemmas.Bool.Decides.{eqb_tells}
use Rattle.serde_json.specs.Data.{Data, array, object, Items, Members, no_members, member, put}
use Rattle.serde_json.specs.Find.{get_member}
use Rattle.serde_json.proofs.Views.{get_member-put, get_member-put_other}
use Rattle.text_core.specs.declared.by_key.KeyValue.{KeyValue}
use Rattle.text_core.specs.Keyed.{is_before, ascend, keys, lookup, without_key}
use Rattle.text_core.proofs.Keyed.{order, both_of}
use Rattle.text_core.proofs.Decimals.{own}
use Rattle.diff_tree.specs.Tree.{Tree, node, Trees, Rows, no_rows, Change, write, inner, Changes, no_changes, option_both}
use Rattle.diff_tree.specs.Client.{and_then}
use Rattle.diff_tree.specs.Spelling.{texts_json}
use Rattle.diff_tree.specs.Grammar.{is_place}
use Rattle.diff_tree.specs.Parts.{part_data, place_data, part_step, place_step, body_step, row_step, body_members, places_json, seen, row_data, node_data, statics_of, body_of}
use Rattle.diff_tree.proofs.Written.{part_data-out}
use Rattle.diff_tree.specs.declared.part.Part.{Part}
use Rattle.diff_tree.specs.declared.part.PartBody.{PartBody}
use Rattle.diff_tree.specs.declared.part.Row.{Row}
use Rattle.diff_tree.specs.declared.part.PlaceValue.{PlaceValue, out-PlaceValue}
use Rattle.diff_tree.specs.declared.part.PartBody.TheOpen.{PlaceValue-F}
use Rattle.diff_tree.specs.declared.part.PartBody.TheFolds.{fold_out-PlaceValue, map-PlaceValue}
use Rattle.client_merge.specs.Reading.{number_of, is_free, put_change, with_change, trees_of, texts_in, texts_of, node_change, change_of, changes_in, rows_in, rows_of, list_change, written, tree_of}
use Rattle.client_merge.specs.Held.{sent_node}
use Rattle.client_merge.specs.Planned.{Placed, added, gathered}
use Rattle.client_merge.proofs.Changes.{free_none, free_put, Holds}

abbrev pub s_key : List ℕ
s_key = codes "s"

abbrev pub d_key : List ℕ
d_key = codes "d"

-- ---- keys of places

none_is : {n : ℕ} → (((suc n == 0) ≡ true) × (suc n ≡ 0)) ⊎ (((suc n == 0) ≡ false) × (suc n ≡ 0 → ⊥)) → (suc n == 0) ≡ true → ⊥
none_is (inl e) g = let z = e.1 in omega arith
none_is (inr e) g = true≢false (sym g ∙ e.0)

pub place_digits : (k : List ℕ) → is_place k ≡ true → (list_all is_ascii_digit k ≡ true) × (0 < length k) × (get_or k 0 0 ≡ 48 → length k ≡ 1)
place_digits [] h = cc
place_digits (c ∷ cs) h = by (eqb_tells c 48)
  where
    turned : (b : Bool) → (c == 48) ≡ b → (if b then length cs == 0 else list_all is_ascii_digit (c ∷ cs)) ≡ true
    turned b is = ap (λ (q : Bool). if q then length cs == 0 else list_all is_ascii_digit (c ∷ cs)) (sym is) ∙ h

    alone : (ds : List ℕ) → (length ds == 0) ≡ true → c ≡ 48 → (list_all is_ascii_digit (c ∷ ds) ≡ true) × (0 < suc (length ds)) × (c ≡ 48 → suc (length ds) ≡ 1)
    alone [] g is = (ap (λ (d : ℕ). list_all is_ascii_digit (d ∷ [])) is, omega arith, λ _. refl)
    alone (d ∷ ds) g is = absurd (none_is (eqb_tells (suc (length ds)) 0) g)

    by : (((c == 48) ≡ true) × (c ≡ 48)) ⊎ (((c == 48) ≡ false) × (c ≡ 48 → ⊥)) → (list_all is_ascii_digit (c ∷ cs) ≡ true) × (0 < suc (length cs)) × (c ≡ 48 → suc (length cs) ≡ 1)
    by (inl e) = alone cs (turned true e.0) e.1
    by (inr e) = (turned false e.0, omega arith, λ is. absurd (e.1 is))

key_of : (k : List ℕ) → is_place k ≡ true → number_of k < 2 ^ 64 → decimal (number_of k) ≡ k
key_of k is small = let d = place_digits k is in decimal-digits_value own k d.0 d.1 d.2 small

-- a number has one key
pub one_key : (k l : List ℕ) → is_place k ≡ true → is_place l ≡ true → number_of k < 2 ^ 64 → number_of k ≡ number_of l → k ≡ l
one_key k l p q small same = sym (key_of k p small) ∙ ap decimal same ∙ key_of l q (subst (λ (n : ℕ). n < 2 ^ 64) same small)

not_below : (k : List ℕ) → is_lt (order k k) ≡ true → ⊥
not_below k h = by (order k k) refl h (nat_list_cmp_total.antisymm k k)
  where
    by : (o : Ordering) → order k k ≡ o → is_lt o ≡ true → order k k ≡ ordering_reverse (order k k) → ⊥
    by Less is h turned = let f : Less ≡ Greater = sym is ∙ turned ∙ ap ordering_reverse is in cc
    by Equal is h turned = cc
    by Greater is h turned = cc

-- ---- what is still to come names no place that has a change

abbrev pub AllFree : List (KeyValue PlaceValue) → Changes → Type 0
AllFree [] cs = Unit {0}
AllFree (e ∷ es) cs = (is_place e.key ≡ true → number_of e.key < 2 ^ 64 → is_free (number_of e.key) cs ≡ true) × AllFree es cs

pub free_first : (es : List (KeyValue PlaceValue)) → AllFree es no_changes
free_first [] = tt
free_first (e ∷ es) = ((λ p s. free_none (number_of e.key)), free_first es)

is_less : (o : Ordering) → is_lt o ≡ true → o ≡ Less
is_less Less h = refl
is_less Equal h = cc
is_less Greater h = cc

below_rest : (k l : List ℕ) (ls : List (List ℕ)) → is_lt (order k l) ≡ true → is_before l ls ≡ true → is_before k ls ≡ true
below_rest k l [] h g = refl
below_rest k l (m ∷ ls) h g = ap is_lt (nat_list_cmp_total.trans k l m (is_less _ h) (is_less _ g))

pub free_on : (k : List ℕ) (c : Change) (cs : Changes) (es : List (KeyValue PlaceValue)) → is_place k ≡ true → number_of k < 2 ^ 64 → is_before k (keys es) ≡ true → ascend (keys es) ≡ true
    → AllFree es cs → AllFree es (put_change (number_of k) c cs)
free_on k c cs [] p s before up h = tt
free_on k c cs (e ∷ es) p s before up h =
    let q = both_of (is_before e.key (keys es)) (ascend (keys es)) up in
    let other : number_of e.key ≡ number_of k → is_place e.key ≡ true → ⊥
    = λ same r. not_below k (subst (λ l. is_lt (order k l) ≡ true) (sym (one_key k e.key p r s (sym same))) before) in
    ((λ r t. free_put (number_of e.key) (number_of k) c cs (λ same. other same r) ∙ h.0 r t), free_on k c cs es p s (below_rest k e.key (keys es) before q.0) q.1 h.1)

-- ---- members

abbrev pub chain : List (KeyValue PlaceValue) → Members
chain [] = no_members
chain (e ∷ es) = member e.key (place_data e.value) (chain es)

pub places_chain : (es : List (KeyValue PlaceValue)) → ascend (keys es) ≡ true → places_json (seen es) ≡ chain es
places_chain [] h = refl
places_chain (e ∷ []) h = refl
places_chain (e ∷ f ∷ es) h =
    let q = both_of (is_before e.key (keys (f ∷ es))) (ascend (keys (f ∷ es))) h in
    ap (put e.key (place_data e.value)) (places_chain (f ∷ es) q.1) ∙ ap (λ o. match_ordering o (member e.key (place_data e.value) (chain (f ∷ es))) (member f.key (place_data e.value) (chain es)) (member f.key (place_data f.value) (put e.key (place_data e.value) (chain es)))) (is_less _ q.0)

abbrev pub reading : KeyValue PlaceValue → Placed
reading e = (number_of e.key, (if is_place e.key then change_of (place_data e.value) else None))

abbrev pub readings : List (KeyValue PlaceValue) → List Placed
readings [] = []
readings (e ∷ es) = reading e ∷ readings es

-- the entries but that of `s`
abbrev pub unstatic : List (KeyValue PlaceValue) → List (KeyValue PlaceValue)
unstatic [] = []
unstatic (e ∷ es) = if bytes_eq e.key (codes "s") then unstatic es else e ∷ unstatic es

pub then_ext : {A B : Type 0} (o : Option A) (f g : A → Option B) → ((x : A) → f x ≡ g x) → and_then o f ≡ and_then o g
then_ext None f g h = refl
then_ext (Some x) f g h = h x

pub then_none : {A B : Type 0} (o : Option A) (f : A → Option B) → ((x : A) → f x ≡ None) → and_then o f ≡ None
then_none None f h = refl
then_none (Some x) f h = h x

changes_chain : (es : List (KeyValue PlaceValue)) (cs : Changes) → changes_in (chain es) cs ≡ gathered (readings (unstatic es)) cs
changes_chain [] cs = refl
changes_chain (e ∷ es) cs = by (bytes_eq e.key (codes "s")) (changes_chain es)
  where
    picked : (p : Bool) → ((ds : Changes) → changes_in (chain es) ds ≡ gathered (readings (unstatic es)) ds)
        → (if p then and_then (and_then (change_of (place_data e.value)) (with_change (number_of e.key) cs)) (changes_in (chain es)) else None)
        ≡ and_then (and_then (if p then change_of (place_data e.value) else None) (with_change (number_of e.key) cs)) (gathered (readings (unstatic es)))
    picked true rest = then_ext (and_then (change_of (place_data e.value)) (with_change (number_of e.key) cs)) (changes_in (chain es)) (gathered (readings (unstatic es))) rest
    picked false rest = refl

    by : (b : Bool) → ((ds : Changes) → changes_in (chain es) ds ≡ gathered (readings (unstatic es)) ds)
        → (if b then changes_in (chain es) cs else if is_place e.key then and_then (and_then (change_of (place_data e.value)) (with_change (number_of e.key) cs)) (changes_in (chain es)) else None)
        ≡ gathered (readings (if b then unstatic es else e ∷ unstatic es)) cs
    by true rest = rest cs
    by false rest = picked (is_place e.key) rest

-- ---- `s`

pub key_is : (k l : List ℕ) (o : Ordering) → order k l ≡ o → bytes_eq l k ≡ is_eq o
key_is k l o is = sym (is_eq-slice_cmp l k) ∙ ap is_eq (nat_list_cmp_total.antisymm l k ∙ ap ordering_reverse is) ∙ by o
  where
    by : (o : Ordering) → is_eq (ordering_reverse o) ≡ is_eq o
    by Less = refl
    by Equal = refl
    by Greater = refl

pub is_s : (l : List ℕ) (o : Ordering) → order s_key l ≡ o → bytes_eq l s_key ≡ is_eq o
is_s l o is = key_is s_key l o is

pub part_is : (p : Part) → part_data p ≡ sent_node (statics_of p) (body_of p)
part_is p = part_data-out p

no_texts : (v : PlaceValue) → texts_of (place_data v) ≡ None
no_texts v = ap texts_of (fold_out-PlaceValue Members Data Data Items body_step place_step part_step row_step v) ∙ by (out-PlaceValue v)
  where
    by : (y : PlaceValue-F PartBody PlaceValue Part Row) → texts_of (place_step (map-PlaceValue PartBody PlaceValue Part Row Members Data Data Items body_members place_data part_data row_data y)) ≡ None
    by (PlaceValue-F.Text t) = refl
    by (PlaceValue-F.Number n) = refl
    by (PlaceValue-F.Node p) = ap texts_of (part_is p)

-- ---- `d`

-- what is sent for a place is no array
no_rows_sent : (v : PlaceValue) → rows_of (place_data v) ≡ None
no_rows_sent v = ap rows_of (fold_out-PlaceValue Members Data Data Items body_step place_step part_step row_step v) ∙ by (out-PlaceValue v)
  where
    by : (y : PlaceValue-F PartBody PlaceValue Part Row) → rows_of (place_step (map-PlaceValue PartBody PlaceValue Part Row Members Data Data Items body_members place_data part_data row_data y)) ≡ None
    by (PlaceValue-F.Text t) = refl
    by (PlaceValue-F.Number n) = refl
    by (PlaceValue-F.Node p) = ap rows_of (part_is p)

-- no rows stand under `d`
abbrev pub Rowless : Members → Type 0
Rowless no_members = Unit {0}
Rowless (member k d ms) = (d_key ≡ k → rows_of d ≡ None) × Rowless ms

pub rowless_put : (k : List ℕ) (d : Data) (ms : Members) → (d_key ≡ k → rows_of d ≡ None) → Rowless ms → Rowless (put k d ms)
rowless_put k d no_members h r = (h, tt)
rowless_put k d (member l e ms) h r = by (order k l) refl (rowless_put k d ms h r.1)
  where
    by : (o : Ordering) → order k l ≡ o → Rowless (put k d ms) → Rowless (match_ordering o (member k d (member l e ms)) (member l d ms) (member l e (put k d ms)))
    by Less is rest = (h, r)
    by Equal is rest = ((λ same. h (same ∙ sym (exact_bytes k l is))), r.1)
    by Greater is rest = (r.0, rest)

rowless_chain : (es : List (KeyValue PlaceValue)) → Rowless (chain es)
rowless_chain [] = tt
rowless_chain (e ∷ es) = ((λ same. no_rows_sent e.value), rowless_chain es)

rowless_sent : (es : List (KeyValue PlaceValue)) → Rowless (places_json (seen es))
rowless_sent [] = tt
rowless_sent (e ∷ es) = rowless_put e.key (place_data e.value) (places_json (seen es)) (λ same. no_rows_sent e.value) (rowless_sent es)

-- `d` is no place
d_no_place : (ms : Members) → is_some (get_member d_key ms) ≡ true → (cs : Changes) → changes_in ms cs ≡ None
d_no_place no_members h cs = cc
d_no_place (member k e ms) h cs = by (order d_key k) refl h (d_no_place ms)
  where
    later : ((ds : Changes) → changes_in ms ds ≡ None) → changes_in (member k e ms) cs ≡ None
    later rest = on (bytes_eq k s_key) (is_place k)
      where
        on : (b p : Bool) → (if b then changes_in ms cs else if p then and_then (and_then (change_of e) (with_change (number_of k) cs)) (changes_in ms) else None) ≡ None
        on true p = rest cs
        on false true = then_none (and_then (change_of e) (with_change (number_of k) cs)) (changes_in ms) rest
        on false false = refl

    by : (o : Ordering) → order d_key k ≡ o → is_some (match_ordering o (get_member d_key ms) (Some e) (get_member d_key ms)) ≡ true
        → (is_some (get_member d_key ms) ≡ true → (ds : Changes) → changes_in ms ds ≡ None) → changes_in (member k e ms) cs ≡ None
    by Less is h rest = later (rest h)
    by Equal is h rest = ap (λ l. changes_in (member l e ms) cs) (sym (exact_bytes d_key k is))
    by Greater is h rest = later (rest h)

d_no_rows : (ms : Members) → Rowless ms → is_some (get_member d_key ms) ≡ true → (rs : Rows) → rows_in ms rs ≡ None
d_no_rows no_members r h rs = cc
d_no_rows (member k e ms) r h rs = by (order d_key k) refl h (d_no_rows ms r.1)
  where
    later : ((qs : Rows) → rows_in ms qs ≡ None) → rows_in (member k e ms) rs ≡ None
    later rest = on (bytes_eq k s_key) (bytes_eq k d_key)
      where
        on : (b p : Bool) → (if b then rows_in ms rs else if p then and_then (rows_of e) (rows_in ms) else None) ≡ None
        on true p = rest rs
        on false true = then_none (rows_of e) (rows_in ms) rest
        on false false = refl

    by : (o : Ordering) → order d_key k ≡ o → is_some (match_ordering o (get_member d_key ms) (Some e) (get_member d_key ms)) ≡ true
        → (is_some (get_member d_key ms) ≡ true → (qs : Rows) → rows_in ms qs ≡ None) → rows_in (member k e ms) rs ≡ None
    by Less is h rest = later (rest h)
    by Equal is h rest =
        let same : d_key ≡ k = exact_bytes d_key k is in
        ap (λ l. rows_in (member l e ms) rs) (sym same) ∙ ap (λ o. and_then o (rows_in ms)) (r.0 same)
    by Greater is h rest = later (rest h)

abbrev pub places_change : Members → Option Change
places_change ms = and_then (changes_in ms no_changes) (node_change (get_member s_key ms))

-- an object without rows is read place by place
pub by_places : (ms : Members) → Rowless ms → change_of (object ms) ≡ places_change ms
by_places ms r = by (is_some (get_member d_key ms)) refl
  where
    by : (b : Bool) → is_some (get_member d_key ms) ≡ b → (if b then and_then (rows_in ms no_rows) (list_change (get_member s_key ms)) else places_change ms) ≡ places_change ms
    by true is =
        ap (λ o. and_then o (list_change (get_member s_key ms))) (d_no_rows ms r is no_rows)
        ∙ sym (ap (λ o. and_then o (node_change (get_member s_key ms))) (d_no_place ms is no_changes))
    by false is = refl

s_value : (es : List (KeyValue PlaceValue)) → Holds (get_member s_key (chain es)) (λ d. texts_of d ≡ None)
s_value [] = tt
s_value (e ∷ es) = by (order s_key e.key) (s_value es)
  where
    by : (o : Ordering) → Holds (get_member s_key (chain es)) (λ d. texts_of d ≡ None)
        → Holds (match_ordering o (get_member s_key (chain es)) (Some (place_data e.value)) (get_member s_key (chain es))) (λ d. texts_of d ≡ None)
    by Less h = h
    by Equal h = no_texts e.value
    by Greater h = h

no_s : (es : List (KeyValue PlaceValue)) → get_member s_key (chain es) ≡ None → unstatic es ≡ es
no_s [] h = refl
no_s (e ∷ es) h = by (order s_key e.key) refl h (no_s es)
  where
    other : bytes_eq e.key s_key ≡ false → unstatic es ≡ es → unstatic (e ∷ es) ≡ e ∷ es
    other is rest = ap (λ (b : Bool). if b then unstatic es else e ∷ unstatic es) is ∙ ap (λ l. e ∷ l) rest

    by : (o : Ordering) → order s_key e.key ≡ o → match_ordering o (get_member s_key (chain es)) (Some (place_data e.value)) (get_member s_key (chain es)) ≡ None
        → (get_member s_key (chain es) ≡ None → unstatic es ≡ es) → unstatic (e ∷ es) ≡ e ∷ es
    by Less is h rest = other (is_s e.key Less is) (rest h)
    by Equal is h rest = cc
    by Greater is h rest = other (is_s e.key Greater is) (rest h)

some_s : (es : List (KeyValue PlaceValue)) → is_some (get_member s_key (chain es)) ≡ true → (cs : Changes) → gathered (readings es) cs ≡ None
some_s [] h cs = cc
some_s (e ∷ es) h cs = by (order s_key e.key) refl h (some_s es)
  where
    by : (o : Ordering) → order s_key e.key ≡ o → is_some (match_ordering o (get_member s_key (chain es)) (Some (place_data e.value)) (get_member s_key (chain es))) ≡ true
        → (is_some (get_member s_key (chain es)) ≡ true → (cs : Changes) → gathered (readings es) cs ≡ None) → gathered (readings (e ∷ es)) cs ≡ None
    by Less is h rest = then_none (added (reading e) cs) (gathered (readings es)) (rest h)
    by Equal is h rest =
        let same : is_place e.key ≡ false = ap is_place (sym (exact_bytes s_key e.key is)) in
        ap (λ (b : Bool). and_then (and_then (if b then change_of (place_data e.value) else None) (with_change (number_of e.key) cs)) (gathered (readings es))) same
    by Greater is h rest = then_none (added (reading e) cs) (gathered (readings es)) (rest h)

none_left : (f : List (List ℕ) → Trees → Change) (q : Option Trees) → option_both f None q ≡ None
none_left f q = refl

-- a node without statics
pub inner_is : (es : List (KeyValue PlaceValue)) → ascend (keys es) ≡ true → change_of (node_data None es) ≡ option_map inner (gathered (readings es) no_changes)
inner_is es up = ap (λ ms. change_of (object ms)) (places_chain es up) ∙ by_places (chain es) (rowless_chain es) ∙ by (get_member s_key (chain es)) refl (s_value es)
  where
    held : (q : Option Changes) → and_then q (node_change None) ≡ option_map inner q
    held None = refl
    held (Some cs) = refl

    by : (o : Option Data) → get_member s_key (chain es) ≡ o → Holds o (λ d. texts_of d ≡ None) → places_change (chain es) ≡ option_map inner (gathered (readings es) no_changes)
    by None is h =
        ap (λ (o : Option Data). and_then (changes_in (chain es) no_changes) (node_change o)) is
        ∙ held (changes_in (chain es) no_changes)
        ∙ ap (option_map inner) (changes_chain es no_changes ∙ ap (λ l. gathered (readings l) no_changes) (no_s es is))
    by (Some d) is h =
        ap (λ (o : Option Data). and_then (changes_in (chain es) no_changes) (node_change o)) is
        ∙ then_none (changes_in (chain es) no_changes) (node_change (Some d)) (λ cs. ap (λ (o : Option (List (List ℕ))). option_both (λ st ts. write (node st ts)) o (trees_of cs)) h)
        ∙ sym (ap (option_map inner) (some_s es (ap is_some is) no_changes))

skip_s : (d : Data) (ms : Members) (cs : Changes) → changes_in (put s_key d ms) cs ≡ changes_in ms cs
skip_s d no_members cs = refl
skip_s d (member l e ms) cs = by (order s_key l) refl (skip_s d ms)
  where
    here : (b : Bool) (v : Data) → b ≡ true
        → (if b then changes_in ms cs else if is_place l then and_then (and_then (change_of v) (with_change (number_of l) cs)) (changes_in ms) else None) ≡ changes_in ms cs
    here true v h = refl
    here false v h = cc

    on : (b p : Bool) → ((ds : Changes) → changes_in (put s_key d ms) ds ≡ changes_in ms ds)
        → (if b then changes_in (put s_key d ms) cs else if p then and_then (and_then (change_of e) (with_change (number_of l) cs)) (changes_in (put s_key d ms)) else None)
        ≡ (if b then changes_in ms cs else if p then and_then (and_then (change_of e) (with_change (number_of l) cs)) (changes_in ms) else None)
    on true p rest = rest cs
    on false true rest = then_ext (and_then (change_of e) (with_change (number_of l) cs)) (changes_in (put s_key d ms)) (changes_in ms) rest
    on false false rest = refl

    by : (o : Ordering) → order s_key l ≡ o → ((ds : Changes) → changes_in (put s_key d ms) ds ≡ changes_in ms ds)
        → changes_in (match_ordering o (member s_key d (member l e ms)) (member l d ms) (member l e (put s_key d ms))) cs ≡ changes_in (member l e ms) cs
    by Less is rest = refl
    by Equal is rest = here (bytes_eq l s_key) d (is_s l Equal is) ∙ sym (here (bytes_eq l s_key) e (is_s l Equal is))
    by Greater is rest = on (bytes_eq l s_key) (is_place l) rest

pub texts_back : (ts : List (List ℕ)) → texts_in (texts_json ts) ≡ Some ts
texts_back [] = refl
texts_back (t ∷ ts) = ap (option_map (λ l. t ∷ l)) (texts_back ts)

-- an object under statics
pub under_statics : (st : List (List ℕ)) (ms : Members) → Rowless ms → change_of (object (put (codes "s") (array (texts_json st)) ms)) ≡ option_map (λ ts. write (node st ts)) (and_then (changes_in ms no_changes) trees_of)
under_statics st ms rowless =
    let d : Data = array (texts_json st) in
    by_places (put s_key d ms) (rowless_put s_key d ms (λ same. absurd (other same)) rowless)
    ∙ ap (λ (o : Option Data). and_then (changes_in (put s_key d ms) no_changes) (node_change o)) (get_member-put s_key d ms)
    ∙ ap (λ (o : Option Changes). and_then o (node_change (Some d))) (skip_s d ms no_changes)
    ∙ then_ext (changes_in ms no_changes) (node_change (Some d)) (λ cs. option_map (λ ts. write (node st ts)) (trees_of cs))
    (λ cs. ap (λ (o : Option (List (List ℕ))). option_both (λ st ts. write (node st ts)) o (trees_of cs)) (texts_back st) ∙ some_left (trees_of cs))
    ∙ outside (changes_in ms no_changes)
  where
    other : d_key ≡ s_key → ⊥
    other same = let f : false ≡ true = ap (λ k. bytes_eq k s_key) same in true≢false (sym f)

    some_left : (q : Option Trees) → option_both (λ st ts. write (node st ts)) (Some st) q ≡ option_map (λ ts. write (node st ts)) q
    some_left None = refl
    some_left (Some ts) = refl

    outside : (q : Option Changes) → and_then q (λ cs. option_map (λ ts. write (node st ts)) (trees_of cs)) ≡ option_map (λ ts. write (node st ts)) (and_then q trees_of)
    outside None = refl
    outside (Some cs) = refl

-- a node with statics
pub whole_is : (st : List (List ℕ)) (es : List (KeyValue PlaceValue)) → ascend (keys es) ≡ true
    → change_of (node_data (Some st) es) ≡ option_map (λ ts. write (node st ts)) (and_then (gathered (readings (unstatic es)) no_changes) trees_of)
whole_is st es up =
    ap (λ ms. change_of (object (put (codes "s") (array (texts_json st)) ms))) (places_chain es up)
    ∙ under_statics st (chain es) (rowless_chain es)
    ∙ ap (λ (o : Option Changes). option_map (λ ts. write (node st ts)) (and_then o trees_of)) (changes_chain es no_changes)

pub written_all : (st : List (List ℕ)) (q : Option Trees) → and_then (option_map (λ ts. write (node st ts)) q) written ≡ option_map (node st) q
written_all st None = refl
written_all st (Some ts) = refl

pub node_trees : (st : List (List ℕ)) (es : List (KeyValue PlaceValue)) → tree_of (node_data (Some st) es) ≡ option_map (node st) (and_then (changes_in (places_json (seen es)) no_changes) trees_of)
node_trees st es = ap (λ (o : Option Change). and_then o written) (under_statics st (places_json (seen es)) (rowless_sent es)) ∙ written_all st (and_then (changes_in (places_json (seen es)) no_changes) trees_of)

s_sent : (es : List (KeyValue PlaceValue)) → Holds (get_member s_key (places_json (seen es))) (λ d. texts_of d ≡ None)
s_sent [] = tt
s_sent (e ∷ es) = by (order s_key e.key) refl (s_sent es)
  where
    apart : (o : Ordering) → order s_key e.key ≡ o → is_eq o ≡ false → s_key ≡ e.key → ⊥
    apart o is differs same = true≢false (sym same_text_here ∙ ap is_eq is ∙ differs)
      where
        same_text_here : is_eq (order s_key e.key) ≡ true
        same_text_here = ap (λ k. is_eq (order s_key k)) (sym same)

    other : (s_key ≡ e.key → ⊥) → Holds (get_member s_key (places_json (seen es))) (λ d. texts_of d ≡ None) → Holds (get_member s_key (put e.key (place_data e.value) (places_json (seen es)))) (λ d. texts_of d ≡ None)
    other differs h = subst (λ (o : Option Data). Holds o (λ d. texts_of d ≡ None)) (sym (get_member-put_other s_key e.key (place_data e.value) (places_json (seen es)) differs)) h

    by : (o : Ordering) → order s_key e.key ≡ o → Holds (get_member s_key (places_json (seen es))) (λ d. texts_of d ≡ None) → Holds (get_member s_key (put e.key (place_data e.value) (places_json (seen es)))) (λ d. texts_of d ≡ None)
    by Less is h = other (apart Less is refl) h
    by Equal is h =
        subst (λ (o : Option Data). Holds o (λ d. texts_of d ≡ None))
        (sym (ap (λ k. get_member s_key (put k (place_data e.value) (places_json (seen es)))) (sym (exact_bytes s_key e.key is)) ∙ get_member-put s_key (place_data e.value) (places_json (seen es))))
        (no_texts e.value)
    by Greater is h = other (apart Greater is refl) h

-- what is sent without statics changes places alone
pub inner_only : (es : List (KeyValue PlaceValue)) (f : Change → Option Tree) → ((cs : Changes) → f (inner cs) ≡ None) → and_then (change_of (node_data None es)) f ≡ None
inner_only es f h = ap (λ o. and_then o f) (by_places (places_json (seen es)) (rowless_sent es)) ∙ by (changes_in (places_json (seen es)) no_changes) (get_member s_key (places_json (seen es))) (s_sent es)
  where
    by : (x : Option Changes) (o : Option Data) → Holds o (λ d. texts_of d ≡ None) → and_then (and_then x (node_change o)) f ≡ None
    by None o g = refl
    by (Some cs) None g = h cs
    by (Some cs) (Some d) g = ap (λ (o : Option (List (List ℕ))). and_then (option_both (λ st ts. write (node st ts)) o (trees_of cs)) f) g

above_s : (es : List (KeyValue PlaceValue)) → is_before s_key (keys es) ≡ true → ascend (keys es) ≡ true → unstatic es ≡ es
above_s [] h g = refl
above_s (e ∷ es) h g =
    let q = both_of (is_before e.key (keys es)) (ascend (keys es)) g in
    ap (λ (b : Bool). if b then unstatic es else e ∷ unstatic es) (is_s e.key Less (is_less _ h))
    ∙ ap (λ l. e ∷ l) (above_s es (below_rest s_key e.key (keys es) h q.0) q.1)

pub without_s : (es : List (KeyValue PlaceValue)) → ascend (keys es) ≡ true → unstatic es ≡ without_key s_key es
without_s [] h = refl
without_s (e ∷ es) h = by (order s_key e.key) refl (without_s es q.1)
  where
    q : (is_before e.key (keys es) ≡ true) × (ascend (keys es) ≡ true)
    q = both_of (is_before e.key (keys es)) (ascend (keys es)) h

    other : (o : Ordering) → order s_key e.key ≡ o → is_eq o ≡ false → unstatic es ≡ without_key s_key es → unstatic (e ∷ es) ≡ without_key s_key (e ∷ es)
    other o is differs rest =
        ap (λ (b : Bool). if b then unstatic es else e ∷ unstatic es) (is_s e.key o is ∙ differs)
        ∙ ap (λ l. e ∷ l) rest
        ∙ sym (ap (λ (b : Bool). if b then es else e ∷ without_key s_key es) (sym (is_eq-slice_cmp s_key e.key) ∙ ap is_eq is ∙ differs))

    by : (o : Ordering) → order s_key e.key ≡ o → unstatic es ≡ without_key s_key es → unstatic (e ∷ es) ≡ without_key s_key (e ∷ es)
    by Less is rest = other Less is refl rest
    by Equal is rest =
        ap (λ (b : Bool). if b then unstatic es else e ∷ unstatic es) (is_s e.key Equal is)
        ∙ above_s es (subst (λ k. is_before k (keys es) ≡ true) (sym (exact_bytes s_key e.key is)) q.0) q.1
        ∙ sym (ap (λ (b : Bool). if b then es else e ∷ without_key s_key es) (sym (is_eq-slice_cmp s_key e.key) ∙ ap is_eq is))
    by Greater is rest = other Greater is refl rest

pub one_less : (k : List ℕ) (es : List (KeyValue PlaceValue)) → is_some (lookup k es) ≡ true → suc (length (without_key k es)) ≡ length es
one_less k [] h = cc
one_less k (e ∷ es) h = by (bytes_eq k e.key) h (one_less k es)
  where
    by : (b : Bool) → is_some (if b then Some e.value else lookup k es) ≡ true → (is_some (lookup k es) ≡ true → suc (length (without_key k es)) ≡ length es)
        → suc (length (if b then es else e ∷ without_key k es)) ≡ suc (length es)
    by true h rest = refl
    by false h rest = ap suc (rest h)

pub none_less : (k : List ℕ) (es : List (KeyValue PlaceValue)) → is_some (lookup k es) ≡ false → length (without_key k es) ≡ length es
none_less k [] h = refl
none_less k (e ∷ es) h = by (bytes_eq k e.key) h (none_less k es)
  where
    by : (b : Bool) → is_some (if b then Some e.value else lookup k es) ≡ false → (is_some (lookup k es) ≡ false → length (without_key k es) ≡ length es)
        → length (if b then es else e ∷ without_key k es) ≡ suc (length es)
    by true h rest = cc
    by false h rest = ap suc (rest h)

pub trees_are : (es : List (KeyValue PlaceValue)) → ascend (keys es) ≡ true → and_then (changes_in (places_json (seen es)) no_changes) trees_of ≡ and_then (gathered (readings (unstatic es)) no_changes) trees_of
trees_are es up = ap (λ ms. and_then (changes_in ms no_changes) trees_of) (places_chain es up) ∙ ap (λ (o : Option Changes). and_then o trees_of) (changes_chain es no_changes)

pub unwritten_change : (st : List (List ℕ)) (es : List (KeyValue PlaceValue)) → tree_of (node_data (Some st) es) ≡ None → change_of (node_data (Some st) es) ≡ None
unwritten_change st es h = by (and_then (changes_in (places_json (seen es)) no_changes) trees_of) (under_statics st (places_json (seen es)) (rowless_sent es)) (sym (node_trees st es) ∙ h)
  where
    by : (q : Option Trees) → change_of (node_data (Some st) es) ≡ option_map (λ ts. write (node st ts)) q → option_map (node st) q ≡ None → change_of (node_data (Some st) es) ≡ None
    by None is none = is
    by (Some ts) is none = cc

-- what is sent for these statics and this body
pub part_of : (p : Part) (st : Option (List (List ℕ))) (b : PartBody) → st ≡ statics_of p → b ≡ body_of p → part_data p ≡ sent_node st b
part_of p st b s e = part_is p ∙ ap (λ o. sent_node o (body_of p)) (sym s) ∙ ap (sent_node st) (sym e)
