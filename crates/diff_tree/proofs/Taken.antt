-- Nodes read from JSON, member by member.
use Rattle.std.proofs.Common.{◌≡◌, ◌≢◌, ℕ, zero, suc, ◌+◌, ◌<◌, ◌≤◌, ◌==◌, List, [], ◌∷◌, ◌++◌, length, get_or, drop, String, string_bytes, Global, Bool, true, false, ◌&&◌, ◌||◌, Option, Some, None, option_map, is_some, refl, sym, ap, ◌∙◌, subst, arith, codes, decimal, ◌⊎◌, inl, inr}
use Rattle.std.specs.Str.{bytes_eq}
use Rattle.std.proofs.Math.ListN.{drop_of_length-le}
use Rattle.std.proofs.lemmas.List.{map-append}
use Rattle.std.proofs.lemmas.Bool.Decides.{eqb_tells}
use Rattle.serde_json.specs.Data.{Data, null, boolean, number, string, array, object, Items, no_items, item, Members, no_members, member}
use Rattle.serde_json.specs.Events.{items_len, members_len}
use Rattle.serde_json.specs.Find.{get, as_str, as_array, as_object}
use Rattle.serde_json.specs.View.{view, items_view, members_view}
use Rattle.text_core.specs.declared.by_key.KeyValue.{KeyValue}
use Rattle.text_core.specs.Keyed.{ascend, keys, entry, on_value}
use Rattle.diff_tree.specs.Spelling.{texts_json}
use Rattle.diff_tree.specs.Parts.{place_data, places_json, with_statics, seen}
use Rattle.diff_tree.specs.Grammar.{are_texts, count_of, has_places, are_statics, are_places, is_place, is_value, surround, without, with_member}
use Rattle.diff_tree.specs.declared.part.PlaceValue.{PlaceValue}
use Rattle.diff_tree.proofs.Keys.{Json}
use Rattle.diff_tree.proofs.Order.{cons_at, join, join-none, join-join, chain, chain-snoc}
use Rattle.diff_tree.proofs.Members.{keeps_if, drops_if}
use Rattle.diff_tree.proofs.Written.{seen_in_order}

-- ---- texts

abbrev pub join_items : Items → Items → Items
join_items no_items es = es
join_items (item d ds) es = item d (join_items ds es)

join_items-none : (ds : Items) → join_items ds no_items ≡ ds
join_items-none no_items = refl
join_items-none (item d ds) = ap (item d) (join_items-none ds)

texts-snoc : (ts : List (List ℕ)) (t : List ℕ) (es : Items) → join_items (texts_json (ts ++ t ∷ [])) es ≡ join_items (texts_json ts) (item (string t) es)
texts-snoc [] t es = refl
texts-snoc (s ∷ ts) t es = ap (item (string s)) (texts-snoc ts t es)

is_text : (d : Data) (t : List ℕ) → Some t ≡ as_str d → d ≡ string t
is_text null t h = cc
is_text (boolean b) t h = cc
is_text (number n) t h = cc
is_text (string s) t h = cc
is_text (array ds) t h = cc
is_text (object ms) t h = cc

no_text : (d : Data) (ds : Items) → None ≡ as_str d → are_texts (item d ds) ≡ false
no_text null ds h = refl
no_text (boolean b) ds h = refl
no_text (number n) ds h = refl
no_text (string s) ds h = cc
no_text (array es) ds h = refl
no_text (object ms) ds h = refl

-- one more text was read
pub texts_on : (js : List Json) (i : ℕ) (j : Json) (ts : List (List ℕ)) (t : List ℕ) (whole : Items) → i < length js → j ≡ get_or js i j → Some t ≡ as_str (view j)
    → join_items (texts_json ts) (items_view (drop i js)) ≡ whole → join_items (texts_json (ts ++ t ∷ [])) (items_view (drop (i + 1) js)) ≡ whole
texts_on js i j ts t whole h is text so_far =
    let rest : Items = items_view (drop (i + 1) js) in
    texts-snoc ts t rest ∙ ap (λ d. join_items (texts_json ts) (item d rest)) (sym (is_text (view j) t text)) ∙ ap (λ l. join_items (texts_json ts) (items_view l)) (sym (cons_at js i j h is)) ∙ so_far

pub are_on : (js : List Json) (i : ℕ) (j : Json) (t : List ℕ) (whole : Bool) → i < length js → j ≡ get_or js i j → Some t ≡ as_str (view j)
    → are_texts (items_view (drop i js)) ≡ whole → are_texts (items_view (drop (i + 1) js)) ≡ whole
are_on js i j t whole h is text so_far =
    let rest : Items = items_view (drop (i + 1) js) in
    ap (λ d. are_texts (item d rest)) (sym (is_text (view j) t text)) ∙ ap (λ l. are_texts (items_view l)) (sym (cons_at js i j h is)) ∙ so_far

pub are_not : (js : List Json) (i : ℕ) (j : Json) (whole : Bool) → i < length js → j ≡ get_or js i j → None ≡ as_str (view j)
    → are_texts (items_view (drop i js)) ≡ whole → whole ≡ false
are_not js i j whole h is none so_far =
    sym so_far ∙ ap (λ l. are_texts (items_view l)) (cons_at js i j h is) ∙ no_text (view j) (items_view (drop (i + 1) js)) none

pub texts_all : (js : List Json) (i : ℕ) (ts : List (List ℕ)) → length js ≤ i → join_items (texts_json ts) (items_view (drop i js)) ≡ items_view js → texts_json ts ≡ items_view js
texts_all js i ts h so_far = sym (join_items-none (texts_json ts)) ∙ ap (λ l. join_items (texts_json ts) (items_view l)) (sym (drop_of_length-le js h)) ∙ so_far

pub are_all : (js : List Json) (i : ℕ) → length js ≤ i → are_texts (items_view (drop i js)) ≡ are_texts (items_view js) → are_texts (items_view js) ≡ true
are_all js i h so_far = sym so_far ∙ ap (λ l. are_texts (items_view l)) (drop_of_length-le js h)

-- ---- how many there are

pub items_len-view : (js : List Json) → items_len (items_view js) ≡ length js
items_len-view [] = refl
items_len-view (j ∷ js) = omega (arith, items_len-view js)

members_len-view : (ms : List (String Global × Json)) → members_len (members_view ms) ≡ length ms
members_len-view [] = refl
members_len-view (m ∷ ms) = omega (arith, members_len-view ms)

pub counted : (d : Data) (ms : List (String Global × Json)) → Some (members_view ms) ≡ as_object d → length ms ≡ count_of d
counted null ms h = cc
counted (boolean b) ms h = cc
counted (number n) ms h = cc
counted (string s) ms h = cc
counted (array ds) ms h = cc
counted (object ns) ms h =
    let same : Some (members_view ms) ≡ Some ns = h in
    let inside : members_view ms ≡ ns = cc in
    sym (members_len-view ms) ∙ ap members_len inside

pub counted_none : (d : Data) → None ≡ as_object d → 0 ≡ count_of d
counted_none null h = refl
counted_none (boolean b) h = refl
counted_none (number n) h = refl
counted_none (string s) h = refl
counted_none (array ds) h = refl
counted_none (object ms) h = cc

pub is_some-map : {A B : Type 0} (f : A → B) (o : Option A) → is_some (option_map f o) ≡ is_some o
is_some-map f None = refl
is_some-map f (Some x) = refl

-- a place is lacking
pub lacks : (n k : ℕ) (d : Data) → k < n → is_some (get (decimal k) d) ≡ false → has_places n d ≡ false
lacks zero k d h none = absurd (omega arith)
lacks (suc n) k d h none = by (eqb_tells k n) (λ g. lacks n k d g none)
  where
    and_false : (b : Bool) → (b && false) ≡ false
    and_false true = refl
    and_false false = refl

    by : ((k == n ≡ true) × (k ≡ n)) ⊎ ((k == n ≡ false) × (k ≢ n)) → (k < n → has_places n d ≡ false) → has_places (suc n) d ≡ false
    by (inl same) rest = ap (λ m. is_some (get (decimal m) d) && has_places n d) (sym same.1) ∙ ap (λ b. b && has_places n d) none
    by (inr other) rest = let apart = other.1 in ap (λ b. is_some (get (decimal n) d) && b) (rest (omega arith)) ∙ and_false (is_some (get (decimal n) d))

-- ---- places

abbrev s_key : List ℕ
s_key = codes "s"

-- `s` is passed over
pub passes_on : (k : String Global) (j : Json) (js : List (String Global × Json)) (front : Members) (whole : Members) → bytes_eq (string_bytes k) (codes "s") ≡ true
    → join front (without s_key (members_view ((k, j) ∷ js))) ≡ whole → join front (without s_key (members_view js)) ≡ whole
passes_on k j js front whole h so_far = ap (join front) (sym (drops_if (bytes_eq (string_bytes k) s_key) s_key (string_bytes k) (view j) (members_view js) h)) ∙ so_far

pub passes_fit : (k : String Global) (j : Json) (js : List (String Global × Json)) (whole : Bool) → bytes_eq (string_bytes k) (codes "s") ≡ true
    → are_places (members_view ((k, j) ∷ js)) ≡ whole → are_places (members_view js) ≡ whole
passes_fit k j js whole h so_far =
    sym (ap (λ b. (b || (is_place (string_bytes k) && is_value (view j))) && are_places (members_view js)) h) ∙ so_far

-- one more place was read
pub places_on : (k : String Global) (j : Json) (js : List (String Global × Json)) (es : List (KeyValue PlaceValue)) (name : List ℕ) (v : PlaceValue) (whole : Members)
    → bytes_eq (string_bytes k) (codes "s") ≡ false → name ≡ string_bytes k → place_data v ≡ view j
    → join (chain (seen es)) (without s_key (members_view ((k, j) ∷ js))) ≡ whole → join (chain (seen (es ++ entry name v ∷ []))) (without s_key (members_view js)) ≡ whole
places_on k j js es name v whole h same read so_far =
    let rest : Members = without s_key (members_view js) in
    ap (λ l. join (chain l) rest) (map-append (on_value place_data) es (entry name v ∷ []))
    ∙ ap (λ l. join l rest) (chain-snoc (seen es) (entry name (place_data v)))
    ∙ join-join (chain (seen es)) (member name (place_data v) no_members) rest
    ∙ ap (λ n. join (chain (seen es)) (member n (place_data v) rest)) same
    ∙ ap (λ d. join (chain (seen es)) (member (string_bytes k) d rest)) read
    ∙ ap (join (chain (seen es))) (sym (keeps_if (bytes_eq (string_bytes k) s_key) s_key (string_bytes k) (view j) (members_view js) (without s_key (members_view js)) h refl)) ∙ so_far

or_true : (b : Bool) → (b || true) ≡ true
or_true true = refl
or_true false = refl

pub places_fit : (k : String Global) (j : Json) (js : List (String Global × Json)) (whole : Bool) → (is_place (string_bytes k) && is_value (view j)) ≡ true
    → are_places (members_view ((k, j) ∷ js)) ≡ whole → are_places (members_view js) ≡ whole
places_fit k j js whole h so_far =
    let s : Bool = bytes_eq (string_bytes k) (codes "s") in
    sym (ap (λ b. (s || b) && are_places (members_view js)) h ∙ ap (λ b. b && are_places (members_view js)) (or_true s)) ∙ so_far

pub places_not : (k : String Global) (j : Json) (js : List (String Global × Json)) (whole : Bool) → bytes_eq (string_bytes k) (codes "s") ≡ false
    → (is_place (string_bytes k) && is_value (view j)) ≡ false → are_places (members_view ((k, j) ∷ js)) ≡ whole → whole ≡ false
places_not k j js whole h none so_far =
    let p : Bool = is_place (string_bytes k) && is_value (view j) in
    sym so_far ∙ ap (λ s. (s || p) && are_places (members_view js)) h ∙ ap (λ b. b && are_places (members_view js)) none

none_behind : (xs : List (List ℕ)) → xs ++ [] ≡ xs
none_behind [] = refl
none_behind (x ∷ xs) = ap (λ l. x ∷ l) (none_behind xs)

-- all places were read
pub places_all : (es : List (KeyValue PlaceValue)) (ms : Members) → ascend (keys es ++ []) ≡ true → join (chain (seen es)) no_members ≡ ms → places_json (seen es) ≡ ms
places_all es ms in_order so_far =
    let keys_are : ascend (keys es) ≡ true = subst (λ l. ascend l ≡ true) (none_behind (keys es)) in_order in
    seen_in_order es keys_are ∙ sym (join-none (chain (seen es))) ∙ so_far

-- ---- statics

pub is_array : (d : Data) (ds : Items) → Some ds ≡ as_array d → d ≡ array ds
is_array null ds h = cc
is_array (boolean b) ds h = cc
is_array (number n) ds h = cc
is_array (string s) ds h = cc
is_array (array es) ds h = cc
is_array (object ms) ds h = cc

-- texts are statics where they stand around the places
pub around : (d whole : Data) (js : List Json) → Some (items_view js) ≡ as_array d → are_texts (items_view js) ≡ true → are_statics (Some d) whole ≡ surround (length js) whole
around d whole js is texts =
    ap (λ x. are_statics (Some x) whole) (is_array d (items_view js) is) ∙ ap (λ b. b && surround (items_len (items_view js)) whole) texts
    ∙ ap (λ n. surround n whole) (items_len-view js)

pub texts_are : (d : Data) (js : List Json) (ts : List (List ℕ)) → Some (items_view js) ≡ as_array d → texts_json ts ≡ items_view js → array (texts_json ts) ≡ d
texts_are d js ts is same = ap array same ∙ sym (is_array d (items_view js) is)

-- statics stand under `s`
pub statics_under : (st : Option (List (List ℕ))) (o : Option Data) (ms : Members) → option_map (λ ts. array (texts_json ts)) st ≡ o → with_statics st ms ≡ with_member s_key o ms
statics_under None o ms h = ap (λ x. with_member s_key x ms) h
statics_under (Some ts) o ms h = ap (λ x. with_member s_key x ms) h
