-- Nodes of rows, read from JSON.
use Rattle.std.proofs.Common.{◌≡◌, ℕ, suc, ◌+◌, ◌<◌, ◌≤◌, ◌==◌, List, [], ◌∷◌, length, get_or, drop, map, Bool, true, false, ◌&&◌, ◌||◌, if◌then◌else◌, Option, Some, None, is_some, refl, sym, ap, ◌∙◌, subst, codes, ◌⊎◌, inl, inr, true≢false, Ordering, Less, Equal, Greater}
use Rattle.std.proofs.lemmas.Map.Lookups.{exact_bytes}
use Rattle.std.specs.Prelude.{option_and_then}
use Rattle.std.specs.Ordering.{is_lt, match_ordering}
use Rattle.std.specs.Str.{bytes_eq}
use Rattle.std.proofs.Math.ListN.{drop_of_length-le}
use Rattle.std.proofs.lemmas.Slice.Eq.{bytes_eq-Decides}
use Rattle.serde_json.specs.Data.{Data, array, object, Items, no_items, Members, no_members, member, put}
use Rattle.serde_json.specs.Events.{items_len}
use Rattle.serde_json.specs.Find.{get, get_member, as_array}
use Rattle.serde_json.specs.View.{items_of}
use Rattle.text_core.specs.Keyed.{is_before, ascend}
use Rattle.text_core.proofs.Keyed.{order, both_of}
use Rattle.diff_tree.specs.Plain.{names}
use Rattle.diff_tree.specs.Parts.{place_data, row_data, rows_data}
use Rattle.diff_tree.specs.Grammar.{have_length, is_node, are_listed, is_rows, list_fits, fit_rows, statics_fit, are_places, without, with_member}
use Rattle.diff_tree.specs.declared.part.PlaceValue.{PlaceValue}
use Rattle.diff_tree.specs.declared.part.Row.{Row, out-Row}
use Rattle.diff_tree.proofs.Order.{cons_at, before_rest, both_to}
use Rattle.diff_tree.proofs.Members.{with_back, without_ascends, get_without, keeps_if, drops_if}
use Rattle.diff_tree.proofs.Written.{row_data-out}

abbrev d_key : List ℕ
d_key = codes "d"

abbrev s_key : List ℕ
s_key = codes "s"

abbrev stream_key : List ℕ
stream_key = codes "stream"

-- ---- nothing stands beside rows, statics and a stream

none_left : (ms : Members) → are_listed ms ≡ true → without stream_key (without s_key (without d_key ms)) ≡ no_members
none_left no_members h = refl
none_left (member k e ms) h = by (bytes_eq k d_key) refl (bytes_eq k s_key) refl (bytes_eq k stream_key) refl p.0 (none_left ms p.1)
  where
    p : ((bytes_eq k s_key || bytes_eq k stream_key || (bytes_eq k d_key && is_rows e)) ≡ true) × (are_listed ms ≡ true)
    p = both_of (bytes_eq k s_key || bytes_eq k stream_key || (bytes_eq k d_key && is_rows e)) (are_listed ms) h

    rest : Members
    rest = without d_key ms

    by : (d : Bool) → bytes_eq k d_key ≡ d → (s : Bool) → bytes_eq k s_key ≡ s → (t : Bool) → bytes_eq k stream_key ≡ t → (s || t || (d && is_rows e)) ≡ true
        → without stream_key (without s_key (without d_key ms)) ≡ no_members → without stream_key (without s_key (without d_key (member k e ms))) ≡ no_members
    by true is_d s is_s t is_t one r = ap (λ x. without stream_key (without s_key x)) (drops_if (bytes_eq k d_key) d_key k e ms is_d) ∙ r
    by false is_d true is_s t is_t one r =
        ap (λ x. without stream_key (without s_key x)) (keeps_if (bytes_eq k d_key) d_key k e ms rest is_d refl)
        ∙ ap (without stream_key) (drops_if (bytes_eq k s_key) s_key k e rest is_s) ∙ r
    by false is_d false is_s true is_t one r =
        ap (λ x. without stream_key (without s_key x)) (keeps_if (bytes_eq k d_key) d_key k e ms rest is_d refl)
        ∙ ap (without stream_key) (keeps_if (bytes_eq k s_key) s_key k e rest (without s_key rest) is_s refl)
        ∙ drops_if (bytes_eq k stream_key) stream_key k e (without s_key rest) is_t ∙ r
    by false is_d false is_s false is_t one r = absurd (true≢false (sym one))

-- what stands under the three keys is all
pub list_whole : (ms : Members) → ascend (names ms) ≡ true → are_listed ms ≡ true
    → with_member d_key (get_member d_key ms) (with_member s_key (get_member s_key ms) (with_member stream_key (get_member stream_key ms) no_members)) ≡ ms
list_whole ms g h =
    let no_d : Members = without d_key ms in
    let no_s : Members = without s_key no_d in
    let g_d : ascend (names no_d) ≡ true = without_ascends d_key ms g in
    let g_s : ascend (names no_s) ≡ true = without_ascends s_key no_d g_d in
    let t_is : get_member stream_key no_s ≡ get_member stream_key ms = get_without stream_key s_key no_d refl ∙ get_without stream_key d_key ms refl in
    let s_is : get_member s_key no_d ≡ get_member s_key ms = get_without s_key d_key ms refl in
    let third : with_member stream_key (get_member stream_key ms) no_members ≡ no_s
    = ap (λ o. with_member stream_key o no_members) (sym t_is) ∙ ap (with_member stream_key (get_member stream_key no_s)) (sym (none_left ms h)) ∙ with_back stream_key no_s g_s in
    let second : with_member s_key (get_member s_key ms) no_s ≡ no_d = ap (λ o. with_member s_key o no_s) (sym s_is) ∙ with_back s_key no_d g_d in
    ap (λ x. with_member d_key (get_member d_key ms) (with_member s_key (get_member s_key ms) x)) third ∙ ap (with_member d_key (get_member d_key ms)) second ∙ with_back d_key ms g

-- ---- a node of rows

some_of : {A : Type 0} (o : Option A) → is_some o ≡ true → (x : A) × (o ≡ Some x)
some_of None h = absurd (true≢false (sym h))
some_of (Some x) h = (x, refl)

listed_if : (b : Bool) (ms : Members) (fits : Bool) → b ≡ true → (if b then are_listed ms && fits else statics_fit (object ms) && are_places ms) ≡ (are_listed ms && fits)
listed_if b ms fits h = rw h refl

places_if : (b : Bool) (ms : Members) (fits : Bool) → b ≡ false → (if b then are_listed ms && fits else statics_fit (object ms) && are_places ms) ≡ (statics_fit (object ms) && are_places ms)
places_if b ms fits h = rw h refl

-- an object without `d` has places
pub is_places : (ms : Members) → is_some (get_member d_key ms) ≡ false → is_node (object ms) ≡ (statics_fit (object ms) && are_places ms)
is_places ms h = places_if (is_some (get_member d_key ms)) ms (list_fits (object ms)) h

-- an object with `d` has rows
pub is_list : (ms : Members) → is_some (get_member d_key ms) ≡ true → is_node (object ms) ≡ (are_listed ms && list_fits (object ms))
is_list ms h = listed_if (is_some (get_member d_key ms)) ms (list_fits (object ms)) h

-- where they were read
pub rows_are : (ms : Members) (rs : Items) → is_some (get_member d_key ms) ≡ true → ((d : Data) → get_member d_key ms ≡ Some d → array rs ≡ d) → get_member d_key ms ≡ Some (array rs)
rows_are ms rs h read = let found = some_of (get_member d_key ms) h in found.1 ∙ ap Some (sym (read found.0 found.1))

pub list_fits_is : (ms : Members) (rs : Items) → get_member d_key ms ≡ Some (array rs) → list_fits (object ms) ≡ fit_rows (object ms) rs
list_fits_is ms rs h = ap (λ o. fit_rows (object ms) (elim (option_and_then as_array o) [ None ↦ no_items | Some xs ↦ xs ])) h

pub list_is : (ms : Members) (rs : Items) → ascend (names ms) ≡ true → are_listed ms ≡ true → get_member d_key ms ≡ Some (array rs)
    → put d_key (array rs) (with_member s_key (get_member s_key ms) (with_member stream_key (get_member stream_key ms) no_members)) ≡ ms
list_is ms rs g h found =
    ap (λ o. with_member d_key o (with_member s_key (get_member s_key ms) (with_member stream_key (get_member stream_key ms) no_members))) (sym found) ∙ list_whole ms g h

-- a node of rows, as it was read
pub list_read : (v : Data) (ms : Members) (rs : Items) (p : Data) → v ≡ object ms → is_some (get d_key v) ≡ true → ascend (names ms) ≡ true → are_listed ms ≡ true
    → ((d : Data) → get_member d_key ms ≡ Some d → array rs ≡ d)
    → (fit_rows v rs ≡ true) × (p ≡ object (put d_key (array rs) (with_member s_key (get s_key v) (with_member stream_key (get stream_key v) no_members)))) → (is_node v ≡ true) × (p ≡ v)
list_read v ms rs p is some g listed read made =
    let there : is_some (get_member d_key ms) ≡ true = sym (ap (λ x. is_some (get d_key x)) is) ∙ some in
    let found : get_member d_key ms ≡ Some (array rs) = rows_are ms rs there read in
    let fits : list_fits (object ms) ≡ true = list_fits_is ms rs found ∙ ap (λ x. fit_rows x rs) (sym is) ∙ made.0 in (
      ap is_node is ∙ is_list ms there ∙ both_to (are_listed ms) (list_fits (object ms)) listed fits,
      made.1 ∙ ap (λ x. object (put d_key (array rs) (with_member s_key (get s_key x) (with_member stream_key (get stream_key x) no_members)))) is ∙ ap object (list_is ms rs g listed found) ∙ sym is,
    )

-- a node of places, as it was read
pub places_read : (v : Data) (ms places : Members) (p : Data) → v ≡ object ms → is_some (get d_key v) ≡ false → ascend (names ms) ≡ true → are_places ms ≡ true → places ≡ without s_key ms
    → (statics_fit v ≡ true) × (p ≡ object (with_member s_key (get s_key v) places)) → (is_node v ≡ true) × (p ≡ v)
places_read v ms places p is none g are rest made =
    let gone : is_some (get_member d_key ms) ≡ false = sym (ap (λ x. is_some (get d_key x)) is) ∙ none in (
      ap is_node is ∙ is_places ms gone ∙ both_to (statics_fit (object ms)) (are_places ms) (ap statics_fit (sym is) ∙ made.0) are,
      made.1 ∙ ap (λ x. object (with_member s_key (get s_key x) places)) is ∙ ap (λ x. object (with_member s_key (get_member s_key ms) x)) rest ∙ ap object (with_back s_key ms g) ∙ sym is,
    )

pub places_refused : (v : Data) (ms : Members) → v ≡ object ms → is_some (get d_key v) ≡ false → are_places ms ≡ false → is_node v ≡ false
places_refused v ms is none are =
    ap is_node is ∙ is_places ms (sym (ap (λ x. is_some (get d_key x)) is) ∙ none) ∙ ap (λ b. statics_fit (object ms) && b) are ∙ and_false (statics_fit (object ms))
  where
    and_false : (b : Bool) → (b && false) ≡ false
    and_false true = refl
    and_false false = refl

-- ---- rows under `d`, member by member

-- they are still to come, or were read
abbrev pub Came : Items → Members → Members → Type 0
Came rs rest whole = (get_member d_key whole ≡ get_member d_key rest) ⊎ ((get_member d_key whole ≡ Some (array rs)) × (is_before d_key (names rest) ≡ true))

same_key : (k : List ℕ) → bytes_eq k d_key ≡ true → k ≡ d_key
same_key k h = (bytes_eq-Decides k d_key).0 h

comes_at : (k : List ℕ) (e : Data) (ms whole : Members) (old new : Items) → bytes_eq k d_key ≡ true → ascend (k ∷ names ms) ≡ true → array new ≡ e → Came old (member k e ms) whole → Came new ms whole
comes_at k e ms whole old new is g read (inl h) = inr (h ∙ ap (λ l. get_member d_key (member l e ms)) (same_key k is) ∙ ap Some (sym read), subst (λ l. is_before l (names ms) ≡ true) (same_key k is) (both_of (is_before k (names ms)) (ascend (names ms)) g).0)
comes_at k e ms whole old new is g read (inr h) = absurd (true≢false (sym (subst (λ l. is_lt (order d_key l) ≡ true) (same_key k is) h.1)))

other_key : (k : List ℕ) (e : Data) (ms : Members) → bytes_eq k d_key ≡ false → get_member d_key (member k e ms) ≡ get_member d_key ms
other_key k e ms h = by (order d_key k) refl
  where
    by : (o : Ordering) → order d_key k ≡ o → match_ordering o (get_member d_key ms) (Some e) (get_member d_key ms) ≡ get_member d_key ms
    by Less is = refl
    by Equal is = absurd (true≢false (sym ((bytes_eq-Decides k d_key).1 (sym (exact_bytes d_key k is))) ∙ h))
    by Greater is = refl

comes_on : (k : List ℕ) (e : Data) (ms whole : Members) (old new : Items) → bytes_eq k d_key ≡ false → ascend (k ∷ names ms) ≡ true → new ≡ old → Came old (member k e ms) whole → Came new ms whole
comes_on k e ms whole old new is g same (inl h) = inl (h ∙ other_key k e ms is)
comes_on k e ms whole old new is g same (inr h) =
    inr (h.0 ∙ ap (λ r. Some (array r)) (sym same), before_rest d_key k (names ms) h.1 (both_of (is_before k (names ms)) (ascend (names ms)) g).0)

pub comes : (k : List ℕ) (e : Data) (ms whole : Members) (old new : Items) → ascend (k ∷ names ms) ≡ true → (bytes_eq k d_key ≡ true → array new ≡ e) → (bytes_eq k d_key ≡ false → new ≡ old)
    → Came old (member k e ms) whole → Came new ms whole
comes k e ms whole old new g read same came = by (bytes_eq k d_key) refl
  where
    by : (b : Bool) → bytes_eq k d_key ≡ b → Came new ms whole
    by true is = comes_at k e ms whole old new is g (read is) came
    by false is = comes_on k e ms whole old new is g (same is) came

pub came_all : (rs : Items) (rest whole : Members) → rest ≡ no_members → Came rs rest whole → (d : Data) → get_member d_key whole ≡ Some d → array rs ≡ d
came_all rs rest whole none (inl h) d found = let no : Some d ≡ None = sym found ∙ h ∙ ap (get_member d_key) none in cc
came_all rs rest whole none (inr h) d found = let same : Some (array rs) ≡ Some d = sym h.0 ∙ found in cc

-- ---- lengths of rows

items_len-map : (vs : List PlaceValue) → items_len (items_of (map place_data vs)) ≡ length vs
items_len-map [] = refl
items_len-map (v ∷ vs) = ap suc (items_len-map vs)

pub row_len : (r : Row) → items_len (row_data r) ≡ length (out-Row r).values
row_len r = ap items_len (row_data-out r) ∙ items_len-map (out-Row r).values

pub rows_len : (rs : List Row) → items_len (rows_data rs) ≡ length rs
rows_len [] = refl
rows_len (r ∷ rs) = ap suc (rows_len rs)

pub length_on : (rs : List Row) (i : ℕ) (r : Row) (n : ℕ) (whole : Bool) → i < length rs → r ≡ get_or rs i r → length (out-Row r).values == n ≡ true
    → have_length n (rows_data (drop i rs)) ≡ whole → have_length n (rows_data (drop (i + 1) rs)) ≡ whole
length_on rs i r n whole h is fits so_far =
    sym (ap (λ l. have_length n (rows_data l)) (cons_at rs i r h is) ∙ ap (λ m. m == n && have_length n (rows_data (drop (i + 1) rs))) (row_len r)
    ∙ ap (λ b. b && have_length n (rows_data (drop (i + 1) rs))) fits) ∙ so_far

pub length_not : (rs : List Row) (i : ℕ) (r : Row) (n : ℕ) (whole : Bool) → i < length rs → r ≡ get_or rs i r → length (out-Row r).values == n ≡ false
    → have_length n (rows_data (drop i rs)) ≡ whole → whole ≡ false
length_not rs i r n whole h is fits so_far =
    sym so_far ∙ ap (λ l. have_length n (rows_data l)) (cons_at rs i r h is) ∙ ap (λ m. m == n && have_length n (rows_data (drop (i + 1) rs))) (row_len r)
    ∙ ap (λ b. b && have_length n (rows_data (drop (i + 1) rs))) fits

pub length_all : (rs : List Row) (i n : ℕ) → length rs ≤ i → have_length n (rows_data (drop i rs)) ≡ have_length n (rows_data rs) → have_length n (rows_data rs) ≡ true
length_all rs i n h so_far = sym so_far ∙ ap (λ l. have_length n (rows_data l)) (drop_of_length-le rs h)
