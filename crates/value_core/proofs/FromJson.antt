-- Values read from JSON, item by item.
use Rattle.std.proofs.Common.{◌≡◌, ℕ, suc, ◌+◌, ◌<◌, ◌≤◌, max, List, [], ◌∷◌, ◌++◌, length, get_or, drop, map, String, string_bytes, Bool, true, false, ◌&&◌, if◌then◌else◌, Option, Some, None, option_map, option_and_then, refl, sym, ap, ◌∙◌, arith, ◌⊎◌, inl, inr}
use Rattle.std.specs.Bool.{nat_le}
use Rattle.std.specs.List.{AllByRecursion}
use Rattle.std.specs.List.Sorted.{IsStrictlySortedBy}
use Rattle.std.specs.declared.alloc.Global.{Global}
use Rattle.std.specs.Ordering.{is_lt, nat_cmp}
use Rattle.std.specs.declared.cmp.Ordering.TheVariants.{Less}
use Rattle.std.specs.Cmp.Lexicographic.{slice_cmp}
use Rattle.std.proofs.lemmas.Bool.Decides.{leb_tells}
use Rattle.std.proofs.lemmas.Bool.{le-leb, lt-leb}
use Rattle.std.proofs.Math.Dec.{leb-zero}
use Rattle.std.proofs.Math.ListN.{drop_of_length-le}
use Rattle.std.proofs.lemmas.List.{map-append}
use Rattle.serde_json.specs.Data.{Data, Items, no_items, item, Members, no_members, member, depth, items_depth, members_depth}
use Rattle.serde_json.specs.View.{view as json_view, items_view, members_view}
use Rattle.serde_json.specs.declared.value.Value as json
use Rattle.text_core.specs.declared.by_key.KeyValue.{KeyValue}
use Rattle.text_core.specs.Keyed.{is_before, ascend, keys, entry, on_value}
use Rattle.value_core.specs.Value as model
use Rattle.value_core.specs.Value.{Values, no_values, value, Assigns, no_assigns, assign}
use Rattle.value_core.specs.View.{view, values_of, assigns_of}
use Rattle.value_core.specs.Json.{meaning, items_meaning, members_meaning, value_within, values_within, assigns_within}
use Rattle.value_core.specs.declared.value.Value.{Value}
use Rattle.value_core.proofs.Order.{cons_at}

abbrev Json : Type 0
Json = json.Value

-- values before others
abbrev pub add_values : List model.Value → Values → Values
add_values [] ws = ws
add_values (v ∷ vs) ws = value v (add_values vs ws)

abbrev pub add_assigns : List (KeyValue model.Value) → Assigns → Assigns
add_assigns [] ws = ws
add_assigns (e ∷ es) ws = assign e.key e.value (add_assigns es ws)

pub add_values_none : (vs : List model.Value) → add_values vs no_values ≡ values_of vs
add_values_none [] = refl
add_values_none (v ∷ vs) = ap (value v) (add_values_none vs)

pub add_assigns_none : (es : List (KeyValue model.Value)) → add_assigns es no_assigns ≡ assigns_of es
add_assigns_none [] = refl
add_assigns_none (e ∷ es) = ap (assign e.key e.value) (add_assigns_none es)

add_values_snoc : (vs : List model.Value) (v : model.Value) (ws : Values) → add_values (vs ++ v ∷ []) ws ≡ add_values vs (value v ws)
add_values_snoc [] v ws = refl
add_values_snoc (u ∷ vs) v ws = ap (value u) (add_values_snoc vs v ws)

add_assigns_snoc : (es : List (KeyValue model.Value)) (e : KeyValue model.Value) (ws : Assigns) → add_assigns (es ++ e ∷ []) ws ≡ add_assigns es (assign e.key e.value ws)
add_assigns_snoc [] e ws = refl
add_assigns_snoc (d ∷ es) e ws = ap (assign d.key d.value) (add_assigns_snoc es e ws)

-- two depths are within where the greater is
max_within : (a b m : ℕ) → nat_le (max a b) m ≡ (nat_le a m && nat_le b m)
max_within a b m = by (leb_tells a m) (leb_tells b m)
  where
    by : ((nat_le a m ≡ true) × (a ≤ m)) ⊎ ((nat_le a m ≡ false) × (m < a)) → ((nat_le b m ≡ true) × (b ≤ m)) ⊎ ((nat_le b m ≡ false) × (m < b)) → nat_le (max a b) m ≡ (nat_le a m && nat_le b m)
    by (inl p) (inl q) = let x = p.1 in let y = q.1 in le-leb (max a b) m (omega arith) ∙ sym (ap (λ c. c && nat_le b m) p.0 ∙ q.0)
    by (inl p) (inr q) = let y = q.1 in lt-leb (max a b) m (omega arith) ∙ sym (ap (λ c. c && nat_le b m) p.0 ∙ q.0)
    by (inr p) q = let x = p.1 in lt-leb (max a b) m (omega arith) ∙ sym (ap (λ c. c && nat_le b m) p.0)

both_within : {A B C : Type 0} (f : A → B → C) (x y : Bool) (o : Option A) (r : Option B)
    → (if x && y then option_and_then (λ v. option_map (f v) r) o else None) ≡ option_and_then (λ v. option_map (f v) (if y then r else None)) (if x then o else None)
both_within f true true o r = refl
both_within f true false None r = refl
both_within f true false (Some v) r = refl
both_within f false y o r = refl

values_within_item : (m : ℕ) (d : Data) (ds : Items) → values_within m (item d ds) ≡ option_and_then (λ v. option_map (value v) (values_within m ds)) (value_within m d)
values_within_item m d ds =
    ap (λ b. if b then items_meaning (item d ds) else None) (max_within (depth d) (items_depth ds) m)
    ∙ both_within value (nat_le (depth d) m) (nat_le (items_depth ds) m) (meaning d) (items_meaning ds)

assigns_within_member : (m : ℕ) (k : List ℕ) (d : Data) (ms : Members) → assigns_within m (member k d ms) ≡ option_and_then (λ v. option_map (assign k v) (assigns_within m ms)) (value_within m d)
assigns_within_member m k d ms =
    ap (λ b. if b then members_meaning (member k d ms) else None) (max_within (depth d) (members_depth ms) m)
    ∙ both_within (assign k) (nat_le (depth d) m) (nat_le (members_depth ms) m) (meaning d) (members_meaning ms)

pub through : {A B C : Type 0} (f : B → C) (g : A → B) (o : Option A) → option_map f (option_map g o) ≡ option_map (λ x. f (g x)) o
through f g None = refl
through f g (Some x) = refl

pub as_well : {A B : Type 0} (f g : A → B) (o : Option A) → ((x : A) → f x ≡ g x) → option_map f o ≡ option_map g o
as_well f g None h = refl
as_well f g (Some x) h = ap Some (h x)

-- one more item was read
pub reads_on : (m : ℕ) (js : List Json) (i : ℕ) (j : Json) (vs : List Value) (v : Value) (whole : Option Values) → i < length js → j ≡ get_or js i j
    → value_within m (json_view j) ≡ Some (view v) → option_map (add_values (map view vs)) (values_within m (items_view (drop i js))) ≡ whole
    → option_map (add_values (map view (vs ++ v ∷ []))) (values_within m (items_view (drop (i + 1) js))) ≡ whole
reads_on m js i j vs v whole h is read so_far =
    let rest : Option Values = values_within m (items_view (drop (i + 1) js)) in
    let front : values_within m (items_view (drop i js)) ≡ option_map (value (view v)) rest =
    ap (λ l. values_within m (items_view l)) (cons_at js i j h is) ∙ values_within_item m (json_view j) (items_view (drop (i + 1) js))
    ∙ ap (option_and_then (λ w. option_map (value w) rest)) read in
    ap (λ l. option_map (add_values l) rest) (map-append view vs (v ∷ []))
    ∙ as_well _ _ rest (add_values_snoc (map view vs) (view v))
    ∙ sym (through (add_values (map view vs)) (value (view v)) rest)
    ∙ ap (option_map (add_values (map view vs))) (sym front) ∙ so_far

-- an item has no value
pub reads_none : (m : ℕ) (js : List Json) (i : ℕ) (j : Json) (vs : List model.Value) (whole : Option Values) → i < length js → j ≡ get_or js i j
    → value_within m (json_view j) ≡ None → option_map (add_values vs) (values_within m (items_view (drop i js))) ≡ whole → whole ≡ None
reads_none m js i j vs whole h is none so_far =
    let rest : Option Values = values_within m (items_view (drop (i + 1) js)) in
    let front : values_within m (items_view (drop i js)) ≡ None =
    ap (λ l. values_within m (items_view l)) (cons_at js i j h is) ∙ values_within_item m (json_view j) (items_view (drop (i + 1) js))
    ∙ ap (option_and_then (λ w. option_map (value w) rest)) none in
    sym so_far ∙ ap (option_map (add_values vs)) front

-- one more member was read
pub members_on : (m : ℕ) (k : String Global) (j : Json) (js : List (String Global × Json)) (es : List (KeyValue Value)) (name : List ℕ) (v : Value) (whole : Option Assigns)
    → name ≡ string_bytes k → value_within m (json_view j) ≡ Some (view v) → option_map (add_assigns (map (on_value view) es)) (assigns_within m (members_view ((k, j) ∷ js))) ≡ whole
    → option_map (add_assigns (map (on_value view) (es ++ entry name v ∷ []))) (assigns_within m (members_view js)) ≡ whole
members_on m k j js es name v whole same read so_far =
    let rest : Option Assigns = assigns_within m (members_view js) in
    let front : assigns_within m (members_view ((k, j) ∷ js)) ≡ option_map (assign (string_bytes k) (view v)) rest =
    assigns_within_member m (string_bytes k) (json_view j) (members_view js) ∙ ap (option_and_then (λ w. option_map (assign (string_bytes k) w) rest)) read in
    ap (λ n. option_map (add_assigns (map (on_value view) (es ++ entry n v ∷ []))) rest) same
    ∙ ap (λ l. option_map (add_assigns l) rest) (map-append (on_value view) es (entry (string_bytes k) v ∷ []))
    ∙ as_well _ _ rest (add_assigns_snoc (map (on_value view) es) (entry (string_bytes k) (view v)))
    ∙ sym (through (add_assigns (map (on_value view) es)) (assign (string_bytes k) (view v)) rest)
    ∙ ap (option_map (add_assigns (map (on_value view) es))) (sym front) ∙ so_far

pub members_none : (m : ℕ) (k : String Global) (j : Json) (js : List (String Global × Json)) (es : List (KeyValue model.Value)) (whole : Option Assigns)
    → value_within m (json_view j) ≡ None → option_map (add_assigns es) (assigns_within m (members_view ((k, j) ∷ js))) ≡ whole → whole ≡ None
members_none m k j js es whole none so_far =
    let rest : Option Assigns = assigns_within m (members_view js) in
    let front : assigns_within m (members_view ((k, j) ∷ js)) ≡ None =
    assigns_within_member m (string_bytes k) (json_view j) (members_view js) ∙ ap (option_and_then (λ w. option_map (assign (string_bytes k) w) rest)) none in
    sym so_far ∙ ap (option_map (add_assigns es)) front

-- the keys of members
abbrev pub member_keys : List (String Global × Json) → List (List ℕ)
member_keys [] = []
member_keys (m ∷ ms) = string_bytes m.0 ∷ member_keys ms

-- a JSON object's keys are in order
pub sorted_ascends : (ms : List (String Global × Json)) → IsStrictlySortedBy (λ (x y : String Global). slice_cmp nat_cmp (string_bytes x) (string_bytes y)) (map (λ m. m.0) ms) → ascend (member_keys ms) ≡ true
unfolding IsStrictlySortedBy
sorted_ascends [] h = refl
sorted_ascends (m ∷ []) h = refl
sorted_ascends (m ∷ n ∷ ms) h = rw (ap is_lt h.0.0) (sorted_ascends (n ∷ ms) h.1)

nothing_within : (m : ℕ) → values_within m no_items ≡ Some no_values
nothing_within m = ap (λ b. if b then Some no_values else None) (leb-zero m)

no_member_within : (m : ℕ) → assigns_within m no_members ≡ Some no_assigns
no_member_within m = ap (λ b. if b then Some no_assigns else None) (leb-zero m)

-- all items were read
pub reads_all : (m : ℕ) (js : List Json) (i : ℕ) (vs : List Value) (whole : Option Values) → length js ≤ i
    → option_map (add_values (map view vs)) (values_within m (items_view (drop i js))) ≡ whole → whole ≡ Some (values_of (map view vs))
reads_all m js i vs whole h so_far =
    sym so_far ∙ ap (λ l. option_map (add_values (map view vs)) (values_within m (items_view l))) (drop_of_length-le js h)
    ∙ ap (option_map (add_values (map view vs))) (nothing_within m) ∙ ap Some (add_values_none (map view vs))

-- all members were read
pub members_all : (m : ℕ) (es : List (KeyValue model.Value)) (whole : Option Assigns)
    → option_map (add_assigns es) (assigns_within m no_members) ≡ whole → whole ≡ Some (assigns_of es)
members_all m es whole so_far = sym so_far ∙ ap (option_map (add_assigns es)) (no_member_within m) ∙ ap Some (add_assigns_none es)

-- before the first
pub none_before : (o : Option Assigns) → option_map (add_assigns []) o ≡ o
none_before None = refl
none_before (Some ws) = refl
