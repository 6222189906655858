-- Values written as JSON, item by item.
use Rattle.std.proofs.Common.{◌≡◌, ℕ, suc, ◌+◌, ◌<◌, ◌≤◌, List, [], ◌∷◌, ◌++◌, length, get_or, drop, map, String, string_bytes, Bool, true, false, ◌&&◌, Option, Some, None, option_map, option_and_then, refl, sym, ap, ◌∙◌, subst, arith, Less, Greater, nat_cmp}
use Rattle.std.specs.Ordering.{ordering_reverse, match_ordering}
use Rattle.std.specs.Cmp.{IsTotalOrder}
use Rattle.std.specs.Cmp.Lexicographic.{slice_cmp, nat_list_cmp_total}
use Rattle.std.proofs.lemmas.List.{map-append}
use Rattle.std.proofs.Math.ListN.{drop_of_length-le}
use Rattle.serde_json.specs.Data.{Data, Items, no_items, item, Members, no_members, member, put}
use Rattle.serde_json.specs.View.{view as json_view, items_of, items_view}
use Rattle.serde_json.specs.declared.value.Value as json
use Rattle.text_core.specs.declared.by_key.KeyValue.{KeyValue}
use Rattle.text_core.specs.Keyed.{is_before, ascend, keys}
use Rattle.value_core.specs.View.{view, values_view, assigns_view}
use Rattle.value_core.specs.Json.{json_of_value, json_of_values, json_of_assigns}
use Rattle.value_core.specs.declared.value.Value.{Value}
use Rattle.value_core.proofs.Order.{cons_at, both_of, first_below}
use Rattle.value_core.proofs.FromJson.{through, as_well}

abbrev Json : Type 0
Json = json.Value

-- items before others
abbrev pub add_items : List Data → Items → Items
add_items [] es = es
add_items (d ∷ ds) es = item d (add_items ds es)

abbrev pub add_members : Members → Members → Members
add_members no_members ns = ns
add_members (member k d ms) ns = member k d (add_members ms ns)

abbrev pub names : Members → List (List ℕ)
names no_members = []
names (member k d ms) = k ∷ names ms

pub add_items_none : (ds : List Data) → add_items ds no_items ≡ items_of ds
add_items_none [] = refl
add_items_none (d ∷ ds) = ap (item d) (add_items_none ds)

pub add_members_none : (ms : Members) → add_members ms no_members ≡ ms
add_members_none no_members = refl
add_members_none (member k d ms) = ap (member k d) (add_members_none ms)

add_items_snoc : (ds : List Data) (d : Data) (es : Items) → add_items (ds ++ d ∷ []) es ≡ add_items ds (item d es)
add_items_snoc [] d es = refl
add_items_snoc (c ∷ ds) d es = ap (item c) (add_items_snoc ds d es)

-- a key behind all others goes last
put_last : (k : List ℕ) (d : Data) (ms : Members) (rest : List (List ℕ)) → ascend (names ms ++ k ∷ rest) ≡ true → put k d ms ≡ add_members ms (member k d no_members)
put_last k d no_members rest h = refl
put_last k d (member l e ms) rest h =
    let above : slice_cmp nat_cmp k l ≡ Greater = nat_list_cmp_total.antisymm k l ∙ ap ordering_reverse (first_below l (names ms) k rest h) in
    rw above (ap (member l e) (put_last k d ms rest (both_of (is_before l (names ms ++ k ∷ rest)) (ascend (names ms ++ k ∷ rest)) h).1))

names_last : (ms : Members) (k : List ℕ) (d : Data) (rest : List (List ℕ)) → names (add_members ms (member k d no_members)) ++ rest ≡ names ms ++ k ∷ rest
names_last no_members k d rest = refl
names_last (member l e ms) k d rest = ap (λ ns. l ∷ ns) (names_last ms k d rest)

add_members_last : (ms : Members) (k : List ℕ) (d : Data) (ns : Members) → add_members (add_members ms (member k d no_members)) ns ≡ add_members ms (member k d ns)
add_members_last no_members k d ns = refl
add_members_last (member l e ms) k d ns = ap (member l e) (add_members_last ms k d ns)

-- one more item was written
pub writes_on : (vs : List Value) (i : ℕ) (v : Value) (js : List Json) (j : Json) (whole : Option Items) → i < length vs → v ≡ get_or vs i v
    → json_of_value (view v) ≡ Some (json_view j) → option_map (add_items (map json_view js)) (json_of_values (values_view (drop i vs))) ≡ whole
    → option_map (add_items (map json_view (js ++ j ∷ []))) (json_of_values (values_view (drop (i + 1) vs))) ≡ whole
writes_on vs i v js j whole h is written so_far =
    let rest : Option Items = json_of_values (values_view (drop (i + 1) vs)) in
    let front : json_of_values (values_view (drop i vs)) ≡ option_map (item (json_view j)) rest =
    ap (λ l. json_of_values (values_view l)) (cons_at vs i v h is) ∙ ap (option_and_then (λ d. option_map (item d) rest)) written in
    ap (λ l. option_map (add_items l) rest) (map-append json_view js (j ∷ []))
    ∙ as_well _ _ rest (add_items_snoc (map json_view js) (json_view j))
    ∙ sym (through (add_items (map json_view js)) (item (json_view j)) rest)
    ∙ ap (option_map (add_items (map json_view js))) (sym front) ∙ so_far

pub writes_none : (vs : List Value) (i : ℕ) (v : Value) (ds : List Data) (whole : Option Items) → i < length vs → v ≡ get_or vs i v
    → json_of_value (view v) ≡ None → option_map (add_items ds) (json_of_values (values_view (drop i vs))) ≡ whole → whole ≡ None
writes_none vs i v ds whole h is none so_far =
    let rest : Option Items = json_of_values (values_view (drop (i + 1) vs)) in
    let front : json_of_values (values_view (drop i vs)) ≡ None =
    ap (λ l. json_of_values (values_view l)) (cons_at vs i v h is) ∙ ap (option_and_then (λ d. option_map (item d) rest)) none in
    sym so_far ∙ ap (option_map (add_items ds)) front

-- one more member was written
pub puts_on : (es : List (KeyValue Value)) (i : ℕ) (e : KeyValue Value) (ms : Members) (d : Data) (whole : Option Members) → i < length es → e ≡ get_or es i e
    → json_of_value (view e.value) ≡ Some d → ascend (names ms ++ keys (drop i es)) ≡ true
    → option_map (add_members ms) (json_of_assigns (assigns_view (drop i es))) ≡ whole
    → (option_map (add_members (put e.key d ms)) (json_of_assigns (assigns_view (drop (i + 1) es))) ≡ whole) × (ascend (names (put e.key d ms) ++ keys (drop (i + 1) es)) ≡ true)
puts_on es i e ms d whole h is written in_order so_far =
    let rest : Option Members = json_of_assigns (assigns_view (drop (i + 1) es)) in
    let front : json_of_assigns (assigns_view (drop i es)) ≡ option_map (member e.key d) rest =
    ap (λ l. json_of_assigns (assigns_view l)) (cons_at es i e h is) ∙ ap (option_and_then (λ c. option_map (member e.key c) rest)) written in
    let ordered : ascend (names ms ++ e.key ∷ keys (drop (i + 1) es)) ≡ true = subst (λ l. ascend (names ms ++ keys l) ≡ true) (cons_at es i e h is) in_order in
    let last : put e.key d ms ≡ add_members ms (member e.key d no_members) = put_last e.key d ms (keys (drop (i + 1) es)) ordered in (
      ap (λ l. option_map (add_members l) rest) last
          ∙ as_well _ _ rest (add_members_last ms e.key d)
          ∙ sym (through (add_members ms) (member e.key d) rest)
          ∙ ap (option_map (add_members ms)) (sym front) ∙ so_far,
      ap (λ l. ascend (names l ++ keys (drop (i + 1) es))) last ∙ ap ascend (names_last ms e.key d (keys (drop (i + 1) es))) ∙ ordered,
    )

pub puts_none : (es : List (KeyValue Value)) (i : ℕ) (e : KeyValue Value) (ms : Members) (whole : Option Members) → i < length es → e ≡ get_or es i e
    → json_of_value (view e.value) ≡ None → option_map (add_members ms) (json_of_assigns (assigns_view (drop i es))) ≡ whole → whole ≡ None
puts_none es i e ms whole h is none so_far =
    let rest : Option Members = json_of_assigns (assigns_view (drop (i + 1) es)) in
    let front : json_of_assigns (assigns_view (drop i es)) ≡ None =
    ap (λ l. json_of_assigns (assigns_view l)) (cons_at es i e h is) ∙ ap (option_and_then (λ c. option_map (member e.key c) rest)) none in
    sym so_far ∙ ap (option_map (add_members ms)) front

-- all items were written
pub writes_all : (vs : List Value) (i : ℕ) (ds : List Data) (whole : Option Items) → length vs ≤ i
    → option_map (add_items ds) (json_of_values (values_view (drop i vs))) ≡ whole → whole ≡ Some (items_of ds)
writes_all vs i ds whole h so_far =
    sym so_far ∙ ap (λ l. option_map (add_items ds) (json_of_values (values_view l))) (drop_of_length-le vs h) ∙ ap Some (add_items_none ds)

-- all members were written
pub puts_all : (es : List (KeyValue Value)) (i : ℕ) (ms : Members) (whole : Option Members) → length es ≤ i
    → option_map (add_members ms) (json_of_assigns (assigns_view (drop i es))) ≡ whole → whole ≡ Some ms
puts_all es i ms whole h so_far =
    sym so_far ∙ ap (λ l. option_map (add_members ms) (json_of_assigns (assigns_view l))) (drop_of_length-le es h) ∙ ap Some (add_members_none ms)
