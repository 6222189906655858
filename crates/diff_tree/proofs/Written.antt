-- Nodes written as JSON, place by place.
use Rattle.std.proofs.Common.{◌≡◌, ℕ, ◌+◌, ◌<◌, ◌≤◌, List, [], ◌∷◌, ◌++◌, length, get_or, drop, map, true, refl, sym, ap, ◌∙◌, subst, Ordering, Less, Equal, Greater, nat_cmp, codes, decimal}
use Rattle.std.specs.Ordering.{match_ordering}
use Rattle.std.specs.Cmp.Lexicographic.{slice_cmp}
use Rattle.std.proofs.Math.ListN.{drop_of_length-le}
use Rattle.serde_json.specs.Data.{Data, string, array, object, Items, item, Members, no_members, member, put}
use Rattle.serde_json.specs.View.{items_of}
use Rattle.text_core.specs.declared.by_key.KeyValue.{KeyValue}
use Rattle.text_core.specs.Keyed.{is_before, ascend, keys}
use Rattle.text_core.proofs.Keyed.{both_of}
use Rattle.diff_tree.specs.Spelling.{texts_json, events_json, with_components}
use Rattle.diff_tree.specs.Plain.{names}
use Rattle.diff_tree.specs.Parts.{part_data, place_data, body_members, part_step, body_step, place_step, row_step, row_data, with_statics, places_json, seen, insert_data, inserts_data, push_data, pushed_of, rows_data, components_data}
use Rattle.diff_tree.specs.declared.diff.ComponentPart.{ComponentPart}
use Rattle.diff_tree.specs.declared.push.Push.{Push}
use Rattle.diff_tree.specs.declared.stream.StreamInsert.{StreamInsert}
use Rattle.diff_tree.specs.declared.part.Part.{Part, out-Part}
use Rattle.diff_tree.specs.declared.part.PlaceValue.{PlaceValue}
use Rattle.diff_tree.specs.declared.part.Row.{Row, out-Row}
use Rattle.diff_tree.specs.declared.part.PartBody.TheFolds.{fold_out-Part, fold_out-Row}
use Rattle.diff_tree.proofs.Order.{cons_at, join, join-none, join-join, put_last, names_last, put_first, chain, names-chain, keys-on_value}

pub texts_json-map : (ts : List (List ℕ)) → items_of (map string ts) ≡ texts_json ts
texts_json-map [] = refl
texts_json-map (t ∷ ts) = rw (texts_json-map ts) refl

-- entries in order are put each before those behind it
pub places_json-chain : (es : List (KeyValue Data)) → ascend (keys es) ≡ true → places_json es ≡ chain es
places_json-chain [] h = refl
places_json-chain (e ∷ es) h =
    let p = both_of (is_before e.key (keys es)) (ascend (keys es)) h in
    ap (put e.key e.value) (places_json-chain es p.1) ∙ put_first e.key e.value (chain es) (subst (λ l. is_before e.key l ≡ true) (sym (names-chain es)) p.0)

pub seen_in_order : (es : List (KeyValue PlaceValue)) → ascend (keys es) ≡ true → places_json (seen es) ≡ chain (seen es)
seen_in_order es h = places_json-chain (seen es) (subst (λ l. ascend l ≡ true) (sym (keys-on_value place_data es)) h)

-- one more place was written
pub puts_on : (es : List (KeyValue PlaceValue)) (i : ℕ) (e : KeyValue PlaceValue) (ms : Members) (d : Data) (whole : Members) → i < length es → e ≡ get_or es i e
    → d ≡ place_data e.value → ascend (names ms ++ keys (drop i es)) ≡ true → join ms (chain (seen (drop i es))) ≡ whole
    → (join (put e.key d ms) (chain (seen (drop (i + 1) es))) ≡ whole) × (ascend (names (put e.key d ms) ++ keys (drop (i + 1) es)) ≡ true)
puts_on es i e ms d whole h is written in_order so_far =
    let rest : List (KeyValue PlaceValue) = drop (i + 1) es in
    let front : drop i es ≡ e ∷ rest = cons_at es i e h is in
    let ordered : ascend (names ms ++ e.key ∷ keys rest) ≡ true = subst (λ l. ascend (names ms ++ keys l) ≡ true) front in_order in
    let last : put e.key d ms ≡ join ms (member e.key d no_members) = put_last e.key d ms (keys rest) ordered in (
      ap (λ l. join l (chain (seen rest))) last ∙ join-join ms (member e.key d no_members) (chain (seen rest))
          ∙ ap (λ v. join ms (member e.key v (chain (seen rest)))) written ∙ ap (λ l. join ms (chain (seen l))) (sym front) ∙ so_far,
      ap (λ l. ascend (names l ++ keys rest)) last ∙ ap ascend (names_last ms e.key d (keys rest)) ∙ ordered,
    )

-- all places were written
pub puts_all : (es : List (KeyValue PlaceValue)) (i : ℕ) (ms : Members) → length es ≤ i → ascend (keys es) ≡ true → join ms (chain (seen (drop i es))) ≡ chain (seen es) → ms ≡ places_json (seen es)
puts_all es i ms h in_order so_far =
    sym (join-none ms) ∙ ap (λ l. join ms (chain (seen l))) (sym (drop_of_length-le es h)) ∙ so_far ∙ sym (seen_in_order es in_order)

-- a node, opened
pub part_data-out : (p : Part) → part_data p ≡ object (with_statics (out-Part p).statics (body_members (out-Part p).body))
part_data-out p = fold_out-Part Members Data Data Items body_step place_step part_step row_step p

-- ---- lists

pub inserts_data-map : (is : List StreamInsert) → items_of (map insert_data is) ≡ inserts_data is
inserts_data-map [] = refl
inserts_data-map (i ∷ is) = ap (item (insert_data i)) (inserts_data-map is)

pub events_json-map : (es : List Push) → items_of (map push_data es) ≡ events_json (map pushed_of es)
events_json-map [] = refl
events_json-map (e ∷ es) = ap (item (push_data e)) (events_json-map es)

-- a row as it is written
abbrev pub row_array : Row → Data
row_array r = array (row_data r)

pub rows-map : (rs : List Row) → items_of (map row_array rs) ≡ rows_data rs
rows-map [] = refl
rows-map (r ∷ rs) = ap (item (row_array r)) (rows-map rs)

-- a row, opened
pub row_data-out : (r : Row) → row_data r ≡ items_of (map place_data (out-Row r).values)
row_data-out r = fold_out-Row Members Data Data Items body_step place_step part_step row_step r

-- ---- components

stand_in : (o : Ordering) (k l : List ℕ) (d e : Data) (cs more ms : Members)
    → with_components (match_ordering o (member k d (member l e cs)) (member l d cs) (member l e more)) ms
    ≡ put (codes "c") (object (match_ordering o (member k d (member l e cs)) (member l d cs) (member l e more))) ms
stand_in Less k l d e cs more ms = refl
stand_in Equal k l d e cs more ms = refl
stand_in Greater k l d e cs more ms = refl

put_stands : (k : List ℕ) (d : Data) (cs ms : Members) → with_components (put k d cs) ms ≡ put (codes "c") (object (put k d cs)) ms
put_stands k d no_members ms = refl
put_stands k d (member l e cs) ms = stand_in (slice_cmp nat_cmp k l) k l d e cs (put k d cs) ms

-- where there are components they stand under `c`
pub components_stand : (cs : List ComponentPart) (ms : Members) → (cs ≡ [] → ⊥) → with_components (components_data cs) ms ≡ put (codes "c") (object (components_data cs)) ms
components_stand [] ms some = absurd (some refl)
components_stand (c ∷ cs) ms some = put_stands (decimal c.number) (part_data c.part) (components_data cs) ms
