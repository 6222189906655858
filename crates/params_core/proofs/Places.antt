-- Entries and items, seen and put.
use Rattle.std.proofs.Common.{◌≡◌, ℕ, List, [], ◌∷◌, ◌++◌, map, Option, Some, None, option_map, Bool, true, false, if◌then◌else◌, ◌&&◌, refl, sym, ap, ◌∙◌, subst, Less, Equal, Greater}
use Rattle.std.specs.Str.{bytes_eq}
use Rattle.std.specs.Ordering.{is_lt, is_eq, match_ordering}
use Rattle.std.specs.declared.cmp.Ordering.{Ordering}
use Rattle.std.proofs.lemmas.Map.Text.{is_eq-slice_cmp}
use Rattle.std.proofs.lemmas.Map.Lookups.{exact_bytes}
use Rattle.text_core.specs.declared.by_key.KeyValue.{KeyValue}
use Rattle.text_core.specs.Keyed.{is_before, ascend, keys, Ascending, entry, lookup, with_key, without_key, on_value}
use Rattle.text_core.proofs.Keyed.{order, both_of, below_trans}
use Rattle.value_core.specs.Value as model
use Rattle.value_core.specs.View.{view, view_step, slot_step, values_of, assigns_of}
use Rattle.value_core.specs.declared.value.Value.{Value}
use Rattle.value_core.specs.declared.value.Value.TheVariants.{Map, List as Listed, rolls-Map, rolls-List}
use Rattle.value_core.specs.declared.value.Value.TheOpen.{Value-F}
use Rattle.value_core.specs.declared.value.Value.TheFolds.{fold-roll-Value}
use Rattle.std.proofs.lemmas.List.{map-append}
use Rattle.params_core.specs.declared.path.Step.{Step}
use Rattle.params_core.specs.declared.path.Step.TheVariants.{At, Append}
use Rattle.params_core.specs.Form.{entries_in, items_in, entries_at, items_at, put_at}

-- what is listed and put together again
pub entries_back : (es : List (KeyValue model.Value)) → entries_in (assigns_of es) ≡ es
entries_back [] = refl
entries_back (e ∷ es) = ap (λ l. e ∷ l) (entries_back es)

pub items_back : (vs : List model.Value) → items_in (values_of vs) ≡ vs
items_back [] = refl
items_back (v ∷ vs) = ap (λ l. v ∷ l) (items_back vs)

-- a change of the values commutes with the words of a map
pub lookup_mapped : {X Y : Type 0} (h : X → Y) (k : List ℕ) (es : List (KeyValue X)) → lookup k (map (on_value h) es) ≡ option_map h (lookup k es)
lookup_mapped h k [] = refl
lookup_mapped {X} {Y} h k (e ∷ es) = by (bytes_eq k e.key) (lookup_mapped h k es)
  where
    by : (b : Bool) → lookup k (map (on_value h) es) ≡ option_map h (lookup k es)
        → (if b then Some (h e.value) else lookup k (map (on_value h) es)) ≡ option_map h (if b then Some e.value else lookup k es)
    by true rest = refl
    by false rest = rest

pub with_mapped : {X Y : Type 0} (h : X → Y) (k : List ℕ) (v : X) (es : List (KeyValue X)) → map (on_value h) (with_key k v es) ≡ with_key k (h v) (map (on_value h) es)
with_mapped h k v [] = refl
with_mapped {X} {Y} h k v (e ∷ es) = by (order k e.key) (with_mapped h k v es)
  where
    by : (o : Ordering) → map (on_value h) (with_key k v es) ≡ with_key k (h v) (map (on_value h) es)
        → map (on_value h) (match_ordering o (entry k v ∷ e ∷ es) (entry k v ∷ es) (e ∷ with_key k v es))
        ≡ match_ordering o (entry k (h v) ∷ map (on_value h) (e ∷ es)) (entry k (h v) ∷ map (on_value h) es) (on_value h e ∷ with_key k (h v) (map (on_value h) es))
    by Less rest = refl
    by Equal rest = refl
    by Greater rest = ap (λ l. on_value h e ∷ l) rest

-- a key below the first of some keys in order is none of them, and comes before them
pub with_before : {T : Type 0} (k : List ℕ) (v : T) (es : List (KeyValue T)) → is_before k (keys es) ≡ true → with_key k v es ≡ entry k v ∷ es
with_before k v [] h = refl
with_before {T} k v (e ∷ es) h = by (order k e.key) h
  where
    by : (o : Ordering) → is_lt o ≡ true → match_ordering o (entry k v ∷ e ∷ es) (entry k v ∷ es) (e ∷ with_key k v es) ≡ entry k v ∷ e ∷ es
    by Less g = refl
    by Equal g = cc
    by Greater g = cc

not_equal : (k l : List ℕ) → is_lt (order k l) ≡ true → bytes_eq k l ≡ false
not_equal k l h = sym (is_eq-slice_cmp k l) ∙ by (order k l) h
  where
    by : (o : Ordering) → is_lt o ≡ true → is_eq o ≡ false
    by Less g = refl
    by Equal g = cc
    by Greater g = refl

before_behind : {T : Type 0} (k l : List ℕ) (es : List (KeyValue T)) → is_lt (order k l) ≡ true → is_before l (keys es) ≡ true → is_before k (keys es) ≡ true
before_behind k l [] h g = refl
before_behind k l (e ∷ es) h g = below_trans k l e.key h g

pub without_before : {T : Type 0} (k : List ℕ) (es : List (KeyValue T)) → Ascending es → is_before k (keys es) ≡ true → without_key k es ≡ es
without_before k [] h g = refl
without_before {T} k (e ∷ es) h g =
    let p = both_of (is_before e.key (keys es)) (ascend (keys es)) h in
    ap (λ b. if b then es else e ∷ without_key k es) (not_equal k e.key g)
    ∙ ap (λ l. e ∷ l) (without_before k es p.1 (before_behind k e.key es g p.0))

-- an entry that is taken out and put in again
pub with_without : {T : Type 0} (k : List ℕ) (v : T) (es : List (KeyValue T)) → Ascending es → with_key k v (without_key k es) ≡ with_key k v es
with_without k v [] h = refl
with_without {T} k v (e ∷ es) h = by (order k e.key) refl (with_without k v es p.1)
  where
    p : (is_before e.key (keys es) ≡ true) × (ascend (keys es) ≡ true)
    p = both_of (is_before e.key (keys es)) (ascend (keys es)) h

    by : (o : Ordering) → order k e.key ≡ o → with_key k v (without_key k es) ≡ with_key k v es
        → with_key k v (without_key k (e ∷ es)) ≡ match_ordering o (entry k v ∷ e ∷ es) (entry k v ∷ es) (e ∷ with_key k v es)
    by Less is rest =
        ap (with_key k v) (without_before k (e ∷ es) h (ap is_lt is))
        ∙ ap (λ o. match_ordering o (entry k v ∷ e ∷ es) (entry k v ∷ es) (e ∷ with_key k v es)) is
    by Equal is rest =
        let same : bytes_eq k e.key ≡ true = sym (is_eq-slice_cmp k e.key) ∙ ap is_eq is in
        ap (λ b. with_key k v (if b then es else e ∷ without_key k es)) same
        ∙ with_before k v es (subst (λ l. is_before l (keys es) ≡ true) (sym (exact_bytes k e.key is)) p.0)
    by Greater is rest =
        let other : bytes_eq k e.key ≡ false = sym (is_eq-slice_cmp k e.key) ∙ ap is_eq is in
        ap (λ b. with_key k v (if b then es else e ∷ without_key k es)) other
        ∙ ap (λ o. match_ordering o (entry k v ∷ e ∷ without_key k es) (entry k v ∷ without_key k es) (e ∷ with_key k v (without_key k es))) is
        ∙ ap (λ l. e ∷ l) rest

-- a text put at a path that begins with a key, or with a new item
pub put_key : (es : List (KeyValue Value)) (k : List ℕ) (steps : List Step) (t : List ℕ) (o : Option model.Value) (before : Option Value) (after : Value)
    → map (on_value view) es ≡ entries_at o → Ascending es → before ≡ lookup k es → view after ≡ put_at steps t (option_map view before)
    → model.map_of (assigns_of (map (on_value view) (with_key k after (without_key k es)))) ≡ put_at (At k ∷ steps) t o
put_key es k steps t o before after same in_order was seen =
    ap (λ l. model.map_of (assigns_of (map (on_value view) l))) (with_without k after es in_order)
    ∙ ap (λ l. model.map_of (assigns_of l)) (
    with_mapped view k after es
    ∙ ap (λ v. with_key k v (map (on_value view) es)) (seen ∙ ap (λ b. put_at steps t (option_map view b)) was ∙ ap (put_at steps t) (sym (lookup_mapped view k es)))
    ∙ ap (λ l. with_key k (put_at steps t (lookup k l)) l) same
    )

pub put_item : (vs : List Value) (steps : List Step) (t : List ℕ) (o : Option model.Value) (item : Value)
    → map view vs ≡ items_at o → view item ≡ put_at steps t None
    → model.list (values_of (map view (vs ++ item ∷ []))) ≡ put_at (Append ∷ steps) t o
put_item vs steps t o item same seen =
    ap (λ l. model.list (values_of l)) (
    map-append view vs (item ∷ [])
    ∙ ap (λ l. l ++ view item ∷ []) same
    ∙ ap (λ v. items_at o ++ v ∷ []) seen
    )

-- a map and a list, seen
pub view-Map : (es : List (KeyValue Value)) → view (Map es) ≡ model.map_of (assigns_of (map (on_value view) es))
view-Map es = ap view (sym (rolls-Map es)) ∙ fold-roll-Value model.Value model.Value view_step slot_step (Value-F.Map es)

pub view-List : (vs : List Value) → view (Listed vs) ≡ model.list (values_of (map view vs))
view-List vs = ap view (sym (rolls-List vs)) ∙ fold-roll-Value model.Value model.Value view_step slot_step (Value-F.List vs)

pub entries_of_map : (es : List (KeyValue Value)) → entries_at (Some (view (Map es))) ≡ map (on_value view) es
entries_of_map es = ap (λ v. entries_at (Some v)) (view-Map es) ∙ entries_back (map (on_value view) es)

pub items_of_list : (vs : List Value) → items_at (Some (view (Listed vs))) ≡ map view vs
items_of_list vs = ap (λ v. items_at (Some v)) (view-List vs) ∙ items_back (map view vs)
