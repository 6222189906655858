-- Values, lists and maps as they are seen.
use Rattle.std.proofs.Common.{◌≡◌, ℕ, suc, List, [], ◌∷◌, ◌++◌, length, reverse, Bool, true, false, Option, Some, None, Err, option_map, is_some, if◌then◌else◌, refl, sym, ap, ◌∙◌}
use Rattle.std.specs.Str.{bytes_eq}
use Rattle.std.specs.Ordering.{nat_cmp, match_ordering}
use Rattle.std.specs.Cmp.Lexicographic.{slice_cmp}
use Rattle.std.specs.declared.cmp.Ordering.{Ordering}
use Rattle.std.specs.declared.cmp.Ordering.TheVariants.{Less, Equal, Greater}
use Rattle.std.proofs.lemmas.List.{reverse-append}
use Rattle.text_core.specs.declared.by_key.KeyValue.{KeyValue}
use Rattle.text_core.specs.Keyed.{entry, lookup, with_key}
use Rattle.value_core.specs.Value as model
use Rattle.value_core.specs.Value.{Values, no_values, value}
use Rattle.value_core.specs.View.{view, view_step, slot_step, values_view, assigns_view}
use Rattle.value_core.specs.declared.value.Value.{Value}
use Rattle.value_core.specs.declared.value.Value.TheVariants as form
use Rattle.value_core.specs.declared.value.Value.TheOpen.{Value-F}
use Rattle.value_core.specs.declared.value.Value.TheFolds.{fold-roll-Value}
use Rattle.value_core.specs.declared.raise.Raise.TheVariants.{BadArgument}
use Rattle.ast_core.specs.declared.operators.Function.{Function}
use Rattle.doc_model.specs.Environment as scope
use Rattle.doc_model.specs.Evaluation.{append_values, reverse_values, value_count, assign_count, is_some as is_there, eval_function}
use Rattle.expr_eval.specs.declared.held.Held.{Held}
use Rattle.expr_eval.specs.Held.{held_values}

choose : (b : Bool) (v : Value) (o : Option Value) (m : Option model.Value) → option_map view o ≡ m → option_map view (if b then Some v else o) ≡ (if b then Some (view v) else m)
choose true v o m h = refl
choose false v o m h = h

-- the value at a key
pub lookup_seen : (k : List ℕ) (es : List (KeyValue Value)) → option_map view (lookup k es) ≡ scope.lookup k (assigns_view es)
lookup_seen k [] = refl
lookup_seen k (e ∷ es) = choose (bytes_eq k e.key) e.value _ _ (lookup_seen k es)

abbrev pub first_of : {X : Type 0} → Option X → Option X → Option X
first_of None o = o
first_of (Some x) o = Some x

stands : {X : Type 0} (b : Bool) (x : X) (o p q : Option X) → o ≡ first_of p q → (if b then Some x else o) ≡ first_of (if b then Some x else p) q
stands true x o p q h = refl
stands false x o p q h = h

lookup_over : (k : List ℕ) (gs es : model.Assigns) → scope.lookup k (scope.over gs es) ≡ first_of (scope.lookup k gs) (scope.lookup k es)
lookup_over k model.no_assigns es = refl
lookup_over k (model.assign l v gs) es = stands (bytes_eq k l) v (scope.lookup k (scope.over gs es)) (scope.lookup k gs) (scope.lookup k es) (lookup_over k gs es)

-- given entries stand over others
pub over_seen : (k : List ℕ) (gs : List (KeyValue Value)) (bs : model.Assigns) (o : Option Value) → o ≡ lookup k gs
    → scope.lookup k (scope.over (assigns_view gs) bs) ≡ first_of (option_map view o) (scope.lookup k bs)
over_seen k gs bs o h =
    lookup_over k (assigns_view gs) bs
    ∙ ap (λ m. first_of m (scope.lookup k bs)) (sym (lookup_seen k gs) ∙ ap (option_map view) (sym h))

there : (o : Option Value) → is_there (option_map view o) ≡ is_some o
there None = refl
there (Some v) = refl

-- whether there is one
pub there_seen : (k : List ℕ) (es : List (KeyValue Value)) → is_there (scope.lookup k (assigns_view es)) ≡ is_some (lookup k es)
there_seen k es = ap is_there (sym (lookup_seen k es)) ∙ there (lookup k es)

-- entries with a value at a key
pub seen_with : (k : List ℕ) (v : Value) (es : List (KeyValue Value)) → assigns_view (with_key k v es) ≡ scope.with_key k (view v) (assigns_view es)
seen_with k v [] = refl
seen_with k v (e ∷ es) = by (slice_cmp nat_cmp k e.key) (seen_with k v es)
  where
    by : (o : Ordering) → assigns_view (with_key k v es) ≡ scope.with_key k (view v) (assigns_view es)
        → assigns_view (match_ordering o (entry k v ∷ e ∷ es) (entry k v ∷ es) (e ∷ with_key k v es))
        ≡ match_ordering o (model.assign k (view v) (model.assign e.key (view e.value) (assigns_view es))) (model.assign k (view v) (assigns_view es)) (model.assign e.key (view e.value) (scope.with_key k (view v) (assigns_view es)))
    by Less later = refl
    by Equal later = refl
    by Greater later = ap (model.assign e.key (view e.value)) later

pub values_append : (xs ys : List Value) → values_view (xs ++ ys) ≡ append_values (values_view xs) (values_view ys)
values_append [] ys = refl
values_append (x ∷ xs) ys = ap (value (view x)) (values_append xs ys)

pub values_reverse : (xs : List Value) → values_view (reverse xs) ≡ reverse_values (values_view xs)
values_reverse [] = refl
values_reverse (x ∷ xs) =
    ap values_view (reverse-append (x ∷ []) xs) ∙ values_append (reverse xs) (x ∷ []) ∙ ap (λ vs. append_values vs (value (view x) no_values)) (values_reverse xs)

pub values_counted : (xs : List Value) → value_count (values_view xs) ≡ length xs
values_counted [] = refl
values_counted (x ∷ xs) = ap suc (values_counted xs)

pub assigns_counted : (es : List (KeyValue Value)) → assign_count (assigns_view es) ≡ length es
assigns_counted [] = refl
assigns_counted (e ∷ es) = ap suc (assigns_counted es)

-- a list and a map, seen
pub list_form : (xs : List Value) → view (form.List xs) ≡ model.list (values_view xs)
list_form xs = ap view (sym (form.rolls-List xs)) ∙ fold-roll-Value model.Value model.Value view_step slot_step (Value-F.List xs)

pub map_form : (es : List (KeyValue Value)) → view (form.Map es) ≡ model.map_of (assigns_view es)
map_form es = ap view (sym (form.rolls-Map es)) ∙ fold-roll-Value model.Value model.Value view_step slot_step (Value-F.Map es)

-- no function takes none or more than three arguments
pub other_count : (f : Function) (hs : List Held) → (length hs ≡ 1 → ⊥) → (length hs ≡ 2 → ⊥) → (length hs ≡ 3 → ⊥) → eval_function f (held_values hs) ≡ Err BadArgument
other_count f [] one two three = refl
other_count f (x ∷ []) one two three = absurd (one refl)
other_count f (x ∷ y ∷ []) one two three = absurd (two refl)
other_count f (x ∷ y ∷ z ∷ []) one two three = absurd (three refl)
other_count f (x ∷ y ∷ z ∷ w ∷ ws) one two three = refl
