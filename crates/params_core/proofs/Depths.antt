-- A form's value nests no deeper than its paths are long, and no path has more than 100 steps.
use Rattle.std.proofs.Common.{◌≡◌, ◌≤◌, ◌<◌, ℕ, zero, suc, ◌+◌, List, [], ◌∷◌, ◌++◌, map, length, count_by, max, Option, Some, None, option_map, option_and_then, unwrap_or, Bool, true, false, if◌then◌else◌, ◌==◌, cond, refl, sym, ap, ◌∙◌, subst, arith, Less, Equal, Greater}
use Rattle.std.specs.Bool.{nat_le}
use Rattle.std.specs.Str.{bytes_eq}
use Rattle.std.specs.Ordering.{match_ordering}
use Rattle.std.specs.declared.cmp.Ordering.{Ordering}
use Rattle.std.specs.List.{slice_split}
use Rattle.std.proofs.lemmas.Bool.{leb-true}
use Rattle.std.proofs.lemmas.List.Sums.{sum_by-cons}
use Rattle.text_core.specs.declared.by_key.KeyValue.{KeyValue}
use Rattle.text_core.specs.Keyed.{entry, lookup, with_key}
use Rattle.text_core.proofs.Keyed.{order}
use Rattle.value_core.specs.Value.{Value, nil, boolean, whole_number, text, atom, list, tuple, map_of, slot, Values, no_values, value, Assigns, no_assigns, assign}
use Rattle.value_core.specs.Nesting.{depth_of, values_depth, assigns_depth}
use Rattle.value_core.specs.View.{values_of, assigns_of}
use Rattle.params_core.specs.declared.path.Step.{Step}
use Rattle.params_core.specs.declared.path.Step.TheVariants.{At, Append}
use Rattle.params_core.specs.Path.{opens, closed, step_of, step_to, is_empty, steps_of, is_name, within_limit, named, nested, path_of}
use Rattle.params_core.specs.Form.{put_at, put_pair, entries_in, items_in, entries_at, items_at}

abbrev pub depth_at : Option Value → ℕ
depth_at None = 0
depth_at (Some v) = depth_of v

entries_again : (es : Assigns) → assigns_depth (assigns_of (entries_in es)) ≡ assigns_depth es
entries_again no_assigns = refl
entries_again (assign k v es) = ap (max (depth_of v)) (entries_again es)

items_again : (vs : Values) → values_depth (values_of (items_in vs)) ≡ values_depth vs
items_again no_values = refl
items_again (value v vs) = ap (max (depth_of v)) (items_again vs)

entries_within : (old : Option Value) (n : ℕ) → depth_at old ≤ suc n → assigns_depth (assigns_of (entries_at old)) ≤ n
entries_within None n h = omega arith
entries_within (Some nil) n h = omega arith
entries_within (Some (boolean b)) n h = omega arith
entries_within (Some (whole_number i)) n h = omega arith
entries_within (Some (text t)) n h = omega arith
entries_within (Some (atom t)) n h = omega arith
entries_within (Some (list vs)) n h = omega arith
entries_within (Some (tuple vs)) n h = omega arith
entries_within (Some (map_of es)) n h = let e = entries_again es in omega arith
entries_within (Some (slot b es vs)) n h = omega arith

items_within : (old : Option Value) (n : ℕ) → depth_at old ≤ suc n → values_depth (values_of (items_at old)) ≤ n
items_within None n h = omega arith
items_within (Some nil) n h = omega arith
items_within (Some (boolean b)) n h = omega arith
items_within (Some (whole_number i)) n h = omega arith
items_within (Some (text t)) n h = omega arith
items_within (Some (atom t)) n h = omega arith
items_within (Some (list vs)) n h = let e = items_again vs in omega arith
items_within (Some (tuple vs)) n h = omega arith
items_within (Some (map_of es)) n h = omega arith
items_within (Some (slot b es vs)) n h = omega arith

lookup_within : (k : List ℕ) (es : List (KeyValue Value)) (n : ℕ) → assigns_depth (assigns_of es) ≤ n → depth_at (lookup k es) ≤ n
lookup_within k [] n h = omega arith
lookup_within k (e ∷ es) n h = by (bytes_eq k e.key) (lookup_within k es n (omega arith))
  where
    by : (b : Bool) → depth_at (lookup k es) ≤ n → depth_at (if b then Some e.value else lookup k es) ≤ n
    by true rest = omega arith
    by false rest = rest

with_within : (k : List ℕ) (v : Value) (es : List (KeyValue Value)) (n : ℕ) → depth_of v ≤ n → assigns_depth (assigns_of es) ≤ n → assigns_depth (assigns_of (with_key k v es)) ≤ n
with_within k v [] n g h = omega arith
with_within k v (e ∷ es) n g h = by (order k e.key) (with_within k v es n g (omega arith))
  where
    by : (o : Ordering) → assigns_depth (assigns_of (with_key k v es)) ≤ n
        → assigns_depth (assigns_of (match_ordering o (entry k v ∷ e ∷ es) (entry k v ∷ es) (e ∷ with_key k v es))) ≤ n
    by Less rest = omega arith
    by Equal rest = omega arith
    by Greater rest = omega arith

behind_within : (vs : List Value) (v : Value) (n : ℕ) → depth_of v ≤ n → values_depth (values_of vs) ≤ n → values_depth (values_of (vs ++ v ∷ [])) ≤ n
behind_within [] v n g h = omega arith
behind_within (w ∷ vs) v n g h = let rest = behind_within vs v n g (omega arith) in omega arith

-- a text put at a path of at most n steps, where what was there nests at most n deep
pub put_within : (path : List Step) (t : List ℕ) (old : Option Value) (n : ℕ) → length path ≤ n → depth_at old ≤ n → depth_of (put_at path t old) ≤ n
put_within [] t old n h g = omega arith
put_within (At k ∷ steps) t old zero h g = absurd (omega arith)
put_within (At k ∷ steps) t old (suc n) h g =
    let inside = entries_within old n g in
    let put = put_within steps t (lookup k (entries_at old)) n (omega arith) (lookup_within k (entries_at old) n inside) in
    let all = with_within k (put_at steps t (lookup k (entries_at old))) (entries_at old) n put inside in
    omega arith
put_within (Append ∷ steps) t old zero h g = absurd (omega arith)
put_within (Append ∷ steps) t old (suc n) h g =
    let inside = items_within old n g in
    let put = put_within steps t None n (omega arith) (omega arith) in
    let all = behind_within (items_at old) (put_at steps t None) n put inside in
    omega arith

-- one step of a path at most is no name
abbrev Bound : Option (List Step) → Type 0
Bound None = Unit {0}
Bound (Some steps) = length steps ≤ count_by is_name steps + 1

abbrev Short : Option (List Step) → Type 0
Short None = Unit {0}
Short (Some path) = length path ≤ 100

key_first : (k : List ℕ) (o : Option (List Step)) → Bound o → Bound (option_map (λ steps. At k ∷ steps) o)
key_first k None h = tt
key_first k (Some steps) h =
    let one : count_by is_name (At k ∷ steps) ≡ 1 + count_by is_name steps = sum_by-cons (λ (s : Step). cond (is_name s) 1 0) (At k) steps in
    omega (arith, one, h)

steps_bound : (pieces : List (List ℕ)) → Bound (steps_of pieces)
steps_bound [] = omega arith
steps_bound (piece ∷ []) = lone (closed piece)
  where
    lone : (c : Option (List ℕ)) → Bound (option_and_then (λ step. option_map (λ steps. step ∷ steps) (Some [])) (step_of c true))
    lone None = tt
    lone (Some []) = omega arith
    lone (Some (b ∷ bs)) = omega arith
steps_bound (piece ∷ next ∷ more) = by (closed piece) (steps_of (next ∷ more)) (steps_bound (next ∷ more))
  where
    by : (c : Option (List ℕ)) (rest : Option (List Step)) → Bound rest → Bound (option_and_then (λ step. option_map (λ steps. step ∷ steps) rest) (step_of c false))
    by None rest h = tt
    by (Some []) rest h = tt
    by (Some (b ∷ bs)) rest h = key_first (b ∷ bs) rest h

limited : (o : Option (List Step)) → Bound o → Short (option_and_then within_limit o)
limited None h = tt
limited (Some path) h = by (nat_le (count_by is_name path) 99) refl
  where
    by : (b : Bool) → nat_le (count_by is_name path) 99 ≡ b → Short (if b then Some path else None)
    by true is = let few = leb-true _ _ is in omega (arith, few, h)
    by false is = tt

nested_short : (pieces : List (List ℕ)) → Short (nested pieces)
nested_short [] = tt
nested_short ([] ∷ pieces) = tt
nested_short ((b ∷ name) ∷ pieces) = limited (option_map (λ steps. At (b ∷ name) ∷ steps) (steps_of pieces)) (key_first (b ∷ name) (steps_of pieces) (steps_bound pieces))

pub path_short : (key : List ℕ) → length (path_of key) ≤ 100
path_short key = by (nested (slice_split opens key)) (nested_short (slice_split opens key))
  where
    by : (o : Option (List Step)) → Short o → length (unwrap_or o (named key)) ≤ 100
    by None h = omega arith
    by (Some path) h = h

-- one more pair
pub pair_within : (form : Value) (p : List ℕ × List ℕ) → depth_of form ≤ 100 → depth_of (put_pair form p) ≤ 100
pair_within form p h = put_within (path_of p.0) p.1 (Some form) 100 (path_short p.0) h
