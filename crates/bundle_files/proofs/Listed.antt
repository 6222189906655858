-- Steps and events, read one by one.
use Rattle.std.proofs.Common.{◌≡◌, ◌<◌, ◌≤◌, ◌+◌, ◌++◌, ℕ, List, [], ◌∷◌, length, get_or, drop, map, String, string_bytes, Option, Some, None, option_map, refl, sym, ap, ◌∙◌, append_assoc}
use Rattle.std.specs.Option.{option_and_then}
use Rattle.std.specs.declared.alloc.Global.{Global}
use Rattle.std.proofs.Math.ListN.{drop_of_length-le}
use Rattle.std.proofs.lemmas.List.{map-append}
use Rattle.serde_json.specs.View.{view, items_view, members_view}
use Rattle.serde_json.specs.declared.value.Value.{Value}
use Rattle.text_core.specs.declared.by_key.KeyValue.{KeyValue}
use Rattle.text_core.specs.Keyed.{entry, on_value}
use Rattle.value_core.proofs.Order.{cons_at}
use Rattle.bundle_files.specs.Steps as model
use Rattle.bundle_files.specs.Steps.{Steps, no_steps, step}
use Rattle.bundle_files.specs.StepsView.{step_view, steps_view, steps_of, events_view}
use Rattle.bundle_files.specs.declared.bundle.Step.{Step}
use Rattle.bundle_files.specs.StepReading.{step_in, steps_in, steps_at, lists_in, both_steps}
use Rattle.bundle_files.specs.Manifest.{events_in}

-- steps before others
abbrev pub add_steps : List model.Step → Steps → Steps
add_steps [] ts = ts
add_steps (s ∷ ss) ts = step s (add_steps ss ts)

add_none : (ss : List model.Step) → add_steps ss no_steps ≡ steps_of ss
add_none [] = refl
add_none (s ∷ ss) = ap (step s) (add_none ss)

add_snoc : (ss : List model.Step) (s : model.Step) (ts : Steps) → add_steps (ss ++ s ∷ []) ts ≡ add_steps ss (step s ts)
add_snoc [] s ts = refl
add_snoc (r ∷ ss) s ts = ap (step r) (add_snoc ss s ts)

add_last : (ss : List model.Step) (s : model.Step) (o : Option Steps) → option_map (add_steps (ss ++ s ∷ [])) o ≡ option_map (add_steps ss) (both_steps (Some s) o)
add_last ss s None = refl
add_last ss s (Some ts) = ap Some (add_snoc ss s ts)

-- one more step was read
pub steps_on : (items : List Value) (i : ℕ) (v : Value) (so_far now : List Step) (s : Step) (whole : Option Steps) → i < length items → v ≡ get_or items i v
    → step_in (view v) ≡ Some (step_view s) → now ≡ so_far ++ s ∷ [] → option_map (add_steps (map step_view so_far)) (steps_in (items_view (drop i items))) ≡ whole
    → option_map (add_steps (map step_view now)) (steps_in (items_view (drop (i + 1) items))) ≡ whole
steps_on items i v so_far now s whole l is read pushed h =
    let rest : Option Steps = steps_in (items_view (drop (i + 1) items)) in
    let front : steps_in (items_view (drop i items)) ≡ both_steps (Some (step_view s)) rest =
    ap (λ (vs : List Value). steps_in (items_view vs)) (cons_at items i v l is) ∙ ap (λ (o : Option model.Step). both_steps o rest) read in
    ap (λ (ss : List Step). option_map (add_steps (map step_view ss)) rest) pushed
    ∙ ap (λ (ss : List model.Step). option_map (add_steps ss) rest) (map-append step_view so_far (s ∷ []))
    ∙ add_last (map step_view so_far) (step_view s) rest
    ∙ ap (option_map (add_steps (map step_view so_far))) (sym front) ∙ h

-- an item is no step
pub steps_none : (items : List Value) (i : ℕ) (v : Value) (so_far : List Step) (whole : Option Steps) → i < length items → v ≡ get_or items i v
    → step_in (view v) ≡ None → option_map (add_steps (map step_view so_far)) (steps_in (items_view (drop i items))) ≡ whole
    → whole ≡ None
steps_none items i v so_far whole l is read h =
    let rest : Option Steps = steps_in (items_view (drop (i + 1) items)) in
    let front : steps_in (items_view (drop i items)) ≡ None =
    ap (λ (vs : List Value). steps_in (items_view vs)) (cons_at items i v l is) ∙ ap (λ (o : Option model.Step). both_steps o rest) read in
    sym h ∙ ap (option_map (add_steps (map step_view so_far))) front

-- before the first step
pub no_step : (items : List Value) (so_far : List Step) → so_far ≡ [] → option_map (add_steps (map step_view so_far)) (steps_in (items_view items)) ≡ steps_in (items_view items)
no_step items so_far e = ap (λ (ss : List Step). option_map (add_steps (map step_view ss)) (steps_in (items_view items))) e ∙ same (steps_in (items_view items))
  where
    same : (o : Option Steps) → option_map (add_steps []) o ≡ o
    same None = refl
    same (Some ts) = refl

-- all steps were read
pub steps_all : (items : List Value) (i : ℕ) (so_far : List Step) (whole : Option Steps) → length items ≤ i
    → option_map (add_steps (map step_view so_far)) (steps_in (items_view (drop i items))) ≡ whole → Some (steps_view so_far) ≡ whole
steps_all items i so_far whole l h =
    ap Some (sym (add_none (map step_view so_far)))
    ∙ ap (λ (vs : List Value). option_map (add_steps (map step_view so_far)) (steps_in (items_view vs))) (sym (drop_of_length-le items l)) ∙ h

-- the steps of one more item
pub lists_on : (items : List Value) (i : ℕ) (v : Value) (so_far now : List (Option (List Step))) (o : Option (List Step)) (whole : List (Option Steps)) → i < length items → v ≡ get_or items i v
    → option_map steps_view o ≡ steps_at (view v) → now ≡ so_far ++ o ∷ [] → map (option_map steps_view) so_far ++ lists_in (items_view (drop i items)) ≡ whole
    → map (option_map steps_view) now ++ lists_in (items_view (drop (i + 1) items)) ≡ whole
lists_on items i v so_far now o whole l is read pushed h =
    let rest : List (Option Steps) = lists_in (items_view (drop (i + 1) items)) in
    let front : lists_in (items_view (drop i items)) ≡ option_map steps_view o ∷ rest =
    ap (λ (vs : List Value). lists_in (items_view vs)) (cons_at items i v l is) ∙ ap (λ (p : Option Steps). p ∷ rest) (sym read) in
    ap (λ (ls : List (Option (List Step))). map (option_map steps_view) ls ++ rest) pushed
    ∙ ap (λ (ls : List (Option Steps)). ls ++ rest) (map-append (option_map steps_view) so_far (o ∷ []))
    ∙ append_assoc (map (option_map steps_view) so_far) (option_map steps_view o ∷ []) rest
    ∙ ap (λ (ls : List (Option Steps)). map (option_map steps_view) so_far ++ ls) (sym front) ∙ h

-- the steps of all items
pub lists_all : (items : List Value) (i : ℕ) (so_far : List (Option (List Step))) (whole : List (Option Steps)) → length items ≤ i
    → map (option_map steps_view) so_far ++ lists_in (items_view (drop i items)) ≡ whole → map (option_map steps_view) so_far ≡ whole
lists_all items i so_far whole l h =
    sym (nothing (map (option_map steps_view) so_far)) ∙ ap (λ (vs : List Value). map (option_map steps_view) so_far ++ lists_in (items_view vs)) (sym (drop_of_length-le items l)) ∙ h
  where
    nothing : (xs : List (Option Steps)) → xs ++ [] ≡ xs
    nothing [] = refl
    nothing (x ∷ xs) = ap (λ (ys : List (Option Steps)). x ∷ ys) (nothing xs)

-- one more in front of the rest
snoc_map : {X : Type 0} (xs : List X) (x : X) (o : Option (List X)) → option_map (λ more. (xs ++ x ∷ []) ++ more) o ≡ option_map (λ more. xs ++ more) (option_map (λ more. x ∷ more) o)
snoc_map xs x None = refl
snoc_map xs x (Some ys) = ap Some (append_assoc xs (x ∷ []) ys)

nothing_map : {X : Type 0} (o : Option (List X)) → o ≡ option_map (λ more. [] ++ more) o
nothing_map None = refl
nothing_map (Some ys) = refl

-- before the first event
pub no_events : (members ms : List (String Global × Value)) (so_far : List (KeyValue (List Step))) → so_far ≡ [] → ms ≡ members
    → option_map (λ more. events_view so_far ++ more) (events_in (members_view ms)) ≡ events_in (members_view members)
no_events members ms so_far e same =
    ap (λ (es : List (KeyValue (List Step))). option_map (λ more. events_view es ++ more) (events_in (members_view ms))) e
    ∙ sym (nothing_map (events_in (members_view ms))) ∙ ap (λ (l : List (String Global × Value)). events_in (members_view l)) same

-- the steps of one more event were read
pub events_on : (k : String Global) (v : Value) (ms : List (String Global × Value)) (so_far now : List (KeyValue (List Step))) (name : List ℕ) (steps : List Step) (whole : Option (List (KeyValue Steps)))
    → name ≡ string_bytes k → steps_at (view v) ≡ Some (steps_view steps) → now ≡ so_far ++ entry name steps ∷ [] → option_map (λ more. events_view so_far ++ more) (events_in (members_view ((k, v) ∷ ms))) ≡ whole
    → option_map (λ more. events_view now ++ more) (events_in (members_view ms)) ≡ whole
events_on k v ms so_far now name steps whole same read pushed h =
    let rest : Option (List (KeyValue Steps)) = events_in (members_view ms) in
    let front : events_in (members_view ((k, v) ∷ ms)) ≡ option_map (λ more. entry name (steps_view steps) ∷ more) rest =
    ap (option_and_then (λ ss. option_map (λ more. entry (string_bytes k) ss ∷ more) rest)) read ∙ ap (λ (n : List ℕ). option_map (λ more. entry n (steps_view steps) ∷ more) rest) (sym same) in
    ap (λ (es : List (KeyValue (List Step))). option_map (λ more. events_view es ++ more) rest) pushed
    ∙ ap (λ (es : List (KeyValue Steps)). option_map (λ more. es ++ more) rest) (map-append (on_value steps_view) so_far (entry name steps ∷ []))
    ∙ snoc_map (events_view so_far) (entry name (steps_view steps)) rest
    ∙ ap (option_map (λ more. events_view so_far ++ more)) (sym front) ∙ h
