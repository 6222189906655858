-- Steps by how many items they have.
use Rattle.std.proofs.Common.{◌≡◌, ◌<◌, ◌≤◌, List, [], ◌∷◌, length, get_or, map, codes, Bool, true, Option, Some, None, option_map, Result, Ok, Err, IfOk, if◌then◌else◌, refl, sym, ap, ◌∙◌, arith}
use Rattle.serde_json.specs.Find.{as_str}
use Rattle.serde_json.specs.View.{view, items_view}
use Rattle.serde_json.specs.declared.value.Value.{Value}
use Rattle.text_core.specs.declared.memory.OutOfMemory.{OutOfMemory}
use Rattle.bundle_files.specs.Steps.{Steps}
use Rattle.bundle_files.specs.StepsView.{step_view, steps_view}
use Rattle.bundle_files.specs.StepReading.{is_text, texts_in, when_from, last_two, step_from}
use Rattle.bundle_files.specs.declared.bundle.Step.{Step}

pub too_few : (vs : List Value) (ls : List (Option Steps)) → length vs < 3 → None ≡ step_from (texts_in (items_view vs)) ls
too_few [] ls h = refl
too_few (a ∷ []) ls h = refl
too_few (a ∷ b ∷ []) ls h = refl
too_few (a ∷ b ∷ c ∷ vs) ls h = absurd (omega arith)

pub too_many : (vs : List Value) (ls : List (Option Steps)) → 5 ≤ length vs → None ≡ step_from (texts_in (items_view vs)) ls
too_many [] ls h = absurd (omega arith)
too_many (a ∷ []) ls h = absurd (omega arith)
too_many (a ∷ b ∷ []) ls h = absurd (omega arith)
too_many (a ∷ b ∷ c ∷ []) ls h = absurd (omega arith)
too_many (a ∷ b ∷ c ∷ d ∷ []) ls h = absurd (omega arith)
too_many (a ∷ b ∷ c ∷ d ∷ e ∷ vs) ls h = refl

pair_is : {X : Type 0} (p q : X) → Some p ≡ Some q → p ≡ q
pair_is p q h = cc

when_is : (vs : List Value) (ls : List (Option (List Step))) (w t : Value) (ss ts : Option (List Step)) → length vs ≡ 4 → w ≡ get_or vs 0 w → t ≡ get_or vs 1 t
    → is_text (codes "when") (as_str (view w)) ≡ true → last_two ls ≡ Some (ss, ts)
    → when_from (as_str (view t)) (option_map steps_view ss) (option_map steps_view ts) ≡ step_from (texts_in (items_view vs)) (map (option_map steps_view) ls)
when_is [] ls w t ss ts n ew et is two = absurd (omega arith)
when_is (a ∷ []) ls w t ss ts n ew et is two = absurd (omega arith)
when_is (a ∷ b ∷ []) ls w t ss ts n ew et is two = absurd (omega arith)
when_is (a ∷ b ∷ c ∷ []) ls w t ss ts n ew et is two = absurd (omega arith)
when_is (a ∷ b ∷ c ∷ d ∷ e ∷ vs) ls w t ss ts n ew et is two = absurd (omega arith)
when_is (a ∷ b ∷ c ∷ d ∷ []) [] w t ss ts n ew et is two = cc
when_is (a ∷ b ∷ c ∷ d ∷ []) (k ∷ []) w t ss ts n ew et is two = cc
when_is (a ∷ b ∷ c ∷ d ∷ []) (k ∷ l ∷ []) w t ss ts n ew et is two = cc
when_is (a ∷ b ∷ c ∷ d ∷ []) (k ∷ l ∷ x ∷ []) w t ss ts n ew et is two = cc
when_is (a ∷ b ∷ c ∷ d ∷ []) (k ∷ l ∷ x ∷ y ∷ m ∷ ls) w t ss ts n ew et is two = cc
when_is (a ∷ b ∷ c ∷ d ∷ []) (k ∷ l ∷ x ∷ y ∷ []) w t ss ts n ew et is two =
    ap (λ (p : Option (List Step) × Option (List Step)). when_from (as_str (view t)) (option_map steps_view p.0) (option_map steps_view p.1)) (sym (pair_is (x, y) (ss, ts) two))
    ∙ ap (λ (v : Value). when_from (as_str (view v)) (option_map steps_view x) (option_map steps_view y)) et
    ∙ ap (λ (q : Bool). if q then when_from (as_str (view b)) (option_map steps_view x) (option_map steps_view y) else None) (sym is)
    ∙ ap (λ (v : Value). if is_text (codes "when") (as_str (view v)) then when_from (as_str (view b)) (option_map steps_view x) (option_map steps_view y) else None) ew

-- a choice was read
pub when_read : (vs : List Value) (ls : List (Option (List Step))) (w t : Value) (ss ts : Option (List Step)) (r : Result (Option Step) OutOfMemory) → length vs ≡ 4 → w ≡ get_or vs 0 w → t ≡ get_or vs 1 t
    → is_text (codes "when") (as_str (view w)) ≡ true → last_two ls ≡ Some (ss, ts)
    → IfOk r (λ s. option_map step_view s ≡ when_from (as_str (view t)) (option_map steps_view ss) (option_map steps_view ts))
    → IfOk r (λ s. option_map step_view s ≡ step_from (texts_in (items_view vs)) (map (option_map steps_view) ls))
when_read vs ls w t ss ts (Ok s) n ew et is two h = h ∙ when_is vs ls w t ss ts n ew et is two
when_read vs ls w t ss ts (Err e) n ew et is two h = tt
