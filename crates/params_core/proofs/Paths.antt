-- The steps of a path, read one by one, and how many there are.
use Rattle.std.proofs.Common.{◌≡◌, ◌≤◌, ◌<◌, ℕ, ◌+◌, suc, List, [], ◌∷◌, ◌++◌, map, length, count_by, Option, Some, None, option_map, option_and_then, unwrap_or, Bool, true, false, if◌then◌else◌, ◌==◌, refl, sym, ap, ◌∙◌, subst, arith, append_assoc, Bor, get_or, take, drop, length-drop, ◌-◌}
use Rattle.std.specs.List.{slice_split}
use Rattle.std.proofs.Math.Dec.{eqb-suc-zero}
use Rattle.std.proofs.lemmas.List.{take_all}
use Rattle.text_core.proofs.Keyed.{cons_at}
use Rattle.params_core.specs.declared.path.Step.{Step}
use Rattle.params_core.specs.declared.path.Step.TheVariants.{At, Append}
use Rattle.params_core.specs.Path.{opens, closed, step_of, step_to, is_empty, steps_of, is_name, within_limit, named, nested, path_of}

-- one more step of a path
pub one_more : (path : List Step) (step : Step) (o : Option (List Step)) → option_map (λ steps. (path ++ step ∷ []) ++ steps) o ≡ option_map (λ steps. path ++ steps) (option_map (λ steps. step ∷ steps) o)
one_more path step None = refl
one_more path step (Some steps) = ap Some (append_assoc path (step ∷ []) steps)

pub emptied : (ps : List (Bor (List ℕ))) → (length ps == 0) ≡ is_empty (map (λ p. p.now) ps)
emptied [] = refl
emptied (p ∷ ps) = eqb-suc-zero (length ps)

pub first_step : (path : List Step) (step : Step) → 0 < length path → step ≡ get_or path 0 step → path ≡ step ∷ drop 1 path
first_step path step h is = cons_at path 0 step h is

pub rest_is : (path : List Step) → 0 < length path → take (length path - 1) (drop 1 path) ≡ drop 1 path
rest_is path some = let long : length (drop 1 path) ≤ length path - 1 = omega (arith, length-drop 1 path) in take_all (length path - 1) (drop 1 path) long
