-- How steps are read: `["assign",NAME,E]` and `["when",E,[STEP,..],[STEP,..]]`.
use Rattle.std.specs.Prelude.{ℕ, List, [], ◌∷◌, codes, Bool, false, Option, Some, None, option_map, if◌then◌else◌}
use Rattle.std.specs.Str.{bytes_eq}
use Rattle.serde_json.specs.Data.{Data, array, Items, no_items, item}
use Rattle.serde_json.specs.Find.{as_str}
use Rattle.template_reader.specs.Formula.{formula_of}
use Rattle.bundle_files.specs.Steps.{Step, assign_step, when_step, Steps, no_steps, step}

-- the text of each item, where it is one
abbrev pub texts_in : Items → List (Option (List ℕ))
texts_in no_items = []
texts_in (item d ds) = as_str d ∷ texts_in ds

abbrev pub is_text : List ℕ → Option (List ℕ) → Bool
is_text s None = false
is_text s (Some t) = bytes_eq t s

abbrev pub assign_from : Option (List ℕ) → Option (List ℕ) → Option Step
assign_from (Some name) (Some e) = option_map (assign_step name) (formula_of e)
assign_from (Some name) None = None
assign_from None e = None

abbrev pub when_from : Option (List ℕ) → Option Steps → Option Steps → Option Step
when_from (Some e) (Some ss) (Some ts) = option_map (λ f. when_step f ss ts) (formula_of e)
when_from (Some e) (Some ss) None = None
when_from (Some e) None ts = None
when_from None ss ts = None

-- the last two of four
abbrev pub last_two : {X : Type 0} → List X → Option (X × X)
last_two (a ∷ b ∷ x ∷ y ∷ []) = Some (x, y)
last_two xs = None

-- a step, by the text of each of its items and by the steps that each item is
abbrev pub step_from : List (Option (List ℕ)) → List (Option Steps) → Option Step
step_from (word ∷ name ∷ e ∷ []) ls = if is_text (codes "assign") word then assign_from name e else None
step_from (word ∷ e ∷ x ∷ y ∷ []) (a ∷ b ∷ ss ∷ ts ∷ []) = if is_text (codes "when") word then when_from e ss ts else None
step_from ts ls = None

abbrev pub both_steps : Option Step → Option Steps → Option Steps
both_steps (Some s) (Some ss) = Some (step s ss)
both_steps (Some s) None = None
both_steps None ss = None

abbrev mutual
  pub step_in : Data → Option Step
  step_in (array ds) = step_from (texts_in ds) (lists_in ds)
  step_in d = None

  -- the steps of a list
  pub steps_at : Data → Option Steps
  steps_at (array ds) = steps_in ds
  steps_at d = None

  pub steps_in : Items → Option Steps
  steps_in no_items = Some no_steps
  steps_in (item d ds) = both_steps (step_in d) (steps_in ds)

  -- the steps that each item is, where it is a list of them
  pub lists_in : Items → List (Option Steps)
  lists_in no_items = []
  lists_in (item d ds) = steps_at d ∷ lists_in ds
