-- What tracked assigns hold: the present value of a name, and the one that it had when last settled.
use Rattle.std.specs.Prelude.{List, ℕ, Option, Some, None, Bool, true, false, not, option_map}
use Rattle.std.specs.Option.{is_some}
use Rattle.text_core.specs.Keyed.{lookup}
use Rattle.value_core.specs.Value as model
use Rattle.value_core.specs.Value.{same}
use Rattle.value_core.specs.View.{view}
use Rattle.value_core.specs.declared.value.Value.{Value}
use Rattle.assigns_track.specs.declared.tracked.Tracked.{Tracked}

-- the present value of a name
abbrev pub present_of : Tracked → List ℕ → Option model.Value
present_of m n = option_map view (lookup n m.present)

-- what was noted of a name, or else its present value
abbrev pub noted_or : Option (Option Value) → Option model.Value → Option model.Value
noted_or (Some noted) present = option_map view noted
noted_or None present = present

-- the value that a name had when last settled: what was noted when it was first assigned since, else its present value
abbrev pub settled_of : Tracked → List ℕ → Option model.Value
settled_of m n = noted_or (lookup n m.before) (present_of m n)

-- whether a name was assigned since then
abbrev pub was_assigned : Tracked → List ℕ → Bool
was_assigned m n = is_some (lookup n m.before)

-- both are there and are not the same, or only one is there
abbrev pub differ : Option model.Value → Option model.Value → Bool
differ (Some a) (Some b) = not (same a b)
differ None None = false
differ _ _ = true
