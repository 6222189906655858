-- What was in scope at the last rendering, and what is now.
use Rattle.std.specs.Prelude.{◌≡◌, ℕ, List, [], ◌∷◌, ◌++◌, length, Option, Some, None, Bool, not}
use Rattle.text_core.specs.declared.by_key.KeyValue.{KeyValue}
use Rattle.value_core.specs.Value.{Assigns}
use Rattle.value_core.specs.View.{assigns_view}
use Rattle.value_core.specs.declared.value.Value.{Value as Stored}
use Rattle.ast_core.specs.Syntax.{Name}
use Rattle.expr_eval.specs.Variables.{variables_view}
use Rattle.assigns_track.specs.declared.tracked.Tracked.{Tracked}
use Rattle.assigns_track.specs.Track.{settled_of, differ}
use Rattle.doc_model.specs.Environment.{Env, lookup, reading, same_reading}
use Rattle.diff_render.specs.declared.scope.Tracking.{Tracking}
use Rattle.diff_render.specs.Scope.{scope_of}

-- what tracked assigns hold now
abbrev pub present : Tracked → Assigns
present t = assigns_view t.present

-- these assigns have the values that were last settled
abbrev pub HasSettled : Tracked → Assigns → Type 0
HasSettled t as' = (n : List ℕ) → lookup n as' ≡ settled_of t n

-- what a scope bound before: noted, where it differs
abbrev pub bound_before : Option (List (KeyValue Stored)) → List (KeyValue Stored) → List (KeyValue Stored)
bound_before None bs = bs
bound_before (Some old) bs = old

-- the scopes before, from the outermost
abbrev pub scopes_before : List (Option (List (KeyValue Stored))) → List (List (KeyValue Stored)) → List (List (KeyValue Stored))
scopes_before (o ∷ os) (bs ∷ ss) = bound_before o bs ∷ scopes_before os ss
scopes_before _ _ = []

-- the variables now, and those before
abbrev pub variables_now : Tracking → Assigns
variables_now t = variables_view t.variables.scopes

abbrev pub variables_before : Tracking → Assigns
variables_before t = variables_view (scopes_before t.before t.variables.scopes)

-- whether a variable differs from what it was
abbrev pub variable_differs : Tracking → List ℕ → Bool
variable_differs t n = differ (lookup n (variables_now t)) (lookup n (variables_before t))

-- the innermost scope is left
abbrev pub Leaves : Tracking → Tracking → Option (List (KeyValue Stored)) → Type 0
Leaves inner t left =
    (outer : Tracking) (bound : List (KeyValue Stored)) (note : Option (List (KeyValue Stored)))
    → inner.variables.scopes ≡ outer.variables.scopes ++ bound ∷ [] → inner.before ≡ outer.before ++ note ∷ [] → (t ≡ outer) × (left ≡ Some bound)

-- each scope has its note
abbrev pub IsNoted : Tracking → Type 0
IsNoted t = length t.before ≡ length t.variables.scopes

-- the scope now, and the one before under the assigns of then
abbrev pub scope_now : Tracked → Tracking → Env
scope_now assigns t = scope_of (present assigns) (variables_now t)

abbrev pub scope_then : Assigns → Tracking → Env
scope_then before t = scope_of before (variables_before t)

-- the answer whether a name of these differs from what it was
abbrev pub AreChanged : Tracked → Tracking → List Name → Bool → Type 0
AreChanged assigns t ns b = (before : Assigns) → HasSettled assigns before → b ≡ not (same_reading (reading (scope_then before t) ns) (reading (scope_now assigns t) ns))
