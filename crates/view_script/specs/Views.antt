-- What the handlers of a script mean.
use Rattle.std.specs.Prelude.{ℕ, List, [], codes, ◌==◌, if◌then◌else◌, Option, Some, None, option_and_then}
use Rattle.text_core.specs.declared.by_key.KeyValue.{KeyValue}
use Rattle.text_core.specs.Keyed.{lookup}
use Rattle.value_core.specs.Value.{Value, Assigns, no_assigns, assign}
use Rattle.view_api.specs.Effect.{Effect}
use Rattle.view_api.specs.Meaning.{HandlerMeaning}
use Rattle.view_api.specs.declared.views.Owner.{Owner}
use Rattle.view_api.specs.declared.views.Owner.TheVariants.{View, Component}
use Rattle.bundle_files.specs.declared.bundle.Step.{Step}
use Rattle.bundle_files.specs.StepsView.{steps_view}
use Rattle.view_script.specs.declared.views.ScriptViews.{ScriptViews}
use Rattle.view_script.specs.Script.{effects_of}

abbrev pub script_of : List Step → List (KeyValue (List Step)) → ScriptViews
script_of mount events = record { mount = mount; events = events }

-- the one variable of a handler
abbrev pub variable : List ℕ → Value → Assigns
variable n v = assign n v no_assigns

-- at the mount of a view; there is view 0 alone, and it begins without assigns
abbrev pub begun : ScriptViews → ℕ → Value → Option (List Effect)
begun s view params = if view == 0 then effects_of (variable (codes "params") params) no_assigns (steps_view s.mount) else None

-- at what a view does nothing
abbrev pub nothing_done : ℕ → Option (List Effect)
nothing_done view = if view == 0 then Some [] else None

-- at an event; one without an entry raises
abbrev pub taken : ScriptViews → Owner → List ℕ → Value → Assigns → Option (List Effect)
taken s (View view) event value as' =
    if view == 0 then option_and_then (λ ss. effects_of (variable (codes "value") value) as' (steps_view ss)) (lookup event s.events) else None
taken s (Component m) event value as' = None

-- components raise, for there are none
abbrev pub meaning_of_script : ScriptViews → HandlerMeaning
meaning_of_script s = record {
  mount = λ view params. begun s view params;
  handle_params = λ view _ _. nothing_done view;
  handle_event = λ owner event value as'. taken s owner event value as';
  handle_info = λ view _ _. nothing_done view;
  mount_component = λ _. None;
  update_component = λ _ _ _. None;
}
