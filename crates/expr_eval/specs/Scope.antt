-- The scope of an expression.
use Rattle.std.specs.Prelude.{ℕ, List, [], Option, None, option_map}
use Rattle.std.specs.Option.{option_copied}
use denote.Ref.{Bor}
use Rattle.text_core.specs.declared.by_key.KeyValue.{KeyValue}
use Rattle.value_core.specs.Value as model
use Rattle.value_core.specs.View.{view, assigns_view}
use Rattle.value_core.specs.declared.value.Value.{Value}
use Rattle.doc_model.specs.Environment.{Env, Stream, Component, over}
use Rattle.doc_model.specs.Evaluation.{or_value}
use Rattle.expr_eval.specs.declared.scope.Scope.{Scope}
use Rattle.expr_eval.specs.declared.variables.Variables.{Variables}
use Rattle.expr_eval.specs.Variables.{variables_view}

abbrev pub env_with : List (KeyValue Value) → Variables → Option (List ℕ → Stream) → List Component → Env
env_with assigns variables streams components = record { assigns = assigns_view assigns; variables = variables_view variables.scopes; streams = streams; components = components }

-- given assigns stand over the others
abbrev pub env_over : List (KeyValue Value) → List (KeyValue Value) → Variables → Option (List ℕ → Stream) → List Component → Env
env_over given assigns variables streams components = record { assigns = over (assigns_view given) (assigns_view assigns); variables = variables_view variables.scopes; streams = streams; components = components }

-- without streams and components: no expression reads one
abbrev pub env_of : Scope → Env
env_of scope = env_over scope.given.now scope.assigns.now scope.variables.now None []

-- what stands behind a reference, where there is one
abbrev pub seen : Option (Bor Value) → Option model.Value
seen o = option_map view (option_copied o)

-- what a path has come to: nil where there is nothing
abbrev pub place_view : Option (Bor Value) → model.Value
place_view o = or_value model.nil (seen o)
