-- The variables in scope.
use Rattle.std.specs.Prelude.{List}
use Rattle.std.specs.List.{fold}
use Rattle.text_core.specs.declared.by_key.KeyValue.{KeyValue}
use Rattle.value_core.specs.Value.{Assigns, no_assigns}
use Rattle.value_core.specs.View.{assigns_view}
use Rattle.value_core.specs.declared.value.Value.{Value}
use Rattle.doc_model.specs.Environment.{over}

-- a scope inside others: what it binds stands over what they bind
abbrev pub within : Assigns → List (KeyValue Value) → Assigns
within outer bindings = over (assigns_view bindings) outer

-- what the scopes bind, from the innermost, which is the last
abbrev pub variables_view : List (List (KeyValue Value)) → Assigns
variables_view scopes = fold within no_assigns scopes
