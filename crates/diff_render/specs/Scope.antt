-- What is in scope of a node whose places are plain.
use Rattle.std.specs.Prelude.{◌≡◌, ℕ, List, [], map, Option, None, false}
use Rattle.text_core.specs.declared.by_key.KeyValue.{KeyValue}
use Rattle.value_core.specs.Value.{Assigns, Values}
use Rattle.value_core.specs.View.{assigns_view, values_view}
use Rattle.value_core.specs.declared.value.Value.{Value as Stored}
use Rattle.ast_core.specs.Syntax.{no_nodes, any}
use Rattle.expr_eval.specs.declared.variables.Variables.{Variables}
use Rattle.expr_eval.specs.Variables.{variables_view}
use Rattle.doc_model.specs.Environment.{Env, inside}
use Rattle.doc_model.specs.Scopes.{Site}

-- a template alone: there are no others, no slot bodies and no modules
abbrev pub alone : Site
alone = record { template = λ t. no_nodes; has_body = λ n. false; body = λ n. record { pattern = any; nodes = no_nodes }; root = λ m. no_nodes; mark = λ n t. t }

-- assigns and variables, without streams and components: a plain node reads none
abbrev pub scope_of : Assigns → Assigns → Env
scope_of as' vs = record { assigns = as'; variables = vs; streams = None; components = [] }

-- the scope that the program's assigns and variables are
abbrev pub scope_in : List (KeyValue Stored) → Variables → Env
scope_in assigns variables = scope_of (assigns_view assigns) (variables_view variables.scopes)

-- the scopes of rows inside another
abbrev pub AreScopes : List (KeyValue Stored) → Variables → List (List (KeyValue Stored)) → List Env → Type 0
AreScopes assigns variables bound envs = map (λ bs. inside (assigns_view bs) (scope_in assigns variables)) bound ≡ envs

-- the values that a list stands for
abbrev pub AreValues : List Stored → Values → Type 0
AreValues vs ws = values_view vs ≡ ws
