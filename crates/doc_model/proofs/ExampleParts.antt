-- Short names for the templates and expressions of the examples.
use Rattle.std.proofs.Common.{ℕ, pos, List, [], ◌∷◌, Some, false}
use Rattle.value_core.specs.Value.{Value, Assigns, no_assigns, assign}
use Rattle.ast_core.specs.Syntax.{Location, at, var, Expr, number, name, text_of, list_of, map_with, no_parts, plain, any, Attributes, Node, text_node, element, at_place, Place, put, Nodes, no_nodes, node, Body, slot_body}
use Rattle.ast_core.specs.ExprView.{exprs_of, pairs_of}
use Rattle.diff_tree.specs.Container.{Batch}
use Rattle.doc_model.specs.Environment.{Stream, Env}

-- nodes: where they stand does not matter here
abbrev pub here : Location
here = record { line = 1; column = 1 }

abbrev pub tag : List ℕ → Attributes → Nodes → Node
tag t xs ns = element here t xs ns

abbrev pub place : Place → Node
place p = at_place here p

abbrev pub words : List ℕ → Node
words t = text_node t

abbrev pub one : Node → Nodes
one n = node n no_nodes

abbrev pub all_nodes : List Node → Nodes
all_nodes [] = no_nodes
all_nodes (n ∷ ns) = node n (all_nodes ns)

-- a call without content
abbrev pub no_body : Body
no_body = slot_body 0 any no_nodes

-- `"t"`, `n`, `@k`, `k`
abbrev pub quote : List ℕ → Expr
quote t = text_of (plain t no_parts)

abbrev pub int : ℕ → Expr
int n = number (pos n)

abbrev pub assigned : List ℕ → Expr
assigned k = name (at k)

abbrev pub variable : List ℕ → Expr
variable k = name (var k)

-- `[..]` and `%{k: e, ..}`
abbrev pub list_expr : List Expr → Expr
list_expr es = list_of (exprs_of es)

abbrev pub map_expr : List (List ℕ × Expr) → Expr
map_expr ps = map_with (pairs_of ps)

-- `{@k}` and `{k}`
abbrev pub put_assign : List ℕ → Node
put_assign k = place (put (assigned k))

abbrev pub put_variable : List ℕ → Node
put_variable k = place (put (variable k))

-- these assigns alone in scope
abbrev pub nothing : Batch Value
nothing = record { reset = false; deletes = []; inserts = [] }

abbrev pub no_streams : List ℕ → Stream
no_streams s = record { shown = []; waiting = nothing }

abbrev pub scope : Assigns → Env
scope as' = record { assigns = as'; variables = no_assigns; streams = Some no_streams; components = [] }

abbrev pub with_one : List ℕ → Value → Env
with_one k v = scope (assign k v no_assigns)
