-- Which branch a place takes, and over which rows it goes.
use Rattle.std.specs.Prelude.{◌≡◌, ◌<◌, ℕ, List, [], ◌∷◌, drop, length, take, Bool, true, false, Option, Some, None, is_some, Ok, if◌then◌else◌}
use Rattle.value_core.specs.Value.{Value, Assigns, no_assigns}
use Rattle.value_core.specs.View.{assigns_view}
use Rattle.ast_core.specs.PatternView.{pattern_view}
use Rattle.ast_core.specs.Syntax.{Place, if_place, case_place, for_place, Nodes, no_nodes, node}
use Rattle.slot_compile.specs.Numbering.{node_at}
use Rattle.slot_compile.specs.declared.compiled.Branch.{Branch}
use Rattle.doc_model.specs.Environment.{Env, binding}
use Rattle.doc_model.specs.Evaluation.{Res, then_do, on_res, eval_expr, is_true}
use Rattle.doc_model.specs.Calls.{items_of}
use Rattle.doc_model.specs.Scopes.{Chosen, chosen, row_scopes}
use Rattle.diff_render.specs.declared.choice.Choice.{Choice}

-- a branch of an `if`, which binds nothing
abbrev pub branch : ℕ → Nodes → Chosen
branch i ns = record { index = i; variables = no_assigns; nodes = ns }

-- an else without content is none
abbrev pub or_else : Nodes → Option Chosen
or_else no_nodes = None
or_else (node n ns) = Some (branch 1 (node n ns))

-- the branch of a place that is taken, if any
abbrev pub taken : Env → Place → Res (Option Chosen)
taken env (if_place t a b) = on_res (λ v. if is_true v then Some (branch 0 a) else or_else b) (eval_expr env t)
taken env (case_place e cs) = on_res (λ c. Some c) (then_do (eval_expr env e) (λ v. chosen v cs))
taken env p = Ok None

-- whether a place is a loop, and what its rows have inside
abbrev pub is_loop : Place → Bool
is_loop (for_place p e body) = true
is_loop p = false

abbrev pub body_of : Place → Nodes
body_of (for_place p e body) = body
body_of p = no_nodes

-- the scopes of the rows of a loop, in order
abbrev pub looped : Env → Place → Res (List Env)
looped env (for_place p e body) = on_res (row_scopes env p) (then_do (eval_expr env e) items_of)
looped env p = Ok []

-- the branch that a choice is, in a template
pub record IsChoice (template : Nodes) (c : Choice) (d : Chosen) : Type 0 where
  pub index : c.index ≡ d.index
  pub bound : assigns_view c.bound ≡ d.variables
  pub body : node_at template c.body ≡ d.nodes

-- the same, where there may be none
abbrev pub IsTaken : Nodes → Option Choice → Option Chosen → Type 0
IsTaken template (Some c) (Some d) = IsChoice template c d
IsTaken template None None = Unit {0}
IsTaken template _ _ = ⊥

-- no pattern of these clauses matches a value
abbrev pub NoneMatches : Value → List Branch → Type 0
NoneMatches v [] = Unit {0}
NoneMatches v (b ∷ bs) = (binding (pattern_view b.pattern) v ≡ None) × NoneMatches v bs

-- the pattern of the first matches it
abbrev pub FirstMatches : Value → List Branch → Type 0
FirstMatches v [] = ⊥
FirstMatches v (b ∷ bs) = is_some (binding (pattern_view b.pattern) v) ≡ true

-- the number of the first clause that matches, if any
abbrev pub IsFirst : Value → List Branch → Option ℕ → Type 0
IsFirst v bs None = NoneMatches v bs
IsFirst v bs (Some i) = (i < length bs) × NoneMatches v (take i bs) × FirstMatches v (drop i bs)
