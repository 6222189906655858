-- The bodies of a template, each known by its number.
use Rattle.std.specs.Prelude.{◌≡◌, ℕ, List, [], ◌∷◌, ◌++◌, get_or, length, map, sum, Option, Some, None}
use Rattle.ast_core.specs.declared.expr.Expr.{Expr}
use Rattle.ast_core.specs.ExprView.{expr_view}
use Rattle.ast_core.specs.PatternView.{pattern_view}
use Rattle.ast_core.specs.Free.{free_place}
use Rattle.ast_core.specs.Places.{places_in}
use Rattle.ast_core.specs.Reads.{assigns_in, variables_in}
use Rattle.ast_core.specs.Syntax as model
use Rattle.ast_core.specs.Syntax.{Place, put, attribute, spread, if_place, case_place, for_place, Nodes, no_nodes, node, text_node, element, at_place, Clauses, no_clauses, clause}
use Rattle.slot_compile.specs.declared.compiled.Branch.{Branch}
use Rattle.slot_compile.specs.declared.compiled.Dynamic.{Dynamic}
use Rattle.slot_compile.specs.declared.compiled.Dynamic.TheVariants.{Put, Attribute, Spread, If, Case, For}

-- the bodies inside nodes in document order: each before those inside it
abbrev mutual
  pub bodies_in : Nodes → List Nodes
  bodies_in no_nodes = []
  bodies_in (node n ns) = bodies_of n ++ bodies_in ns

  pub bodies_of : model.Node → List Nodes
  bodies_of (text_node t) = []
  bodies_of (element l t xs ns) = bodies_in ns
  bodies_of (at_place l p) = bodies_at p

  pub bodies_at : Place → List Nodes
  bodies_at (if_place t a b) = (a ∷ bodies_in a) ++ else_bodies b
  bodies_at (case_place e cs) = clause_bodies cs
  bodies_at (for_place p e ns) = ns ∷ bodies_in ns
  bodies_at _ = []

  -- an else without content is no body
  pub else_bodies : Nodes → List Nodes
  else_bodies no_nodes = []
  else_bodies (node n ns) = node n ns ∷ (bodies_of n ++ bodies_in ns)

  pub clause_bodies : Clauses → List Nodes
  clause_bodies no_clauses = []
  clause_bodies (clause p ns cs) = (ns ∷ bodies_in ns) ++ clause_bodies cs

-- all bodies of a template: itself, and those inside it
abbrev pub all_bodies : Nodes → List Nodes
all_bodies ns = ns ∷ bodies_in ns

-- the body of a number; a number that no body has is that of no nodes
abbrev pub node_at : Nodes → ℕ → Nodes
node_at s k = get_or (all_bodies s) k no_nodes

-- how many places all bodies have together
abbrev pub place_count : Nodes → ℕ
place_count s = sum (map (λ ns. length (places_in ns)) (all_bodies s))

-- clauses with the bodies of their numbers
abbrev pub clauses_in : Nodes → List Branch → Clauses
clauses_in s [] = no_clauses
clauses_in s (b ∷ bs) = clause (pattern_view b.pattern) (node_at s b.body) (clauses_in s bs)

-- the body of an else that may be absent
abbrev pub else_in : Nodes → Option ℕ → Nodes
else_in s None = no_nodes
else_in s (Some k) = node_at s k

-- the place that a dynamic is, in a template
abbrev pub place_in : Nodes → Dynamic → Place
place_in s (Put e) = put (expr_view e)
place_in s (Attribute n e) = attribute n (expr_view e)
place_in s (Spread e) = spread (expr_view e)
place_in s (If t a b) = if_place (expr_view t) (node_at s a) (else_in s b)
place_in s (Case e bs) = case_place (expr_view e) (clauses_in s bs)
place_in s (For l p r k) = for_place (pattern_view p) (expr_view l) (node_at s k)

-- the expression that is evaluated first
abbrev pub first_evaluated : Dynamic → Expr
first_evaluated (Put e) = e
first_evaluated (Attribute n e) = e
first_evaluated (Spread e) = e
first_evaluated (If t a b) = t
first_evaluated (Case e bs) = e
first_evaluated (For l p r k) = l

-- nodes that are there
abbrev pub HasContent : Nodes → Type 0
HasContent no_nodes = ⊥
HasContent (node n ns) = Unit {0}

-- an else that has a number has content
abbrev pub ElseStands : Nodes → Option ℕ → Type 0
ElseStands s None = Unit {0}
ElseStands s (Some k) = HasContent (node_at s k)

-- what a loop reads is what its place reads from outside, and an else with a number has content
abbrev pub ReadsRight : Nodes → Dynamic → Type 0
ReadsRight s (If t a b) = ElseStands s b
ReadsRight s (For l p r k) =
    (r.assigns ≡ assigns_in (free_place (place_in s (For l p r k)))) × (r.variables ≡ variables_in (free_place (place_in s (For l p r k))))
ReadsRight s _ = Unit {0}

abbrev pub AllReadRight : Nodes → List Dynamic → Type 0
AllReadRight s [] = Unit {0}
AllReadRight s (d ∷ ds) = ReadsRight s d × AllReadRight s ds
