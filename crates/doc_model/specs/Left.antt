-- What a rendering leaves for the next one.
use Rattle.std.specs.Prelude.{◌≡◌, ℕ, zero, suc, List, [], ◌∷◌, Option, Some, None}
use Rattle.value_core.specs.Value.{Value}
use Rattle.ast_core.specs.Syntax.{Node, text_node, element, at_place, Place, if_place, case_place, stream_place, Nodes, no_nodes, node, Clauses, no_clauses, clause}
use Rattle.doc_model.specs.Environment.{Stream, Component, find}
use Rattle.diff_tree.specs.Container.{Row, after}
use Rattle.doc_model.specs.Trace.{Items, item, Item, met_nothing, met_branch, met_stream, row_texts}
use Rattle.ast_core.specs.Places.{places_in}

-- the containers of an owner
abbrev pub Containers : Type 0
Containers = List ℕ → List (Row (List ℕ))

-- the stream places of these nodes have empty containers
abbrev mutual
  pub Unused : Containers → Nodes → Type 0
  Unused f no_nodes = Unit {0}
  Unused f (node n ns) = UnusedNode f n × Unused f ns

  pub UnusedNode : Containers → Node → Type 0
  UnusedNode f (text_node t) = Unit {0}
  UnusedNode f (element l t xs ns) = Unused f ns
  UnusedNode f (at_place o p) = UnusedPlace f p

  pub UnusedPlace : Containers → Place → Type 0
  UnusedPlace f (if_place t a b) = Unused f a × Unused f b
  UnusedPlace f (case_place e cs) = UnusedClauses f cs
  UnusedPlace f (stream_place s x p body) = f s ≡ []
  UnusedPlace f _ = Unit {0}

  pub UnusedClauses : Containers → Clauses → Type 0
  UnusedClauses f no_clauses = Unit {0}
  UnusedClauses f (clause p ns cs) = Unused f ns × UnusedClauses f cs

-- the nodes of a clause by its position
abbrev pub clause_at : ℕ → Clauses → Nodes
clause_at i no_clauses = no_nodes
clause_at zero (clause p ns cs) = ns
clause_at (suc i) (clause p ns cs) = clause_at i cs

-- the stream places of all other clauses have empty containers
abbrev pub UnusedOthers : Containers → ℕ → Clauses → Type 0
UnusedOthers f i no_clauses = Unit {0}
UnusedOthers f zero (clause p ns cs) = UnusedClauses f cs
UnusedOthers f (suc i) (clause p ns cs) = Unused f ns × UnusedOthers f i cs

module _ (mark : ℕ → List ℕ → List ℕ) where
  -- the containers are those that a rendering leaves: at a stream place that it met the batch is applied,
  -- and one that it did not reach is empty
  abbrev mutual
    pub Leaves : Containers → List Place → Items → Type 0
    Leaves f (p ∷ ps) (item i is) = LeavesItem f p i × Leaves f ps is
    Leaves f _ _ = Unit {0}

    pub LeavesItem : Containers → Place → Item → Type 0
    LeavesItem f (if_place t a b) met_nothing = Unused f a × Unused f b
    LeavesItem f (if_place t a b) (met_branch zero st is) = Leaves f (places_in a) is × Unused f b
    LeavesItem f (if_place t a b) (met_branch (suc i) st is) = Unused f a × Leaves f (places_in b) is
    LeavesItem f (case_place e cs) (met_branch i st is) = Leaves f (places_in (clause_at i cs)) is × UnusedOthers f i cs
    LeavesItem f (stream_place s x p body) (met_stream name rs b st new) = f s ≡ after b (row_texts mark st new) rs
    LeavesItem f _ _ = Unit {0}

-- the owner's streams begin with these containers
abbrev pub Based : Containers → Option (List ℕ → Stream) → Type 0
Based f None = Unit {0}
Based f (Some g) = (s : List ℕ) → (g s).shown ≡ f s

-- a pair of module and id that lives in both has one number
abbrev pub SameNumbers : List Component → List Component → Type 0
SameNumbers cs ds = (m : List ℕ) (i : Value) (c d : Component) → find m i cs ≡ Some c → find m i ds ≡ Some d → c.number ≡ d.number
