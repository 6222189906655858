-- What stands in scope where a template, a branch, a row, a slot body or a component is rendered.
use Rattle.std.specs.Prelude.{ℕ, suc, List, [], ◌∷◌, map, Ok, Err, Option, Some, None, Bool, true, false, if◌then◌else◌, codes}
use Rattle.value_core.specs.Value.{Value, slot, list, nil, map_of, text, whole_number, Values, no_values, value, Assigns, no_assigns, assign}
use Rattle.ast_core.specs.Syntax.{Pattern, Nodes, Clauses, no_clauses, clause}
use Rattle.doc_model.specs.Environment.{Stream, Component, Env, lookup, over, binding, bindings, inside, find}
use Rattle.doc_model.specs.Evaluation.{Res, then_do, both, on_res, or_raise}
use Rattle.diff_tree.specs.Container.{Insert, Batch}
use Rattle.value_core.specs.declared.raise.Raise.TheVariants.{BadArgument, NoAssign, NoClause}

-- a slot body: the pattern of its `:let`, and its nodes
pub record SlotBody : Type 0 where
  pub pattern : Pattern
  pub nodes : Nodes

-- the templates by name, the slot bodies by number and which numbers have one, the templates of modules, and a text with a component's mark
pub record Site : Type 0 where
  pub template : List ℕ → Nodes
  pub has_body : ℕ → Bool
  pub body : ℕ → SlotBody
  pub root : List ℕ → Nodes
  pub mark : ℕ → List ℕ → List ℕ

-- the scopes of a callee, of a slot body, of a component and of a stream's rows
abbrev pub callee : Env → Assigns → Env
callee env as' = record { assigns = as'; variables = no_assigns; streams = None; components = env.components }

-- the scope of a component: its own assigns and streams
abbrev pub component_scope : Env → Component → Env
component_scope env c = record { assigns = c.assigns; variables = no_assigns; streams = Some c.streams; components = env.components }

-- the scope of a row of a stream: no components
abbrev pub stream_row : Env → Assigns → Env
stream_row env as' = record { assigns = env.assigns; variables = over as' env.variables; streams = None; components = [] }

-- a slot value: the number of its body, and what it captured
pub record Captured : Type 0 where
  pub number : ℕ
  pub assigns : Assigns
  pub variables : Assigns

-- the slot of an entry; a slot that names no body of the bundle is none
abbrev pub as_slot : Site → Option Value → Res Captured
as_slot site (Some (slot b as' vs)) = if site.has_body b then Ok (record { number = b; assigns = as'; variables = vs }) else Err BadArgument
as_slot site _ = Err BadArgument

-- the slot of one entry
abbrev pub entry_of : Site → Value → Res Captured
entry_of site (map_of as') = as_slot site (lookup (codes "inner_block") as')
entry_of site _ = Err BadArgument

-- the slots of entries, in order
abbrev pub entries_of : Site → Values → Res (List Captured)
entries_of site no_values = Ok []
entries_of site (value v vs) = both (λ c cs. c ∷ cs) (entry_of site v) (entries_of site vs)

-- the entries of a slot: a list of them, one, or nil for none
abbrev pub slots_of : Site → Value → Res (List Captured)
slots_of site nil = Ok []
slots_of site (list vs) = entries_of site vs
slots_of site v = on_res (λ c. c ∷ []) (entry_of site v)

-- the scope of a slot body: what was captured, and what its `:let` binds
abbrev pub slot_scope : Env → Captured → Assigns → Env
slot_scope env c as' = record { assigns = c.assigns; variables = over as' c.variables; streams = None; components = env.components }

-- the component that a live call means
abbrev pub is_id : Value → Bool
is_id (whole_number n) = true
is_id (text t) = true
is_id _ = false

-- the id among attributes
abbrev pub id_of : Assigns → Res Value
id_of as' = then_do (or_raise (lookup (codes "id") as') BadArgument) (λ v. if is_id v then Ok v else Err BadArgument)

-- a call of no component
abbrev pub or_none : Option Component → Res Component
or_none None = Err BadArgument
or_none (Some c) = Ok c

-- the component that has this module and id
abbrev pub component_of : Env → List ℕ → Assigns → Res Component
component_of env m as' = then_do (id_of as') (λ v. or_none (find m v env.components))

-- a stream of this place's owner
abbrev pub stream_of : Env → List ℕ → Res Stream
stream_of env s = elim (env.streams) [ None ↦ Err NoAssign | Some f ↦ Ok (f s) ]

-- the inserts whose item matches, with what they bind
abbrev pub matched : List ℕ → Pattern → List (Insert Value) → List (Insert Assigns)
matched x p [] = []
matched x p (i ∷ is) = elim (binding p i.content) [
  | None ↦ matched x p is
  | Some as' ↦ record { id = i.id; position = i.position; limit = i.limit; content = assign x (text i.id) as' } ∷ matched x p is
]

-- what inserts carry
abbrev pub insert_contents : {X : Type 0} → List (Insert X) → List X
insert_contents [] = []
insert_contents (i ∷ is) = i.content ∷ insert_contents is

-- inserts without what they carry
abbrev pub bare : {X : Type 0} → List (Insert X) → List (Insert (Unit {0}))
bare [] = []
bare (i ∷ is) = record { id = i.id; position = i.position; limit = i.limit; content = tt } ∷ bare is

-- the operations of the batch that waits
abbrev pub operations : List ℕ → Pattern → Stream → Batch (Unit {0})
operations x p s = record { reset = s.waiting.reset; deletes = s.waiting.deletes; inserts = bare (matched x p s.waiting.inserts) }

-- the scope of each inserted row
abbrev pub stream_scopes : Env → List ℕ → Pattern → Stream → List Env
stream_scopes env x p s = map (stream_row env) (insert_contents (matched x p s.waiting.inserts))

-- the scope of each row
abbrev pub row_scopes : Env → Pattern → Values → List Env
row_scopes env p vs = map (λ as'. inside as' env) (bindings p vs)

-- the first clause that matches
pub record Chosen : Type 0 where
  pub index : ℕ
  pub variables : Assigns
  pub nodes : Nodes

-- one clause further on
abbrev pub later : Chosen → Chosen
later c = record c { index = suc c.index }

-- the clause that matches, with what it binds
abbrev pub chosen : Value → Clauses → Res Chosen
chosen v no_clauses = Err NoClause
chosen v (clause p ns cs) = elim (binding p v) [
  | None ↦ on_res later (chosen v cs)
  | Some as' ↦ Ok (record { index = 0; variables = as'; nodes = ns })
]

-- what renders the nodes one level deeper
abbrev pub Deeper : Type 0 → Type 0
Deeper A = Env → Nodes → Res A
