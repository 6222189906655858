-- The syntax of templates: expressions, patterns and nodes.
use Rattle.std.specs.Prelude.{ℕ, ℤ, List, Bool, Option}
use Rattle.value_core.specs.Value.{Value}
use Rattle.ast_core.specs.declared.operators.UnaryOp.{UnaryOp}
use Rattle.ast_core.specs.declared.operators.BinaryOp.{BinaryOp}
use Rattle.ast_core.specs.declared.operators.Function.{Function}

-- a place in a file: its line and its column, both from 1
pub record Location : Type 0 where
  pub line : ℕ
  pub column : ℕ

-- a name in scope: an assign `@n`, or a variable `n`
pub data Name : Type 0 where
  at : List ℕ → Name
  var : List ℕ → Name

-- an `if` without else has nil there; a pipe is its call
mutual
  pub data Expr : Type 0 where
    number : ℤ → Expr
    text_of : Parts → Expr
    atom_of : List ℕ → Expr
    nil_of : Expr
    boolean_of : Bool → Expr
    name : Name → Expr
    list_of : Exprs → Expr
    tuple_of : Exprs → Expr
    map_with : Pairs → Expr
    -- `m.k`
    field : Expr → List ℕ → Expr
    -- `m[k]`
    index : Expr → Expr → Expr
    unary : UnaryOp → Expr → Expr
    binary : BinaryOp → Expr → Expr → Expr
    if_else : Expr → Expr → Expr → Expr
    call_of : Function → Exprs → Expr

  pub data Exprs : Type 0 where
    no_exprs : Exprs
    expr : Expr → Exprs → Exprs

  -- the entries of a map
  pub data Pairs : Type 0 where
    no_pairs : Pairs
    pair : List ℕ → Expr → Pairs → Pairs

  -- the pieces of a text: plain, or `#{..}`
  pub data Parts : Type 0 where
    no_parts : Parts
    plain : List ℕ → Parts → Parts
    put_part : Expr → Parts → Parts

mutual
  pub data Pattern : Type 0 where
    any : Pattern
    named : List ℕ → Pattern
    -- a number, a text, an atom, nil, true or false
    literal : Value → Pattern
    tuple_like : Patterns → Pattern
    list_like : Patterns → Pattern
    map_like : PatternPairs → Pattern

  pub data Patterns : Type 0 where
    no_patterns : Patterns
    pattern : Pattern → Patterns → Patterns

  pub data PatternPairs : Type 0 where
    no_keys : PatternPairs
    key : List ℕ → Pattern → PatternPairs → PatternPairs

-- `P <- E`
pub record Generator : Type 0 where
  pub pattern : Pattern
  pub items : Expr

-- the value of an attribute without braces: in double or single quotes, or none
pub data Written : Type 0 where
  double_quoted : List ℕ → Written
  single_quoted : List ℕ → Written
  bare : Written

-- the attributes of an element, a call or a slot entry
pub data Attributes : Type 0 where
  no_attributes : Attributes
  written : List ℕ → Written → Attributes → Attributes
  -- `name={E}`
  valued : List ℕ → Expr → Attributes → Attributes
  -- `{E}`
  spread_of : Expr → Attributes → Attributes
  -- `module={Name}` of a LiveComponent call
  module_of : List ℕ → Attributes → Attributes

mutual
  pub data Node : Type 0 where
    text_node : List ℕ → Node
    element : Location → List ℕ → Attributes → Nodes → Node
    at_place : Location → Place → Node

  -- what changes from rendering to rendering
  pub data Place : Type 0 where
    -- an interpolation
    put : Expr → Place
    -- an attribute and a spread of an element
    attribute : List ℕ → Expr → Place
    spread : Expr → Place
    if_place : Expr → Nodes → Nodes → Place
    case_place : Expr → Clauses → Place
    for_place : Pattern → Expr → Nodes → Place
    -- a template, the attributes, the content and the slot entries
    call : List ℕ → Attributes → Body → Entries → Place
    -- the entries, and the argument (nil where none is written)
    render_slot : Expr → Expr → Place
    -- the attributes, with the module among them; content and entries are refused by linking
    live_call : Attributes → Body → Entries → Place
    -- a stream, the variable of the dom id, the pattern of the item, and the body
    stream_place : List ℕ → List ℕ → Pattern → Nodes → Place

  pub data Nodes : Type 0 where
    no_nodes : Nodes
    node : Node → Nodes → Nodes

  pub data Clauses : Type 0 where
    no_clauses : Clauses
    clause : Pattern → Nodes → Clauses → Clauses

  -- a slot body: its number, the pattern of its `:let` (any where none is written), and the nodes
  pub data Body : Type 0 where
    slot_body : ℕ → Pattern → Nodes → Body

  -- a slot entry: its slot, the attributes, `:for`, `:if`, and the body
  pub data Entries : Type 0 where
    no_entries : Entries
    entry : Location → List ℕ → Attributes → Option Generator → Option Expr → Body → Entries → Entries

-- a template by its name
pub record Template : Type 0 where
  pub name : List ℕ
  pub nodes : Nodes

-- a module of LiveComponents, and its template's name
pub record Module : Type 0 where
  pub name : List ℕ
  pub template : List ℕ

-- the linked bundle: templates in order of names, slot bodies in order of numbers, and the modules as declared
pub record Linked : Type 0 where
  pub templates : List Template
  pub bodies : List Body
  pub modules : List Module
