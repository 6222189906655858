-- What is in scope, and what a pattern binds.
use Rattle.std.specs.Prelude.{ℕ, List, [], ◌∷◌, map, Option, Some, None, Bool, true, false, ◌&&◌, if◌then◌else◌}
use Rattle.std.specs.Str.{bytes_eq}
use Rattle.std.specs.Ordering.{nat_cmp, match_ordering}
use Rattle.std.specs.Cmp.Lexicographic.{slice_cmp}
use Rattle.value_core.specs.Value.{Value, list, tuple, map_of, Values, no_values, value, Assigns, no_assigns, assign, same}
use Rattle.ast_core.specs.Syntax.{Name, at, var, Pattern, any, named, literal, tuple_like, list_like, map_like, Patterns, no_patterns, pattern, PatternPairs, no_keys, key}
use Rattle.diff_tree.specs.Container.{Row, Batch}

-- a stream between two renderings: what it shows, and what waits
pub record Stream : Type 0 where
  pub shown : List (Row (List ℕ))
  pub waiting : Batch Value

-- a living LiveComponent
pub record Component : Type 0 where
  pub number : ℕ
  pub module_name : List ℕ
  pub id : Value
  -- the attributes last passed
  pub passed : Assigns
  pub assigns : Assigns
  pub streams : List ℕ → Stream

-- the assigns and the variables, the owner's streams, and the living components in order of their numbers;
-- a called template, a row and a slot body have no streams
pub record Env : Type 0 where
  pub assigns : Assigns
  pub variables : Assigns
  pub streams : Option (List ℕ → Stream)
  pub components : List Component

-- the value of a key
abbrev pub lookup : List ℕ → Assigns → Option Value
lookup k no_assigns = None
lookup k (assign l v as') = if bytes_eq k l then Some v else lookup k as'

-- with v at k, in the order of the keys
abbrev pub with_key : List ℕ → Value → Assigns → Assigns
with_key k v no_assigns = assign k v no_assigns
with_key k v (assign l w as') =
    match_ordering (slice_cmp nat_cmp k l) (assign k v (assign l w as')) (assign k v as') (assign l w (with_key k v as'))

-- with a value at a key, where there is one
abbrev pub with_option : List ℕ → Option Value → Assigns → Assigns
with_option k None as' = as'
with_option k (Some v) as' = with_key k v as'

-- the value of a name
abbrev pub get : Env → Name → Option Value
get env (at k) = lookup k env.assigns
get env (var k) = lookup k env.variables

-- variables over others: the first of a name holds
abbrev pub over : Assigns → Assigns → Assigns
over no_assigns bs = bs
over (assign k v as') bs = assign k v (over as' bs)

-- the variables that a pattern gives its names, where it matches
abbrev pub both_bind : Option Assigns → Option Assigns → Option Assigns
both_bind (Some as') (Some bs) = Some (over as' bs)
both_bind (Some as') None = None
both_bind None b = None

abbrev mutual
  pub binding : Pattern → Value → Option Assigns
  binding any v = Some no_assigns
  binding (named x) v = Some (assign x v no_assigns)
  binding (literal w) v = if same w v then Some no_assigns else None
  binding (tuple_like ps) (tuple vs) = binding_all ps vs
  binding (list_like ps) (list vs) = binding_all ps vs
  binding (map_like ps) (map_of as') = binding_pairs ps as'
  binding _ _ = None

  pub binding_all : Patterns → Values → Option Assigns
  binding_all no_patterns no_values = Some no_assigns
  binding_all (pattern p ps) (value v vs) = both_bind (binding p v) (binding_all ps vs)
  binding_all _ _ = None

  pub binding_pairs : PatternPairs → Assigns → Option Assigns
  binding_pairs no_keys as' = Some no_assigns
  binding_pairs (key k p ps) as' =
      both_bind (elim (lookup k as') [ None ↦ None | Some v ↦ binding p v ]) (binding_pairs ps as')

-- with more variables
abbrev pub bind : Assigns → Env → Env
bind as' env = record env { variables = over as' env.variables }

-- a row's or a slot body's scope
abbrev pub inside : Assigns → Env → Env
inside as' env = record env { variables = over as' env.variables; streams = None }

-- the bindings of the items that match
abbrev pub bindings : Pattern → Values → List Assigns
bindings p no_values = []
bindings p (value v vs) = elim (binding p v) [ None ↦ bindings p vs | Some as' ↦ as' ∷ bindings p vs ]

-- the values of some names
abbrev pub reading : Env → List Name → List (Option Value)
reading env ns = map (get env) ns

-- an absent name differs from every value
abbrev pub same_option : Option Value → Option Value → Bool
same_option None None = true
same_option (Some v) (Some w) = same v w
same_option _ _ = false

-- the same values, name by name
abbrev pub same_reading : List (Option Value) → List (Option Value) → Bool
same_reading [] [] = true
same_reading (v ∷ vs) (w ∷ ws) = same_option v w && same_reading vs ws
same_reading _ _ = false

-- the part of the assigns and of the variables that some names mention
abbrev pub captured_assigns : Env → List Name → Assigns
captured_assigns env [] = no_assigns
captured_assigns env (at k ∷ ns) = with_option k (get env (at k)) (captured_assigns env ns)
captured_assigns env (var k ∷ ns) = captured_assigns env ns

-- the same of the variables
abbrev pub captured_variables : Env → List Name → Assigns
captured_variables env [] = no_assigns
captured_variables env (at k ∷ ns) = captured_variables env ns
captured_variables env (var k ∷ ns) = with_option k (get env (var k)) (captured_variables env ns)

-- the first component of a module and an id
abbrev pub find : List ℕ → Value → List Component → Option Component
find m i [] = None
find m i (c ∷ cs) = if bytes_eq m c.module_name && same i c.id then Some c else find m i cs
