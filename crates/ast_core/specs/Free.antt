-- The names that a piece of a template mentions and does not bind itself.
use Rattle.std.specs.Prelude.{ℕ, List, [], ◌∷◌, ◌++◌, Bool, true, false, if◌then◌else◌, Option, None, Some}
use Rattle.std.specs.Str.{bytes_eq}
use Rattle.ast_core.specs.Syntax.{Name, at, var, Expr, number, text_of, atom_of, nil_of, boolean_of, name, list_of, tuple_of, map_with, field, index, unary, binary, if_else, call_of, Exprs, no_exprs, expr, Pairs, no_pairs, pair, Parts, no_parts, plain, put_part, Pattern, any, named, literal, tuple_like, list_like, map_like, Patterns, no_patterns, pattern, PatternPairs, no_keys, key, Generator, Attributes, no_attributes, written, valued, spread_of, module_of, Node, text_node, element, at_place, Place, put, attribute, spread, if_place, case_place, for_place, call, render_slot, live_call, stream_place, Nodes, no_nodes, node, Clauses, no_clauses, clause, Body, slot_body, Entries, no_entries, entry}

-- the names that a pattern binds
abbrev mutual
  pub bound : Pattern → List (List ℕ)
  bound any = []
  bound (named x) = x ∷ []
  bound (literal v) = []
  bound (tuple_like ps) = bound_all ps
  bound (list_like ps) = bound_all ps
  bound (map_like ps) = bound_pairs ps

  pub bound_all : Patterns → List (List ℕ)
  bound_all no_patterns = []
  bound_all (pattern p ps) = bound p ++ bound_all ps

  pub bound_pairs : PatternPairs → List (List ℕ)
  bound_pairs no_keys = []
  bound_pairs (key k p ps) = bound p ++ bound_pairs ps

-- whether a name is one of these
abbrev pub one_of : List ℕ → List (List ℕ) → Bool
one_of k [] = false
one_of k (l ∷ ls) = if bytes_eq k l then true else one_of k ls

-- whether a name is one of these variables
abbrev pub is_var : List (List ℕ) → Name → Bool
is_var xs (at y) = false
is_var xs (var y) = one_of y xs

-- names, without some variables
abbrev pub without : List (List ℕ) → List Name → List Name
without xs [] = []
without xs (n ∷ ns) = if is_var xs n then without xs ns else n ∷ without xs ns

-- the names that an expression mentions
abbrev mutual
  pub free_names : Expr → List Name
  free_names (number n) = []
  free_names (text_of ps) = free_parts ps
  free_names (atom_of a) = []
  free_names nil_of = []
  free_names (boolean_of b) = []
  free_names (name n) = n ∷ []
  free_names (list_of es) = free_exprs es
  free_names (tuple_of es) = free_exprs es
  free_names (map_with ps) = free_pairs ps
  free_names (field e k) = free_names e
  free_names (index e f) = free_names e ++ free_names f
  free_names (unary o e) = free_names e
  free_names (binary o e f) = free_names e ++ free_names f
  free_names (if_else t e f) = free_names t ++ free_names e ++ free_names f
  free_names (call_of g es) = free_exprs es

  pub free_exprs : Exprs → List Name
  free_exprs no_exprs = []
  free_exprs (expr e es) = free_names e ++ free_exprs es

  pub free_pairs : Pairs → List Name
  free_pairs no_pairs = []
  free_pairs (pair k e ps) = free_names e ++ free_pairs ps

  pub free_parts : Parts → List Name
  free_parts no_parts = []
  free_parts (plain t ps) = free_parts ps
  free_parts (put_part e ps) = free_names e ++ free_parts ps

-- the names that attributes mention
abbrev pub free_attributes : Attributes → List Name
free_attributes no_attributes = []
free_attributes (written n w xs) = free_attributes xs
free_attributes (valued n e xs) = free_names e ++ free_attributes xs
free_attributes (spread_of e xs) = free_names e ++ free_attributes xs
free_attributes (module_of m xs) = free_attributes xs

-- the names of an optional condition
abbrev pub free_test : Option Expr → List Name
free_test None = []
free_test (Some e) = free_names e

-- the names of what stands inside an optional `:for`, and those of its items
abbrev pub free_inside : Option Generator → List Name → List Name
free_inside None ns = ns
free_inside (Some g) ns = free_names g.items ++ without (bound g.pattern) ns

-- the names that nodes mention and do not bind
abbrev mutual
  pub free_node : Node → List Name
  free_node (text_node t) = []
  free_node (element l t xs ns) = free_attributes xs ++ free_nodes ns
  free_node (at_place l p) = free_place p

  pub free_place : Place → List Name
  free_place (put e) = free_names e
  free_place (attribute n e) = free_names e
  free_place (spread e) = free_names e
  free_place (if_place t a b) = free_names t ++ free_nodes a ++ free_nodes b
  free_place (case_place e cs) = free_names e ++ free_clauses cs
  free_place (for_place p e ns) = free_names e ++ without (bound p) (free_nodes ns)
  free_place (call t xs b es) = free_attributes xs ++ free_body b ++ free_entries es
  free_place (render_slot e a) = free_names e ++ free_names a
  free_place (live_call xs b es) = free_attributes xs
  free_place (stream_place s x p ns) = without (x ∷ bound p) (free_nodes ns)

  pub free_nodes : Nodes → List Name
  free_nodes no_nodes = []
  free_nodes (node n ns) = free_node n ++ free_nodes ns

  pub free_clauses : Clauses → List Name
  free_clauses no_clauses = []
  free_clauses (clause p ns cs) = without (bound p) (free_nodes ns) ++ free_clauses cs

  pub free_body : Body → List Name
  free_body (slot_body n p ns) = without (bound p) (free_nodes ns)

  pub free_entries : Entries → List Name
  free_entries no_entries = []
  free_entries (entry l s xs g t b es) = free_inside g (free_test t ++ free_attributes xs ++ free_body b) ++ free_entries es
