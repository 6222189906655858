-- Worked examples: patterns, and blocks by them.
use Rattle.std.proofs.Common.{◌≡◌, ℕ, pos, List, [], ◌∷◌, Some, None, Ok, Err, true, false, codes, refl}
use Rattle.std.specs.Fmt.{digits}
use Rattle.json.specs.Print.{escape_byte}
use Rattle.value_core.specs.Value.{Value, nil, text, whole_number, list, tuple, map_of, no_values, value, no_assigns, assign}
use Rattle.value_core.specs.declared.raise.Raise.TheVariants.{NoClause}
use Rattle.ast_core.specs.Syntax.{Expr, boolean_of, tuple_of, any, named, literal, tuple_like, list_like, map_like, no_patterns, pattern, no_keys, key, if_place, case_place, for_place, Nodes, no_nodes, Clauses, no_clauses, clause}
use Rattle.ast_core.specs.ExprView.{exprs_of}
use Rattle.doc_model.specs.Environment.{binding}
use Rattle.doc_model.specs.Evaluation.{Res}
use Rattle.doc_model.specs.Bundle.{site_of}
use Rattle.doc_model.specs.FullRendering.{full_render}
use Rattle.doc_model.proofs.ExampleParts.{place, words, one, put_variable, quote, int, list_expr, map_expr, scope}
use Rattle.doc_model.proofs.ExampleWorlds.{page_alone, home_alone, joined, carried_text}

abbrev one_two : Value
one_two = list (value (whole_number (pos 1)) (value (text (codes "two")) no_values))

-- `[]` and `{}` match only what is as empty, and `%{}` every map
example_empty_list_pattern : binding (list_like no_patterns) one_two ≡ None
example_empty_list_pattern = refl

example_empty_tuple_pattern : binding (tuple_like no_patterns) (tuple no_values) ≡ Some no_assigns
example_empty_tuple_pattern = refl

example_empty_map_pattern : binding (map_like no_keys) (map_of (assign (codes "a") nil no_assigns)) ≡ Some no_assigns
example_empty_map_pattern = refl

-- a list is matched item by item, and is no tuple: `[1, x]` and `{1, x}`
example_list_pattern : binding (list_like (pattern (literal (whole_number (pos 1))) (pattern (named (codes "x")) no_patterns))) one_two ≡ Some (assign (codes "x") (text (codes "two")) no_assigns)
example_list_pattern = refl

example_tuple_pattern : binding (tuple_like (pattern (literal (whole_number (pos 1))) (pattern (named (codes "x")) no_patterns))) one_two ≡ None
example_tuple_pattern = refl

-- a map pattern looks at its keys alone: `%{a: x}`
example_map_pattern : binding (map_like (key (codes "a") (named (codes "x")) no_keys)) (map_of (assign (codes "a") nil (assign (codes "b") one_two no_assigns))) ≡ Some (assign (codes "x") nil no_assigns)
example_map_pattern = refl

example_absent_key : binding (map_like (key (codes "a") any no_keys)) (map_of (assign (codes "b") nil no_assigns)) ≡ None
example_absent_key = refl

abbrev page_of : Nodes → Res (List ℕ)
page_of ns = full_render (site_of home_alone) 41 (scope no_assigns) ns

abbrev block : Expr → Clauses → Nodes
block e cs = one (place (case_place e cs))

-- `[]`, `[x]`, and nothing else: the first clause that matches, and a raise where none does
abbrev clauses : Clauses
clauses = clause (list_like no_patterns) (one (words (codes "none"))) (clause (list_like (pattern (named (codes "x")) no_patterns)) (one (put_variable (codes "x"))) no_clauses)

example_first_clause : page_of (block (list_expr []) clauses) ≡ Ok (codes "none")
example_first_clause = refl

example_second_clause : page_of (block (list_expr (quote (codes "y") ∷ [])) clauses) ≡ Ok (codes "y")
example_second_clause = refl

example_no_clause : page_of (block (int 1) clauses) ≡ Err NoClause
example_no_clause = refl

-- a loop leaves out the items that do not match: `for {:ok, x} <- ..`, here with a text in place of the atom
example_loop_pattern : page_of (one (place (for_place (tuple_like (pattern (literal (text (codes "ok"))) (pattern (named (codes "x")) no_patterns)))
    (list_expr (tuple_of (exprs_of (quote (codes "ok") ∷ quote (codes "a") ∷ [])) ∷ tuple_of (exprs_of (quote (codes "no") ∷ quote (codes "b") ∷ [])) ∷ int 1 ∷ []))
    (one (put_variable (codes "x")))))) ≡ Ok (codes "a")
example_loop_pattern = refl

-- a map is gone through as pairs, in the order of its keys
example_loop_over_map : page_of (one (place (for_place (tuple_like (pattern (named (codes "k")) (pattern any no_patterns)))
    (map_expr ((codes "b", int 1) ∷ (codes "a", int 2) ∷ [])) (one (put_variable (codes "k")))))) ≡ Ok (codes "ab")
example_loop_over_map = refl

-- a branch without content is a node, and an else without content is none
example_empty_branch : carried_text (joined (page_alone (one (place (if_place (boolean_of true) no_nodes no_nodes))) [] [])) ≡ codes "{\"0\":{\"s\":[\"\"]},\"s\":[\"\",\"\"]}" ∷ []
unfolding digits escape_byte
example_empty_branch = refl

example_empty_else : carried_text (joined (page_alone (one (place (if_place (boolean_of false) no_nodes no_nodes))) [] [])) ≡ codes "{\"0\":\"\",\"s\":[\"\",\"\"]}" ∷ []
unfolding digits escape_byte
example_empty_else = refl
