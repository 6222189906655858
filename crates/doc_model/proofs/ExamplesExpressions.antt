-- Worked examples: expression samples, and how operands are taken and judged.
use Rattle.std.proofs.Common.{◌≡◌, ℕ, pos, negsuc, List, [], ◌∷◌, Ok, Err, true, false, codes, refl}
use Rattle.std.specs.Fmt.{digits}
use Rattle.value_core.specs.Value.{Value, nil, boolean, whole_number, text, list, Values, no_values, value, no_assigns}
use Rattle.value_core.specs.declared.raise.Raise.TheVariants.{NoAssign, NoKey, BadArgument, BadBoolean, Range, NotPrintable}
use Rattle.ast_core.specs.declared.operators.UnaryOp.TheVariants.{Minus as Negative}
use Rattle.ast_core.specs.declared.operators.BinaryOp.TheVariants as op
use Rattle.ast_core.specs.declared.operators.Function.TheVariants as call
use Rattle.ast_core.specs.Syntax.{Expr, text_of, nil_of, boolean_of, field, index, unary, binary, call_of, no_exprs, no_parts, plain, put_part}
use Rattle.ast_core.specs.ExprView.{exprs_of, left_chain, right_chain, pipes_of}
use Rattle.doc_model.specs.Evaluation.{Res, eval_expr}
use Rattle.doc_model.proofs.ExampleParts.{scope, quote, int, assigned, list_expr, map_expr}

-- with nothing in scope
abbrev value_of : Expr → Res Value
value_of e = eval_expr (scope no_assigns) e

-- a whole number, and a list of whole numbers
abbrev whole : ℕ → Value
whole n = whole_number (pos n)

abbrev wholes : List ℕ → Value
wholes ns = list (all ns)
  where
    all : List ℕ → Values
    all [] = no_values
    all (n ∷ ns) = value (whole n) (all ns)

-- `-n`
abbrev minus : ℕ → Expr
minus n = unary Negative (int n)

-- `1 + 2 * 3 - 4`
example_expression_samples_arithmetic : value_of (left_chain (int 1) ((op.Plus, left_chain (int 2) ((op.Times, int 3) ∷ [])) ∷ (op.Minus, int 4) ∷ [])) ≡ Ok (whole 3)
example_expression_samples_arithmetic = refl

-- `1 < 2 == true`
example_expression_samples_comparison : value_of (left_chain (left_chain (int 1) ((op.Less, int 2) ∷ [])) ((op.Equal, boolean_of true) ∷ [])) ≡ Ok (boolean true)
example_expression_samples_comparison = refl

-- `nil || 5`
example_expression_samples_or : value_of (left_chain nil_of ((op.OrElse, int 5) ∷ [])) ≡ Ok (whole 5)
example_expression_samples_or = refl

-- `[1] ++ [2] ++ [3]`
example_expression_samples_lists : value_of (right_chain (list_expr (int 1 ∷ [])) ((op.Append, list_expr (int 2 ∷ [])) ∷ (op.Append, list_expr (int 3 ∷ [])) ∷ [])) ≡ Ok (wholes (1 ∷ 2 ∷ 3 ∷ []))
example_expression_samples_lists = refl

-- `"n=#{1 + 1}"`
example_expression_samples_text : value_of (text_of (plain (codes "n=") (put_part (left_chain (int 1) ((op.Plus, int 1) ∷ [])) no_parts))) ≡ Ok (text (codes "n=2"))
unfolding digits
example_expression_samples_text = refl

-- `[1, 2] |> length()`
example_expression_samples_pipe : value_of (pipes_of (list_expr (int 1 ∷ int 2 ∷ [])) ((call.Length, no_exprs) ∷ [])) ≡ Ok (whole 2)
example_expression_samples_pipe = refl

-- `div(-7, 2)` and `rem(-7, 2)`
example_expression_samples_quotient : value_of (call_of call.Div (exprs_of (minus 7 ∷ int 2 ∷ []))) ≡ Ok (whole_number (negsuc 2))
example_expression_samples_quotient = refl

example_expression_samples_rest : value_of (call_of call.Rem (exprs_of (minus 7 ∷ int 2 ∷ []))) ≡ Ok (whole_number (negsuc 0))
example_expression_samples_rest = refl

-- `%{a: 1}["b"]` and `%{a: 1}.b`
example_expression_samples_index : value_of (index (map_expr ((codes "a", int 1) ∷ [])) (quote (codes "b"))) ≡ Ok nil
example_expression_samples_index = refl

example_expression_samples_field : value_of (field (map_expr ((codes "a", int 1) ∷ [])) (codes "b")) ≡ Err NoKey
example_expression_samples_field = refl

-- `1 and true`
example_expression_samples_and : value_of (left_chain (int 1) ((op.And, boolean_of true) ∷ [])) ≡ Err BadBoolean
example_expression_samples_and = refl

-- `1 < "a"`
example_expression_samples_kinds : value_of (left_chain (int 1) ((op.Less, quote (codes "a")) ∷ [])) ≡ Err BadArgument
example_expression_samples_kinds = refl

-- operands come before their kinds: `nil + @x`
example_operands_first : value_of (binary op.Plus nil_of (assigned (codes "x"))) ≡ Err NoAssign
example_operands_first = refl

-- the left of `and` is judged before the right is taken: `1 and @x`, and `false and @x` is false
example_left_judged_first : value_of (binary op.And (int 1) (assigned (codes "x"))) ≡ Err BadBoolean
example_left_judged_first = refl

example_left_decides : value_of (binary op.And (boolean_of false) (assigned (codes "x"))) ≡ Ok (boolean false)
example_left_decides = refl

-- the right of `and` is not judged: `true and 1`
example_right_as_it_is : value_of (binary op.And (boolean_of true) (int 1)) ≡ Ok (whole 1)
example_right_as_it_is = refl

-- a part is printed before the next is evaluated: `"#{[1]}#{@x}"`
example_parts_in_turn : value_of (text_of (put_part (list_expr (int 1 ∷ [])) (put_part (assigned (codes "x")) no_parts))) ≡ Err NotPrintable
example_parts_in_turn = refl

-- `nil[1]`, and `Map.get(%{}, nil)`
example_index_key : value_of (index nil_of (int 1)) ≡ Err BadArgument
example_index_key = refl

example_get_key : value_of (call_of call.Get (exprs_of (map_expr [] ∷ nil_of ∷ []))) ≡ Err BadArgument
example_get_key = refl

-- `Enum.join([1], 2)`, and an item without a text where the kinds are right: `Enum.join([[]], ",")`
example_join_kind : value_of (call_of call.Join (exprs_of (list_expr (int 1 ∷ []) ∷ int 2 ∷ []))) ≡ Err BadArgument
example_join_kind = refl

example_join_item : value_of (call_of call.Join (exprs_of (list_expr (list_expr [] ∷ []) ∷ quote (codes ",") ∷ []))) ≡ Err NotPrintable
example_join_item = refl

-- the least number by -1: where the quotient has no 64 bits, the rest raises too
abbrev least : Expr
least = binary op.Minus (minus 9223372036854775807) (int 1)

example_least : value_of least ≡ Ok (whole_number (negsuc 9223372036854775807))
example_least = refl

example_least_quotient : value_of (call_of call.Div (exprs_of (least ∷ minus 1 ∷ []))) ≡ Err Range
example_least_quotient = refl

example_least_rest : value_of (call_of call.Rem (exprs_of (least ∷ minus 1 ∷ []))) ≡ Err Range
example_least_rest = refl

-- arguments come before their number: `length(@x, 1, 2, 3)`, and `length(1, 2, 3, 4)`
example_arguments_first : value_of (call_of call.Length (exprs_of (assigned (codes "x") ∷ int 1 ∷ int 2 ∷ int 3 ∷ []))) ≡ Err NoAssign
example_arguments_first = refl

example_argument_count : value_of (call_of call.Length (exprs_of (int 1 ∷ int 2 ∷ int 3 ∷ int 4 ∷ []))) ≡ Err BadArgument
example_argument_count = refl

-- texts are compared by bytes: `"B" < "a"`
example_bytes : value_of (binary op.Less (quote (codes "B")) (quote (codes "a"))) ≡ Ok (boolean true)
example_bytes = refl
