-- Worked examples: more values of expressions.
use Rattle.std.proofs.Common.{◌≡◌, pos, Ok, Err, true, codes, refl}
use Rattle.value_core.specs.Value.{Value, nil, boolean, whole_number, text, list, no_values, value}
use Rattle.value_core.specs.declared.raise.Raise.TheVariants.{NoVariable, BadArgument, BadBoolean, Range}
use Rattle.ast_core.specs.declared.operators.UnaryOp.TheVariants.{Not}
use Rattle.ast_core.specs.declared.operators.BinaryOp.TheVariants.{Member, Append, Concat, Plus, OrElse, Less}
use Rattle.ast_core.specs.declared.operators.Function.TheVariants.{Div, Join, Get}
use Rattle.ast_core.specs.Syntax.{at, var, Expr, text_of, atom_of, nil_of, name, list_of, map_with, field, index, unary, binary, call_of, no_exprs, expr, no_pairs, pair, no_parts, plain, put_part}
use Rattle.doc_model.specs.Evaluation.{Res, eval_expr}
use Rattle.doc_model.proofs.ExampleParts.{quote, int, with_one}

abbrev value_of : Expr → Res Value
value_of e = eval_expr (with_one (codes "a") (text (codes "x"))) e

example_bad_kind : value_of (binary Plus nil_of (int 1)) ≡ Err BadArgument
example_bad_kind = refl

example_no_variable : value_of (name (var (codes "a"))) ≡ Err NoVariable
example_no_variable = refl

example_overflow : value_of (binary Plus (int 9223372036854775807) (int 1)) ≡ Err Range
example_overflow = refl

example_greatest : value_of (binary Plus (int 9223372036854775807) (int 0)) ≡ Ok (whole_number (pos 9223372036854775807))
example_greatest = refl

example_concatenated : value_of (binary Concat (name (at (codes "a"))) (quote (codes "y"))) ≡ Ok (text (codes "xy"))
example_concatenated = refl

example_appended : value_of (binary Append (list_of (expr (int 1) no_exprs)) (list_of (expr (int 2) no_exprs))) ≡ Ok (list (value (whole_number (pos 1)) (value (whole_number (pos 2)) no_values)))
example_appended = refl

example_member : value_of (binary Member (int 2) (list_of (expr (int 1) (expr (int 2) no_exprs)))) ≡ Ok (boolean true)
example_member = refl

-- `||` gives the operand, and does not look at the right one
example_short : value_of (binary OrElse (int 1) (name (at (codes "b")))) ≡ Ok (whole_number (pos 1))
example_short = refl

example_no_boolean : value_of (unary Not (int 1)) ≡ Err BadBoolean
example_no_boolean = refl

example_texts_by_bytes : value_of (binary Less (quote (codes "a")) (quote (codes "b"))) ≡ Ok (boolean true)
example_texts_by_bytes = refl

example_nil_index : value_of (index nil_of (quote (codes "k"))) ≡ Ok nil
example_nil_index = refl

-- of equal keys the last holds
example_last_key : value_of (field (map_with (pair (codes "a") (int 1) (pair (codes "a") (int 2) no_pairs))) (codes "a")) ≡ Ok (whole_number (pos 2))
example_last_key = refl

example_by_zero : value_of (call_of Div (expr (int 1) (expr (int 0) no_exprs))) ≡ Err BadArgument
example_by_zero = refl

example_joined : value_of (call_of Join (expr (list_of (expr (quote (codes "a")) (expr (atom_of (codes "b")) no_exprs))) (expr (quote (codes ", ")) no_exprs))) ≡ Ok (text (codes "a, b"))
example_joined = refl

example_or_default : value_of (call_of Get (expr (map_with no_pairs) (expr (quote (codes "k")) (expr (quote (codes "d")) no_exprs)))) ≡ Ok (text (codes "d"))
example_or_default = refl

example_part : value_of (text_of (plain (codes "a") (put_part (name (at (codes "a"))) (plain (codes "c") no_parts)))) ≡ Ok (text (codes "axc"))
example_part = refl
