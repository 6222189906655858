-- What becomes of some texts.
use Rattle.std.proofs.Common.{◌≡◌, ℕ, pos, List, [], ◌∷◌, true, codes, Ok, refl}
use Rattle.ast_core.specs.declared.operators.UnaryOp.TheVariants as un
use Rattle.ast_core.specs.declared.operators.BinaryOp.TheVariants as op
use Rattle.ast_core.specs.declared.operators.Function.TheVariants as fn
use Rattle.ast_core.specs.Syntax.{Expr}
use Rattle.ast_core.specs.Syntax as x
use Rattle.ast_core.specs.ExprView.{exprs_of}
use Rattle.expr_core.specs.declared.fault.ExprKind.TheVariants as kind
use Rattle.expr_core.specs.Functions.{function_of}
use Rattle.expr_core.specs.Grammar.{left_of, right_of}
use Rattle.expr_core.specs.Answers.{expr_of, refused}

-- a variable, and a whole number
abbrev v : List ℕ → Expr
v s = x.name (x.var s)

abbrev int : ℕ → Expr
int n = x.number (pos n)

-- `1 + 2 * 3 - 4`
sums : expr_of (codes "1 + 2 * 3 - 4") ≡ Ok (x.binary op.Minus (x.binary op.Plus (int 1) (x.binary op.Times (int 2) (int 3))) (int 4))
unfolding left_of right_of function_of
sums = refl

-- `a - b - c`
minus_left : expr_of (codes "a - b - c") ≡ Ok (x.binary op.Minus (x.binary op.Minus (v (codes "a")) (v (codes "b"))) (v (codes "c")))
unfolding left_of right_of function_of
minus_left = refl

-- `a * b * c`
times_left : expr_of (codes "a * b * c") ≡ Ok (x.binary op.Times (x.binary op.Times (v (codes "a")) (v (codes "b"))) (v (codes "c")))
unfolding left_of right_of function_of
times_left = refl

-- `a ++ b <> c`
append_right : expr_of (codes "a ++ b <> c") ≡ Ok (x.binary op.Append (v (codes "a")) (x.binary op.Concat (v (codes "b")) (v (codes "c"))))
unfolding left_of right_of function_of
append_right = refl

-- `a + b ++ c - d`
append_below_plus : expr_of (codes "a + b ++ c - d") ≡ Ok (x.binary op.Append (x.binary op.Plus (v (codes "a")) (v (codes "b"))) (x.binary op.Minus (v (codes "c")) (v (codes "d"))))
unfolding left_of right_of function_of
append_below_plus = refl

-- `a ++ b in c ++ d`
member : expr_of (codes "a ++ b in c ++ d") ≡ Ok (x.binary op.Member (x.binary op.Append (v (codes "a")) (v (codes "b"))) (x.binary op.Append (v (codes "c")) (v (codes "d"))))
unfolding left_of right_of function_of
member = refl

-- `1 < 2 == true`
compared : expr_of (codes "1 < 2 == true") ≡ Ok (x.binary op.Equal (x.binary op.Less (int 1) (int 2)) (x.boolean_of true))
unfolding left_of right_of function_of
compared = refl

-- `a < b <= c > d >= e`
compared_left : expr_of (codes "a < b <= c > d >= e") ≡ Ok (x.binary op.AtLeast (x.binary op.Greater (x.binary op.AtMost (x.binary op.Less (v (codes "a")) (v (codes "b"))) (v (codes "c"))) (v (codes "d"))) (v (codes "e")))
unfolding left_of right_of function_of
compared_left = refl

-- `a == b != c`
equal_left : expr_of (codes "a == b != c") ≡ Ok (x.binary op.Unequal (x.binary op.Equal (v (codes "a")) (v (codes "b"))) (v (codes "c")))
unfolding left_of right_of function_of
equal_left = refl

-- `a || b && c or d and e`
and_above_or : expr_of (codes "a || b && c or d and e") ≡ Ok (x.binary op.Or (x.binary op.OrElse (v (codes "a")) (x.binary op.AndAlso (v (codes "b")) (v (codes "c")))) (x.binary op.And (v (codes "d")) (v (codes "e"))))
unfolding left_of right_of function_of
and_above_or = refl

-- `a and b && c`
and_left : expr_of (codes "a and b && c") ≡ Ok (x.binary op.AndAlso (x.binary op.And (v (codes "a")) (v (codes "b"))) (v (codes "c")))
unfolding left_of right_of function_of
and_left = refl

-- `nil || 5`
nil_or : expr_of (codes "nil || 5") ≡ Ok (x.binary op.OrElse (x.nil_of) (int 5))
unfolding left_of right_of function_of
nil_or = refl

-- `-a * !b`
signs : expr_of (codes "-a * !b") ≡ Ok (x.binary op.Times (x.unary un.Minus (v (codes "a"))) (x.unary un.Bang (v (codes "b"))))
unfolding left_of right_of function_of
signs = refl

-- `- -a.b`
twice : expr_of (codes "- -a.b") ≡ Ok (x.unary un.Minus (x.unary un.Minus (x.field (v (codes "a")) (codes "b"))))
unfolding left_of right_of function_of
twice = refl

-- `not a == b`
denied_equal : expr_of (codes "not a == b") ≡ Ok (x.binary op.Equal (x.unary un.Not (v (codes "a"))) (v (codes "b")))
unfolding left_of right_of function_of
denied_equal = refl

-- `-7`
negative : expr_of (codes "-7") ≡ Ok (x.unary un.Minus (int 7))
unfolding left_of right_of function_of
negative = refl

-- `(a - b) * c`
grouped : expr_of (codes "(a - b) * c") ≡ Ok (x.binary op.Times (x.binary op.Minus (v (codes "a")) (v (codes "b"))) (v (codes "c")))
unfolding left_of right_of function_of
grouped = refl

-- `a.b[c + 1].d`
path : expr_of (codes "a.b[c + 1].d") ≡ Ok (x.field (x.index (x.field (v (codes "a")) (codes "b")) (x.binary op.Plus (v (codes "c")) (int 1))) (codes "d"))
unfolding left_of right_of function_of
path = refl

-- `@ a.k`
assigned : expr_of (codes "@ a.k") ≡ Ok (x.field (x.name (x.at (codes "a"))) (codes "k"))
unfolding left_of right_of function_of
assigned = refl

-- `[1] ++ [2, 3] ++ []`
lists : expr_of (codes "[1] ++ [2, 3] ++ []") ≡ Ok (x.binary op.Append (x.list_of (exprs_of (int 1 ∷ []))) (x.binary op.Append (x.list_of (exprs_of (int 2 ∷ int 3 ∷ []))) (x.list_of x.no_exprs)))
unfolding left_of right_of function_of
lists = refl

-- `{:ok, {}}`
tuples : expr_of (codes "{:ok, {}}") ≡ Ok (x.tuple_of (exprs_of (x.atom_of (codes "ok") ∷ x.tuple_of x.no_exprs ∷ [])))
unfolding left_of right_of function_of
tuples = refl

-- `%{a: 1, "b c" => %{}, d : 2}`
maps : expr_of (codes "%{a: 1, \"b c\" => %{}, d : 2}") ≡ Ok (x.map_with (x.pair (codes "a") (int 1) (x.pair (codes "b c") (x.map_with x.no_pairs) (x.pair (codes "d") (int 2) x.no_pairs))))
unfolding left_of right_of function_of
maps = refl

-- `%{"" => 1}["x"]`
map_of_empty_key : expr_of (codes "%{\"\" => 1}[\"x\"]") ≡ Ok (x.index (x.map_with (x.pair [] (int 1) x.no_pairs)) (x.text_of (x.plain (codes "x") x.no_parts)))
unfolding left_of right_of function_of
map_of_empty_key = refl

-- `"n=#{1 + 1}#{a}."`
texts : expr_of (codes "\"n=#{1 + 1}#{a}.\"") ≡ Ok (x.text_of (x.plain (codes "n=") (x.put_part (x.binary op.Plus (int 1) (int 1)) (x.put_part (v (codes "a")) (x.plain (codes ".") x.no_parts)))))
unfolding left_of right_of function_of
texts = refl

-- `""`
text_empty : expr_of (codes "\"\"") ≡ Ok (x.text_of x.no_parts)
unfolding left_of right_of function_of
text_empty = refl

-- `"#{"a" <> b}"`
text_in_text : expr_of (codes "\"#{\"a\" <> b}\"") ≡ Ok (x.text_of (x.put_part (x.binary op.Concat (x.text_of (x.plain (codes "a") x.no_parts)) (v (codes "b"))) x.no_parts))
unfolding left_of right_of function_of
text_in_text = refl

-- `length([a]) + Enum.count(b)`
calls : expr_of (codes "length([a]) + Enum.count(b)") ≡ Ok (x.binary op.Plus (x.call_of fn.Length (exprs_of (x.list_of (exprs_of (v (codes "a") ∷ [])) ∷ []))) (x.call_of fn.Count (exprs_of (v (codes "b") ∷ []))))
unfolding left_of right_of function_of
calls = refl

-- `[1, 2] |> Enum.reverse() |> Enum.join(",")`
pipes : expr_of (codes "[1, 2] |> Enum.reverse() |> Enum.join(\",\")") ≡ Ok (x.call_of fn.Join (exprs_of (x.call_of fn.Reverse (exprs_of (x.list_of (exprs_of (int 1 ∷ int 2 ∷ [])) ∷ [])) ∷ x.text_of (x.plain (codes ",") x.no_parts) ∷ [])))
unfolding left_of right_of function_of
pipes = refl

-- `a in b |> is_nil() < c`
pipe_below_member : expr_of (codes "a in b |> is_nil() < c") ≡ Ok (x.binary op.Less (x.call_of fn.IsNil (exprs_of (x.binary op.Member (v (codes "a")) (v (codes "b")) ∷ []))) (v (codes "c")))
unfolding left_of right_of function_of
pipe_below_member = refl

-- `Enum.empty?(a)`
question_call : expr_of (codes "Enum.empty?(a)") ≡ Ok (x.call_of fn.IsEmpty (exprs_of (v (codes "a") ∷ [])))
unfolding left_of right_of function_of
question_call = refl

-- `if a, do: 1`
bare_if : expr_of (codes "if a, do: 1") ≡ Ok (x.if_else (v (codes "a")) (int 1) x.nil_of)
unfolding left_of right_of function_of
bare_if = refl

-- `if a == b, do: 1 + 2, else: if(c, do: 3)`
bare_if_else : expr_of (codes "if a == b, do: 1 + 2, else: if(c, do: 3)") ≡ Ok (x.if_else (x.binary op.Equal (v (codes "a")) (v (codes "b"))) (x.binary op.Plus (int 1) (int 2)) (x.if_else (v (codes "c")) (int 3) x.nil_of))
unfolding left_of right_of function_of
bare_if_else = refl

-- `(if a, do: 1)`
if_inside : expr_of (codes "(if a, do: 1)") ≡ Ok (x.if_else (v (codes "a")) (int 1) x.nil_of)
unfolding left_of right_of function_of
if_inside = refl

-- `if (a), do: 1`
if_test_inside : expr_of (codes "if (a), do: 1") ≡ Ok (x.if_else (v (codes "a")) (int 1) x.nil_of)
unfolding left_of right_of function_of
if_test_inside = refl

-- `if (a) + b, do: 1`
if_test_goes_on : expr_of (codes "if (a) + b, do: 1") ≡ Ok (x.if_else (x.binary op.Plus (v (codes "a")) (v (codes "b"))) (int 1) x.nil_of)
unfolding left_of right_of function_of
if_test_goes_on = refl

-- `if (a, do: 1, else: 2) + 3`
if_parts_inside : expr_of (codes "if (a, do: 1, else: 2) + 3") ≡ Ok (x.binary op.Plus (x.if_else (v (codes "a")) (int 1) (int 2)) (int 3))
unfolding left_of right_of function_of
if_parts_inside = refl

-- `[1, if(a, do: 2)]`
if_as_operand : expr_of (codes "[1, if(a, do: 2)]") ≡ Ok (x.list_of (exprs_of (int 1 ∷ x.if_else (v (codes "a")) (int 2) x.nil_of ∷ [])))
unfolding left_of right_of function_of
if_as_operand = refl

-- `1in [1]`
no_space : expr_of (codes "1in [1]") ≡ Ok (x.binary op.Member (int 1) (x.list_of (exprs_of (int 1 ∷ []))))
unfolding left_of right_of function_of
no_space = refl

-- `if a , do: :b`
do_apart : expr_of (codes "if a , do: :b") ≡ Ok (x.if_else (v (codes "a")) (x.atom_of (codes "b")) x.nil_of)
unfolding left_of right_of function_of
do_apart = refl

-- Refusals.

-- `1 +`
plus_alone : expr_of (codes "1 +") ≡ refused 3 kind.Stray
unfolding left_of right_of function_of
plus_alone = refl

-- an empty text, and white space alone
empty : expr_of (codes "") ≡ refused 0 kind.Stray
unfolding left_of right_of function_of
empty = refl

white_alone : expr_of (codes "  ") ≡ refused 2 kind.Stray
unfolding left_of right_of function_of
white_alone = refl

-- `if a, do:`
if_without_part : expr_of (codes "if a, do:") ≡ refused 9 kind.Stray
unfolding left_of right_of function_of
if_without_part = refl

-- `a |> f` could go on with a parenthesis
pipe_without_parenthesis : expr_of (codes "a |> f") ≡ refused 6 kind.Stray
unfolding left_of right_of function_of
pipe_without_parenthesis = refl

-- `a |> f + 1`
pipe_to_no_call : expr_of (codes "a |> f + 1") ≡ refused 7 kind.Stray
unfolding left_of right_of function_of
pipe_to_no_call = refl

-- `a in not b`
denied_list : expr_of (codes "a in not b") ≡ Ok (x.binary op.Member (v (codes "a")) (x.unary un.Not (v (codes "b"))))
unfolding left_of right_of function_of
denied_list = refl

-- `not a in b` and `!a + b in c`: the `in`
denied_member : expr_of (codes "not a in b") ≡ refused 6 kind.Stray
unfolding left_of right_of function_of
denied_member = refl

denied_sum : expr_of (codes "!a + b in c") ≡ refused 7 kind.Stray
unfolding left_of right_of function_of
denied_sum = refl

-- `a in b in c`
member_twice : expr_of (codes "a in b in c") ≡ refused 7 kind.Stray
unfolding left_of right_of function_of
member_twice = refl

-- `x?`
question_alone : expr_of (codes "x?") ≡ refused 1 kind.Stray
unfolding left_of right_of function_of
question_alone = refl

-- `%{a:b}`
key_atom : expr_of (codes "%{a:b}") ≡ refused 3 kind.Stray
unfolding left_of right_of function_of
key_atom = refl

-- `%{"a#{b}" => 1}`
part_in_key : expr_of (codes "%{\"a#{b}\" => 1}") ≡ refused 4 kind.Stray
unfolding left_of right_of function_of
part_in_key = refl

-- `[1, ]`
comma_last : expr_of (codes "[1, ]") ≡ refused 4 kind.Stray
unfolding left_of right_of function_of
comma_last = refl

-- `%{a: 1, }`
map_comma_last : expr_of (codes "%{a: 1, }") ≡ refused 8 kind.Stray
unfolding left_of right_of function_of
map_comma_last = refl

-- `(1]`
wrong_bracket : expr_of (codes "(1]") ≡ refused 2 kind.Stray
unfolding left_of right_of function_of
wrong_bracket = refl

-- `1 2`
two_values : expr_of (codes "1 2") ≡ refused 2 kind.Stray
unfolding left_of right_of function_of
two_values = refl

-- `a)`
closed_twice : expr_of (codes "a)") ≡ refused 1 kind.Stray
unfolding left_of right_of function_of
closed_twice = refl

-- `a |> length().b`
field_of_pipe : expr_of (codes "a |> length().b") ≡ refused 13 kind.Stray
unfolding left_of right_of function_of
field_of_pipe = refl

-- `f (1)`
call_apart : expr_of (codes "f (1)") ≡ refused 2 kind.Stray
unfolding left_of right_of function_of
call_apart = refl

-- `a.b(1)`
call_of_field : expr_of (codes "a.b(1)") ≡ refused 3 kind.Stray
unfolding left_of right_of function_of
call_of_field = refl

-- `Enum`
module_alone : expr_of (codes "Enum") ≡ refused 0 kind.Stray
unfolding left_of right_of function_of
module_alone = refl

-- `Enum.count (a)`
module_apart : expr_of (codes "Enum.count (a)") ≡ refused 11 kind.Stray
unfolding left_of right_of function_of
module_apart = refl

-- `Enum.count`
module_ended : expr_of (codes "Enum.count") ≡ refused 10 kind.Stray
unfolding left_of right_of function_of
module_ended = refl

-- `"a\q"`
bad_escape : expr_of (codes "\"a\\q\"") ≡ refused 2 kind.Stray
unfolding left_of right_of function_of
bad_escape = refl

-- `1 + if a, do: 2`
bare_if_as_operand : expr_of (codes "1 + if a, do: 2") ≡ refused 7 kind.Stray
unfolding left_of right_of function_of
bare_if_as_operand = refl

-- `[if a, do: 2]`
bare_if_in_list : expr_of (codes "[if a, do: 2]") ≡ refused 4 kind.Stray
unfolding left_of right_of function_of
bare_if_in_list = refl

-- `"#{if a, do: 2}"`
bare_if_in_part : expr_of (codes "\"#{if a, do: 2}\"") ≡ refused 6 kind.Stray
unfolding left_of right_of function_of
bare_if_in_part = refl

-- `if a, do: if b, do: c`
bare_if_in_bare_if : expr_of (codes "if a, do: if b, do: c") ≡ refused 13 kind.Stray
unfolding left_of right_of function_of
bare_if_in_bare_if = refl

-- `a end`
end_word : expr_of (codes "a end") ≡ refused 2 kind.Stray
unfolding left_of right_of function_of
end_word = refl

-- `[1`
square : expr_of (codes "[1") ≡ refused 0 kind.Unclosed
unfolding left_of right_of function_of
square = refl

-- `f([1,`
square_comma : expr_of (codes "f([1,") ≡ refused 2 kind.Unclosed
unfolding left_of right_of function_of
square_comma = refl

-- `"a` and `"a#{b`, and a text whose last character is a backslash
quote : expr_of (codes "\"a") ≡ refused 0 kind.Unclosed
unfolding left_of right_of function_of
quote = refl

part : expr_of (codes "\"a#{b") ≡ refused 2 kind.Unclosed
unfolding left_of right_of function_of
part = refl

quote_behind_part : expr_of (codes "\"a#{b}") ≡ refused 0 kind.Unclosed
unfolding left_of right_of function_of
quote_behind_part = refl

quote_backslash : expr_of (codes "\"a\\") ≡ refused 0 kind.Unclosed
unfolding left_of right_of function_of
quote_backslash = refl

-- `(1 +`
parenthesis_sum : expr_of (codes "(1 +") ≡ refused 0 kind.Unclosed
unfolding left_of right_of function_of
parenthesis_sum = refl

-- `%{a`
map_key : expr_of (codes "%{a") ≡ refused 0 kind.Unclosed
unfolding left_of right_of function_of
map_key = refl

-- `(1 2`: an earlier token is at fault
unclosed_later : expr_of (codes "(1 2") ≡ refused 3 kind.Stray
unfolding left_of right_of function_of
unclosed_later = refl

-- a number too large, also where none may stand
number_large : expr_of (codes "1 + 9223372036854775808") ≡ refused 4 kind.BadNumber
unfolding left_of right_of function_of
number_large = refl

number_large_stray : expr_of (codes "1 9223372036854775808") ≡ refused 2 kind.BadNumber
unfolding left_of right_of function_of
number_large_stray = refl

number_large_minus : expr_of (codes "-9223372036854775808") ≡ refused 1 kind.BadNumber
unfolding left_of right_of function_of
number_large_minus = refl

-- `foo(1)`
unknown : expr_of (codes "foo(1)") ≡ refused 0 kind.UnknownFunction
unfolding left_of right_of function_of
unknown = refl

-- `@a |> f(b)`
unknown_pipe : expr_of (codes "@a |> f(b)") ≡ refused 6 kind.UnknownFunction
unfolding left_of right_of function_of
unknown_pipe = refl

-- a wrong number of arguments; a pipe gives one
unknown_count : expr_of (codes "1 + length(1, 2)") ≡ refused 4 kind.UnknownFunction
unfolding left_of right_of function_of
unknown_count = refl

unknown_piped_count : expr_of (codes "a |> length(b)") ≡ refused 5 kind.UnknownFunction
unfolding left_of right_of function_of
unknown_piped_count = refl

-- the first of several
unknown_first : expr_of (codes "foo(bar(1)) + baz()") ≡ refused 0 kind.UnknownFunction
unfolding left_of right_of function_of
unknown_first = refl

unknown_inner : expr_of (codes "length(bar(1)) + baz()") ≡ refused 7 kind.UnknownFunction
unfolding left_of right_of function_of
unknown_inner = refl

unknown_left : expr_of (codes "f(1) |> g()") ≡ refused 0 kind.UnknownFunction
unfolding left_of right_of function_of
unknown_left = refl

-- a text without a reading
unknown_then_stray : expr_of (codes "foo(1) +") ≡ refused 8 kind.Stray
unfolding left_of right_of function_of
unknown_then_stray = refl

-- `render_slot(@inner_block)`
render_slot : expr_of (codes "render_slot(@inner_block)") ≡ refused 0 kind.UnknownFunction
unfolding left_of right_of function_of
render_slot = refl

-- the level above the 64th
deep : expr_of (codes "(((((((((((((((((((((((((((((((((((((((((((((((((((((((((((((((([1") ≡ refused 64 kind.TooDeep
unfolding left_of right_of function_of
deep = refl

-- a call counts from its parenthesis
deep_call : expr_of (codes "((((((((((((((((((((((((((((((((((((((((((((((((((((((((((((((((length(1)") ≡ refused 70 kind.TooDeep
unfolding left_of right_of function_of
deep_call = refl

deep_denied : expr_of (codes "(((((((((((((((((((((((((((((((((((((((((((((((((((((((((((((((!!a") ≡ refused 64 kind.TooDeep
unfolding left_of right_of function_of
deep_denied = refl

-- at one token, Stray comes before TooDeep
deep_stray : expr_of (codes "((((((((((((((((((((((((((((((((((((((((((((((((((((((((((((((((1 [") ≡ refused 66 kind.Stray
unfolding left_of right_of function_of
deep_stray = refl

-- 64 levels
just_deep : expr_of (codes "((((((((((((((((((((((((((((((((((((((((((((((((((((((((((((((((1))))))))))))))))))))))))))))))))))))))))))))))))))))))))))))))))") ≡ Ok (int 1)
unfolding left_of right_of function_of
just_deep = refl

path_in_depth : expr_of (codes "((((((((((((((((((((((((((((((((((((((((((((((((((((((((((((((((a.b.c))))))))))))))))))))))))))))))))))))))))))))))))))))))))))))))))") ≡ Ok (x.field (x.field (v (codes "a")) (codes "b")) (codes "c"))
unfolding left_of right_of function_of
path_in_depth = refl
