-- What becomes of some patterns.
use Rattle.std.proofs.Common.{◌≡◌, pos, negsuc, [], ◌∷◌, true, false, codes, Ok, refl}
use Rattle.value_core.specs.Value as value
use Rattle.ast_core.specs.Syntax as x
use Rattle.ast_core.specs.PatternView.{patterns_of}
use Rattle.expr_core.specs.declared.fault.ExprKind.TheVariants as kind
use Rattle.expr_core.specs.Answers.{pattern_of, refused}

-- `_`
any : pattern_of (codes "_") ≡ Ok (x.any)
any = refl

-- `{_, _, __}`
anys : pattern_of (codes "{_, _, __}") ≡ Ok (x.tuple_like (patterns_of (x.any ∷ x.any ∷ x.named (codes "__") ∷ [])))
anys = refl

-- `{:ok, %{a: _, b : [x, -1]}}`
results : pattern_of (codes "{:ok, %{a: _, b : [x, -1]}}") ≡ Ok (x.tuple_like (patterns_of (x.literal (value.atom (codes "ok")) ∷ x.map_like (x.key (codes "a") x.any (x.key (codes "b") (x.list_like (patterns_of (x.named (codes "x") ∷ x.literal (value.whole_number (negsuc 0)) ∷ []))) x.no_keys)) ∷ [])))
results = refl

-- `[7, - 0]`
numbers : pattern_of (codes "[7, - 0]") ≡ Ok (x.list_like (patterns_of (x.literal (value.whole_number (pos 7)) ∷ x.literal (value.whole_number (pos 0)) ∷ [])))
numbers = refl

-- `[nil, true, false, "a b", ""]`
words : pattern_of (codes "[nil, true, false, \"a b\", \"\"]") ≡ Ok (x.list_like (patterns_of (x.literal value.nil ∷ x.literal (value.boolean true) ∷ x.literal (value.boolean false) ∷ x.literal (value.text (codes "a b")) ∷ x.literal (value.text []) ∷ [])))
words = refl

-- `{[], {}, %{}}`
empties : pattern_of (codes "{[], {}, %{}}") ≡ Ok (x.tuple_like (patterns_of (x.list_like x.no_patterns ∷ x.tuple_like x.no_patterns ∷ x.map_like x.no_keys ∷ [])))
empties = refl

-- `%{a: x, a: y}`
key_twice : pattern_of (codes "%{a: x, a: y}") ≡ Ok (x.map_like (x.key (codes "a") (x.named (codes "x")) (x.key (codes "a") (x.named (codes "y")) x.no_keys)))
key_twice = refl

-- Refusals.

-- `{x, %{x: [x]}}`: a key is no name that the pattern binds
name_twice : pattern_of (codes "{x, %{x: [x]}}") ≡ refused 10 kind.Stray
name_twice = refl

-- `%{"a" => x}`
text_key : pattern_of (codes "%{\"a\" => x}") ≡ refused 2 kind.Stray
text_key = refl

-- `"a#{b}"`
part : pattern_of (codes "\"a#{b}\"") ≡ refused 2 kind.Stray
part = refl

-- `1 + 2`
sum : pattern_of (codes "1 + 2") ≡ refused 2 kind.Stray
sum = refl

-- `f(x)`
call : pattern_of (codes "f(x)") ≡ refused 1 kind.Stray
call = refl

-- `@a`
assign : pattern_of (codes "@a") ≡ refused 0 kind.Stray
assign = refl

-- `(a)`
parenthesis : pattern_of (codes "(a)") ≡ refused 0 kind.Stray
parenthesis = refl

-- `-x`
minus_name : pattern_of (codes "-x") ≡ refused 1 kind.Stray
minus_name = refl

-- `-`
minus : pattern_of (codes "-") ≡ refused 1 kind.Stray
minus = refl

-- an empty text
nothing : pattern_of (codes "") ≡ refused 0 kind.Stray
nothing = refl

-- `[a,]`
comma_last : pattern_of (codes "[a,]") ≡ refused 3 kind.Stray
comma_last = refl

-- `[1, {a`
unclosed : pattern_of (codes "[1, {a") ≡ refused 4 kind.Unclosed
unclosed = refl

-- `"a`
unclosed_text : pattern_of (codes "\"a") ≡ refused 0 kind.Unclosed
unclosed_text = refl

-- `[1}`
wrong : pattern_of (codes "[1}") ≡ refused 2 kind.Stray
wrong = refl

-- `[9223372036854775808]`
too_large : pattern_of (codes "[9223372036854775808]") ≡ refused 1 kind.BadNumber
too_large = refl

-- `-9223372036854775808`
too_large_minus : pattern_of (codes "-9223372036854775808") ≡ refused 1 kind.BadNumber
too_large_minus = refl

-- the level above the 64th
deep : pattern_of (codes "[[[[[[[[[[[[[[[[[[[[[[[[[[[[[[[[[[[[[[[[[[[[[[[[[[[[[[[[[[[[[[[[{") ≡ refused 64 kind.TooDeep
deep = refl

-- 64 levels
just_deep : pattern_of (codes "[[[[[[[[[[[[[[[[[[[[[[[[[[[[[[[[[[[[[[[[[[[[[[[[[[[[[[[[[[[[[[[%{a: 1}]]]]]]]]]]]]]]]]]]]]]]]]]]]]]]]]]]]]]]]]]]]]]]]]]]]]]]]]]]]]]]]") ≡ Ok (x.list_like (patterns_of (x.list_like (patterns_of (x.list_like (patterns_of (x.list_like (patterns_of (x.list_like (patterns_of (x.list_like (patterns_of (x.list_like (patterns_of (x.list_like (patterns_of (x.list_like (patterns_of (x.list_like (patterns_of (x.list_like (patterns_of (x.list_like (patterns_of (x.list_like (patterns_of (x.list_like (patterns_of (x.list_like (patterns_of (x.list_like (patterns_of (x.list_like (patterns_of (x.list_like (patterns_of (x.list_like (patterns_of (x.list_like (patterns_of (x.list_like (patterns_of (x.list_like (patterns_of (x.list_like (patterns_of (x.list_like (patterns_of (x.list_like (patterns_of (x.list_like (patterns_of (x.list_like (patterns_of (x.list_like (patterns_of (x.list_like (patterns_of (x.list_like (patterns_of (x.list_like (patterns_of (x.list_like (patterns_of (x.list_like (patterns_of (x.list_like (patterns_of (x.list_like (patterns_of (x.list_like (patterns_of (x.list_like (patterns_of (x.list_like (patterns_of (x.list_like (patterns_of (x.list_like (patterns_of (x.list_like (patterns_of (x.list_like (patterns_of (x.list_like (patterns_of (x.list_like (patterns_of (x.list_like (patterns_of (x.list_like (patterns_of (x.list_like (patterns_of (x.list_like (patterns_of (x.list_like (patterns_of (x.list_like (patterns_of (x.list_like (patterns_of (x.list_like (patterns_of (x.list_like (patterns_of (x.list_like (patterns_of (x.list_like (patterns_of (x.list_like (patterns_of (x.list_like (patterns_of (x.list_like (patterns_of (x.list_like (patterns_of (x.list_like (patterns_of (x.list_like (patterns_of (x.list_like (patterns_of (x.list_like (patterns_of (x.map_like (x.key (codes "a") (x.literal (value.whole_number (pos 1))) x.no_keys) ∷ [])) ∷ [])) ∷ [])) ∷ [])) ∷ [])) ∷ [])) ∷ [])) ∷ [])) ∷ [])) ∷ [])) ∷ [])) ∷ [])) ∷ [])) ∷ [])) ∷ [])) ∷ [])) ∷ [])) ∷ [])) ∷ [])) ∷ [])) ∷ [])) ∷ [])) ∷ [])) ∷ [])) ∷ [])) ∷ [])) ∷ [])) ∷ [])) ∷ [])) ∷ [])) ∷ [])) ∷ [])) ∷ [])) ∷ [])) ∷ [])) ∷ [])) ∷ [])) ∷ [])) ∷ [])) ∷ [])) ∷ [])) ∷ [])) ∷ [])) ∷ [])) ∷ [])) ∷ [])) ∷ [])) ∷ [])) ∷ [])) ∷ [])) ∷ [])) ∷ [])) ∷ [])) ∷ [])) ∷ [])) ∷ [])) ∷ [])) ∷ [])) ∷ [])) ∷ [])) ∷ [])) ∷ [])) ∷ [])))
just_deep = refl
