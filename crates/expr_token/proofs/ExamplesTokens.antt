-- The tokens of some texts.
use Rattle.std.proofs.Common.{◌≡◌, ℕ, pos, [], ◌∷◌, true, false, codes, refl}
use Rattle.ast_core.specs.declared.operators.BinaryOp.TheVariants as op
use Rattle.expr_token.specs.declared.token.Bracket.TheVariants.{Round, Square, Curly}
use Rattle.expr_token.specs.declared.token.Token.{Token}
use Rattle.expr_token.specs.declared.token.Token.TheVariants.{Number, BadNumber, Word, Function, Atom, Nil, Boolean, At, Dot, Operator, Bang, NotWord, Pipe, Colon, Arrow, If, DoColon, ElseColon, OpeningRound, CallOpening, OpeningSquare, IndexOpening, OpeningCurly, OpeningMap, Closing, Quote, PartOpening, PartClosing, QuoteEnd, Foreign}
use Rattle.expr_token.specs.declared.token.Placed.{Placed}
use Rattle.expr_token.specs.Tokens.{placed_tokens}

-- a token at a place
abbrev «at» : ℕ → Token → Placed
«at» n t = record { at = n; token = t }

nothing : placed_tokens (codes "") ≡ []
nothing = refl

white_alone : placed_tokens (32 ∷ 9 ∷ 10 ∷ 13 ∷ []) ≡ []
white_alone = refl

-- `x?`: a `?` belongs to a name only where `(` follows
question : placed_tokens (codes "x?") ≡ «at» 0 (Word 0 (codes "x")) ∷ «at» 1 Foreign ∷ []
question = refl

-- `x!=1`
bang_behind_name : placed_tokens (codes "x!=1") ≡ «at» 0 (Word 0 (codes "x")) ∷ «at» 1 (Operator op.Unequal) ∷ «at» 3 (Number (pos 1)) ∷ []
bang_behind_name = refl

-- `x?(y!(z))`
marked_call : placed_tokens (codes "x?(y!(z))") ≡ «at» 0 (Function 0 (codes "x?")) ∷ «at» 2 CallOpening ∷ «at» 3 (Function 3 (codes "y!")) ∷ «at» 5 CallOpening ∷ «at» 6 (Word 6 (codes "z")) ∷ «at» 7 (Closing Round) ∷ «at» 8 (Closing Round) ∷ []
marked_call = refl

-- `x!=(y)`
marked_unequal : placed_tokens (codes "x!=(y)") ≡ «at» 0 (Word 0 (codes "x")) ∷ «at» 1 (Operator op.Unequal) ∷ «at» 3 OpeningRound ∷ «at» 4 (Word 4 (codes "y")) ∷ «at» 5 (Closing Round) ∷ []
marked_unequal = refl

-- `%{a:b}`: a colon before a letter begins an atom
atom_as_key : placed_tokens (codes "%{a:b}") ≡ «at» 0 OpeningMap ∷ «at» 2 (Word 2 (codes "a")) ∷ «at» 3 (Atom (codes "b")) ∷ «at» 5 (Closing Curly) ∷ []
atom_as_key = refl

-- `%{a: b}`
key : placed_tokens (codes "%{a: b}") ≡ «at» 0 OpeningMap ∷ «at» 2 (Word 2 (codes "a")) ∷ «at» 3 Colon ∷ «at» 5 (Word 5 (codes "b")) ∷ «at» 6 (Closing Curly) ∷ []
key = refl

-- `%{a : 1}` and `%{a:1}`
key_apart : placed_tokens (codes "%{a : 1}") ≡ «at» 0 OpeningMap ∷ «at» 2 (Word 2 (codes "a")) ∷ «at» 4 Colon ∷ «at» 6 (Number (pos 1)) ∷ «at» 7 (Closing Curly) ∷ []
key_apart = refl

key_of_number : placed_tokens (codes "%{a:1}") ≡ «at» 0 OpeningMap ∷ «at» 2 (Word 2 (codes "a")) ∷ «at» 3 Colon ∷ «at» 4 (Number (pos 1)) ∷ «at» 5 (Closing Curly) ∷ []
key_of_number = refl

-- `%{"a" => b}`
key_of_text : placed_tokens (codes "%{\"a\"=>b}") ≡ «at» 0 OpeningMap ∷ «at» 2 (Quote (codes "a")) ∷ «at» 4 QuoteEnd ∷ «at» 5 Arrow ∷ «at» 7 (Word 7 (codes "b")) ∷ «at» 8 (Closing Curly) ∷ []
key_of_text = refl

-- the longest sign
at_most : placed_tokens (codes "a<=b") ≡ «at» 0 (Word 0 (codes "a")) ∷ «at» 1 (Operator op.AtMost) ∷ «at» 3 (Word 3 (codes "b")) ∷ []
at_most = refl

joined : placed_tokens (codes "a<>b") ≡ «at» 0 (Word 0 (codes "a")) ∷ «at» 1 (Operator op.Concat) ∷ «at» 3 (Word 3 (codes "b")) ∷ []
joined = refl

less_minus : placed_tokens (codes "a<-b") ≡ «at» 0 (Word 0 (codes "a")) ∷ «at» 1 (Operator op.Less) ∷ «at» 2 (Operator op.Minus) ∷ «at» 3 (Word 3 (codes "b")) ∷ []
less_minus = refl

or_greater : placed_tokens (codes "a||>b") ≡ «at» 0 (Word 0 (codes "a")) ∷ «at» 1 (Operator op.OrElse) ∷ «at» 3 (Operator op.Greater) ∷ «at» 4 (Word 4 (codes "b")) ∷ []
or_greater = refl

piped : placed_tokens (codes "a|>b") ≡ «at» 0 (Word 0 (codes "a")) ∷ «at» 1 Pipe ∷ «at» 3 (Word 3 (codes "b")) ∷ []
piped = refl

-- `a===b`: a lone `=` is no token
equal_thrice : placed_tokens (codes "a===b") ≡ «at» 0 (Word 0 (codes "a")) ∷ «at» 1 (Operator op.Equal) ∷ «at» 3 Foreign ∷ «at» 4 (Word 4 (codes "b")) ∷ []
equal_thrice = refl

-- `do:1`
do_number : placed_tokens (codes "do:1") ≡ «at» 0 DoColon ∷ «at» 3 (Number (pos 1)) ∷ []
do_number = refl

-- `do:a`, `do :a` and `else::a`
do_name : placed_tokens (codes "do:a") ≡ «at» 0 DoColon ∷ «at» 3 (Word 3 (codes "a")) ∷ []
do_name = refl

do_atom : placed_tokens (codes "do :a") ≡ «at» 0 Foreign ∷ «at» 3 (Atom (codes "a")) ∷ []
do_atom = refl

else_atom : placed_tokens (codes "else::a") ≡ «at» 0 ElseColon ∷ «at» 5 (Atom (codes "a")) ∷ []
else_atom = refl

-- `undo:`: the whole word
undo : placed_tokens (codes "undo:") ≡ «at» 0 (Word 0 (codes "undo")) ∷ «at» 4 Colon ∷ []
undo = refl

-- `1_000` and `1__0`
underscored : placed_tokens (codes "1_000") ≡ «at» 0 (Number (pos 1000)) ∷ []
underscored = refl

twice_underscored : placed_tokens (codes "1__0") ≡ «at» 0 (Number (pos 1)) ∷ «at» 1 (Word 1 (codes "__0")) ∷ []
twice_underscored = refl

-- `1_`, `1_a`, `007`, `1in`
ends_underscored : placed_tokens (codes "1_") ≡ «at» 0 (Number (pos 1)) ∷ «at» 1 (Word 1 (codes "_")) ∷ []
ends_underscored = refl

name_behind_number : placed_tokens (codes "1_a") ≡ «at» 0 (Number (pos 1)) ∷ «at» 1 (Word 1 (codes "_a")) ∷ []
name_behind_number = refl

leading_zeros : placed_tokens (codes "007") ≡ «at» 0 (Number (pos 7)) ∷ []
leading_zeros = refl

word_behind_number : placed_tokens (codes "1in") ≡ «at» 0 (Number (pos 1)) ∷ «at» 1 (Operator op.Member) ∷ []
word_behind_number = refl

-- the greatest number, and one more
greatest : placed_tokens (codes "9223372036854775807") ≡ «at» 0 (Number (pos 9223372036854775807)) ∷ []
greatest = refl

too_large : placed_tokens (codes "a 9223372036854775808+1") ≡ «at» 0 (Word 0 (codes "a")) ∷ «at» 2 BadNumber ∷ «at» 21 (Operator op.Plus) ∷ «at» 22 (Number (pos 1)) ∷ []
too_large = refl

-- `"a\n#{1}b"`
text_with_part : placed_tokens (codes "\"a\\n#{1}b\"") ≡ «at» 0 (Quote (97 ∷ 10 ∷ [])) ∷ «at» 4 PartOpening ∷ «at» 6 (Number (pos 1)) ∷ «at» 7 (PartClosing (codes "b")) ∷ «at» 9 QuoteEnd ∷ []
text_with_part = refl

-- `"\"\\\t\##"`
escapes : placed_tokens (codes "\"\\\"\\\\\\t\\##\"") ≡ «at» 0 (Quote (34 ∷ 92 ∷ 9 ∷ 35 ∷ 35 ∷ [])) ∷ «at» 10 QuoteEnd ∷ []
escapes = refl

-- `"a\q"`: the backslash is at fault
no_escape : placed_tokens (codes "\"a\\q\"") ≡ «at» 0 (Quote (codes "a")) ∷ «at» 2 Foreign ∷ «at» 3 Foreign ∷ «at» 4 QuoteEnd ∷ []
no_escape = refl

-- `"a\` is a text that is not ended
last_backslash : placed_tokens (codes "\"a\\") ≡ «at» 0 (Quote (codes "a")) ∷ []
last_backslash = refl

-- `""` and `"#{a}"`
empty_text : placed_tokens (codes "\"\"") ≡ «at» 0 (Quote []) ∷ «at» 1 QuoteEnd ∷ []
empty_text = refl

part_alone : placed_tokens (codes "\"#{a}\"") ≡ «at» 0 (Quote []) ∷ «at» 1 PartOpening ∷ «at» 3 (Word 3 (codes "a")) ∷ «at» 4 (PartClosing []) ∷ «at» 5 QuoteEnd ∷ []
part_alone = refl

-- `"#{"#{a}"}"` and `"#{{1}}"`
text_in_part : placed_tokens (codes "\"#{\"#{a}\"}\"") ≡ «at» 0 (Quote []) ∷ «at» 1 PartOpening ∷ «at» 3 (Quote []) ∷ «at» 4 PartOpening ∷ «at» 6 (Word 6 (codes "a")) ∷ «at» 7 (PartClosing []) ∷ «at» 8 QuoteEnd ∷ «at» 9 (PartClosing []) ∷ «at» 10 QuoteEnd ∷ []
text_in_part = refl

tuple_in_part : placed_tokens (codes "\"#{{1}}\"") ≡ «at» 0 (Quote []) ∷ «at» 1 PartOpening ∷ «at» 3 OpeningCurly ∷ «at» 4 (Number (pos 1)) ∷ «at» 5 (Closing Curly) ∷ «at» 6 (PartClosing []) ∷ «at» 7 QuoteEnd ∷ []
tuple_in_part = refl

-- white space in a text
white_in_text : placed_tokens (codes "\"a b\"") ≡ «at» 0 (Quote (codes "a b")) ∷ «at» 4 QuoteEnd ∷ []
white_in_text = refl

-- `not!(x)`: a reserved word takes no `!`
not_bang : placed_tokens (codes "not!(x)") ≡ «at» 0 NotWord ∷ «at» 3 Bang ∷ «at» 4 OpeningRound ∷ «at» 5 (Word 5 (codes "x")) ∷ «at» 6 (Closing Round) ∷ []
not_bang = refl

-- `:a?`, `:a!`, `:a!=b`, `:_`
atom_question : placed_tokens (codes ":a?") ≡ «at» 0 (Atom (codes "a?")) ∷ []
atom_question = refl

atom_bang : placed_tokens (codes ":a!") ≡ «at» 0 (Atom (codes "a!")) ∷ []
atom_bang = refl

atom_unequal : placed_tokens (codes ":a!=b") ≡ «at» 0 (Atom (codes "a")) ∷ «at» 2 (Operator op.Unequal) ∷ «at» 4 (Word 4 (codes "b")) ∷ []
atom_unequal = refl

atom_underscore : placed_tokens (codes ":_") ≡ «at» 0 (Atom (codes "_")) ∷ []
atom_underscore = refl

-- `:nil` and `:A` are no atoms; the colon is at fault
atom_reserved : placed_tokens (codes ":nil") ≡ «at» 0 Foreign ∷ «at» 1 Nil ∷ []
atom_reserved = refl

atom_upper : placed_tokens (codes ":A") ≡ «at» 0 Foreign ∷ «at» 1 Foreign ∷ []
atom_upper = refl

-- a character that is not ASCII
accent : placed_tokens (97 ∷ 32 ∷ 195 ∷ 169 ∷ []) ≡ «at» 0 (Word 0 (codes "a")) ∷ «at» 2 Foreign ∷ «at» 3 Foreign ∷ []
accent = refl

accent_in_text : placed_tokens (34 ∷ 195 ∷ 169 ∷ 34 ∷ []) ≡ «at» 0 (Quote (195 ∷ 169 ∷ [])) ∷ «at» 3 QuoteEnd ∷ []
accent_in_text = refl

-- characters that begin nothing
strange : placed_tokens (codes "$ ' & | % = ; #") ≡ «at» 0 Foreign ∷ «at» 2 Foreign ∷ «at» 4 Foreign ∷ «at» 6 Foreign ∷ «at» 8 Foreign ∷ «at» 10 Foreign ∷ «at» 12 Foreign ∷ «at» 14 Foreign ∷ []
strange = refl

-- `Enum.count(a)`, and without its parenthesis
module_call : placed_tokens (codes "Enum.count(a)") ≡ «at» 0 (Function 0 (codes "Enum.count")) ∷ «at» 10 CallOpening ∷ «at» 11 (Word 11 (codes "a")) ∷ «at» 12 (Closing Round) ∷ []
module_call = refl

module_apart : placed_tokens (codes "Enum.count (a)") ≡ «at» 0 (Function 0 (codes "Enum.count")) ∷ «at» 11 OpeningRound ∷ «at» 12 (Word 12 (codes "a")) ∷ «at» 13 (Closing Round) ∷ []
module_apart = refl

module_question : placed_tokens (codes "Map.has_key?(a)") ≡ «at» 0 (Function 0 (codes "Map.has_key?")) ∷ «at» 12 CallOpening ∷ «at» 13 (Word 13 (codes "a")) ∷ «at» 14 (Closing Round) ∷ []
module_question = refl

module_long : placed_tokens (codes "A.B2.c(") ≡ «at» 0 (Function 0 (codes "A.B2.c")) ∷ «at» 6 CallOpening ∷ []
module_long = refl

-- a module without a call
module_alone : placed_tokens (codes "Enum") ≡ «at» 0 Foreign ∷ []
module_alone = refl

module_dotted : placed_tokens (codes "A.B.") ≡ «at» 0 Foreign ∷ «at» 3 Foreign ∷ []
module_dotted = refl

module_reserved : placed_tokens (codes "A.do(") ≡ «at» 0 Foreign ∷ «at» 1 Foreign ∷ «at» 2 Foreign ∷ «at» 4 OpeningRound ∷ []
module_reserved = refl

-- `f (a)`
call_apart : placed_tokens (codes "f (a)") ≡ «at» 0 (Word 0 (codes "f")) ∷ «at» 2 OpeningRound ∷ «at» 3 (Word 3 (codes "a")) ∷ «at» 4 (Closing Round) ∷ []
call_apart = refl

-- `a.b[c]`, `a . b`, `a [c]`, `[[a]]`
steps : placed_tokens (codes "a.b[c]") ≡ «at» 0 (Word 0 (codes "a")) ∷ «at» 1 Dot ∷ «at» 2 (Word 2 (codes "b")) ∷ «at» 3 IndexOpening ∷ «at» 4 (Word 4 (codes "c")) ∷ «at» 5 (Closing Square) ∷ []
steps = refl

-- behind a bracket, a text and a map
steps_behind : placed_tokens (codes "f().a") ≡ «at» 0 (Word 0 (codes "f")) ∷ «at» 1 CallOpening ∷ «at» 2 (Closing Round) ∷ «at» 3 Dot ∷ «at» 4 (Word 4 (codes "a")) ∷ []
steps_behind = refl

step_behind_text : placed_tokens (codes "\"a\"[1]") ≡ «at» 0 (Quote (codes "a")) ∷ «at» 2 QuoteEnd ∷ «at» 3 IndexOpening ∷ «at» 4 (Number (pos 1)) ∷ «at» 5 (Closing Square) ∷ []
step_behind_text = refl

dot_apart : placed_tokens (codes "a .b") ≡ «at» 0 (Word 0 (codes "a")) ∷ «at» 2 Foreign ∷ «at» 3 (Word 3 (codes "b")) ∷ []
dot_apart = refl

dot_before_space : placed_tokens (codes "a. b") ≡ «at» 0 (Word 0 (codes "a")) ∷ «at» 1 Dot ∷ «at» 3 (Word 3 (codes "b")) ∷ []
dot_before_space = refl

square_apart : placed_tokens (codes "a [b") ≡ «at» 0 (Word 0 (codes "a")) ∷ «at» 2 OpeningSquare ∷ «at» 3 (Word 3 (codes "b")) ∷ []
square_apart = refl

squares : placed_tokens (codes "[[a]]") ≡ «at» 0 OpeningSquare ∷ «at» 1 OpeningSquare ∷ «at» 2 (Word 2 (codes "a")) ∷ «at» 3 (Closing Square) ∷ «at» 4 (Closing Square) ∷ []
squares = refl

member_of_list : placed_tokens (codes "in[a") ≡ «at» 0 (Operator op.Member) ∷ «at» 2 OpeningSquare ∷ «at» 3 (Word 3 (codes "a")) ∷ []
member_of_list = refl

-- `@ a.k`
assign : placed_tokens (codes "@ a.k") ≡ «at» 0 At ∷ «at» 2 (Word 2 (codes "a")) ∷ «at» 3 Dot ∷ «at» 4 (Word 4 (codes "k")) ∷ []
assign = refl

-- the reserved words
words : placed_tokens (codes "and or not in nil true false if do else end") ≡ «at» 0 (Operator op.And) ∷ «at» 4 (Operator op.Or) ∷ «at» 7 NotWord ∷ «at» 11 (Operator op.Member) ∷ «at» 14 Nil ∷ «at» 18 (Boolean true) ∷ «at» 23 (Boolean false) ∷ «at» 29 If ∷ «at» 32 Foreign ∷ «at» 35 Foreign ∷ «at» 40 Foreign ∷ []
words = refl

-- `if(a`
if_parenthesis : placed_tokens (codes "if(a") ≡ «at» 0 If ∷ «at» 2 OpeningRound ∷ «at» 3 (Word 3 (codes "a")) ∷ []
if_parenthesis = refl

-- a brace that closes nothing
lone_curly : placed_tokens (codes "}a") ≡ «at» 0 (Closing Curly) ∷ «at» 1 (Word 1 (codes "a")) ∷ []
lone_curly = refl
