-- The tokens of some templates.
use Rattle.std.proofs.Common.{◌≡◌, ℕ, List, [], ◌∷◌, codes, Result, Ok, Err, refl}
use Rattle.heex_token.specs.declared.token.Token.{Token}
use Rattle.heex_token.specs.declared.token.TokenForm.{TokenForm}
use Rattle.heex_token.specs.declared.token.TokenForm.TheVariants.{Dropped, Text, Put, Block, Curly, StartTag, EndTag}
use Rattle.heex_token.specs.declared.token.TagEnd.TheVariants.{Open, SelfClosed}
use Rattle.heex_token.specs.declared.token.RawValue.TheVariants.{Double, Single, Bare, Braces, Spread}
use Rattle.heex_token.specs.declared.token.TokenKind.{TokenKind}
use Rattle.heex_token.specs.declared.token.TokenKind.TheVariants.{UnclosedTag, UnclosedExpr, UnclosedComment, BadTagName, BadAttribute}
use Rattle.heex_token.specs.Tokens.{Refusal, tokens_of}

abbrev token : ℕ → ℕ → TokenForm → Token
token s e form = record { start = s; end = e; form = form }

abbrev refused : ℕ → TokenKind → Result (List Token) Refusal
refused n kind = Err (record { place = n; kind = kind })

-- `<p>{@a}</p>`
element : tokens_of (codes "<p>{@a}</p>") ≡ Ok (token 0 3 (StartTag (codes "p") [] Open) ∷ token 3 7 Curly ∷ token 7 11 (EndTag (codes "p")) ∷ [])
element = refl

-- a comment and the text behind it are one text, and a brace in it is text
comment : tokens_of (codes "<!-- { --> {1}") ≡ Ok (token 0 11 Text ∷ token 11 14 Curly ∷ [])
comment = refl

-- white space behind a `=`
white_before_value : tokens_of (codes "<a b= \"x\">") ≡ refused 4 BadAttribute
white_before_value = refl

-- an attribute of each form
attributes : tokens_of (codes "<a b=\"c\"d='e'f g={h}{i}/>")
    ≡ Ok (token 0 25 (StartTag (codes "a") (record { start = 3; name = codes "b"; value_start = 6; value = Double (codes "c") } ∷ record { start = 8; name = codes "d"; value_start = 11; value = Single (codes "e") } ∷ record { start = 13; name = codes "f"; value_start = 14; value = Bare }
    ∷ record { start = 15; name = codes "g"; value_start = 18; value = Braces (codes "h") } ∷ record { start = 20; name = []; value_start = 21; value = Spread (codes "i") } ∷ []) SelfClosed) ∷ [])
attributes = refl

-- a brace in a script is text
script : tokens_of (codes "<script>{</script>") ≡ Ok (token 0 8 (StartTag (codes "script") [] Open) ∷ token 8 9 Text ∷ token 9 18 (EndTag (codes "script")) ∷ [])
script = refl

-- braces are text up to the end of the element that says so
plain_braces : tokens_of (codes "<b phx-no-curly-interpolation>{<i>{</i></b>{1}")
    ≡ Ok (token 0 30 (StartTag (codes "b") (record { start = 3; name = codes "phx-no-curly-interpolation"; value_start = 29; value = Bare } ∷ []) Open) ∷ token 30 31 Text ∷ token 31 34 (StartTag (codes "i") [] Open) ∷ token 34 35 Text
    ∷ token 35 39 (EndTag (codes "i")) ∷ token 39 43 (EndTag (codes "b")) ∷ token 43 46 Curly ∷ [])
plain_braces = refl

-- a brace in a text of an interpolation, and in a part of such a text
brace_in_text : tokens_of (codes "{\"}\"}") ≡ Ok (token 0 5 Curly ∷ [])
brace_in_text = refl

brace_in_part : tokens_of (codes "{\"#{\"}\"}\"}") ≡ Ok (token 0 10 Curly ∷ [])
brace_in_part = refl

dropped : tokens_of (codes "<%!-- x --%>") ≡ Ok (token 0 12 Dropped ∷ [])
dropped = refl

blocks : tokens_of (codes "<%= a %><% b %>") ≡ Ok (token 0 8 Put ∷ token 8 15 Block ∷ [])
blocks = refl

upper_case : tokens_of (codes "<A>") ≡ refused 0 BadTagName
upper_case = refl

-- what does not end in a comment is that the comment does not
put_in_comment : tokens_of (codes "<!-- <%= x") ≡ refused 0 UnclosedComment
put_in_comment = refl

tag_cut_off : tokens_of (codes "a<b c=\"") ≡ refused 1 UnclosedTag
tag_cut_off = refl

brace_cut_off : tokens_of (codes "ab{1") ≡ refused 2 UnclosedExpr
brace_cut_off = refl
