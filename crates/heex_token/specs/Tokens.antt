-- The tokens of a template, from left to right.
use Rattle.std.specs.Prelude.{ℕ, ◌+◌, ◌-◌, zero, suc, List, [], ◌∷◌, ◌++◌, length, drop, take, take_while, codes, Bool, false, not, ◌&&◌, ◌||◌, ◌==◌, Option, Some, None, option_map, Result, Ok, Err, if◌then◌else◌}
use Rattle.std.specs.List.{starts_with, list_any}
use Rattle.std.specs.Prelude.{nat_eq}
use Rattle.std.specs.Char.{is_ascii_uppercase, is_ascii_lowercase}
use Rattle.std.specs.Str.{bytes_eq}
use Rattle.ast_core.specs.Places.{is_void}
use Rattle.heex_token.specs.declared.token.Token.{Token}
use Rattle.heex_token.specs.declared.token.TokenForm.{TokenForm}
use Rattle.heex_token.specs.declared.token.TokenForm.TheVariants.{Dropped, Text, Put, Block, Curly, StartTag, EndTag}
use Rattle.heex_token.specs.declared.token.TagEnd.{TagEnd}
use Rattle.heex_token.specs.declared.token.TagEnd.TheVariants.{Open, SelfClosed}
use Rattle.heex_token.specs.declared.token.RawAttribute.{RawAttribute}
use Rattle.heex_token.specs.declared.token.RawValue.{RawValue}
use Rattle.heex_token.specs.declared.token.RawValue.TheVariants.{Double, Single, Bare, Braces, Spread}
use Rattle.heex_token.specs.declared.token.TokenKind.{TokenKind}
use Rattle.heex_token.specs.declared.token.TokenKind.TheVariants.{UnclosedTag, UnclosedExpr, UnclosedComment, BadTagName, BadAttribute}
use Rattle.heex_token.specs.declared.scan.Inner.{Inner}
use Rattle.heex_token.specs.declared.scan.Inner.TheVariants.{Brace, Quote, Part}
use Rattle.heex_token.specs.declared.scan.Before.{Before}
use Rattle.heex_token.specs.declared.scan.Before.TheVariants.{Other, Slash, Hash}
use Rattle.heex_token.specs.declared.tag.TagPart.{TagPart}
use Rattle.heex_token.specs.declared.tag.TagPart.TheVariants.{Space, Ends, Attribute, Bad, CutOff}
use Rattle.heex_token.specs.declared.region.RawElement.{RawElement}
use Rattle.heex_token.specs.declared.region.RawElement.TheVariants.{Script, Style}
use Rattle.heex_token.specs.declared.region.Inside.{Inside}
use Rattle.heex_token.specs.declared.region.Inside.TheVariants.{Markup, Comment, Doctype, Raw}
use Rattle.heex_token.specs.declared.region.Region.{Region}

-- Characters.

-- space, tab, line feed, carriage return
abbrev pub is_white : ℕ → Bool
is_white b = b == 32 || (b == 9 || (b == 10 || b == 13))

-- what may stand in the name of a tag or an attribute: no white space, quote, brace, `<`, `>`, `/` and `=`
abbrev pub in_name : ℕ → Bool
in_name b = not (is_white b || (b == 34 || (b == 39 || (b == 123 || (b == 125 || (b == 60 || (b == 62 || (b == 47 || b == 61))))))))

abbrev pub first_is : (ℕ → Bool) → List ℕ → Bool
first_is p [] = false
first_is p (b ∷ bs) = p b

-- whether a text begins with these characters
abbrev pub begins : List ℕ → List ℕ → Bool
begins word bs = starts_with nat_eq bs word

-- how many bytes there are up to the end of the first `word`
abbrev pub through : List ℕ → List ℕ → Option ℕ
through word [] = None
through word (b ∷ bs) = if begins word (b ∷ bs) then Some (length word) else option_map (λ n. n + 1) (through word bs)

-- Interpolations. Braces in texts do not count, but those of the parts of texts do.

-- what is open behind a byte outside of texts, the innermost first
abbrev pub open_in_code : ℕ → List Inner → List Inner
open_in_code b os = if b == 34 then Quote ∷ os else if b == 123 then Brace ∷ os else if b == 125 then drop 1 os else os

-- and behind a byte of a text
abbrev pub open_in_text : Before → ℕ → List Inner → List Inner
open_in_text Slash b os = os
open_in_text Hash b os = if b == 123 then Part ∷ os else if b == 34 then drop 1 os else os
open_in_text Other b os = if b == 34 then drop 1 os else os

abbrev pub open_behind : Inner → Before → ℕ → List Inner → List Inner
open_behind Quote before b os = open_in_text before b os
open_behind Brace before b os = open_in_code b os
open_behind Part before b os = open_in_code b os

-- what a byte is to the next one
abbrev pub before_in_text : Before → ℕ → Before
before_in_text Slash b = Other
before_in_text before b = if b == 92 then Slash else if b == 35 then Hash else Other

abbrev pub before_next : Inner → Before → ℕ → Before
before_next Quote before b = before_in_text before b
before_next Brace before b = Other
before_next Part before b = Other

-- how many bytes there are until all that is open is closed
abbrev pub closing : List Inner → Before → List ℕ → Option ℕ
closing [] before bs = Some 0
closing (o ∷ os) before [] = None
closing (o ∷ os) before (b ∷ bs) = option_map (λ n. n + 1) (closing (open_behind o before b (o ∷ os)) (before_next o before b) bs)

-- how many bytes there are behind a `{` up to its `}` and with it
abbrev pub to_brace : List ℕ → Option ℕ
to_brace bs = closing (Brace ∷ []) Other bs

-- Tags.

-- an attribute with so many bytes, whose value, with the byte that ends it, has so many
abbrev pub with_value : ℕ → List ℕ → (List ℕ → RawValue) → Option ℕ → List ℕ → TagPart
with_value at name form None rest = CutOff
with_value at name form (Some n) rest =
    Attribute (record { start = at; name = name; value_start = at + length name + 2; value = form (take (n - 1) rest) }) (length name + 2 + n)

-- an attribute with its name, and what stands behind that
abbrev pub named : ℕ → List ℕ → List ℕ → TagPart
named at name rest =
    if begins (codes "=\"") rest then with_value at name Double (through (codes "\"") (drop 2 rest)) (drop 2 rest)
    else if begins (codes "='") rest then with_value at name Single (through (codes "'") (drop 2 rest)) (drop 2 rest)
    else if begins (codes "={") rest then with_value at name Braces (to_brace (drop 2 rest)) (drop 2 rest)
    else if bytes_eq rest (codes "=") then CutOff
    else Attribute (record { start = at; name = name; value_start = at + length name; value = Bare }) (length name)

abbrev pub spread : ℕ → Option ℕ → List ℕ → TagPart
spread at None rest = CutOff
spread at (Some n) rest = Attribute (record { start = at; name = []; value_start = at + 1; value = Spread (take (n - 1) rest) }) (1 + n)

-- what a `/` in a start tag is
abbrev pub slash : List ℕ → TagPart
slash [] = CutOff
slash (b ∷ bs) = if b == 62 then Ends SelfClosed else Bad

-- what stands next in a start tag
abbrev pub tag_part : ℕ → ℕ → List ℕ → TagPart
tag_part at b bs =
    if is_white b then Space else if b == 62 then Ends Open else if b == 47 then slash bs
    else if b == 123 then spread at (to_brace bs) bs
    else if in_name b then named at (take_while in_name (b ∷ bs)) (drop (length (take_while in_name (b ∷ bs))) (b ∷ bs))
    else Bad

-- what a tag is from some byte on: its attributes with the byte behind the tag, or what is wrong
pub data Tag : Type 0 where
  tag : List RawAttribute → TagEnd → ℕ → Tag
  bad_at : ℕ → Tag
  unclosed : Tag

abbrev pub end_size : TagEnd → ℕ
end_size Open = 1
end_size SelfClosed = 2

abbrev pub with_attribute : RawAttribute → Tag → Tag
with_attribute a (tag as' end at) = tag (a ∷ as') end at
with_attribute a (bad_at at) = bad_at at
with_attribute a unclosed = unclosed

-- a part with what follows when so many bytes are passed over
abbrev pub on_part : TagPart → ℕ → (ℕ → Tag) → Tag
on_part Space at go = go 0
on_part (Ends end) at go = tag [] end (at + end_size end)
on_part (Attribute a n) at go = with_attribute a (go (n - 1))
on_part Bad at go = bad_at at
on_part CutOff at go = unclosed

-- a start tag from here on, when so many bytes are still to be passed over
abbrev pub tag_from : ℕ → ℕ → List ℕ → Tag
tag_from at n [] = unclosed
tag_from at (suc n) (b ∷ bs) = tag_from (at + 1) n bs
tag_from at zero (b ∷ bs) = on_part (tag_part at b bs) at (λ n. tag_from (at + 1) n bs)

-- an end tag behind its name
abbrev pub end_from : ℕ → List ℕ → Tag
end_from at [] = unclosed
end_from at (b ∷ bs) = if is_white b then end_from (at + 1) bs else if b == 62 then tag [] Open (at + 1) else bad_at at

abbrev pub is_mark : ℕ → Bool
is_mark b = b == 46 || b == 58

-- a name without its dot or colon
abbrev pub without_mark : List ℕ → List ℕ
without_mark name = if first_is is_mark name then drop 1 name else name

-- a name, but for its dot or colon, is not empty and does not begin with an upper-case letter
abbrev pub is_tag_name : List ℕ → Bool
is_tag_name name = first_is (λ b. not (is_ascii_uppercase b)) (without_mark name)

-- what may follow the `<` of a start tag
abbrev pub begins_tag : ℕ → Bool
begins_tag b = is_ascii_lowercase b || is_mark b

-- Pieces: a token, or a part of a text token.

-- what a piece is, how many bytes it has, and what the place behind it stands in
pub data Piece : Type 0 where
  piece : TokenForm → ℕ → Inside → Piece
  faulty : ℕ → TokenKind → Piece

-- a piece with so many bytes before those that are counted, or the fault that it does not end
abbrev pub ending : TokenForm → ℕ → ℕ → TokenKind → Inside → Option ℕ → Piece
ending form at n kind inside None = faulty at kind
ending form at n kind inside (Some m) = piece form (n + m) inside

-- `<%!-- .. --%>`, `<%= .. %>` and `<% .. %>`
abbrev pub code_piece : ℕ → Inside → List ℕ → Piece
code_piece at inside bs =
    if begins (codes "<%!--") bs then ending Dropped at 5 UnclosedComment inside (through (codes "--%>") (drop 5 bs))
    else if begins (codes "<%=") bs then ending Put at 3 UnclosedExpr inside (through (codes "%>") (drop 3 bs))
    else ending Block at 2 UnclosedExpr inside (through (codes "%>") (drop 2 bs))

-- what the content of an element stands in
abbrev pub content_of : List ℕ → TagEnd → Inside
content_of name SelfClosed = Markup
content_of name Open = if bytes_eq name (codes "script") then Raw Script else if bytes_eq name (codes "style") then Raw Style else Markup

-- a tag that begins at this byte
abbrev pub start_by : ℕ → List ℕ → Tag → Piece
start_by at name (tag as' end behind) = piece (StartTag name as' end) (behind - at) (content_of name end)
start_by at name (bad_at b) = faulty b BadAttribute
start_by at name unclosed = faulty at UnclosedTag

abbrev pub end_by : ℕ → List ℕ → Tag → Piece
end_by at name (tag as' end behind) = piece (EndTag name) (behind - at) Markup
end_by at name (bad_at b) = faulty b BadAttribute
end_by at name unclosed = faulty at UnclosedTag

-- a start tag, from behind its `<`
abbrev pub start_tag : ℕ → List ℕ → Piece
start_tag at bs =
    let name = take_while in_name bs in
    if first_is begins_tag bs && is_tag_name name then start_by at name (tag_from (at + 1 + length name) 0 (drop (length name) bs)) else faulty at BadTagName

-- an end tag, from behind its `</`
abbrev pub end_tag : ℕ → List ℕ → Piece
end_tag at bs =
    let name = take_while in_name bs in
    if is_tag_name name then end_by at name (end_from (at + 2 + length name) (drop (length name) bs)) else faulty at BadTagName

-- what begins with `<` outside of comments, doctypes, scripts and styles
abbrev pub tag_piece : ℕ → List ℕ → Piece
tag_piece at bs =
    if begins (codes "<!--") bs then piece Text 4 (Comment at)
    else if begins (codes "<!") bs then piece Text 2 (Doctype at)
    else if begins (codes "</") bs then end_tag at (drop 2 bs)
    else start_tag at (drop 1 bs)

-- outside of comments, doctypes, scripts and styles
abbrev pub markup_piece : Option ℕ → ℕ → List ℕ → Piece
markup_piece None at bs =
    if begins (codes "<") bs then tag_piece at bs
    else if begins (codes "{") bs then ending Curly at 1 UnclosedExpr Markup (to_brace (drop 1 bs))
    else piece Text 1 Markup
markup_piece (Some n) at bs = if begins (codes "<") bs then tag_piece at bs else piece Text 1 Markup

abbrev pub raw_name : RawElement → List ℕ
raw_name Script = codes "script"
raw_name Style = codes "style"

-- the content of a script or a style ends with its end tag
abbrev pub ends_raw : RawElement → List ℕ → Bool
ends_raw e bs =
    let end = codes "</" ++ raw_name e in
    begins end bs && first_is (λ b. is_white b || (b == 62 || b == 47)) (drop (length end) bs)

abbrev pub piece_in : Inside → Option ℕ → ℕ → List ℕ → Piece
piece_in Markup plain at bs = markup_piece plain at bs
piece_in (Comment from) plain at bs = if begins (codes "-->") bs then piece Text 3 Markup else piece Text 1 (Comment from)
piece_in (Doctype from) plain at bs = if begins (codes ">") bs then piece Text 1 Markup else piece Text 1 (Doctype from)
piece_in (Raw e) plain at bs = if ends_raw e bs then end_tag at (drop 2 bs) else piece Text 1 (Raw e)

-- what a text begins with
abbrev pub first_piece : Region → ℕ → List ℕ → Piece
first_piece r at bs = if begins (codes "<%") bs then code_piece at r.inside bs else piece_in r.inside r.plain at bs

-- Regions.

-- whether the content of an element has braces as text
abbrev pub has_plain_braces : List ℕ → List RawAttribute → Bool
has_plain_braces name as' = not (first_is is_mark name) && list_any (λ a. bytes_eq a.name (codes "phx-no-curly-interpolation")) as'

-- how many tags are open inside of the element whose content has braces as text, behind a tag that opens, and one that closes
abbrev pub plain_opened : List ℕ → List RawAttribute → Option ℕ → Option ℕ
plain_opened name as' (Some n) = Some (n + 1)
plain_opened name as' None = if has_plain_braces name as' then Some 0 else None

abbrev pub plain_closed : Option ℕ → Option ℕ
plain_closed (Some (suc n)) = Some n
plain_closed (Some zero) = None
plain_closed None = None

abbrev pub plain_behind : TokenForm → Option ℕ → Option ℕ
plain_behind (StartTag name as' Open) plain = if is_void name then plain else plain_opened name as' plain
plain_behind (EndTag name) plain = if is_void name then plain else plain_closed plain
plain_behind form plain = plain

-- Tokens.

-- Why a text has no tokens, and where.
pub record Refusal : Type 0 where
  pub place : ℕ
  pub kind : TokenKind

-- a fault inside of a comment or a doctype is that this does not end
abbrev pub refused_in : Inside → ℕ → TokenKind → Refusal
refused_in (Comment from) at kind = record { place = from; kind = UnclosedComment }
refused_in (Doctype from) at kind = record { place = from; kind = UnclosedComment }
refused_in Markup at kind = record { place = at; kind = kind }
refused_in (Raw e) at kind = record { place = at; kind = kind }

-- the end of the text
abbrev pub at_end : Inside → Result (List Token) Refusal
at_end (Comment from) = Err (record { place = from; kind = UnclosedComment })
at_end (Doctype from) = Err (record { place = from; kind = UnclosedComment })
at_end Markup = Ok []
at_end (Raw e) = Ok []

-- one text in place of two that stand side by side
abbrev pub text_before : Token → List Token → List Token
text_before t [] = t ∷ []
text_before t (u ∷ us) = elim u.form [ Text ↦ record { start = t.start; end = u.end; form = Text } ∷ us | _ ↦ t ∷ u ∷ us ]

abbrev pub token_before : Token → List Token → List Token
token_before t ts = elim t.form [ Text ↦ text_before t ts | _ ↦ t ∷ ts ]

abbrev pub result_map : {A B E : Type 0} → (A → B) → Result A E → Result B E
result_map f (Ok a) = Ok (f a)
result_map f (Err e) = Err e

-- a piece with what follows when so many bytes are passed over
abbrev pub on_piece : Piece → Region → ℕ → (Region → ℕ → Result (List Token) Refusal) → Result (List Token) Refusal
on_piece (faulty b kind) r at go = Err (refused_in r.inside b kind)
on_piece (piece form n inside) r at go =
    result_map (token_before (record { start = at; end = at + n; form = form })) (go (record { inside = inside; plain = plain_behind form r.plain }) (n - 1))

-- the tokens from here on, when so many bytes are still to be passed over
abbrev pub tokens_from : ℕ → Region → ℕ → List ℕ → Result (List Token) Refusal
tokens_from at r n [] = at_end r.inside
tokens_from at r (suc n) (b ∷ bs) = tokens_from (at + 1) r n bs
tokens_from at r zero (b ∷ bs) = on_piece (first_piece r at (b ∷ bs)) r at (λ q n. tokens_from (at + 1) q n bs)

abbrev pub outside : Region
outside = record { inside = Markup; plain = None }

-- the tokens of a text, or why it has none
abbrev pub tokens_of : List ℕ → Result (List Token) Refusal
tokens_of text = tokens_from 0 outside 0 text
