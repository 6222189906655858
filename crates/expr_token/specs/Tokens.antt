-- The tokens of a text: from left to right, each as long as it can be.
use Rattle.std.specs.Prelude.{ℕ, ◌+◌, ◌-◌, ◌*◌, zero, suc, pos, List, [], ◌∷◌, ◌++◌, length, drop, take_while, codes, Bool, true, false, not, ◌&&◌, ◌||◌, nat_eq, nat_le, Option, Some, None, if◌then◌else◌}
use Rattle.std.specs.List.{starts_with}
use Rattle.std.specs.Option.{is_some}
use Rattle.std.specs.Char.{is_ascii_digit, is_ascii_uppercase, is_ascii_lowercase, is_ascii_alphanumeric}
use Rattle.std.specs.Str.{bytes_eq}
use Rattle.ast_core.specs.declared.operators.BinaryOp.TheVariants as op
use Rattle.expr_token.specs.declared.token.Bracket.TheVariants.{Round, Square, Curly}
use Rattle.expr_token.specs.declared.token.Token.{Token}
use Rattle.expr_token.specs.declared.token.Token.TheVariants.{Number, BadNumber, Word, Function, Atom, Nil, Boolean, At, Dot, Operator, Bang, NotWord, Pipe, Comma, Colon, Arrow, If, DoColon, ElseColon, OpeningRound, CallOpening, OpeningSquare, IndexOpening, OpeningCurly, OpeningMap, Closing, Quote, PartOpening, PartClosing, QuoteEnd, Foreign}
use Rattle.expr_token.specs.declared.token.Placed.{Placed}
use Rattle.expr_token.specs.declared.token.Cut.{Cut}
use Rattle.expr_token.specs.declared.token.Piece.{Piece}
use Rattle.expr_token.specs.declared.token.Near.{Near}
use Rattle.expr_token.specs.declared.token.Opened.{Opened}
use Rattle.expr_token.specs.declared.token.Opening.{Opening}
use Rattle.expr_token.specs.declared.token.Opening.TheVariants.{Quoted, Parted, Bracketed}

-- Characters.

-- space, tab, line feed, carriage return
abbrev pub is_white : ℕ → Bool
is_white b = nat_eq b 32 || (nat_eq b 9 || (nat_eq b 10 || nat_eq b 13))

-- what begins a name
abbrev pub begins_name : ℕ → Bool
begins_name b = is_ascii_lowercase b || nat_eq b 95

-- what stands in a name
abbrev pub in_name : ℕ → Bool
in_name b = is_ascii_alphanumeric b || nat_eq b 95

abbrev pub first_is : (ℕ → Bool) → List ℕ → Bool
first_is p [] = false
first_is p (b ∷ bs) = p b

-- whether a text begins with these characters
abbrev pub begins : List ℕ → List ℕ → Bool
begins word bs = starts_with nat_eq bs word

-- Tables.

abbrev pub Row : Type 0
Row = List ℕ × Token

-- the words that are no names; three of them stand in blocks alone
abbrev pub reserved : List Row
reserved =
    (codes "and", Operator op.And) ∷ (codes "or", Operator op.Or) ∷ (codes "in", Operator op.Member) ∷ (codes "not", NotWord)
    ∷ (codes "nil", Nil) ∷ (codes "true", Boolean true) ∷ (codes "false", Boolean false) ∷ (codes "if", If)
    ∷ (codes "do", Foreign) ∷ (codes "else", Foreign) ∷ (codes "end", Foreign) ∷ []

-- the signs of two characters, which come before those of one
abbrev pub long_signs : List Row
long_signs =
    (codes "||", Operator op.OrElse) ∷ (codes "&&", Operator op.AndAlso) ∷ (codes "==", Operator op.Equal) ∷ (codes "!=", Operator op.Unequal)
    ∷ (codes "<=", Operator op.AtMost) ∷ (codes ">=", Operator op.AtLeast) ∷ (codes "++", Operator op.Append) ∷ (codes "<>", Operator op.Concat)
    ∷ (codes "|>", Pipe) ∷ (codes "=>", Arrow) ∷ (codes "%{", OpeningMap) ∷ []

-- the signs of one character that are the same wherever they stand
abbrev pub short_signs : List Row
short_signs =
    (codes "<", Operator op.Less) ∷ (codes ">", Operator op.Greater) ∷ (codes "+", Operator op.Plus) ∷ (codes "-", Operator op.Minus) ∷ (codes "*", Operator op.Times)
    ∷ (codes "!", Bang) ∷ (codes "@", At) ∷ (codes ",", Comma) ∷ (codes "{", OpeningCurly) ∷ (codes ")", Closing Round) ∷ (codes "]", Closing Square) ∷ []

-- the token of the first row with this property
abbrev pub token_where : (List ℕ → Bool) → List Row → Option Token
token_where p [] = None
token_where p (r ∷ rs) = if p r.0 then Some r.1 else token_where p rs

-- A cut is a token at the beginning of a text, and how many bytes it has. White space is none, nor is a `\` that is a text's last character.
abbrev pub cut : Token → ℕ → Cut
cut t n = record { token = Some t; size = n }

abbrev pub passed : Cut
passed = record { token = None; size = 1 }

-- Names.

-- the name that a text begins with
abbrev pub name_of : List ℕ → List ℕ
name_of bs = if first_is begins_name bs then take_while in_name bs else []

-- what a reserved word is
abbrev pub reserved_token : List ℕ → Option Token
reserved_token name = token_where (bytes_eq name) reserved

abbrev pub is_reserved : List ℕ → Bool
is_reserved name = is_some (reserved_token name)

-- the `?` or `!` behind a name that makes it the name of a call, since `(` follows at once
abbrev pub call_mark : List ℕ → List ℕ
call_mark rest = if begins (codes "?(") rest then codes "?" else if begins (codes "!(") rest then codes "!" else []

abbrev pub word_or_function : ℕ → List ℕ → List ℕ → Cut
word_or_function at name [] = cut (Word at name) (length name)
word_or_function at name (m ∷ ms) = cut (Function at (name ++ m ∷ ms)) (length (name ++ m ∷ ms))

-- `do:` and `else:` are longer than the words before the colon
abbrev pub reserved_word : Token → List ℕ → List ℕ → Cut
reserved_word t name rest =
    if bytes_eq name (codes "do") && begins (codes ":") rest then cut DoColon 3
    else if bytes_eq name (codes "else") && begins (codes ":") rest then cut ElseColon 5
    else cut t (length name)

abbrev pub word_by : Option Token → ℕ → List ℕ → List ℕ → Cut
word_by None at name rest = word_or_function at name (call_mark rest)
word_by (Some t) at name rest = reserved_word t name rest

abbrev pub word : ℕ → List ℕ → Cut
word at bs = let name = name_of bs in word_by (reserved_token name) at name (drop (length name) bs)

-- words that begin with upper-case letters, with dots between them
abbrev pub module_goes_on : List ℕ → Bool
module_goes_on [] = false
module_goes_on (b ∷ bs) = in_name b || (nat_eq b 46 && first_is is_ascii_uppercase bs)

abbrev pub module_of : List ℕ → List ℕ
module_of [] = []
module_of (b ∷ bs) = if module_goes_on (b ∷ bs) then b ∷ module_of bs else []

-- a module, with a dot and a name behind it the name of a call
abbrev pub module_word : ℕ → List ℕ → Cut
module_word at bs =
    let modules = module_of bs in
    let rest = drop (length modules) bs in
    let behind = drop 1 rest in
    let called = name_of behind in
    let full = modules ++ (codes "." ++ (called ++ call_mark (drop (length called) behind))) in
    if begins (codes ".") rest && (first_is begins_name behind && not (is_reserved called)) then cut (Function at full) (length full) else cut Foreign (length modules)

-- Numbers.

-- digits, with single `_` between two of them
abbrev pub digits_go_on : List ℕ → Bool
digits_go_on [] = false
digits_go_on (b ∷ bs) = is_ascii_digit b || (nat_eq b 95 && first_is is_ascii_digit bs)

abbrev pub digits_of : List ℕ → List ℕ
digits_of [] = []
digits_of (b ∷ bs) = if digits_go_on (b ∷ bs) then b ∷ digits_of bs else []

-- the number so far, with one more character, and with all of these
abbrev pub value_with : ℕ → ℕ → ℕ
value_with n b = if is_ascii_digit b then n * 10 + (b - 48) else n

abbrev pub value_of : ℕ → List ℕ → ℕ
value_of n [] = n
value_of n (b ∷ bs) = value_of (value_with n b) bs

-- a number that is not too large
abbrev pub fitting : ℕ → Option ℕ
fitting n = if nat_le n 9223372036854775807 then Some n else None

abbrev pub number_token : Option ℕ → Token
number_token None = BadNumber
number_token (Some n) = Number (pos n)

abbrev pub number : List ℕ → Cut
number bs = let digits = digits_of bs in cut (number_token (fitting (value_of 0 digits))) (length digits)

-- Atoms.

-- a `?` behind an atom's name belongs to it, and a `!` where no `=` follows at once
abbrev pub atom_mark : List ℕ → List ℕ
atom_mark rest = if begins (codes "?") rest then codes "?" else if begins (codes "!") rest && not (begins (codes "!=") rest) then codes "!" else []

-- a colon before a letter or `_` begins an atom or nothing
abbrev pub colon : List ℕ → Cut
colon bs =
    let name = name_of bs in
    let full = name ++ atom_mark (drop (length name) bs) in
    if first_is is_ascii_uppercase bs || is_reserved name then cut Foreign 1
    else if first_is begins_name bs then cut (Atom full) (length full + 1)
    else cut Colon 1

-- Texts.

-- what a `\` with this character stands for
abbrev pub escaped : ℕ → Option ℕ
escaped c = if nat_eq c 34 || (nat_eq c 92 || nat_eq c 35) then Some c else if nat_eq c 110 then Some 10 else if nat_eq c 116 then Some 9 else None

abbrev pub is_escape : List ℕ → Bool
is_escape [] = false
is_escape (c ∷ cs) = is_some (escaped c)

-- A piece tells what characters of a text stand for, and how many bytes they have.
abbrev pub no_piece : Piece
no_piece = record { text = []; size = 0 }

abbrev pub with_text : List ℕ → Piece → Piece
with_text t p = record { text = t ++ p.text; size = p.size + 1 }

abbrev pub character : Option ℕ → List ℕ
character None = []
character (Some c) = c ∷ []

-- a text ends at a quote, a part begins with `#{`, and what is no escape ends the piece as well
abbrev pub ends_piece : List ℕ → Bool
ends_piece bs = begins (codes "\"") bs || (begins (codes "#{") bs || (begins (codes "\\") bs && not (is_escape (drop 1 bs))))

-- the characters up to there; whether the one before is a `\`
abbrev pub piece_from : Bool → List ℕ → Piece
piece_from slash [] = no_piece
piece_from true (c ∷ bs) = with_text (character (escaped c)) (piece_from false bs)
piece_from false (b ∷ bs) =
    let rest = piece_from (nat_eq b 92) bs in
    if ends_piece (b ∷ bs) then no_piece else with_text (if nat_eq b 92 then [] else b ∷ []) rest

abbrev pub with_piece : (List ℕ → Token) → List ℕ → Cut
with_piece token bs = let p = piece_from false bs in cut (token p.text) (p.size + 1)

-- What stands before.

-- whether a value ends with this token
abbrev pub ends_value : Option Token → Bool
ends_value (Some (Number n)) = true
ends_value (Some (Word at name)) = true
ends_value (Some (Atom a)) = true
ends_value (Some Nil) = true
ends_value (Some (Boolean b)) = true
ends_value (Some (Closing b)) = true
ends_value (Some QuoteEnd) = true
ends_value _ = false

-- whether this token may be the name of a call
abbrev pub ends_name : Option Token → Bool
ends_name (Some (Word at name)) = true
ends_name (Some (Function at name)) = true
ends_name _ = false

-- what ends directly before a place
abbrev pub near_of : Option Token → Near
near_of last = record { value = ends_value last; name = ends_name last }

-- what a token opens
abbrev pub opening_of : Token → Option Opening
opening_of OpeningRound = Some Bracketed
opening_of CallOpening = Some Bracketed
opening_of OpeningSquare = Some Bracketed
opening_of IndexOpening = Some Bracketed
opening_of OpeningCurly = Some Bracketed
opening_of OpeningMap = Some Bracketed
opening_of (Quote t) = Some Quoted
opening_of PartOpening = Some Parted
opening_of t = None

-- whether it closes the innermost opening
abbrev pub closes : Token → Bool
closes (Closing b) = true
closes (PartClosing t) = true
closes QuoteEnd = true
closes t = false

-- the openings that are not closed, the innermost first
abbrev pub opened_or : Option Opening → Bool → ℕ → List Opened → List Opened
opened_or (Some kind) b at os = record { at = at; kind = kind } ∷ os
opened_or None false at os = os
opened_or None true at [] = []
opened_or None true at (o ∷ os) = os

abbrev pub opened : List Opened → Placed → List Opened
opened os p = opened_or (opening_of p.token) (closes p.token) p.at os

abbrev pub is_quoted : Opening → Bool
is_quoted Quoted = true
is_quoted o = false

abbrev pub is_parted : Opening → Bool
is_parted Parted = true
is_parted o = false

abbrev pub in_text : List Opened → Bool
in_text [] = false
in_text (o ∷ os) = is_quoted o.kind

abbrev pub in_part : List Opened → Bool
in_part [] = false
in_part (o ∷ os) = is_parted o.kind

abbrev pub short_by : Option Token → Cut
short_by None = cut Foreign 1
short_by (Some t) = cut t 1

abbrev pub long_by : Option Token → List ℕ → Cut
long_by None bs = short_by (token_where (λ s. begins s bs) short_signs)
long_by (Some t) bs = cut t 2

-- A sign. What a parenthesis, a square bracket and a dot are is told by what ends directly before them, and whether a brace ends a part of a text by the innermost opening.
abbrev pub sign : Near → Bool → List ℕ → Cut
sign near part bs =
    if begins (codes "(") bs then cut (if near.name then CallOpening else OpeningRound) 1
    else if begins (codes "[") bs then cut (if near.value then IndexOpening else OpeningSquare) 1
    else if begins (codes ".") bs then cut (if near.value then Dot else Foreign) 1
    else if begins (codes ":") bs then colon (drop 1 bs)
    else if begins (codes "}") bs then (if part then with_piece PartClosing (drop 1 bs) else cut (Closing Curly) 1)
    else long_by (token_where (λ s. begins s bs) long_signs) bs

-- The tokens.

-- what stands behind a piece of a text
abbrev pub behind_piece : List ℕ → Cut
behind_piece bs =
    if begins (codes "\"") bs then cut QuoteEnd 1 else if begins (codes "#{") bs then cut PartOpening 2
    else if begins (codes "\\") bs && nat_eq (length bs) 1 then passed else cut Foreign 1

pub data Beginning : Type 0 where
  white : Beginning
  lower : Beginning
  upper : Beginning
  digit : Beginning
  quote : Beginning
  other : Beginning

abbrev pub beginning : ℕ → Beginning
beginning b =
    if is_white b then white else if begins_name b then lower else if is_ascii_uppercase b then upper
    else if is_ascii_digit b then digit else if nat_eq b 34 then quote else other

-- what a text begins with, by its first character
abbrev pub token_by : Beginning → ℕ → Near → Bool → List ℕ → Cut
token_by white at near part bs = passed
token_by lower at near part bs = word at bs
token_by upper at near part bs = module_word at bs
token_by digit at near part bs = number bs
token_by quote at near part bs = with_piece Quote (drop 1 bs)
token_by other at near part bs = sign near part bs

abbrev pub first_token : Bool → ℕ → Near → Bool → ℕ → List ℕ → Cut
first_token true at near part b bs = behind_piece (b ∷ bs)
first_token false at near part b bs = token_by (beginning b) at near part (b ∷ bs)

abbrev pub placed : ℕ → Option Token → List Placed
placed at None = []
placed at (Some t) = record { at = at; token = t } ∷ []

abbrev pub opened_by : List Opened → List Placed → List Opened
opened_by os [] = os
opened_by os (p ∷ ps) = opened_by (opened os p) ps

-- the tokens from a place on: what ends directly before it, what is open there, and how many bytes of the last token are still to come
abbrev pub tokens_from : ℕ → Near → List Opened → ℕ → List ℕ → List Placed
tokens_from at near os n [] = []
tokens_from at near os (suc n) (b ∷ bs) = tokens_from (at + 1) near os n bs
tokens_from at near os zero (b ∷ bs) =
    let c = first_token (in_text os) at near (in_part os) b bs in
    let found = placed at c.token in
    found ++ tokens_from (at + 1) (near_of c.token) (opened_by os found) (c.size - 1) bs

-- the tokens of a text
abbrev pub placed_tokens : List ℕ → List Placed
placed_tokens text = tokens_from 0 (near_of None) [] 0 text

-- the openings that a text ends without closing, the innermost first
abbrev pub left_open : List ℕ → List Opened
left_open text = opened_by [] (placed_tokens text)
