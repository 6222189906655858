-- The numbers of a text have no sign of their own.
use Rattle.std.proofs.Common.{ℕ, ◌+◌, ◌-◌, List, [], ◌∷◌, ◌++◌, length, drop, Bool, true, false, Option, Some, None, rules}
use Rattle.std.specs.Prelude.{zero, suc, if◌then◌else◌, nat_eq, ◌&&◌, ◌||◌, not, codes}
use Rattle.std.specs.Char.{is_ascii_uppercase}
use Rattle.std.specs.List.{AllByRecursion}
use Rattle.std.specs.Str.{bytes_eq}
use Rattle.expr_token.specs.declared.token.Bracket.TheVariants.{Curly}
use Rattle.expr_token.specs.declared.token.Token.{Token}
use Rattle.expr_token.specs.declared.token.Token.TheVariants as tokens
use Rattle.expr_token.specs.declared.token.Placed.{Placed}
use Rattle.expr_token.specs.declared.token.Opened.{Opened}
use Rattle.expr_token.specs.Tokens.{Row, reserved, reserved_token, is_reserved, name_of, atom_mark, call_mark, begins, begins_name, first_is, value_of, digits_of, long_signs, short_signs, token_where, cut, passed, word_by, word_or_function, reserved_word, module_of, module_word, number_token, fitting, colon, with_piece, short_by, long_by, sign, behind_piece, ends_value, ends_name, Beginning, white, lower, upper, digit, quote, other, beginning, token_by, first_token, placed, opened_by, tokens_from, placed_tokens, near_of, in_text, in_part}
use Rattle.expr_core.specs.SeenPattern.{IsPlain}
use Rattle.expr_core.specs.Gives.{spelled}

abbrev PlainOption : Option Token → Type 0
PlainOption None = Unit {0}
PlainOption (Some t) = IsPlain t

-- of the token of either of two cuts
plain_if : {C : Type 0} (b : Bool) (c d : C) (token : C → Option Token) → PlainOption (token c) → PlainOption (token d) → PlainOption (token (if b then c else d))
plain_if true c d token h g = h
plain_if false c d token h g = g

plain_either : (b : Bool) (t u : Token) → IsPlain t → IsPlain u → IsPlain (if b then t else u)
plain_either true t u h g = h
plain_either false t u h g = g

abbrev PlainRows : List Row → Type 0
PlainRows [] = Unit {0}
PlainRows (r ∷ rs) = IsPlain r.1 × PlainRows rs

option_if : (b : Bool) (t u : Option Token) → PlainOption t → PlainOption u → PlainOption (if b then t else u)
option_if true t u h g = h
option_if false t u h g = g

plain_where : (p : List ℕ → Bool) (rs : List Row) → PlainRows rs → PlainOption (token_where p rs)
plain_where p [] h = tt
plain_where p (r ∷ rs) h = option_if (p r.0) (Some r.1) (token_where p rs) h.0 (plain_where p rs h.1)

plain_reserved : PlainRows reserved
plain_reserved = search rules

plain_long : PlainRows long_signs
plain_long = search rules

plain_short : PlainRows short_signs
plain_short = search rules

plain_function : (at : ℕ) (name mark : List ℕ) → PlainOption (word_or_function at name mark).token
plain_function at name [] = tt
plain_function at name (m ∷ ms) = tt

plain_reserved_word : (t : Token) (name rest : List ℕ) → IsPlain t → PlainOption (reserved_word t name rest).token
plain_reserved_word t name rest h =
    let is_do = bytes_eq name (codes "do") && begins (codes ":") rest in
    let is_else = bytes_eq name (codes "else") && begins (codes ":") rest in
    plain_if is_do (cut tokens.DoColon 3) (if is_else then cut tokens.ElseColon 5 else cut t (length name)) (λ c. c.token) tt
    (plain_if is_else (cut tokens.ElseColon 5) (cut t (length name)) (λ c. c.token) tt h)

plain_by : (t : Option Token) (at : ℕ) (name rest : List ℕ) → PlainOption t → PlainOption (word_by t at name rest).token
plain_by None at name rest h = plain_function at name (call_mark rest)
plain_by (Some t) at name rest h = plain_reserved_word t name rest h

plain_module : (at : ℕ) (bs : List ℕ) → PlainOption (module_word at bs).token
plain_module at bs =
    let modules = module_of bs in
    let rest = drop (length modules) bs in
    let behind = drop 1 rest in
    let called = name_of behind in
    let full = modules ++ (codes "." ++ (called ++ call_mark (drop (length called) behind))) in
    plain_if (begins (codes ".") rest && (first_is begins_name behind && not (is_reserved called))) (cut (tokens.Function at full) (length full)) (cut tokens.Foreign (length modules)) (λ c. c.token) tt tt

plain_number : (n : Option ℕ) → IsPlain (number_token n)
plain_number None = tt
plain_number (Some n) = tt

plain_colon : (bs : List ℕ) → PlainOption (colon bs).token
plain_colon bs =
    let name = name_of bs in
    let full = name ++ atom_mark (drop (length name) bs) in
    let atom = cut (tokens.Atom full) (length full + 1) in
    plain_if (first_is is_ascii_uppercase bs || is_reserved name) (cut tokens.Foreign 1) (if first_is begins_name bs then atom else cut tokens.Colon 1) (λ c. c.token) tt
    (plain_if (first_is begins_name bs) atom (cut tokens.Colon 1) (λ c. c.token) tt tt)

plain_short_by : (t : Option Token) → PlainOption t → PlainOption (short_by t).token
plain_short_by None h = tt
plain_short_by (Some t) h = h

plain_long_by : (t : Option Token) (bs : List ℕ) → PlainOption t → PlainOption (long_by t bs).token
plain_long_by None bs h = plain_short_by (token_where (λ s. begins s bs) short_signs) (plain_where (λ s. begins s bs) short_signs plain_short)
plain_long_by (Some t) bs h = h

plain_sign : (last : Option Token) (part : Bool) (bs : List ℕ) → PlainOption (sign (near_of last) part bs).token
plain_sign last part bs =
    let round = cut (if ends_name last then tokens.CallOpening else tokens.OpeningRound) 1 in
    let square = cut (if ends_value last then tokens.IndexOpening else tokens.OpeningSquare) 1 in
    let dot = cut (if ends_value last then tokens.Dot else tokens.Foreign) 1 in
    let brace = if part then with_piece tokens.PartClosing (drop 1 bs) else cut (tokens.Closing Curly) 1 in
    let by_table = long_by (token_where (λ s. begins s bs) long_signs) bs in
    let from_brace = if begins (codes "}") bs then brace else by_table in
    let from_colon = if begins (codes ":") bs then colon (drop 1 bs) else from_brace in
    let from_dot = if begins (codes ".") bs then dot else from_colon in
    let from_square = if begins (codes "[") bs then square else from_dot in
    plain_if (begins (codes "(") bs) round from_square (λ c. c.token) (plain_either (ends_name last) tokens.CallOpening tokens.OpeningRound tt tt)
    (plain_if (begins (codes "[") bs) square from_dot (λ c. c.token) (plain_either (ends_value last) tokens.IndexOpening tokens.OpeningSquare tt tt)
    (plain_if (begins (codes ".") bs) dot from_colon (λ c. c.token) (plain_either (ends_value last) tokens.Dot tokens.Foreign tt tt)
    (plain_if (begins (codes ":") bs) (colon (drop 1 bs)) from_brace (λ c. c.token) (plain_colon (drop 1 bs))
    (plain_if (begins (codes "}") bs) brace by_table (λ c. c.token)
    (plain_if part (with_piece tokens.PartClosing (drop 1 bs)) (cut (tokens.Closing Curly) 1) (λ c. c.token) tt tt)
    (plain_long_by (token_where (λ s. begins s bs) long_signs) bs (plain_where (λ s. begins s bs) long_signs plain_long))))))

plain_token : (k : Beginning) (at : ℕ) (last : Option Token) (part : Bool) (bs : List ℕ) → PlainOption (token_by k at (near_of last) part bs).token
plain_token white at last part bs = tt
plain_token lower at last part bs = plain_by (reserved_token (name_of bs)) at (name_of bs) (drop (length (name_of bs)) bs) (plain_where (bytes_eq (name_of bs)) reserved plain_reserved)
plain_token upper at last part bs = plain_module at bs
plain_token digit at last part bs = plain_number (fitting (value_of 0 (digits_of bs)))
plain_token quote at last part bs = tt
plain_token other at last part bs = plain_sign last part bs

plain_behind : (bs : List ℕ) → PlainOption (behind_piece bs).token
plain_behind bs =
    let slash = begins (codes "\\") bs && nat_eq (length bs) 1 in
    let from_slash = if slash then passed else cut tokens.Foreign 1 in
    let from_part = if begins (codes "#{") bs then cut tokens.PartOpening 2 else from_slash in
    plain_if (begins (codes "\"") bs) (cut tokens.QuoteEnd 1) from_part (λ c. c.token) tt
    (plain_if (begins (codes "#{") bs) (cut tokens.PartOpening 2) from_slash (λ c. c.token) tt
    (plain_if slash passed (cut tokens.Foreign 1) (λ c. c.token) tt tt))

plain_first : (inside : Bool) (at : ℕ) (last : Option Token) (part : Bool) (b : ℕ) (bs : List ℕ) → PlainOption (first_token inside at (near_of last) part b bs).token
plain_first true at last part b bs = plain_behind (b ∷ bs)
plain_first false at last part b bs = plain_token (beginning b) at last part (b ∷ bs)

plain_found : (at : ℕ) (t : Option Token) (rest : List Placed) → PlainOption t → AllByRecursion IsPlain (spelled rest) → AllByRecursion IsPlain (spelled (placed at t ++ rest))
plain_found at None rest h g = g
plain_found at (Some t) rest h g = (h, g)

plain_from : (at : ℕ) (last : Option Token) (os : List Opened) (n : ℕ) (bs : List ℕ) → AllByRecursion IsPlain (spelled (tokens_from at (near_of last) os n bs))
plain_from at last os n [] = tt
plain_from at last os (suc n) (b ∷ bs) = plain_from (at + 1) last os n bs
plain_from at last os zero (b ∷ bs) =
    let c = first_token (in_text os) at (near_of last) (in_part os) b bs in
    plain_found at c.token (tokens_from (at + 1) (near_of c.token) (opened_by os (placed at c.token)) (c.size - 1) bs)
    (plain_first (in_text os) at last (in_part os) b bs)
    (plain_from (at + 1) c.token (opened_by os (placed at c.token)) (c.size - 1) bs)

-- of all tokens of a text
pub plain_tokens : (text : List ℕ) → AllByRecursion IsPlain (spelled (placed_tokens text))
plain_tokens text = plain_from 0 None [] 0 text
