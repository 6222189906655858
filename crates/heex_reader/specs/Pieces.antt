-- The expressions and patterns in the tokens of a template: what is read from a text that begins at some byte.
use Rattle.std.specs.Prelude.{ℕ, ◌+◌, ◌-◌, List, [], ◌∷◌, ◌++◌, length, take, drop, take_while, codes, Bool, true, false, not, ◌&&◌, ◌==◌, nat_eq, Option, Some, None, option_map, Result, Ok, Err, if◌then◌else◌}
use Rattle.std.specs.List.{prefix_len, suffix_len, ends_with}
use Rattle.std.specs.Str.{bytes_eq}
use Rattle.ast_core.specs.Syntax.{Expr, list_of, nil_of, Exprs, no_exprs, expr, Pattern, Generator, Place, put, render_slot}
use Rattle.expr_token.specs.Tokens.{in_name}
use Rattle.expr_core.specs.declared.fault.ExprKind.{ExprKind}
use Rattle.expr_core.specs.declared.fault.ExprKind.TheVariants as expr_kind
use Rattle.expr_core.specs.Answers.{Refusal, expr_of, pattern_of}
use Rattle.heex_token.specs.Tokens.{begins, is_white}
use Rattle.heex_reader.specs.declared.fault.TemplateKind.TheVariants as kind
use Rattle.heex_reader.specs.declared.arrow.Quoting.{Quoting}
use Rattle.heex_reader.specs.declared.arrow.Quoting.TheVariants.{Outside, Quoted, Escaped}
use Rattle.heex_reader.specs.Located.{Fault, faulty}
use Rattle.heex_reader.specs.Signs.{Block, if_block, for_block, case_block, Sign, value, block, clause_head, otherwise, ends, broken, broken_opening}

-- what is read from a text that begins at this byte
abbrev pub placed : {A : Type 0} → ℕ → Result A Refusal → Result A Fault
placed at (Ok a) = Ok a
placed at (Err r) = faulty (at + r.place) (kind.BadExpr r.kind)

abbrev pub expr_at : ℕ → List ℕ → Result Expr Fault
expr_at at s = placed at (expr_of s)

abbrev pub pattern_at : ℕ → List ℕ → Result Pattern Fault
pattern_at at s = placed at (pattern_of s)

-- one thing after another
abbrev pub then_do : {A B : Type 0} → Result A Fault → (A → Result B Fault) → Result B Fault
then_do (Ok a) f = f a
then_do (Err e) f = Err e

-- `P <- E`, cut at the first `<-` outside of texts

-- where the next byte stands behind this one
abbrev pub quoting_behind : Quoting → ℕ → Quoting
quoting_behind Outside b = if b == 34 then Quoted else Outside
quoting_behind Quoted b = if b == 34 then Outside else if b == 92 then Escaped else Quoted
quoting_behind Escaped b = Quoted

abbrev pub is_outside : Quoting → Bool
is_outside Outside = true
is_outside Quoted = false
is_outside Escaped = false

-- whether a text that stands here begins with an arrow
abbrev pub is_arrow : Quoting → List ℕ → Bool
is_arrow q bs = is_outside q && begins (codes "<-") bs

-- how many bytes stand before the first one
abbrev pub arrow_from : Quoting → List ℕ → Option ℕ
arrow_from q [] = None
arrow_from q (b ∷ bs) = if is_arrow q (b ∷ bs) then Some 0 else option_map (λ n. n + 1) (arrow_from (quoting_behind q b) bs)

-- without an arrow the text is read as the pattern, and its end is at fault
abbrev pub generator_by : Option ℕ → ℕ → List ℕ → Result Generator Fault
generator_by None at s = then_do (pattern_at at s) (λ p. faulty (at + length s) (kind.BadExpr expr_kind.Stray))
generator_by (Some n) at s =
    then_do (pattern_at at (take n s)) (λ p. then_do (expr_at (at + (n + 2)) (drop (n + 2) s)) (λ e. Ok (record { pattern = p; items = e })))

abbrev pub generator_at : ℕ → List ℕ → Result Generator Fault
generator_at at s = generator_by (arrow_from Outside s) at s

-- White space round a text.

abbrev pub without_end : List ℕ → List ℕ
without_end s = take (length s - suffix_len is_white s) s

abbrev pub white_before : List ℕ → ℕ
white_before s = prefix_len is_white s

abbrev pub trimmed : List ℕ → List ℕ
trimmed s = drop (white_before (without_end s)) (without_end s)

-- whether the text, but for white space, ends with these characters
abbrev pub ends_on : List ℕ → List ℕ → Bool
ends_on word s = ends_with nat_eq (without_end s) word

-- and what stands before them
abbrev pub before_end : List ℕ → List ℕ → List ℕ
before_end word s = take (length (without_end s) - length word) s

-- Blocks.

abbrev pub last_is : (ℕ → Bool) → List ℕ → Bool
last_is p [] = false
last_is p (b ∷ []) = p b
last_is p (b ∷ c ∷ bs) = last_is p (c ∷ bs)

-- whether the text, but for white space, ends with the word `do`
abbrev pub ends_with_do : List ℕ → Bool
ends_with_do s = ends_on (codes "do") s && not (last_is in_name (before_end (codes "do") s))

-- a block that is read, or what is wrong with it
abbrev pub block_sign : Result Block Fault → Sign
block_sign (Ok b) = block b
block_sign (Err f) = broken_opening f.at f.kind

-- a head by its first word, with what stands between that and `do`, which begins at this byte; the token's own byte
abbrev pub head_by : ℕ → List ℕ → ℕ → List ℕ → Sign
head_by start word at s =
    if bytes_eq word (codes "if") then block_sign (then_do (expr_at at s) (λ e. Ok (if_block e)))
    else if bytes_eq word (codes "for") then block_sign (then_do (generator_at at s) (λ g. Ok (for_block g.pattern g.items)))
    else if bytes_eq word (codes "case") then block_sign (then_do (expr_at at s) (λ e. Ok (case_block e)))
    else broken start kind.BadBlock

-- a head without its `do`, whose text begins at this byte
abbrev pub head_sign : ℕ → ℕ → List ℕ → Sign
head_sign start at s =
    let white = white_before s in
    let word = take_while in_name (drop white s) in
    head_by start word (at + (white + length word)) (drop (white + length word) s)

abbrev pub clause_sign : Result Pattern Fault → Sign
clause_sign (Ok p) = clause_head p
clause_sign (Err f) = broken f.at f.kind

-- `<% .. %>`: the token's own byte, and that of its text
abbrev pub block_tag_sign : ℕ → ℕ → List ℕ → Sign
block_tag_sign start at s =
    if bytes_eq (trimmed s) (codes "else") then otherwise else if bytes_eq (trimmed s) (codes "end") then ends
    else if ends_on (codes "->") s then clause_sign (pattern_at at (before_end (codes "->") s)) else broken start kind.BadBlock

-- Interpolations.

-- twelve characters
abbrev pub render_slot_word : List ℕ
render_slot_word = codes "render_slot("

-- whether the text, but for white space, begins with `render_slot(` at this place and ends with `)`
abbrev pub calls_render_slot : ℕ → List ℕ → Bool
calls_render_slot at s = at == white_before s && (begins render_slot_word (drop at s) && ends_on (codes ")") s)

-- the arguments of that call as a list that has its items at the same places
abbrev pub as_list : List ℕ → List ℕ
as_list s =
    let white = white_before s in
    take white s ++ (codes "           [" ++ (drop (white + 12) (before_end (codes ")") s) ++ codes "]"))

-- one or two arguments
abbrev pub rendered : Exprs → Option Place
rendered (expr e no_exprs) = Some (render_slot e nil_of)
rendered (expr e (expr a no_exprs)) = Some (render_slot e a)
rendered es = None

abbrev pub rendered_by : Expr → Option Place
rendered_by (list_of es) = rendered es
rendered_by e = None

abbrev pub value_or : ℕ → Refusal → Option Place → Sign
value_or at r None = broken (at + r.place) (kind.BadExpr r.kind)
value_or at r (Some p) = value p

-- what its arguments are; otherwise the call names no function
abbrev pub slot_sign : ℕ → Refusal → Result Expr Refusal → Sign
slot_sign at r (Ok e) = value_or at r (rendered_by e)
slot_sign at r (Err q) = elim q.kind [ expr_kind.UnknownFunction ↦ broken (at + q.place) (kind.BadExpr q.kind) | k ↦ broken (at + r.place) (kind.BadExpr r.kind) ]

abbrev pub refused_value : ℕ → List ℕ → Refusal → Sign
refused_value at s r = elim r.kind [
  | expr_kind.UnknownFunction ↦ if calls_render_slot r.place s then slot_sign at r (expr_of (as_list s)) else broken (at + r.place) (kind.BadExpr r.kind)
  | k ↦ broken (at + r.place) (kind.BadExpr r.kind)
]

abbrev pub value_by : ℕ → List ℕ → Result Expr Refusal → Sign
value_by at s (Ok e) = value (put e)
value_by at s (Err r) = refused_value at s r

-- `{ .. }`: a text that begins at this byte
abbrev pub value_sign : ℕ → List ℕ → Sign
value_sign at s = value_by at s (expr_of s)

-- `<%= .. %>`: the token's own byte, and that of its text
abbrev pub put_sign : ℕ → ℕ → List ℕ → Sign
put_sign start at s = if ends_with_do s then head_sign start at (before_end (codes "do") s) else value_sign at s
