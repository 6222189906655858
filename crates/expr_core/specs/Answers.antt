-- What a text is answered with.
use Rattle.std.specs.Prelude.{◌≡◌, ℕ, zero, suc, ◌⊎◌, List, [], ◌∷◌, map, length, Option, Some, None, Result, Ok, Err}
use Rattle.std.specs.List.{slice_get}
use Rattle.ast_core.specs.Syntax.{Expr, Pattern}
use Rattle.expr_core.specs.declared.fault.ExprKind.{ExprKind}
use Rattle.expr_core.specs.declared.fault.ExprKind.TheVariants as kind
use Rattle.expr_token.specs.declared.token.Token.{Token}
use Rattle.expr_token.specs.declared.token.Placed.{Placed}
use Rattle.expr_token.specs.declared.token.Opened.{Opened}
use Rattle.expr_token.specs.Tokens.{placed_tokens, left_open}
use Rattle.expr_core.specs.Language.{Language, Spells, StrayAt, BadNumberAt, DeepAt, Ended}
use Rattle.expr_core.specs.Grammar.{meant, expressions}
use Rattle.expr_core.specs.Outcome.{Outcome, done, stray, bad_number, too_deep, ended, outcome_of}
use Rattle.expr_core.specs.Machine.{expr_reader}
use Rattle.expr_core.specs.PatternGrammar.{patterns}
use Rattle.expr_core.specs.PatternMachine.{pattern_reader}

abbrev pub tokens_of : List ℕ → List Token
tokens_of text = map (λ p. p.token) (placed_tokens text)

-- A text that has no reading.

-- The n-th token of a text stands at this byte.
pub record StandsAt (text : List ℕ) (n at : ℕ) : Type 0 where
  pub token : Placed
  pub is : slice_get (placed_tokens text) n ≡ Some token
  pub place : token.at ≡ at

-- The token that this is said of stands at this byte.
pub record AtToken (text : List ℕ) (Fault : List Token → ℕ → Type 0) (at : ℕ) : Type 0 where
  pub n : ℕ
  pub stands : StandsAt text n at
  pub fault : Fault (tokens_of text) n

-- More was needed where the text ends, and nothing is open.
pub record StrayEnd (L : Language) (text : List ℕ) (at : ℕ) : Type 0 where
  pub ends : Ended L (tokens_of text)
  pub none_open : left_open text ≡ []
  pub place : length text ≡ at

-- the innermost opening stands at this byte
abbrev pub OpenAt : List Opened → ℕ → Type 0
OpenAt [] at = ⊥
OpenAt (o ∷ os) at = o.at ≡ at

-- The text ends, and this opening is not closed.
pub record OpenEnd (L : Language) (text : List ℕ) (at : ℕ) : Type 0 where
  pub ends : Ended L (tokens_of text)
  pub opening : OpenAt (left_open text) at

-- a text has no reading, or one that is too deep, and this is said at this byte
abbrev pub Refuses : Language → List ℕ → ℕ → ExprKind → Type 0
Refuses L text at kind.Stray = AtToken text (StrayAt L) at ⊎ StrayEnd L text at
Refuses L text at kind.Unclosed = OpenEnd L text at
Refuses L text at kind.BadNumber = AtToken text (BadNumberAt L) at
Refuses L text at kind.TooDeep = AtToken text (DeepAt L) at
Refuses L text at kind.UnknownFunction = ⊥

-- Expressions.

-- a text is written as this expression, in which each call names a function
abbrev pub SpellsExpr : List ℕ → Expr → Type 0
SpellsExpr text e = Spells expressions (tokens_of text) (meant e None)

-- the first call of a text that names no function stands at this byte
abbrev pub UnknownAt : List ℕ → ℕ → Type 0
UnknownAt text at = (e : Expr) × Spells expressions (tokens_of text) (meant e (Some at))

abbrev pub RefusesExpr : List ℕ → ℕ → ExprKind → Type 0
RefusesExpr text at kind.UnknownFunction = UnknownAt text at
RefusesExpr text at kind.Stray = Refuses expressions text at kind.Stray
RefusesExpr text at kind.Unclosed = Refuses expressions text at kind.Unclosed
RefusesExpr text at kind.BadNumber = Refuses expressions text at kind.BadNumber
RefusesExpr text at kind.TooDeep = Refuses expressions text at kind.TooDeep

-- Why a text is refused, and where.
pub record Refusal : Type 0 where
  pub place : ℕ
  pub kind : ExprKind

abbrev pub refused : {A : Type 0} → ℕ → ExprKind → Result A Refusal
refused at k = Err (record { place = at; kind = k })

-- an answer is the right one
abbrev pub AnswersExpr : List ℕ → Result Expr Refusal → Type 0
AnswersExpr text (Ok e) = SpellsExpr text e
AnswersExpr text (Err r) = RefusesExpr text r.place r.kind

-- Patterns.

abbrev pub AnswersPattern : List ℕ → Result Pattern Refusal → Type 0
AnswersPattern text (Ok p) = Spells patterns (tokens_of text) p
AnswersPattern text (Err r) = Refuses patterns text r.place r.kind

-- The answers that the readers give.

-- the byte of the n-th token; there is one
abbrev pub byte_of : List Placed → ℕ → ℕ
byte_of [] n = 0
byte_of (p ∷ ps) zero = p.at
byte_of (p ∷ ps) (suc n) = byte_of ps n

-- more was needed where a text of this length ends
abbrev pub at_text_end : {A : Type 0} → List Opened → ℕ → Result A Refusal
at_text_end [] size = refused size kind.Stray
at_text_end (o ∷ os) size = refused o.at kind.Unclosed

-- the answer of a text by what becomes of its tokens
abbrev pub answer_by : {A B : Type 0} → (A → Result B Refusal) → List ℕ → Outcome A → Result B Refusal
answer_by f text (done m) = f m
answer_by f text (stray n) = refused (byte_of (placed_tokens text) n) kind.Stray
answer_by f text (bad_number n) = refused (byte_of (placed_tokens text) n) kind.BadNumber
answer_by f text (too_deep n) = refused (byte_of (placed_tokens text) n) kind.TooDeep
answer_by f text ended = at_text_end (left_open text) (length text)

abbrev pub known_or : Expr → Option ℕ → Result Expr Refusal
known_or e None = Ok e
known_or e (Some at) = refused at kind.UnknownFunction

-- the expression that a text is, or its refusal
abbrev pub expr_of : List ℕ → Result Expr Refusal
expr_of text = answer_by (λ m. known_or m.expr m.unknown) text (outcome_of expr_reader (tokens_of text))

-- the pattern that a text is, or its refusal
abbrev pub pattern_of : List ℕ → Result Pattern Refusal
pattern_of text = answer_by (λ p. Ok p) text (outcome_of pattern_reader (tokens_of text))
