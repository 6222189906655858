-- What the reader over tokens returns, seen as an outcome.
use Rattle.std.specs.Prelude.{◌≡◌, ℕ, List, map, Option, Some, None, Result, Ok, Err}
use Rattle.ast_core.specs.declared.expr.Expr.{Expr}
use Rattle.ast_core.specs.declared.pattern.Pattern.{Pattern}
use Rattle.ast_core.specs.ExprView.{expr_view}
use Rattle.ast_core.specs.PatternView.{pattern_view}
use Rattle.ast_core.specs.Syntax as model
use Rattle.expr_token.specs.declared.token.Token.{Token}
use Rattle.expr_token.specs.declared.token.Token.TheVariants as tokens
use Rattle.expr_token.specs.declared.token.Placed.{Placed}
use Rattle.expr_token.specs.declared.token.Opened.{Opened}
use Rattle.expr_core.specs.declared.fault.ExprFault.{ExprFault}
use Rattle.expr_core.specs.declared.fault.ExprFault.TheVariants as fault
use Rattle.expr_core.specs.declared.fault.ExprKind.{ExprKind}
use Rattle.expr_core.specs.declared.fault.ExprKind.TheVariants as kind
use Rattle.expr_core.specs.Answers.{Refusal, refused, byte_of, RefusesExpr, Refuses}
use Rattle.expr_core.specs.PatternGrammar.{patterns}
use Rattle.expr_core.specs.declared.value.Meant.{Meant}
use Rattle.expr_core.specs.declared.read.TokenFault.{TokenFault}
use Rattle.expr_core.specs.declared.read.TokenFault.TheVariants.{Stray, BadNumber, TooDeep, Ended, OutOfMemory}
use Rattle.expr_core.specs.Grammar as grammar
use Rattle.expr_core.specs.Outcome.{Outcome, done, stray, bad_number, too_deep, ended}
use Rattle.expr_core.specs.declared.frame.Mode.{Mode}
use Rattle.expr_core.specs.Machine as machine
use Rattle.expr_core.specs.Seen.{meant_view, state_of}

abbrev pub spelled : List Placed → List Token
spelled ps = map (λ p. p.token) ps

-- the outcome of tokens without a reading, but that memory may be wanting
abbrev pub Faults : {A : Type 0} → TokenFault → Outcome A → Type 0
Faults (Stray n) o = o ≡ stray n
Faults (BadNumber n) o = o ≡ bad_number n
Faults (TooDeep n) o = o ≡ too_deep n
Faults Ended o = o ≡ ended
Faults OutOfMemory o = Unit {0}

-- the outcome of tokens
abbrev pub Gives : Result Meant TokenFault → Outcome grammar.Meant → Type 0
Gives (Ok m) o = o ≡ done (meant_view m)
Gives (Err f) o = Faults f o

-- where a token leads, whose tokens have this outcome, and those behind it that of the state that it leads to
abbrev pub Leads : Result Mode TokenFault → machine.Frames → (machine.State → Outcome grammar.Meant) → Outcome grammar.Meant → Type 0
Leads (Ok m) fs go o = o ≡ go (state_of m fs)
Leads (Err f) fs go o = Faults f o

-- what no token that goes on like this is
abbrev pub fault_of : Token → ℕ → TokenFault
fault_of tokens.BadNumber n = BadNumber n
fault_of t n = Stray n

-- where more was needed: the byte of the innermost opening, or the end
abbrev pub end_kind : Option Opened → ExprKind
end_kind None = kind.Stray
end_kind (Some o) = kind.Unclosed

abbrev pub end_place : Option Opened → ℕ → ℕ
end_place None size = size
end_place (Some o) size = o.at

-- the answer of tokens with their bytes, in a text of this length that ends in this opening
abbrev pub answer_of : {A B : Type 0} → (A → Result B Refusal) → List Placed → Option Opened → ℕ → Outcome A → Result B Refusal
answer_of f ps last size (done m) = f m
answer_of f ps last size (stray n) = refused (byte_of ps n) kind.Stray
answer_of f ps last size (bad_number n) = refused (byte_of ps n) kind.BadNumber
answer_of f ps last size (too_deep n) = refused (byte_of ps n) kind.TooDeep
answer_of f ps last size ended = refused (end_place last size) (end_kind last)

-- a refusal, but that memory may be wanting
abbrev pub Refused : {A : Type 0} → ExprFault → Result A Refusal → Type 0
Refused (fault.Refused at k) r = r ≡ refused at k
Refused fault.OutOfMemory r = Unit {0}

-- an answer
abbrev pub Answered : Result Expr ExprFault → Result model.Expr Refusal → Type 0
Answered (Ok e) r = r ≡ Ok (expr_view e)
Answered (Err f) r = Refused f r

abbrev pub AnsweredPattern : Result Pattern ExprFault → Result model.Pattern Refusal → Type 0
AnsweredPattern (Ok p) r = r ≡ Ok (pattern_view p)
AnsweredPattern (Err f) r = Refused f r

-- what a fault in tokens is in the text of this length, but that memory may be wanting
abbrev pub FaultTold : List Placed → Option Opened → ℕ → TokenFault → ExprFault → Type 0
FaultTold ps last size f fault.OutOfMemory = Unit {0}
FaultTold ps last size (Stray n) (fault.Refused at k) = (at ≡ byte_of ps n) × (k ≡ kind.Stray)
FaultTold ps last size (BadNumber n) (fault.Refused at k) = (at ≡ byte_of ps n) × (k ≡ kind.BadNumber)
FaultTold ps last size (TooDeep n) (fault.Refused at k) = (at ≡ byte_of ps n) × (k ≡ kind.TooDeep)
FaultTold ps last size Ended (fault.Refused at k) = (at ≡ end_place last size) × (k ≡ end_kind last)
FaultTold ps last size OutOfMemory (fault.Refused at k) = ⊥

-- a text is refused for what is wrong with it, but that memory may be wanting
abbrev pub RefusedRightly : List ℕ → ExprFault → Type 0
RefusedRightly text (fault.Refused at k) = RefusesExpr text at k
RefusedRightly text fault.OutOfMemory = Unit {0}

abbrev pub PatternRefusedRightly : List ℕ → ExprFault → Type 0
PatternRefusedRightly text (fault.Refused at k) = Refuses patterns text at k
PatternRefusedRightly text fault.OutOfMemory = Unit {0}
