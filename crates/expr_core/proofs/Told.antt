-- The answers, as the readers give them.
use Rattle.std.proofs.Common.{◌≡◌, ℕ, ◌<◌, ◌≤◌, List, [], ◌∷◌, length, get_or, refl, sym, ap, ◌∙◌, subst, arith}
use Rattle.std.specs.Prelude.{zero, suc, Option, Result, Ok, Err}
use Rattle.std.specs.Prelude.{IfOk, IfErr}
use Rattle.ast_core.specs.declared.expr.Expr.{Expr}
use Rattle.ast_core.specs.declared.pattern.Pattern.{Pattern}
use Rattle.ast_core.specs.ExprView.{expr_view}
use Rattle.ast_core.specs.PatternView.{pattern_view}
use Rattle.expr_core.specs.Language.{Spells}
use Rattle.expr_core.specs.PatternGrammar.{patterns}
use Rattle.expr_core.proofs.ExprExact.{expr_exact}
use Rattle.expr_core.proofs.PatternExact.{pattern_exact}
use Rattle.expr_token.specs.declared.token.Token.{Token}
use Rattle.expr_token.specs.declared.token.Token.TheVariants as tokens
use Rattle.expr_token.specs.declared.token.Placed.{Placed}
use Rattle.expr_token.specs.declared.token.Opened.{Opened}
use Rattle.expr_token.specs.Tokens.{placed_tokens, left_open}
use Rattle.expr_token.specs.Lexing.{innermost}
use Rattle.expr_core.specs.Answers.{Refusal, byte_of, answer_by, at_text_end, refused, expr_of, pattern_of, tokens_of, SpellsExpr, AnswersExpr, AnswersPattern}
use Rattle.expr_core.specs.Outcome.{Outcome, done, stray, bad_number, too_deep, ended, at_fault}
use Rattle.expr_core.specs.declared.fault.ExprFault.{ExprFault}
use Rattle.expr_core.specs.declared.fault.ExprFault.TheVariants as fault
use Rattle.expr_core.specs.declared.fault.ExprKind.{ExprKind}
use Rattle.expr_core.specs.declared.read.TokenFault.{TokenFault}
use Rattle.expr_core.specs.declared.read.TokenFault.TheVariants.{Stray, BadNumber, TooDeep, Ended, OutOfMemory}
use Rattle.expr_core.specs.Gives.{Faults, fault_of, answer_of, end_kind, end_place, FaultTold, Refused, Answered, AnsweredPattern, RefusedRightly, PatternRefusedRightly}

pub faulty : (A : Type 0) (t : Token) (n : ℕ) → Faults {A = A} (fault_of t n) (at_fault t n)
faulty A tokens.BadNumber n = refl
faulty A t n = refl

-- the byte of a token that there is, and of one that there is not
pub byte_at : (ps : List Placed) (n : ℕ) (p : Placed) → n < length ps → p ≡ get_or ps n p → p.at ≡ byte_of ps n
byte_at [] n p h e = absurd (omega arith)
byte_at (q ∷ ps) zero p h e = ap (λ (r : Placed). r.at) e
byte_at (q ∷ ps) (suc n) p h e = byte_at ps n p (omega arith) e

pub byte_none : (ps : List Placed) (n : ℕ) → length ps ≤ n → 0 ≡ byte_of ps n
byte_none [] n h = refl
byte_none (p ∷ ps) zero h = absurd (omega arith)
byte_none (p ∷ ps) (suc n) h = byte_none ps n (omega arith)

pub end_told : {A : Type 0} (os : List Opened) (size : ℕ) → at_text_end {A = A} os size ≡ refused (end_place (innermost os) size) (end_kind (innermost os))
end_told [] size = refl
end_told (o ∷ os) size = refl

pub answer_told : {A B : Type 0} (f : A → Result B Refusal) (text : List ℕ) (o : Outcome A) → answer_by f text o ≡ answer_of f (placed_tokens text) (innermost (left_open text)) (length text) o
answer_told f text (done m) = refl
answer_told f text (stray n) = refl
answer_told f text (bad_number n) = refl
answer_told f text (too_deep n) = refl
answer_told f text ended = end_told (left_open text) (length text)

refused_at : {A : Type 0} (at at' : ℕ) (k k' : ExprKind) → at ≡ at' → k ≡ k' → refused {A = A} at' k' ≡ refused at k
refused_at at at' k k' e d = ap (λ i. refused i k') (sym e) ∙ ap (λ j. refused at j) (sym d)

-- a fault in tokens is told as the answer of the text
pub fault_told : {A B : Type 0} (f : A → Result B Refusal) (ps : List Placed) (last : Option Opened) (size : ℕ) (o : Outcome A) (t : TokenFault) (e : ExprFault) → Faults t o → FaultTold ps last size t e → Refused e (answer_of f ps last size o)
fault_told f ps last size o t fault.OutOfMemory h g = tt
fault_told f ps last size o (Stray n) (fault.Refused at k) h g = ap (answer_of f ps last size) h ∙ refused_at _ _ _ _ g.0 g.1
fault_told f ps last size o (BadNumber n) (fault.Refused at k) h g = ap (answer_of f ps last size) h ∙ refused_at _ _ _ _ g.0 g.1
fault_told f ps last size o (TooDeep n) (fault.Refused at k) h g = ap (answer_of f ps last size) h ∙ refused_at _ _ _ _ g.0 g.1
fault_told f ps last size o Ended (fault.Refused at k) h g = ap (answer_of f ps last size) h ∙ refused_at _ _ _ _ g.0 g.1
fault_told f ps last size o OutOfMemory (fault.Refused at k) h g = absurd g

-- an answer is the right one
pub expr_found : (text : List ℕ) (r : Result Expr ExprFault) → Answered r (expr_of text) → IfOk r (λ e. SpellsExpr text (expr_view e))
expr_found text (Ok e) h = subst (AnswersExpr text) h (expr_exact text)
expr_found text (Err f) h = tt

pub expr_refused : (text : List ℕ) (r : Result Expr ExprFault) → Answered r (expr_of text) → IfErr r (λ f. RefusedRightly text f)
expr_refused text (Ok e) h = tt
expr_refused text (Err (fault.Refused at k)) h = subst (AnswersExpr text) h (expr_exact text)
expr_refused text (Err fault.OutOfMemory) h = tt

pub pattern_found : (text : List ℕ) (r : Result Pattern ExprFault) → AnsweredPattern r (pattern_of text) → IfOk r (λ p. Spells patterns (tokens_of text) (pattern_view p))
pattern_found text (Ok p) h = subst (AnswersPattern text) h (pattern_exact text)
pattern_found text (Err f) h = tt

pub pattern_refused : (text : List ℕ) (r : Result Pattern ExprFault) → AnsweredPattern r (pattern_of text) → IfErr r (λ f. PatternRefusedRightly text f)
pattern_refused text (Ok p) h = tt
pattern_refused text (Err (fault.Refused at k)) h = subst (AnswersPattern text) h (pattern_exact text)
pattern_refused text (Err fault.OutOfMemory) h = tt
