-- Exactly what is written as an expression that does not read the streams is read as it.
use Rattle.std.proofs.Common.{◌≡◌, ℕ, List, Some, None, Result, Ok, Err, Bool, true, false, cond, refl, ap, ◌∙◌, subst}
use Rattle.ast_core.specs.Syntax.{Expr}
use Rattle.expr_core.specs.Answers.{Refusal, AnswersExpr, expr_of}
use Rattle.expr_core.proofs.ExprExact.{expr_exact, expr_is_read}
use Rattle.template_reader.specs.Formula.{reads_streams, SpellsFormula, without_streams, formula_from, formula_of, FormulasAreSpelled}

kept : (e f : Expr) → without_streams e ≡ Some f → (e ≡ f) × (reads_streams e ≡ false)
kept e f h = by (reads_streams e) refl h
  where
    by : (t : Bool) → reads_streams e ≡ t → cond t None (Some e) ≡ Some f → (e ≡ f) × (reads_streams e ≡ false)
    by true r k = absurd cc
    by false r k = (cc, r)

spelled_from : (text : List ℕ) (e : Expr) (r : Result Expr Refusal) → AnswersExpr text r → formula_from r ≡ Some e → SpellsFormula text e
spelled_from text e (Ok f) a h = let k = kept f e h in subst (SpellsFormula text) k.0 (a, k.1)
spelled_from text e (Err r) a h = absurd cc

pub formula_spelled : (text : List ℕ) (e : Expr) → formula_of text ≡ Some e → SpellsFormula text e
formula_spelled text e h = spelled_from text e (expr_of text) (expr_exact text) h

pub formula_read : (text : List ℕ) (e : Expr) → SpellsFormula text e → formula_of text ≡ Some e
formula_read text e (spelled, none) = ap formula_from (expr_is_read text e spelled) ∙ ap (λ t. cond t None (Some e)) none

pub formulas_are_spelled : FormulasAreSpelled
formulas_are_spelled text e = (formula_spelled text e, formula_read text e)
