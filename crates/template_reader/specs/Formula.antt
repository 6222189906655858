-- The expressions in bundles: they do not read the streams.
use Rattle.std.specs.Prelude.{◌≡◌, ◌↔◌, ℕ, List, codes, Bool, false, Option, Some, None, Result, Ok, Err, if◌then◌else◌}
use Rattle.ast_core.specs.Syntax.{Expr}
use Rattle.ast_core.specs.Free.{free_names, one_of}
use Rattle.ast_core.specs.Reads.{assigns_in}
use Rattle.expr_core.specs.Answers.{Refusal, SpellsExpr, expr_of}

abbrev pub reads_streams : Expr → Bool
reads_streams e = one_of (codes "streams") (assigns_in (free_names e))

-- a text is written as this expression, which does not read the streams
abbrev pub SpellsFormula : List ℕ → Expr → Type 0
SpellsFormula text e = SpellsExpr text e × (reads_streams e ≡ false)

abbrev pub without_streams : Expr → Option Expr
without_streams e = if reads_streams e then None else Some e

abbrev pub formula_from : Result Expr Refusal → Option Expr
formula_from (Ok e) = without_streams e
formula_from (Err r) = None

-- the expression that a text is
abbrev pub formula_of : List ℕ → Option Expr
formula_of text = formula_from (expr_of text)

-- the law: exactly what is written so is read
abbrev pub FormulasAreSpelled : Type 0
FormulasAreSpelled = (text : List ℕ) (e : Expr) → (formula_of text ≡ Some e) ↔ SpellsFormula text e
