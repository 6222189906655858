-- The steps of handlers.
use Rattle.std.specs.Prelude.{ℕ, List}
use Rattle.ast_core.specs.Syntax.{Expr}

mutual
  pub data Step : Type 0 where
    -- gives an assign the value of an expression
    assign_step : List ℕ → Expr → Step
    -- the first steps where the value is neither nil nor false, else the second
    when_step : Expr → Steps → Steps → Step

  pub data Steps : Type 0 where
    no_steps : Steps
    step : Step → Steps → Steps
