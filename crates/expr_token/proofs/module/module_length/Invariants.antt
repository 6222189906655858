use Rattle.std.proofs.Common.{◌≡◌, ◌≤◌, ◌+◌, ◌-◌, drop, length, ℕ, List}
use Rattle.expr_token.specs.Tokens.{module_of}
use Rattle.expr_token.proofs.module.module_length.Given as goal

pub record Going (end : ℕ) (rest : List ℕ) : Type 0 where
  pub within : end ≤ length rest
  pub same : end + length (module_of (drop end rest)) ≡ length (module_of rest)

abbrev pub invariant-more : goal.invariant-more
invariant-more l = Going l.end l.rest

abbrev pub decreases-more : goal.decreases-more
decreases-more l = length l.rest - l.end
