use Rattle.std.proofs.Common.{◌≡◌, ◌≤◌, drop, ℕ, List}
use Rattle.expr_token.specs.Tokens.{value_of}
use Rattle.expr_token.proofs.number.value_of.Given as goal

pub record Going (value : ℕ) (rest all : List ℕ) : Type 0 where
  pub small : value ≤ 9223372036854775807
  pub same : value_of value rest ≡ value_of 0 all

abbrev pub invariant-each : goal.invariant-each
invariant-each l = Going l.value (drop l.byte-index l.digits) l.digits
