use Rattle.std.proofs.Common.{◌≡◌, ◌≤◌, ◌-◌, drop, length, ℕ, List}
use Rattle.std.specs.Str.{bytes_eq}
use Rattle.expr_token.specs.Tokens.{module_of}
use Rattle.heex_reader.proofs.name.goes_through.Given as goal

pub record Going (at : ℕ) (bytes : List ℕ) : Type 0 where
  pub within : at ≤ length bytes
  pub same : bytes_eq (module_of (drop at bytes)) (drop at bytes) ≡ bytes_eq (module_of bytes) bytes

abbrev pub invariant-more : goal.invariant-more
invariant-more l = Going l.at l.bytes

abbrev pub decreases-more : goal.decreases-more
decreases-more l = length l.bytes - l.at
