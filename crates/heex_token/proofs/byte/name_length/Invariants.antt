use Rattle.std.proofs.Common.{◌≡◌, ◌≤◌, ◌+◌, ◌-◌, drop, length, ℕ, List}
use Rattle.std.specs.List.{prefix_len}
use Rattle.heex_token.specs.Tokens.{in_name}
use Rattle.heex_token.proofs.byte.name_length.Given as goal

pub record Going (end : ℕ) (rest : List ℕ) : Type 0 where
  pub within : end ≤ length rest
  pub same : end + prefix_len in_name (drop end rest) ≡ prefix_len in_name rest

abbrev pub invariant-more : goal.invariant-more
invariant-more l = Going l.end l.rest

abbrev pub decreases-more : goal.decreases-more
decreases-more l = length l.rest - l.end
