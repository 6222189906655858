use Rattle.std.proofs.Common.{◌≡◌, ◌≤◌, ◌+◌, ◌-◌, drop, length, ℕ, List}
use Rattle.std.specs.List.{prefix_len}
use Rattle.heex_token.specs.Tokens.{is_white}
use Rattle.heex_token.proofs.reader.white_length.Given as goal

pub record Going (end : ℕ) (rest : List ℕ) : Type 0 where
  pub within : end ≤ length rest
  pub same : end + prefix_len is_white (drop end rest) ≡ prefix_len is_white rest

abbrev pub invariant-more : goal.invariant-more
invariant-more l = Going l.end l.rest

abbrev pub decreases-more : goal.decreases-more
decreases-more l = length l.rest - l.end
