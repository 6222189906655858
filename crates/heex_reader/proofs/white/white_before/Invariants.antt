use Rattle.std.proofs.Common.{◌≡◌, ◌≤◌, ◌+◌, ◌-◌, drop, length, ℕ, List}
use Rattle.std.specs.List.{prefix_len}
use Rattle.heex_token.specs.Tokens.{is_white}
use Rattle.heex_reader.proofs.white.white_before.Given as goal

pub record Going (end : ℕ) (bytes : List ℕ) : Type 0 where
  pub within : end ≤ length bytes
  pub same : end + prefix_len is_white (drop end bytes) ≡ prefix_len is_white bytes

abbrev pub invariant-more : goal.invariant-more
invariant-more l = Going l.end l.bytes

abbrev pub decreases-more : goal.decreases-more
decreases-more l = length l.bytes - l.end
