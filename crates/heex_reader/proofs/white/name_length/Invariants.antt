use Rattle.std.proofs.Common.{◌≡◌, ◌≤◌, ◌+◌, ◌-◌, drop, length, ℕ, List}
use Rattle.std.specs.List.{prefix_len}
use Rattle.expr_token.specs.Tokens.{in_name}
use Rattle.heex_reader.proofs.white.name_length.Given as goal

pub record Going (end : ℕ) (bytes : List ℕ) : Type 0 where
  pub within : end ≤ length bytes
  pub same : end + prefix_len in_name (drop end bytes) ≡ prefix_len in_name bytes

abbrev pub invariant-more : goal.invariant-more
invariant-more l = Going l.end l.bytes

abbrev pub decreases-more : goal.decreases-more
decreases-more l = length l.bytes - l.end
