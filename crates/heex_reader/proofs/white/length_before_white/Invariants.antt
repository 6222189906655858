use Rattle.std.proofs.Common.{◌≡◌, ◌≤◌, ◌+◌, take, length, ℕ, List}
use Rattle.std.specs.List.{suffix_len}
use Rattle.heex_token.specs.Tokens.{is_white}
use Rattle.heex_reader.proofs.white.length_before_white.Given as goal

pub record Going (end : ℕ) (bytes : List ℕ) : Type 0 where
  pub within : end ≤ length bytes
  pub same : end + suffix_len is_white bytes ≡ length bytes + suffix_len is_white (take end bytes)

abbrev pub invariant-more : goal.invariant-more
invariant-more l = Going l.end l.bytes

abbrev pub decreases-more : goal.decreases-more
decreases-more l = l.end
