use Rattle.std.proofs.Common.{◌≡◌, ◌+◌, ◌<◌, drop, length, reverse, List, ℕ}
use Rattle.std.specs.Prelude.{option_map}
use Rattle.heex_token.specs.declared.scan.Scan.{Scan}
use Rattle.heex_token.specs.Tokens.{closing, to_brace}
use Rattle.heex_token.proofs.scan.to_brace.Given as goal

pub record Going (at : ℕ) (scan : Scan) (rest : List ℕ) : Type 0 where
  pub some : 0 < length scan.openings
  pub same : option_map (λ n. at + n) (closing (reverse scan.openings) scan.before (drop at rest)) ≡ to_brace rest

abbrev pub invariant-loop-at : goal.invariant-loop-at
invariant-loop-at l = Going l.at l.scan l.rest
