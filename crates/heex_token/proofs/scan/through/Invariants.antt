use Rattle.std.proofs.Common.{◌≡◌, ◌+◌, drop}
use Rattle.std.specs.Prelude.{option_map}
use Rattle.heex_token.specs.Tokens.{through}
use Rattle.heex_token.proofs.scan.through.Given as goal

abbrev pub invariant-loop-at : goal.invariant-loop-at
invariant-loop-at l = option_map (λ n. l.at + n) (through l.word (drop l.at l.rest)) ≡ through l.word l.rest
