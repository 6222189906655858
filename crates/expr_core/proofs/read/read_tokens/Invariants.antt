use Rattle.std.proofs.Common.{◌≡◌, ◌-◌, length, drop}
use Rattle.expr_core.specs.Outcome.{outcome, outcome_of}
use Rattle.expr_core.specs.Machine.{expr_reader}
use Rattle.expr_core.specs.Seen.{seen, state_of}
use Rattle.expr_core.specs.Gives.{spelled}
use Rattle.expr_core.proofs.read.read_tokens.Given as goal

abbrev pub invariant-each : goal.invariant-each
invariant-each l = outcome expr_reader (spelled (drop l.at l.tokens)) l.at (state_of l.mode (seen l.frames)) ≡ outcome_of expr_reader (spelled l.tokens)

abbrev pub decreases-each : goal.decreases-each
decreases-each l = length l.tokens - l.at
