use Rattle.std.proofs.Common.{◌≡◌, ◌-◌, length, drop}
use Rattle.std.specs.List.{AllByRecursion}
use Rattle.expr_core.specs.Outcome.{outcome, outcome_of}
use Rattle.expr_core.specs.PatternMachine.{pattern_reader}
use Rattle.expr_core.specs.SeenPattern.{piled, state_of, IsPlain}
use Rattle.expr_core.specs.Gives.{spelled}
use Rattle.expr_core.proofs.pattern_read.read_pattern_tokens.Given as goal

abbrev pub invariant-each : goal.invariant-each
invariant-each l = record {
  same : outcome pattern_reader (spelled (drop l.at l.tokens)) l.at (state_of l.mode l.names (piled l.frames)) ≡ outcome_of pattern_reader (spelled l.tokens);
  plain : AllByRecursion IsPlain (spelled (drop l.at l.tokens));
}

abbrev pub decreases-each : goal.decreases-each
decreases-each l = length l.tokens - l.at
