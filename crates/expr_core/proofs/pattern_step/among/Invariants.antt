use Rattle.std.proofs.Common.{◌≡◌, drop}
use Rattle.expr_core.specs.PatternGrammar.{among}
use Rattle.expr_core.proofs.pattern_step.among.Given as goal

abbrev pub invariant-each : goal.invariant-each
invariant-each l = among l.names l.name ≡ among (drop l.other-index l.names) l.name
