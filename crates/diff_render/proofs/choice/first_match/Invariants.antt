use Rattle.std.proofs.Common.{take}
use Rattle.value_core.specs.View.{view}
use Rattle.diff_render.specs.Taken.{NoneMatches}
use Rattle.diff_render.proofs.choice.first_match.Given as goal

-- no clause so far matches
abbrev pub invariant-clauses : goal.invariant-clauses
invariant-clauses l = NoneMatches (view l.value) (take l.i l.clauses)
