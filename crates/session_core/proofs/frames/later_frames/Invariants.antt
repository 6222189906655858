use Rattle.std.proofs.Common.{◌≡◌, ◌++◌, drop}
use Rattle.session_core.specs.Machine.{journal_frames}
use Rattle.session_core.proofs.frames.later_frames.Given as goal

abbrev pub invariant-loop-entry : goal.invariant-loop-entry
invariant-loop-entry l = drop l.from (journal_frames l.journal) ≡ l.found ++ drop l.skipped (journal_frames (drop l.entry-index l.journal))
