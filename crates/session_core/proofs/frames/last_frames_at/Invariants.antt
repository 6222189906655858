use Rattle.std.proofs.Common.{◌≡◌, ◌+◌, ◌≤◌, drop, length}
use Rattle.session_core.specs.Machine.{journal_frames}
use Rattle.session_core.proofs.frames.last_frames_at.Given as goal

-- the frames from here on, and those that are missing, are so many
abbrev pub invariant-loop-start : goal.invariant-loop-start
invariant-loop-start l = (l.start ≤ length l.journal) × (length (journal_frames (drop l.start l.journal)) + l.missing ≡ l.wanted)

abbrev pub decreases-loop-start : goal.decreases-loop-start
decreases-loop-start l = l.start
