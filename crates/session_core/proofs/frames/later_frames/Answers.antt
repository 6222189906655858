use Rattle.std.proofs.Common.{◌≤◌, length, drop}
use Rattle.session_core.specs.Machine.{frames_in, journal_frames}
use Rattle.session_core.proofs.Later.{skips}
use Rattle.session_core.proofs.frames.later_frames.Goals as goal

pub loop-entry-preserved-then-skipped-frames : goal.loop-entry-preserved-then-skipped-frames
loop-entry-preserved-then-skipped-frames c =
    let entry = c.loop-entry-item.result in
    let most : length (frames_in entry.1) ≤ c.loop-entry.skipped = rw (← c.frames_in-frames.ensures) c.if-skipped-frames.true in
    rw c.frames_in-frames.ensures
    (skips c.args.journal.now c.loop-entry.entry-index entry c.loop-entry.found (drop c.args.from (journal_frames c.args.journal.now)) c.loop-entry.skipped c.loop-entry-test.true c.loop-entry-item.is most c.loop-entry.invariant)
