use Rattle.std.proofs.Common.{◌≡◌, ◌+◌, ◌-◌, ◌<◌, ◌≤◌, ℕ, drop, length, sym, subst, arith}
use Rattle.session_core.specs.Machine.{frames_in, journal_frames}
use Rattle.session_core.proofs.Tail.{begins}
use Rattle.session_core.proofs.frames.last_frames_at.Goals as goal

pub returns-then-count-missing-clause-found : goal.returns-then-count-missing-clause-found
returns-then-count-missing-clause-found c =
    let es = c.args.journal.now in
    let at = c.loop-start.start - 1 in
    let entry = c.index-journal-start.result in
    let next : (c.loop-start.start - 1) + 1 ≡ c.loop-start.start = omega (arith, c.loop-start-test.true) in
    let so_far : length (journal_frames (drop ((c.loop-start.start - 1) + 1) es)) + c.loop-start.missing ≡ c.args.wanted = subst (λ (n : ℕ). length (journal_frames (drop n es)) + c.loop-start.missing ≡ c.args.wanted) (sym next) c.loop-start.invariant.1 in
    let within : c.loop-start.start - 1 < length es = omega (arith, c.loop-start-test.true, c.loop-start.invariant.0) in
    let count : c.count_in-count.result ≡ length (frames_in entry.1) = c.count_in-count.ensures in
    let enough : c.loop-start.missing ≤ length (frames_in entry.1) = omega (arith, count, c.if-count-missing.true) in
    rw count (begins es (c.loop-start.start - 1) entry c.loop-start.missing c.args.wanted within c.index-journal-start.is so_far enough)
