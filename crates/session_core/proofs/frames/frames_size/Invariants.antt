use Rattle.std.proofs.Common.{◌≡◌, ◌+◌, ◌≤◌, min, drop}
use Rattle.doc_model.specs.Journal.{total_length}
use Rattle.session_core.proofs.frames.frames_size.Given as goal

abbrev pub invariant-loop-frame : goal.invariant-loop-frame
invariant-loop-frame l =
    (min (total_length l.frames) 18446744073709551615 ≡ min (l.size + total_length (drop l.frame-index l.frames)) 18446744073709551615)
    × (l.size ≤ 18446744073709551615)
