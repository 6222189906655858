use Rattle.std.proofs.Common.{◌≡◌, ◌++◌, take}
use Rattle.session_core.proofs.frames.push_frames.Given as goal

abbrev pub invariant-loop-frame : goal.invariant-loop-frame
invariant-loop-frame l = l.found ≡ l.initial.found ++ take l.frame-index l.frames
