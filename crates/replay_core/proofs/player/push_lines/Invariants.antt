use Rattle.std.proofs.Common.{◌≡◌, ◌++◌, drop}
use Rattle.replay_core.specs.Player.{frame_lines}
use Rattle.replay_core.proofs.player.push_lines.Given as goal

abbrev pub invariant-loop-frame : goal.invariant-loop-frame
invariant-loop-frame l = l.initial.out ++ frame_lines l.frames ≡ l.out ++ frame_lines (drop l.frame-index l.frames)
