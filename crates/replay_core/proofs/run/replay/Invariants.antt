use Rattle.std.proofs.Common.{◌≤◌, drop}
use Rattle.std.specs.Arc.{arc_value}
use Rattle.replay_core.proofs.Runs.{Written}
use Rattle.replay_core.proofs.run.replay.Given as goal

abbrev pub invariant-loop-line : goal.invariant-loop-line
invariant-loop-line g l = record {
  later : g.S.Sink.failed l.initial.out ≤ g.S.Sink.failed l.out;
  written : Written g.V.Views.meaning (arc_value l.app) l.script (g.S.Sink.written l.initial.out) (g.S.Sink.written l.out) l.board (drop l.line-index l.line-items);
}
