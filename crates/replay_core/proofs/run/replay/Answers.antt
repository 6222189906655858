use Rattle.std.proofs.Common.{◌≡◌, ◌≤◌, [], ◌++◌, List, ℕ, Option, Some, None, refl, sym, ap, ◌∙◌, arith}
use Rattle.std.specs.Arc.{arc_value}
use Rattle.replay_core.specs.Output.{output_from}
use Rattle.replay_core.proofs.Runs.{Written, more, begins, front_so_far, front_failed, rose_later, all_written}
use Rattle.replay_core.proofs.run.replay.Goals as goal

pub loop-line-init : goal.loop-line-init
loop-line-init g c = record {
  later = omega arith;
  written = begins g.V.Views.meaning (arc_value c.args.app.now) c.args.script.now (g.S.Sink.written c.args.out.now) c.new-board.result c.as_slice-line-items.result.now c.new-board.ensures c.as_slice-line-items.ensures;
}

pub loop-line-preserved : goal.loop-line-preserved
loop-line-preserved g c = record {
  later = let w = rw c.in-Whole.is at c.say.ensures.cause in omega (arith, c.loop-line.invariant.later, w);
  written = more g.V.Views.meaning (arc_value c.args.app.now) c.args.script.now (g.S.Sink.written c.args.out.now) (g.S.Sink.written c.loop-line.out) (g.S.Sink.written c.say.new.out) c.loop-line.board c.play.new.board c.as_slice-line-items.result.now c.loop-line.line-index c.line-item.result c.in-Ok.text
      c.loop-line-test.true c.line-item.is c.in-Ok.ensures.board c.in-Ok.ensures.text (rw c.in-Whole.is at c.say.ensures.bytes) c.loop-line.invariant.written;
}

pub returns-in-Err : goal.returns-in-Err
returns-in-Err g c = front_so_far g.V.Views.meaning (arc_value c.args.app.now) c.args.script.now (g.S.Sink.written c.args.out.now) (g.S.Sink.written c.loop-line.out) c.loop-line.board _ c.loop-line.invariant.written

pub returns-in-Failed : goal.returns-in-Failed
returns-in-Failed g c = (
  rose_later (g.S.Sink.failed c.args.out.now) (g.S.Sink.failed c.loop-line.out) (g.S.Sink.failed c.say.new.out) c.loop-line.invariant.later (rw c.in-Failed.is at c.say.ensures.cause).1,
  front_failed g.V.Views.meaning (arc_value c.args.app.now) c.args.script.now (g.S.Sink.written c.args.out.now) (g.S.Sink.written c.loop-line.out) (g.S.Sink.written c.say.new.out) c.loop-line.board c.as_slice-line-items.result.now c.loop-line.line-index c.line-item.result c.in-Ok.text c.in-Failed.field-0
      c.loop-line-test.true c.line-item.is c.in-Ok.ensures.text (rw c.in-Failed.is at c.say.ensures.bytes) c.loop-line.invariant.written,
)

pub returns : goal.returns
returns g c = all_written g.V.Views.meaning (arc_value c.args.app.now) c.args.script.now (g.S.Sink.written c.args.out.now) (g.S.Sink.written c.loop-line.out) c.loop-line.board c.as_slice-line-items.result.now c.loop-line.line-index c.loop-line-test.false c.loop-line.invariant.written
