use Rattle.std.proofs.Common.{◌≡◌, ℕ, ◌≤◌, length}
use Rattle.expr_core.specs.Machine as machine
use Rattle.expr_core.specs.Seen.{value_view, seen}
use Rattle.expr_core.specs.Gathers.{gathered_view}
use Rattle.expr_core.proofs.chain.gather.Given as goal

abbrev pub invariant-each : goal.invariant-each
invariant-each l = record {
  same : (n : ℕ) → n ≤ 7 → machine.reduce n (machine.both l.fn.op (value_view l.fn.left) (value_view l.fn.right)) (seen l.fn.frames) ≡ machine.reduce n (gathered_view l.gathered) (seen l.frames);
  fewer : length l.frames ≤ length l.fn.frames;
}

abbrev pub decreases-each : goal.decreases-each
decreases-each l = length l.frames
