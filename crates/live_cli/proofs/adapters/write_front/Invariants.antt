use Rattle.std.proofs.Common.{◌≤◌, length}
use Rattle.live_cli.proofs.adapters.write_front.Given as goal

abbrev pub invariant-loop : goal.invariant-loop
invariant-loop g l = l.sent ≤ length l.piece
