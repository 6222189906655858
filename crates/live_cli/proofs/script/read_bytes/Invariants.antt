use Rattle.std.proofs.Common.{◌≡◌, ◌≤◌, ◌++◌, ◌+◌, ◌-◌, List, ℕ, Some, length}
use Rattle.std.specs.Option.{IfSome}
use Rattle.live_cli.proofs.script.read_bytes.Given as goal

-- what was read and what is left are what was there
abbrev pub invariant-loop-chunk : goal.invariant-loop-chunk
invariant-loop-chunk g l = record {
  later : g.R.Source.failed l.initial.source ≤ g.R.Source.failed l.source;
  whole : IfSome (g.R.Source.left l.initial.source) (λ all. (rest : List ℕ) × (g.R.Source.left l.source ≡ Some rest) × (all ≡ l.bytes ++ rest));
}

abbrev pub decreases-loop-chunk : goal.decreases-loop-chunk
decreases-loop-chunk g l = 16777217 - length l.bytes
