use Rattle.std.proofs.Common.{◌≡◌, ◌≤◌, ◌+◌, [], length}
use Rattle.script_core.specs.Script.{lines}
use Rattle.script_core.specs.Reading.{script_from}
use Rattle.script_core.proofs.read.read_lines.Given as goal

abbrev pub invariant-loop-rest : goal.invariant-loop-rest
invariant-loop-rest l = record {
  reads : script_from [] 1 (lines l.text) ≡ script_from l.reader l.number (lines l.rest);
  counts : l.number + length l.rest ≤ 1 + length l.text;
}

abbrev pub decreases-loop-rest : goal.decreases-loop-rest
decreases-loop-rest l = length l.rest
