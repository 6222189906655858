use Rattle.std.proofs.Common.{◌≡◌, ◌++◌, ◌≤◌, drop}
use Rattle.std.specs.List.{slice_range}
use Rattle.std.specs.Str.{IsCharBoundary}
use Rattle.text_core.specs.Escape.{escape_text}
use Rattle.text_core.proofs.escape.escaped.Given as goal

-- what stands before `start` is escaped, and from there on no character needs it
abbrev pub invariant-loop-i : goal.invariant-loop-i
invariant-loop-i l = record {
  begun : l.start ≤ l.i;
  boundary : IsCharBoundary l.text l.start;
  so_far : escape_text l.text ≡ l.escaped ++ escape_text (drop l.start l.text);
  plain : escape_text (slice_range l.text l.start l.i) ≡ slice_range l.text l.start l.i;
}
