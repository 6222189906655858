use Rattle.std.proofs.Common.{◌≡◌, ◌++◌, length}
use Rattle.std.specs.Vec.Iter.{into_iter_items, into_iter_len}
use Rattle.process_core.proofs.frames.followed_by.Given as goal

-- the frames so far, and then what is left, are all
abbrev pub invariant-later : goal.invariant-later
invariant-later l =
    (l.frames ++ into_iter_items l.frame-iterator ≡ l.fn.frames ++ l.fn.later)
    × (into_iter_len l.frame-iterator ≡ length (into_iter_items l.frame-iterator))
