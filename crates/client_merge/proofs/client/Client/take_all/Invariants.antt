use Rattle.std.proofs.Common.{◌≡◌, ℕ, List, ◌++◌, take}
use Rattle.client_merge.specs.Frames.{client_reads_all}
use Rattle.client_merge.specs.Page.{tree_held}
use Rattle.client_merge.proofs.client.Client.take_all.Given as goal

abbrev pub invariant-frames : goal.invariant-frames
invariant-frames l = (rest : List (List ℕ)) → client_reads_all (tree_held l.initial.self) (take l.frame-index l.frames ++ rest) ≡ client_reads_all (tree_held l.self) rest
