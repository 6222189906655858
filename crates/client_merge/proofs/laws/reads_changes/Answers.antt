use Rattle.std.proofs.Common.{◌≡◌, Some}
use Rattle.diff_tree.specs.Tree.{inner, merge_changes}
use Rattle.client_merge.proofs.Changes.{holds}
use Rattle.client_merge.proofs.JsonBack.{trimmed, change_reads, trim_merges}
use Rattle.client_merge.proofs.laws.reads_changes.Goals as goal

pub returns : goal.returns
returns c = λ cs fits small. (trimmed cs, change_reads (inner cs) (fits, small), λ ts us is. holds (merge_changes ts cs) (λ vs. merge_changes ts (trimmed cs) ≡ Some vs) us (trim_merges cs ts) is)
