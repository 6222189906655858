use Rattle.std.proofs.Common.{Option, ap}
use Rattle.diff_tree.specs.Tree.{Change}
use Rattle.diff_tree.specs.Client.{and_then}
use Rattle.client_merge.specs.Reading.{written}
use Rattle.client_merge.proofs.JsonBack.{tree_reads}
use Rattle.client_merge.proofs.laws.reads_tree.Goals as goal

pub returns : goal.returns
returns c = λ t small. ap (λ (o : Option Change). and_then o written) (tree_reads t small)
