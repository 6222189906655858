use Rattle.diff_tree.proofs.Looks.{merge_holds_reached}
use Rattle.diff_tree.proofs.laws.merge_holds_reached.Goals as goal

pub returns : goal.returns
returns c = merge_holds_reached
