use Rattle.std.proofs.Common.{◌∙◌, ap}
use Rattle.diff_tree.specs.Tree.{text}
use Rattle.client_merge.specs.Held.{held_trees}
use Rattle.client_merge.proofs.Views.{held-Text, blank_more}
use Rattle.client_merge.proofs.take.blanks.Goals as goal

pub nodes-preserved : goal.nodes-preserved
nodes-preserved c =
    ap held_trees c.in_ok-push.ensures.ok ∙ blank_more c.nodes.counter c.nodes.nodes _ c.nodes.invariant (held-Text _ ∙ ap text c.new.ensures)
