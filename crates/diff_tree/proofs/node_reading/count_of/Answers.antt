use Rattle.std.proofs.Common.{◌∙◌}
use Rattle.serde_json.specs.View.{view}
use Rattle.diff_tree.proofs.Taken.{counted}
use Rattle.diff_tree.proofs.node_reading.count_of.Goals as goal

pub returns-in-Some : goal.returns-in-Some
returns-in-Some c = c.len.ensures.len ∙ counted (view c.args.value.now) c.in-Some.members.now.entries c.in-Some.ensures
