use Rattle.std.proofs.Common.{◌≡◌, ◌≤◌, drop, length}
use Rattle.serde_json.specs.View.{members_view}
use Rattle.diff_tree.specs.Parts.{components_data}
use Rattle.diff_tree.proofs.writing.components_value.Given as goal

-- what comes last was written
abbrev pub invariant-components : goal.invariant-components
invariant-components l = record {
  inside : l.left ≤ length l.components;
  written : members_view l.members.entries ≡ components_data (drop l.left l.components);
}

abbrev pub decreases-components : goal.decreases-components
decreases-components l = l.left
