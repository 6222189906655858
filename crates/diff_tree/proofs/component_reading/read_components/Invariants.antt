use Rattle.std.proofs.Common.{◌≡◌}
use Rattle.serde_json.specs.View.{members_view}
use Rattle.diff_tree.specs.Grammar.{are_components}
use Rattle.diff_tree.proofs.Order.{join}
use Rattle.diff_tree.proofs.Pages.{members_in}
use Rattle.diff_tree.proofs.component_reading.read_components.Given as goal

-- the components so far, and then the rest, are the whole
abbrev pub invariant-members : goal.invariant-members
invariant-members l = record {
  so_far : join (members_in l.components) (members_view l.key-iterator) ≡ members_view l.members.entries;
  are : are_components (members_view l.key-iterator) ≡ are_components (members_view l.members.entries);
}
