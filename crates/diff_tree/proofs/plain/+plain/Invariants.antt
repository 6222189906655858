use Rattle.std.proofs.Common.{◌≡◌, drop}
use Rattle.serde_json.specs.View.{items_view, members_view}
use Rattle.serde_json.specs.Written.{items_have_float, members_have_float}
use Rattle.diff_tree.specs.Plain.{items_are_plain, members_are_plain}
use Rattle.diff_tree.proofs.plain.+plain.Given as goal

abbrev pub invariant-items_are_plain-items : goal.invariant-items_are_plain-items
invariant-items_are_plain-items l = record {
  plain : items_are_plain (items_view (drop l.item-index l.items.items)) ≡ items_are_plain (items_view l.items.items);
  whole : items_have_float (items_view (drop l.item-index l.items.items)) ≡ items_have_float (items_view l.items.items);
}

abbrev pub invariant-members_are_plain-members : goal.invariant-members_are_plain-members
invariant-members_are_plain-members l = record {
  plain : members_are_plain (members_view l._key-iterator) ≡ members_are_plain (members_view l.members.entries);
  whole : members_have_float (members_view l._key-iterator) ≡ members_have_float (members_view l.members.entries);
}
