use Rattle.std.proofs.Common.{◌≡◌, drop}
use Rattle.serde_json.specs.View.{items_view, members_view}
use Rattle.wire_v2.specs.FrameGrammar.{are_whole, items_are_whole}
use Rattle.wire_v2.proofs.wholes.+whole.Given as goal

abbrev pub invariant-are_whole-members : goal.invariant-are_whole-members
invariant-are_whole-members l = are_whole (members_view l._key-iterator) ≡ are_whole (members_view l.members.entries)

abbrev pub invariant-items_are_whole-items : goal.invariant-items_are_whole-items
invariant-items_are_whole-items l = items_are_whole (items_view (drop l.item-index l.items.items)) ≡ items_are_whole (items_view l.items.items)
