use Rattle.std.proofs.Common.{◌≡◌, drop}
use Rattle.value_core.specs.View.{values_view, assigns_view}
use Rattle.doc_model.specs.Calls.{have_slot, hold_slot}
use Rattle.effects_apply.proofs.judge.+slot.Given as goal

-- no slot was met so far
abbrev pub invariant-entries_hold_slot-entries : goal.invariant-entries_hold_slot-entries
invariant-entries_hold_slot-entries l = hold_slot (assigns_view (drop l.entry-index l.entry-items)) ≡ hold_slot (assigns_view l.entry-items)

abbrev pub invariant-items_hold_slot-items : goal.invariant-items_hold_slot-items
invariant-items_hold_slot-items l = have_slot (values_view (drop l.item-index l.item-items)) ≡ have_slot (values_view l.item-items)
