use Rattle.std.proofs.Common.{◌≡◌, ◌++◌, ◌∷◌, ◌+◌, drop, map, ◌∙◌, sym, ap, subst, true}
use Rattle.text_core.specs.Keyed.{on_value, keys, ascend}
use Rattle.value_core.specs.Value as model
use Rattle.value_core.specs.View.{view, assigns_view}
use Rattle.value_core.proofs.Order.{next_key, goes_last, goes_on}
use Rattle.value_core.proofs.Views.{view-Slot, copies_on}
use Rattle.value_core.proofs.copying.+copy.Goals as goal

pub copy-returns-in_ok-copy_assigns-in-Slot-2 : goal.copy-returns-in_ok-copy_assigns-in-Slot-2
copy-returns-in_ok-copy_assigns-in-Slot-2 t c =
    view-Slot _ _ _
    ∙ ap (λ n. model.slot c.in-Slot.slot.body n (assigns_view c.in_ok-copy_assigns-in-Slot-2.field-0)) c.in_ok-copy_assigns-in-Slot.ensures
    ∙ ap (λ v. model.slot c.in-Slot.slot.body (assigns_view c.in-Slot.slot.names) v) c.in_ok-copy_assigns-in-Slot-2.ensures
    ∙ sym (view-Slot _ _ _) ∙ ap view (sym c.in-Slot.is)

pub copy_assigns-push_last-requires : goal.copy_assigns-push_last-requires
copy_assigns-push_last-requires t c =
    goes_last c.loop-entry.copies c.in_ok-copy.field-0 c.in_ok-copy-2.field-0 (keys (drop (c.loop-entry.entry-index + 1) c.as_slice-entry-items.result.now))
    (next_key c.loop-entry.copies c.as_slice-entry-items.result.now c.loop-entry.entry-index c.entry-item.result c.in_ok-copy.field-0
    c.loop-entry-test.true c.entry-item.is c.in_ok-copy.ensures c.loop-entry.invariant.in_order)

pub copy_assigns-loop-entry-preserved : goal.copy_assigns-loop-entry-preserved
copy_assigns-loop-entry-preserved t c = record {
  copied = ap (map (on_value view)) c.in_ok-push_last.ensures.ok
      ∙ copies_on c.loop-entry.copies c.as_slice-entry-items.result.now c.loop-entry.entry-index c.entry-item.result c.in_ok-copy.field-0 c.in_ok-copy-2.field-0
      c.loop-entry-test.true c.entry-item.is c.in_ok-copy.ensures c.in_ok-copy-2.ensures c.loop-entry.invariant.copied;
  in_order = ap (λ l. ascend (keys l ++ keys (drop (c.loop-entry.entry-index + 1) c.as_slice-entry-items.result.now))) c.in_ok-push_last.ensures.ok
      ∙ goes_on c.loop-entry.copies c.in_ok-copy.field-0 c.in_ok-copy-2.field-0 (keys (drop (c.loop-entry.entry-index + 1) c.as_slice-entry-items.result.now))
      (next_key c.loop-entry.copies c.as_slice-entry-items.result.now c.loop-entry.entry-index c.entry-item.result c.in_ok-copy.field-0
      c.loop-entry-test.true c.entry-item.is c.in_ok-copy.ensures c.loop-entry.invariant.in_order);
}
