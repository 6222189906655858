use Rattle.std.proofs.Common.{◌≡◌, ◌++◌, take, drop, map, true}
use Rattle.text_core.specs.Keyed.{on_value, keys, ascend}
use Rattle.value_core.specs.View.{view}
use Rattle.value_core.proofs.copying.+copy.Given as goal

-- what was copied so far, and that the keys go on in order
abbrev pub invariant-copy_assigns-loop-entry : goal.invariant-copy_assigns-loop-entry
invariant-copy_assigns-loop-entry l = record {
  copied : map (on_value view) l.copies ≡ map (on_value view) (take l.entry-index l.entry-items);
  in_order : ascend (keys l.copies ++ keys (drop l.entry-index l.entry-items)) ≡ true;
}

abbrev pub invariant-copy_values-loop-item : goal.invariant-copy_values-loop-item
invariant-copy_values-loop-item l = map view l.copies ≡ map view (take l.item-index l.item-items)
