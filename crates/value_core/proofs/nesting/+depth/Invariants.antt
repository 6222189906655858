use Rattle.std.proofs.Common.{◌≡◌, ◌-◌, ◌^◌, drop, min, max}
use Rattle.value_core.specs.Nesting.{values_depth, assigns_depth}
use Rattle.value_core.specs.View.{values_view, assigns_view}
use Rattle.value_core.proofs.nesting.+depth.Given as goal

-- the greater of what was seen and of what is left
abbrev pub invariant-depth_of_items-loop-item : goal.invariant-depth_of_items-loop-item
invariant-depth_of_items-loop-item l =
    max l.deepest (min (values_depth (values_view (drop l.item-index l.item-items))) (2 ^ 32 - 1)) ≡ min (values_depth (values_view l.item-items)) (2 ^ 32 - 1)

abbrev pub invariant-depth_of_entries-loop-entry : goal.invariant-depth_of_entries-loop-entry
invariant-depth_of_entries-loop-entry l =
    max l.deepest (min (assigns_depth (assigns_view (drop l.entry-index l.entry-items))) (2 ^ 32 - 1)) ≡ min (assigns_depth (assigns_view l.entry-items)) (2 ^ 32 - 1)
