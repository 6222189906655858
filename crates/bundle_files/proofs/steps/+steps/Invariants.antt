use Rattle.std.proofs.Common.{◌≡◌, ◌++◌, drop, map, option_map}
use Rattle.serde_json.specs.View.{items_view}
use Rattle.bundle_files.specs.StepsView.{step_view, steps_view}
use Rattle.bundle_files.specs.StepReading.{steps_in, lists_in}
use Rattle.bundle_files.proofs.Listed.{add_steps}
use Rattle.bundle_files.proofs.steps.+steps.Given as goal

-- what was read so far, and then what the rest gives, is the whole
abbrev pub invariant-steps_in-items : goal.invariant-steps_in-items
invariant-steps_in-items l = option_map (add_steps (map step_view l.steps)) (steps_in (items_view (drop l.item-index l.item-items))) ≡ steps_in (items_view l.item-items)

abbrev pub invariant-lists_in-items : goal.invariant-lists_in-items
invariant-lists_in-items l = map (option_map steps_view) l.lists ++ lists_in (items_view (drop l.item-index l.item-items)) ≡ lists_in (items_view l.item-items)
