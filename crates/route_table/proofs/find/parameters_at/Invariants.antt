use Rattle.std.proofs.Common.{◌≡◌, [], map, fold, length}
use Rattle.std.specs.List.{zip}
use Rattle.text_core.specs.Keyed.{on_value}
use Rattle.value_core.specs.View.{view}
use Rattle.route_table.specs.Found.{with_segment}
use Rattle.route_table.proofs.find.parameters_at.Given as goal

-- the parameters so far with what is left is the whole
abbrev pub invariant-segments : goal.invariant-segments
invariant-segments l =
    fold with_segment (map (on_value view) l.parameters) (zip (map (λ s. s.now) l.left) (map (λ s. s.now) l.parts))
    ≡ fold with_segment [] (zip (map (λ s. s.now) l.fn.segments) (map (λ s. s.now) l.fn.parts))

abbrev pub decreases-segments : goal.decreases-segments
decreases-segments l = length l.left
