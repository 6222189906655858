use Rattle.std.proofs.Common.{◌≡◌, ◌++◌, map, option_map, length}
use Rattle.route_table.specs.Route as spec
use Rattle.route_table.proofs.route.joined.Given as goal

-- the route so far with the segments that are left is the whole
abbrev pub invariant-segments : goal.invariant-segments
invariant-segments l =
    option_map (λ rest. l.route ++ rest) (spec.joined (map (λ s. s.now) l.left)) ≡ spec.joined (map (λ s. s.now) l.segments)

abbrev pub decreases-segments : goal.decreases-segments
decreases-segments l = length l.left
