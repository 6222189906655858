use Rattle.std.proofs.Common.{◌≡◌, ◌++◌, map, option_map, length}
use Rattle.params_core.specs.Path as spec
use Rattle.params_core.proofs.path.with_parts.Given as goal

-- the path so far with the steps that are left is the whole
abbrev pub invariant-pieces : goal.invariant-pieces
invariant-pieces l =
    option_map (λ steps. l.path ++ steps) (spec.steps_of (map (λ p. p.now) l.left)) ≡ option_map (λ steps. l.fn.path ++ steps) (spec.steps_of (map (λ p. p.now) l.pieces))

abbrev pub decreases-pieces : goal.decreases-pieces
decreases-pieces l = length l.left
