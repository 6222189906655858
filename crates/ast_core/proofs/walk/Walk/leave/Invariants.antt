use Rattle.std.proofs.Common.{◌≡◌, ◌≤◌, length}
use Rattle.ast_core.specs.Walk.{outside}
use Rattle.ast_core.proofs.walk.Walk.leave.Given as goal

abbrev pub invariant-inner : goal.invariant-inner
invariant-inner l = (l.count ≤ length l.self.bound) × (outside l.count l.self ≡ outside l.count l.initial.self)

abbrev pub decreases-inner : goal.decreases-inner
decreases-inner l = length l.self.bound
