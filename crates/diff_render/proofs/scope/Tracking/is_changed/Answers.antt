use Rattle.std.proofs.Common.{ap, ◌∙◌}
use Rattle.std.specs.List.{list_any}
use Rattle.diff_render.specs.Tracked.{variable_differs}
use Rattle.diff_render.proofs.Changed.{assign_changed, assign_differs, variable_decides}
use Rattle.diff_render.proofs.scope.Tracking.is_changed.Goals as goal

pub returns-then-any_assign : goal.returns-then-any_assign
returns-then-any_assign c names assigns variables =
    let t = c.args.assigns.now in
    let reads = c.args.reads.now in
    assign_changed t c.args.self.now names reads.assigns reads.variables c.any_assign.result assigns variables (c.any_assign.ensures ∙ ap (list_any (assign_differs t)) c.as_slice.ensures) c.if-any_assign.true

pub returns-else-any_assign : goal.returns-else-any_assign
returns-else-any_assign c names assigns variables =
    let t = c.args.assigns.now in
    let tr = c.args.self.now in
    let reads = c.args.reads.now in
    variable_decides t tr names reads.assigns reads.variables c.any_assign.result c.any_variable.result assigns variables (c.any_assign.ensures ∙ ap (list_any (assign_differs t)) c.as_slice.ensures) c.if-any_assign.false
    (c.any_variable.ensures ∙ ap (list_any (variable_differs tr)) c.as_slice-else-any_assign.ensures)
