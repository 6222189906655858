use Rattle.std.proofs.Common.{◌≡◌, take}
use Rattle.doc_model.specs.Environment.{lookup}
use Rattle.expr_eval.specs.Variables.{variables_view}
use Rattle.diff_render.specs.Tracked.{scopes_before}
use Rattle.diff_render.proofs.scope.Tracking.old.Given as goal

-- the scopes so far did not bind the name
abbrev pub invariant-scopes : goal.invariant-scopes
invariant-scopes l = lookup l.name (variables_view (scopes_before l.notes l.scopes)) ≡ lookup l.name (variables_view (take l.i (scopes_before l.notes l.scopes)))
