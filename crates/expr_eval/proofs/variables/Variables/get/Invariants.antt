use Rattle.std.proofs.Common.{◌≡◌, take}
use Rattle.doc_model.specs.Environment.{lookup}
use Rattle.expr_eval.specs.Variables.{variables_view}
use Rattle.expr_eval.proofs.variables.Variables.get.Given as goal

-- the scopes so far do not bind the name
abbrev pub invariant-scopes : goal.invariant-scopes
invariant-scopes l = lookup l.name (variables_view l.scopes) ≡ lookup l.name (variables_view (take l.i l.scopes))
