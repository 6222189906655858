use Rattle.std.proofs.Common.{◌≡◌, drop}
use Rattle.text_core.specs.Keyed.{lookup}
use Rattle.expr_eval.proofs.variables.value_in.Given as goal

abbrev pub invariant-loop-binding : goal.invariant-loop-binding
invariant-loop-binding l = lookup l.name l.binding-items ≡ lookup l.name (drop l.binding-index l.binding-items)
