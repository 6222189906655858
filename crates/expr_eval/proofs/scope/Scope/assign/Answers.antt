use Rattle.std.proofs.Common.{Some, None, option_map, sym, ap, ◌∙◌}
use Rattle.value_core.specs.View.{view, assigns_view}
use Rattle.expr_eval.proofs.Views.{lookup_seen, over_seen}
use Rattle.expr_eval.proofs.scope.Scope.assign.Goals as goal

pub returns-in-Some : goal.returns-in-Some
returns-in-Some c = sym (over_seen c.args.key.now c.args.self.given.now (assigns_view c.args.self.assigns.now) (Some c.in-Some.value.now) c.in-Some.ensures)

pub returns-in-None : goal.returns-in-None
returns-in-None c =
    ap (option_map view) c.get-in-None.ensures ∙ lookup_seen c.args.key.now c.args.self.assigns.now
    ∙ sym (over_seen c.args.key.now c.args.self.given.now (assigns_view c.args.self.assigns.now) None c.in-None.ensures)
