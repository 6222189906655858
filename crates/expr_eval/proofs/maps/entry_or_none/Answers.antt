use Rattle.std.proofs.Common.{Ok, option_map, sym, ap, ◌∙◌}
use Rattle.value_core.specs.View.{view, assigns_view}
use Rattle.doc_model.specs.Environment.{lookup}
use Rattle.doc_model.specs.Evaluation.{on_res}
use Rattle.expr_eval.proofs.Views.{lookup_seen}
use Rattle.expr_eval.proofs.maps.entry_or_none.Goals as goal

pub returns-in-Some : goal.returns-in-Some
returns-in-Some c =
    ap (on_res (λ k. lookup k (assigns_view c.args.entries.now))) (sym c.in-Some.ensures)
    ∙ ap Ok (sym (lookup_seen c.in-Some.key.now c.args.entries.now) ∙ ap (option_map view) (sym c.get.ensures))
