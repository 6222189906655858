use Rattle.std.proofs.Common.{Ok, sym, ap, ◌∙◌}
use Rattle.value_core.specs.View.{assigns_view}
use Rattle.doc_model.specs.Environment.{lookup}
use Rattle.doc_model.specs.Evaluation.{on_res, is_some}
use Rattle.expr_eval.proofs.Views.{there_seen}
use Rattle.expr_eval.proofs.maps.has_entry.Goals as goal

pub returns-in-Some : goal.returns-in-Some
returns-in-Some c =
    ap (on_res (λ k. is_some (lookup k (assigns_view c.args.entries.now)))) (sym c.in-Some.ensures)
    ∙ ap Ok (there_seen c.in-Some.key.now c.args.entries.now ∙ sym c.contains.ensures)
