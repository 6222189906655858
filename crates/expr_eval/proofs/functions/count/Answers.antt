use Rattle.std.proofs.Common.{Ok, sym, ap, ◌∙◌}
use Rattle.value_core.specs.View.{view}
use Rattle.doc_model.specs.Evaluation.{count_of}
use Rattle.expr_eval.proofs.Views.{list_form, map_form, values_counted, assigns_counted}
use Rattle.expr_eval.proofs.functions.count.Goals as goal

pub returns-in-List : goal.returns-in-List
returns-in-List c = ap (λ v. count_of (view v)) c.in-List.is ∙ ap count_of (list_form c.in-List.items) ∙ ap Ok (values_counted c.in-List.items ∙ sym c.len.ensures)

pub returns-in-Map : goal.returns-in-Map
returns-in-Map c = ap (λ v. count_of (view v)) c.in-Map.is ∙ ap count_of (map_form c.in-Map.entries) ∙ ap Ok (assigns_counted c.in-Map.entries ∙ sym c.len-in-Map.ensures)
