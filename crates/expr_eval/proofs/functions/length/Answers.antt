use Rattle.std.proofs.Common.{Ok, pos, sym, ap, ◌∙◌}
use Rattle.value_core.specs.Value.{whole_number}
use Rattle.value_core.specs.View.{view}
use Rattle.ast_core.specs.declared.operators.Function.TheVariants as function
use Rattle.doc_model.specs.Evaluation.{call_one}
use Rattle.expr_eval.proofs.Results.{gives_as}
use Rattle.expr_eval.proofs.Views.{list_form, values_counted}
use Rattle.expr_eval.proofs.functions.length.Goals as goal

pub returns-in-List : goal.returns-in-List
returns-in-List c =
    gives_as view c.number_of.result (call_one function.Length (view c.args.value.now)) (Ok (whole_number (pos c.len.result)))
    (ap (λ v. call_one function.Length (view v)) c.in-List.is ∙ ap (call_one function.Length) (list_form c.in-List.items)
    ∙ ap (λ n. Ok (whole_number (pos n))) (values_counted c.in-List.items ∙ sym c.len.ensures))
    c.number_of.ensures
