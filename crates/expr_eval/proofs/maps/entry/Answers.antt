use Rattle.std.proofs.Common.{sym, ap, ◌∙◌, option_map}
use Rattle.value_core.specs.View.{view}
use Rattle.value_core.specs.declared.raise.Raise.TheVariants.{NoKey}
use Rattle.doc_model.specs.Evaluation.{or_raise}
use Rattle.expr_eval.proofs.Views.{lookup_seen}
use Rattle.expr_eval.proofs.maps.entry.Goals as goal

pub returns-in-Some : goal.returns-in-Some
returns-in-Some c = ap (λ m. or_raise m NoKey) (sym (lookup_seen c.args.key.now c.args.entries.now)) ∙ ap (λ o. or_raise (option_map view o) NoKey) (sym c.in-Some.ensures)

pub returns-in-None : goal.returns-in-None
returns-in-None c = ap (λ m. or_raise m NoKey) (sym (lookup_seen c.args.key.now c.args.entries.now)) ∙ ap (λ o. or_raise (option_map view o) NoKey) (sym c.in-None.ensures)
