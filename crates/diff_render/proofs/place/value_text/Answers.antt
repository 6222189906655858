use Rattle.std.proofs.Common.{◌≡◌, None, ap, rules}
use Rattle.value_core.specs.Print.{text_of_value}
use Rattle.value_core.specs.View.{view}
use Rattle.value_core.specs.declared.raise.Raise.TheVariants.{NotPrintable}
use Rattle.text_core.specs.Escape.{escape_text}
use Rattle.doc_model.specs.Evaluation.{on_res, or_raise}
use Rattle.diff_render.proofs.place.value_text.Goals as goal

pub returns-in-Err-NotPrintable : goal.returns-in-Err-NotPrintable
returns-in-Err-NotPrintable c =
    let none : text_of_value (view c.args.value.now) ≡ None = search rules in
    (NotPrintable, ap (λ o. on_res escape_text (or_raise o NotPrintable)) none)
