use Rattle.std.proofs.Common.{Some, None, sym, ap, ◌∙◌, arith}
use Rattle.std.specs.Option.{option_copied}
use Rattle.text_core.specs.Keyed as keyed
use Rattle.doc_model.specs.Environment.{lookup}
use Rattle.expr_eval.specs.Variables.{variables_view}
use Rattle.expr_eval.proofs.Scopes.{found_before}
use Rattle.expr_eval.proofs.variables.Variables.get.Goals as goal

pub returns-in-Some : goal.returns-in-Some
returns-in-Some c =
    let name = c.args.name.now in
    sym (found_before name c.as_slice-scopes.result.now c.scopes.i c.index-scopes-i.result (Some c.in-Some.value.now) (omega arith) (omega arith) c.index-scopes-i.is
    (sym (ap option_copied c.in-Some.is) ∙ c.value_in.ensures))
    ∙ sym c.scopes.invariant ∙ ap (λ ss. lookup name (variables_view ss)) c.as_slice-scopes.ensures

pub scopes-preserved : goal.scopes-preserved
scopes-preserved c =
    let name = c.args.name.now in
    c.scopes.invariant
    ∙ found_before name c.as_slice-scopes.result.now c.scopes.i c.index-scopes-i.result None (omega arith) (omega arith) c.index-scopes-i.is
    (sym (ap option_copied c.in_default.is) ∙ c.value_in.ensures)
