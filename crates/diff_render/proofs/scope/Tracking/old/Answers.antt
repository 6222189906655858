use Rattle.std.proofs.Common.{Some, None, sym, ap, ◌∙◌, arith, rules}
use Rattle.std.specs.Option.{option_copied}
use Rattle.text_core.specs.Keyed as keyed
use Rattle.doc_model.specs.Environment.{lookup}
use Rattle.expr_eval.specs.Variables.{variables_view}
use Rattle.diff_render.specs.Tracked.{scopes_before}
use Rattle.diff_render.proofs.Before.{all_before, found_outside}
use Rattle.diff_render.proofs.scope.Tracking.old.Goals as goal

pub scopes-init : goal.scopes-init
scopes-init c =
    let name = c.args.name.now in
    sym (ap (λ ss. lookup name (variables_view ss)) (all_before c.as_slice-notes.result.now c.scopes-scopes.result.now c.min-i.result c.min-i.ensures))

pub returns-in-Some : goal.returns-in-Some
returns-in-Some c =
    let name = c.args.name.now in
    let os = c.as_slice-notes.result.now in
    let ss = c.scopes-scopes.result.now in
    let at = sym (ap option_copied c.in-Some.is) ∙ c.value_in.ensures ∙ ap (keyed.lookup name) c.bound_before.ensures in
    sym (found_outside name os ss c.scopes.i c.index-notes-i.result c.index-scopes-i.result (Some c.in-Some.value.now) (omega arith) (search rules) (search rules) c.index-notes-i.is c.index-scopes-i.is at)
    ∙ sym c.scopes.invariant
    ∙ ap (λ l. lookup name (variables_view (scopes_before l ss))) c.as_slice-notes.ensures
    ∙ ap (λ l. lookup name (variables_view (scopes_before c.args.self.now.before l))) c.scopes-scopes.ensures

pub scopes-preserved : goal.scopes-preserved
scopes-preserved c =
    let name = c.args.name.now in
    let os = c.as_slice-notes.result.now in
    let ss = c.scopes-scopes.result.now in
    let at = sym (ap option_copied c.in_default.is) ∙ c.value_in.ensures ∙ ap (keyed.lookup name) c.bound_before.ensures in
    c.scopes.invariant ∙ found_outside name os ss c.scopes.i c.index-notes-i.result c.index-scopes-i.result None (omega arith) (search rules) (search rules) c.index-notes-i.is c.index-scopes-i.is at
