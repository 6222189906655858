use Rattle.std.proofs.Common.{sym, subst}
use Rattle.ast_core.specs.ExprView.{expr_view}
use Rattle.ast_core.specs.Free.{free_names}
use Rattle.slot_compile.specs.Numbering.{ReadsRight, place_in}
use Rattle.slot_compile.specs.Template.{syntax_of}
use Rattle.slot_compile.specs.declared.compiled.Dynamic.TheVariants.{For}
use Rattle.diff_render.specs.Again.{deciding}
use Rattle.diff_render.specs.Tracked.{AreChanged}
use Rattle.diff_render.proofs.Deciding.{names_decide}
use Rattle.diff_render.proofs.lean.Lean.is_changed.Goals as goal

pub returns-in-For : goal.returns-in-For
returns-in-For c =
    let s = syntax_of c.args.self.compiled.now in
    let d = For c.in-For.list c.in-For.pattern c.in-For.reads c.in-For.body in
    let right = subst (ReadsRight s) c.in-For.is c.requires in
    subst (λ x. AreChanged c.args.self.assigns.now c.args.tracking.now (deciding (place_in s x)) c.is_changed.result) (sym c.in-For.is) (c.is_changed.ensures (deciding (place_in s d)) right.0 right.1)

pub returns-in-Put : goal.returns-in-Put
returns-in-Put c =
    let s = syntax_of c.args.self.compiled.now in
    let given = c.is_changed-in-Put.ensures (free_names (expr_view c.in-Put.value)) c.reads.ensures.assigns c.reads.ensures.variables in
    subst (λ ns. AreChanged c.args.self.assigns.now c.args.tracking.now ns c.is_changed-in-Put.result) (names_decide s c.args.dynamic.now c.in-Put.value c.in-Put.is) given
