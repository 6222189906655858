use Rattle.std.proofs.Common.{rules}
use Rattle.diff_render.proofs.Pages.{next_fault, next_told}
use Rattle.diff_render.proofs.render.next.Goals as goal

pub returns-in_err-changes : goal.returns-in_err-changes
returns-in_err-changes c before old settled meets recalls =
    let h = next_fault c.args.compiled.now c.args.assigns.now c.new-tracking.result c.args.prints before old c.new-tracking.ensures.variables c.new-tracking.ensures.before c.places_are_plain.ensures settled meets recalls c.in_err-changes.field-0.0 c.in_err-changes.ensures.changes in
    search (rules, h)

pub returns : goal.returns
returns c before old settled meets recalls =
    next_told c.args.compiled.now c.args.assigns.now c.new-tracking.result c.args.prints before old c.new-tracking.ensures.variables c.new-tracking.ensures.before c.places_are_plain.ensures settled meets recalls
    c.in_ok-changes.changes c.in_ok-changes.prints c.in_ok-places.places c.new.result c.in_ok-changes.ensures.changes c.in_ok-places.ensures c.new.ensures.data
