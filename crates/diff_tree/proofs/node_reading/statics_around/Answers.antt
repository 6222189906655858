use Rattle.std.proofs.Common.{◌∙◌, sym, ap, Some}
use Rattle.serde_json.specs.View.{view, items_view}
use Rattle.diff_tree.proofs.Taken.{around, texts_are}
use Rattle.diff_tree.proofs.node_reading.statics_around.Goals as goal

pub returns-then-not-branch-clause-bad : goal.returns-then-not-branch-clause-bad
returns-then-not-branch-clause-bad c bad =
    let js = c.as_slice-items.result.now in
    let d = view c.args.value.now in
    let found = ap (λ l. Some (items_view l)) c.as_slice-items.ensures.value ∙ c.in-Some.ensures in
    around (view c.args.statics.now) d js found c.in_ok-texts.ensures.ok.0 ∙ sym c.in_ok-surround.ensures ∙ c.if-not-branch.true

pub returns-clause-ok : goal.returns-clause-ok
returns-clause-ok c =
    let js = c.as_slice-items.result.now in
    let d = view c.args.value.now in
    let found = ap (λ l. Some (items_view l)) c.as_slice-items.ensures.value ∙ c.in-Some.ensures in (
      around (view c.args.statics.now) d js found c.in_ok-texts.ensures.ok.0 ∙ sym c.in_ok-surround.ensures ∙ c.if-not-branch.false,
      texts_are (view c.args.statics.now) js c.in_ok-texts.texts found c.in_ok-texts.ensures.ok.1,
    )
