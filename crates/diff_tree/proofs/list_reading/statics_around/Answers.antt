use Rattle.std.proofs.Common.{rules, arith, ◌≡◌, ◌∙◌, suc, length, ap, Some, true, false}
use Rattle.serde_json.specs.View.{view, items_view}
use Rattle.diff_tree.specs.Parts.{rows_data}
use Rattle.diff_tree.specs.Grammar.{have_length}
use Rattle.diff_tree.proofs.Shapes.{around_rows}
use Rattle.diff_tree.proofs.Taken.{texts_are}
use Rattle.diff_tree.proofs.list_reading.statics_around.Goals as goal

pub returns-then-not-have_length-clause-bad : goal.returns-then-not-have_length-clause-bad
returns-then-not-have_length-clause-bad c bad =
    let js = c.as_slice-items.result.now in
    let found = ap (λ l. Some (items_view l)) c.as_slice-items.ensures.value ∙ c.in-Some.ensures in
    let len : length js ≡ suc c.in-Some-checked_sub.places = search (rules, arith, c.in-Some-checked_sub.ensures) in
    let no : have_length c.in-Some-checked_sub.places (rows_data c.args.rows.now) ≡ false = search (rules, c.have_length.ensures, c.if-not-have_length.true) in
    around_rows (view c.args.statics.now) js (rows_data c.args.rows.now) c.in-Some-checked_sub.places found c.in_ok-texts.ensures.ok.0 len ∙ no

pub returns-clause-ok : goal.returns-clause-ok
returns-clause-ok c =
    let js = c.as_slice-items.result.now in
    let found = ap (λ l. Some (items_view l)) c.as_slice-items.ensures.value ∙ c.in-Some.ensures in
    let len : length js ≡ suc c.in-Some-checked_sub.places = search (rules, arith, c.in-Some-checked_sub.ensures) in
    let fits : have_length c.in-Some-checked_sub.places (rows_data c.args.rows.now) ≡ true = search (rules, c.have_length.ensures, c.if-not-have_length.false) in
    (around_rows (view c.args.statics.now) js (rows_data c.args.rows.now) c.in-Some-checked_sub.places found c.in_ok-texts.ensures.ok.0 len ∙ fits, texts_are (view c.args.statics.now) js c.in_ok-texts.texts found c.in_ok-texts.ensures.ok.1)
