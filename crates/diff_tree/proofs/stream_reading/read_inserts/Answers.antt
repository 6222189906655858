use Rattle.std.proofs.Common.{rules, ◌≡◌, ◌==◌, ◌&&◌, ◌∙◌, sym, ap, Some, length, true, false}
use Rattle.serde_json.specs.Data.{array}
use Rattle.serde_json.specs.View.{view, items_view}
use Rattle.diff_tree.specs.Grammar.{are_inserts}
use Rattle.diff_tree.proofs.Order.{both_to}
use Rattle.diff_tree.proofs.Taken.{is_array}
use Rattle.diff_tree.proofs.Shapes.{inserts_here, and_false}
use Rattle.diff_tree.proofs.stream_reading.read_inserts.Goals as goal

pub returns-then-items-rows-clause-bad : goal.returns-then-items-rows-clause-bad
returns-then-items-rows-clause-bad c bad =
    let js = c.as_slice-items.result.now in
    let found = ap (λ l. Some (items_view l)) c.as_slice-items.ensures.value ∙ c.in-Some.ensures in
    let no : (length js == c.args.rows) ≡ false = search (rules, c.if-items-rows.true) in
    inserts_here (view c.args.value.now) js c.args.rows found ∙ ap (λ b. are_inserts (items_view js) && b) no ∙ and_false (are_inserts (items_view js))

pub returns-clause-ok : goal.returns-clause-ok
returns-clause-ok c =
    let js = c.as_slice-items.result.now in
    let found = ap (λ l. Some (items_view l)) c.as_slice-items.ensures.value ∙ c.in-Some.ensures in
    let all : (length js == c.args.rows) ≡ true = search (rules, c.if-items-rows.false) in
    let read = c.in_ok-inserts.ensures.ok in
    (inserts_here (view c.args.value.now) js c.args.rows found ∙ both_to (are_inserts (items_view js)) (length js == c.args.rows) read.0 all, ap array read.1 ∙ sym (is_array (view c.args.value.now) (items_view js) found))
