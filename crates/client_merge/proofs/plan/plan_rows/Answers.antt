use Rattle.std.proofs.Common.{rules, ◌∙◌, sym, ap, None, option_map, is_some, refl}
use Rattle.diff_tree.specs.Tree.{text, node, list, rows, opened_rows, merge_change}
use Rattle.diff_tree.specs.Parts.{list_data}
use Rattle.client_merge.specs.Reading.{change_of, merge_data}
use Rattle.client_merge.specs.Held.{held_tree, held_trees, held_rows, rows_sent}
use Rattle.client_merge.specs.Planned.{merged}
use Rattle.client_merge.proofs.Views.{held-Text, held-Node, held-List, planned-Rows}
use Rattle.client_merge.proofs.Rows.{list_bare, streamed, rows_merge, rows_are, bare_only}
use Rattle.client_merge.proofs.plan.plan_rows.Goals as goal

pub returns-in_err-refuse_stream-clause-bad : goal.returns-in_err-refuse_stream-clause-bad
returns-in_err-refuse_stream-clause-bad c = λ bad. ap (merged (held_tree c.args.held.now)) (streamed None c.args.rows c.args.stream c.in_err-refuse_stream.ensures.bad)

pub returns-in_err-take_rows-in-List-clause-bad : goal.returns-in_err-take_rows-in-List-clause-bad
returns-in_err-take_rows-in-List-clause-bad c = λ bad.
    let st = c.in-List.statics in
    let rs = c.args.rows in
    ap (λ s. merge_data (held_tree c.args.held.now) (list_data None rs s)) c.in_ok-refuse_stream.ensures.ok
    ∙ ap (λ u. merge_data u (list_data None rs None)) (ap held_tree c.in-List.is ∙ held-List st c.in-List.rows)
    ∙ rows_merge st (held_rows c.in-List.rows) rs
    ∙ ap (λ n. option_map (λ q. list st (opened_rows q)) (rows_sent n rs)) (sym c.len.ensures)
    ∙ ap (option_map (λ q. list st (opened_rows q))) (c.in_err-take_rows-in-List.ensures.bad (search rules))

pub returns-in_ok-take_rows-in-List-clause-ok : goal.returns-in_ok-take_rows-in-List-clause-ok
returns-in_ok-take_rows-in-List-clause-ok c =
    let st = c.in-List.statics in
    let rs = c.args.rows in
    let hs = c.in_ok-take_rows-in-List.field-0 in
    let made = c.in_ok-take_rows-in-List.ensures.ok in
    let sent = ap (λ s. change_of (list_data None rs s)) c.in_ok-refuse_stream.ensures.ok ∙ list_bare rs ∙ ap (option_map rows) (rows_are c.len.result rs (held_rows hs) made) in
    let first = planned-Rows hs ∙ sym sent in (
      first,
      ap (λ o. is_some (merged (held_tree c.args.held.now) o)) first
          ∙ ap is_some (
          ap (λ s. merge_data (held_tree c.args.held.now) (list_data None rs s)) c.in_ok-refuse_stream.ensures.ok
          ∙ ap (λ u. merge_data u (list_data None rs None)) (ap held_tree c.in-List.is ∙ held-List st c.in-List.rows)
          ∙ rows_merge st (held_rows c.in-List.rows) rs
          ∙ ap (λ n. option_map (λ q. list st (opened_rows q)) (rows_sent n rs)) (sym c.len.ensures)
          ∙ ap (option_map (λ q. list st (opened_rows q))) made
          ),
    )

pub returns-in-Text-clause-bad : goal.returns-in-Text-clause-bad
returns-in-Text-clause-bad c = λ bad.
    ap (λ s. merge_data (held_tree c.args.held.now) (list_data None c.args.rows s)) c.in_ok-refuse_stream.ensures.ok
    ∙ ap (λ u. merge_data u (list_data None c.args.rows None)) (ap held_tree c.in-Text.is ∙ held-Text c.in-Text.field-0)
    ∙ bare_only c.args.rows (merge_change (text c.in-Text.field-0)) (λ q. refl)

pub returns-in-Node-clause-bad : goal.returns-in-Node-clause-bad
returns-in-Node-clause-bad c = λ bad.
    ap (λ s. merge_data (held_tree c.args.held.now) (list_data None c.args.rows s)) c.in_ok-refuse_stream.ensures.ok
    ∙ ap (λ u. merge_data u (list_data None c.args.rows None)) (ap held_tree c.in-Node.is ∙ held-Node c.in-Node.statics c.in-Node.places)
    ∙ bare_only c.args.rows (merge_change (node c.in-Node.statics (held_trees c.in-Node.places))) (λ q. refl)
