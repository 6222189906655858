use Rattle.std.proofs.Common.{◌≡◌, true, Some, option_map, sym, ap, ◌∙◌, true≢false}
use Rattle.ast_core.specs.Places.{cut}
use Rattle.diff_tree.specs.Spelling.{change_json}
use Rattle.slot_compile.specs.Numbering.{node_at}
use Rattle.slot_compile.specs.Template.{syntax_of}
use Rattle.diff_render.specs.Again.{has_rows}
use Rattle.diff_render.proofs.Puts.{node_seen}
use Rattle.diff_render.proofs.Sent.{change_again, rows_change_seen, some_rows_seen}
use Rattle.diff_render.proofs.whole.Whole.rows_change.Goals as goal

pub returns-in-true-false : goal.returns-in-true-false
returns-in-true-false c old rs had h =
    let was : has_rows old ≡ true = sym had ∙ c.in-true-false.is-0 in
    let some = some_rows_seen c.args.rows rs (λ e. true≢false (sym (c.in-true-false.ensures.1 e))) h in
    ap Some (node_seen c.list.result ∙ c.list.ensures.data ∙ rows_change_seen c.args.rows rs h)
    ∙ sym (ap (option_map change_json) (change_again (cut (node_at (syntax_of c.args.self.compiled.now) c.args.body)) old rs was some))
