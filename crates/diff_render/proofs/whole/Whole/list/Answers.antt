use Rattle.std.proofs.Common.{[], Some, None, sym, ap, ◌∙◌, rules}
use Rattle.ast_core.specs.Places.{cut}
use Rattle.diff_tree.specs.Parts.{list_data}
use Rattle.diff_tree.specs.Spelling.{tree_json}
use Rattle.slot_compile.specs.Numbering.{node_at}
use Rattle.slot_compile.specs.Template.{syntax_of}
use Rattle.diff_render.proofs.Puts.{node_seen}
use Rattle.diff_render.proofs.Sent.{list_seen, rows_left, some_rows_seen, tree_of_rows}
use Rattle.diff_render.proofs.whole.Whole.list.Goals as goal

pub returns : goal.returns
returns c rs h =
    let st = cut (node_at (syntax_of c.args.self.compiled.now) c.args.body) in
    let some = some_rows_seen c.args.rows rs (rows_left c.is_empty.result c.args.rows c.is_empty.ensures c.if-is_empty.false) h in
    node_seen c.list.result ∙ c.list.ensures.data ∙ ap (λ ss. list_data (Some ss) c.args.rows None) (c.in_ok-statics.ensures ∙ c.statics.ensures) ∙ list_seen st c.args.rows rs h ∙ sym (ap tree_json (tree_of_rows st rs some))
