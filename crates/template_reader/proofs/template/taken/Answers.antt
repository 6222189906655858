use Rattle.std.proofs.Common.{sym, ◌∙◌}
use Rattle.ast_core.specs.NodeView.{nodes_view}
use Rattle.template_reader.proofs.Taking.{compiled_taken, streams_refused}
use Rattle.template_reader.proofs.template.taken.Goals as goal

pub returns-then-branch : goal.returns-then-branch
returns-then-branch c = streams_refused (nodes_view c.args.nodes) (sym c.in_ok-reads_streams.ensures ∙ c.if-branch.true)

pub returns : goal.returns
returns c = compiled_taken c.args.nodes c.compile.result (sym c.in_ok-reads_streams.ensures ∙ c.if-branch.false) c.compile.ensures
