use Rattle.std.proofs.Common.{◌≡◌, drop}
use Rattle.ast_core.specs.NodeView.{nodes_view}
use Rattle.template_reader.specs.Reading.{reads_streams}
use Rattle.template_reader.proofs.template.reads_streams.Given as goal

abbrev pub invariant-nodes : goal.invariant-nodes
invariant-nodes l = reads_streams (nodes_view l.node-items) ≡ reads_streams (nodes_view (drop l.node-index l.node-items))
