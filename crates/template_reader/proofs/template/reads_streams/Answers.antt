use Rattle.std.proofs.Common.{sym, ap, ◌∙◌}
use Rattle.ast_core.specs.NodeView.{nodes_view}
use Rattle.template_reader.specs.Reading.{reads_streams}
use Rattle.template_reader.proofs.Streams.{streams_end, streams_found, streams_next}
use Rattle.template_reader.proofs.template.reads_streams.Goals as goal

pub returns-then-branch : goal.returns-then-branch
returns-then-branch c =
    streams_found c.as_slice-node-items.result.now c.nodes.node-index c.node-item.result c.nodes-test.true c.node-item.is
    (sym c.in_ok-node_reads.ensures ∙ c.if-branch.true) c.nodes.invariant
    ∙ ap (λ ns. reads_streams (nodes_view ns)) c.as_slice-node-items.ensures

pub nodes-preserved : goal.nodes-preserved
nodes-preserved c =
    streams_next c.as_slice-node-items.result.now c.nodes.node-index c.node-item.result c.nodes-test.true c.node-item.is
    (sym c.in_ok-node_reads.ensures ∙ c.if-branch.false) c.nodes.invariant

pub returns : goal.returns
returns c =
    streams_end c.as_slice-node-items.result.now c.nodes.node-index c.nodes-test.false c.nodes.invariant
    ∙ ap (λ ns. reads_streams (nodes_view ns)) c.as_slice-node-items.ensures
