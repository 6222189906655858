use Rattle.ast_core.specs.NodeView.{nodes_view}
use Rattle.heex_reader.proofs.Readings.{spelled, refused_fault}
use Rattle.heex_reader.proofs.reader.read_nodes.Goals as goal

pub returns-in-Ok-clause-found : goal.returns-in-Ok-clause-found
returns-in-Ok-clause-found c = spelled c.args.text.now (nodes_view c.in-Ok.nodes) c.in-Ok.ensures

pub returns-in-Err-clause-refused : goal.returns-in-Err-clause-refused
returns-in-Err-clause-refused c = refused_fault c.args.text.now c.in-Err.fault c.told.result c.in-Err.ensures c.told.ensures
