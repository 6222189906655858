use Rattle.std.proofs.Common.{◌≡◌, List, IfOk, map, sym, subst}
use Rattle.ast_core.specs.Syntax as model
use Rattle.ast_core.specs.NodeView.{node_view}
use Rattle.heex_reader.proofs.Nodes.{behind_all}
use Rattle.heex_reader.proofs.content.then_node.Goals as goal

pub returns-in_default : goal.returns-in_default
returns-in_default c =
    subst (λ (x : List model.Node). IfOk c.pushed.result (λ ns. map node_view ns ≡ x)) (sym (behind_all c.args.nodes c.args.node c.in_default.not-Text)) c.pushed.ensures
