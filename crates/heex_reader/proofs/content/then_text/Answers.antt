use Rattle.std.proofs.Common.{◌≡◌, List, IfOk, map, sym, subst}
use Rattle.ast_core.specs.Syntax as model
use Rattle.ast_core.specs.NodeView.{node_view}
use Rattle.heex_reader.proofs.Nodes.{beside_last}
use Rattle.heex_reader.proofs.content.then_text.Goals as goal

pub returns-in-Some : goal.returns-in-Some
returns-in-Some c =
    subst (λ (x : List model.Node). IfOk c.beside.result (λ ns. map node_view ns ≡ x)) (sym (beside_last c.args.nodes _ _ c.args.text c.in-Some.ensures)) c.beside.ensures
