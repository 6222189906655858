use Rattle.std.proofs.Common.{◌≡◌, ◌++◌, drop, length, map}
use Rattle.ast_core.specs.NodeView.{clauses_view, nodes_view}
use Rattle.slot_compile.specs.Gathering.{branch_of, entries, gathered, then_on}
use Rattle.slot_compile.specs.Numbering.{bodies_in, clause_bodies}
use Rattle.slot_compile.specs.Stretches.{clauses_at, of_bodies, of_nodes}
use Rattle.slot_compile.specs.Template.{all_plain, clauses_plain}
use Rattle.slot_compile.proofs.flattening.Table.+node.Given as goal

abbrev pub invariant-push_nodes-nodes : goal.invariant-push_nodes-nodes
invariant-push_nodes-nodes l =
    (then_on (gathered l.gathering) (of_nodes (length l.self.bodies) (drop l.node-index l.node-items)) ≡ then_on (gathered l.initial.gathering) (of_nodes (length l.initial.self.bodies) l.node-items))
    × (entries l.self ++ of_bodies (length l.self.bodies) (bodies_in (nodes_view (drop l.node-index l.node-items))) ≡ entries l.initial.self ++ of_bodies (length l.initial.self.bodies) (bodies_in (nodes_view l.node-items)))
    × (all_plain (nodes_view l.node-items) ≡ all_plain (nodes_view (drop l.node-index l.node-items)))

abbrev pub invariant-push_clauses-clauses : goal.invariant-push_clauses-clauses
invariant-push_clauses-clauses l =
    (map branch_of l.branches ++ clauses_at (length l.self.bodies) (clauses_view (drop l.clause-index l.clause-items)) ≡ clauses_at (length l.initial.self.bodies) (clauses_view l.clause-items))
    × (entries l.self ++ of_bodies (length l.self.bodies) (clause_bodies (clauses_view (drop l.clause-index l.clause-items))) ≡ entries l.initial.self ++ of_bodies (length l.initial.self.bodies) (clause_bodies (clauses_view l.clause-items)))
    × (clauses_plain (clauses_view l.clause-items) ≡ clauses_plain (clauses_view (drop l.clause-index l.clause-items)))
