use Rattle.std.proofs.Common.{◌++◌, Some, List, length, refl, sym, ap, ◌∙◌}
use Rattle.ast_core.specs.ExprView.{expr_view}
use Rattle.ast_core.specs.NodeView.{clause_view, clauses_view, node_view, nodes_view, place_view}
use Rattle.ast_core.specs.Places.{closing}
use Rattle.ast_core.specs.declared.node.Clause.{Clause}
use Rattle.ast_core.specs.declared.node.Node.{Node}
use Rattle.slot_compile.specs.Gathering.{entries, gathered, if_numbers, text, then_on}
use Rattle.slot_compile.specs.Numbering.{all_bodies, bodies_at, bodies_in, bodies_of, clause_bodies, else_bodies}
use Rattle.slot_compile.specs.Stretches.{else_at, numbered_at, of_bodies, of_node, of_nodes}
use Rattle.slot_compile.specs.Template.{all_plain, clauses_plain, node_plain}
use Rattle.slot_compile.proofs.Elses.{else_has_body, else_has_number}
use Rattle.slot_compile.proofs.Joined.{both_on}
use Rattle.slot_compile.proofs.Judging.{plain_next}
use Rattle.slot_compile.proofs.Seen.{seen_if}
use Rattle.slot_compile.proofs.StretchParts.{nodes_end, nodes_first, nodes_next, of_element, started}
use Rattle.slot_compile.proofs.Tabled.{body_added, both_added, clauses_next, grown, next_added}
use Rattle.slot_compile.proofs.flattening.Table.+node.Goals as goal

pub push_body-returns-clause-entries : goal.push_body-returns-clause-entries
push_body-returns-clause-entries t c =
    let nodes = c.args.nodes.now in
    let inside = of_nodes (length c.reserve.new.self.bodies) nodes in
    body_added c.args.self.now c.reserve.new.self c.push_nodes.new.self c.set.new.self (nodes_view nodes) c.in_ok-body.body c.in_ok-number.number
    c.in_ok-number.ensures.number c.in_ok-number.ensures.entries c.in_ok-push_nodes.ensures.entries
    (c.in_ok-body.ensures ∙ c.in_ok-push_nodes.ensures.gathered ∙ ap (λ s. then_on s inside) c.new-gathering.ensures ∙ nodes_first (length c.reserve.new.self.bodies) nodes)
    c.set.ensures

pub push_else-returns-in_ok-push_body-clause-number : goal.push_else-returns-in_ok-push_body-clause-number
push_else-returns-in_ok-push_body-clause-number t c =
    ap Some c.in_ok-push_body.ensures.number ∙ else_has_number (length c.args.self.now.bodies) c.is_empty.result c.args.nodes.now c.is_empty.ensures c.if-is_empty.false

pub push_else-returns-in_ok-push_body-clause-entries : goal.push_else-returns-in_ok-push_body-clause-entries
push_else-returns-in_ok-push_body-clause-entries t c =
    c.in_ok-push_body.ensures.entries
    ∙ ap (λ bs. entries c.args.self.now ++ of_bodies (length c.args.self.now.bodies) bs) (else_has_body c.is_empty.result c.args.nodes.now c.is_empty.ensures c.if-is_empty.false)

pub push_node-returns-in_ok-push_end-in-Element-clause-gathered : goal.push_node-returns-in_ok-push_end-in-Element-clause-gathered
push_node-returns-in_ok-push_end-in-Element-clause-gathered t c =
    let name = c.in-Element.name in
    let start = gathered c.args.gathering.now in
    let inside = of_nodes (length c.args.self.now.bodies) c.in-Element.children in
    both_on (started name c.in-Element.attributes) (then_on inside (text (closing name))) start (gathered c.push_start.new.self) (gathered c.push_end.new.self)
    c.in_ok-push_start-in-Element.ensures
    (both_on inside (text (closing name)) (gathered c.push_start.new.self) (gathered c.push_nodes.new.gathering) (gathered c.push_end.new.self)
    c.in_ok-push_nodes-in-Element.ensures.gathered c.in_ok-push_end-in-Element.ensures)
    ∙ ap (then_on start)
    (sym (ap (of_node (length c.args.self.now.bodies)) c.in-Element.is
    ∙ of_element (length c.args.self.now.bodies) c.in-Element.at name c.in-Element.attributes c.in-Element.children))

pub push_nodes-nodes-preserved : goal.push_nodes-nodes-preserved
push_nodes-nodes-preserved t c =
    let items = c.as_slice-node-items.result.now in
    let item = c.node-item.result in
    let added = c.in_ok-push_node.ensures.entries in (
      nodes_next items c.nodes.node-index item (length c.nodes.self.bodies) (length c.push_node.new.self.bodies) (gathered c.nodes.gathering) (gathered c.push_node.new.gathering) _
          c.nodes-test.true c.node-item.is (grown c.nodes.self c.push_node.new.self (bodies_of (node_view item)) added) c.in_ok-push_node.ensures.gathered c.nodes.invariant.0,
      next_added (λ (n : Node). bodies_of (node_view n)) (λ (ns : List Node). bodies_in (nodes_view ns)) (λ n ns. refl) items c.nodes.node-index item c.nodes.self c.push_node.new.self _
          c.nodes-test.true c.node-item.is added c.nodes.invariant.1,
      plain_next (λ (n : Node). node_plain (node_view n)) (λ (ns : List Node). all_plain (nodes_view ns)) (λ n ns. refl) items c.nodes.node-index item
          c.nodes-test.true c.node-item.is c.in_ok-push_node.ensures.judges c.nodes.invariant.2,
    )

pub push_nodes-returns-clause-gathered : goal.push_nodes-returns-clause-gathered
push_nodes-returns-clause-gathered t c =
    nodes_end c.as_slice-node-items.result.now c.nodes.node-index (length c.nodes.self.bodies) c.nodes.gathering _ c.nodes-test.false c.nodes.invariant.0
    ∙ ap (λ ns. then_on (gathered c.args.gathering.now) (of_nodes (length c.args.self.now.bodies) ns)) c.as_slice-node-items.ensures

pub push_place-returns-in_ok-if_of-in-If-clause-numbered : goal.push_place-returns-in_ok-if_of-in-If-clause-numbered
push_place-returns-in_ok-if_of-in-If-clause-numbered t c =
    let k = length c.args.self.now.bodies in
    let test = expr_view c.in-If.test in
    let yes = nodes_view c.in-If.yes in
    let no = nodes_view c.in-If.no in
    c.in_ok-if_of-in-If.ensures
    ∙ ap (λ n. if_numbers test n c.in_ok-no-in-If.no) c.in_ok-yes-in-If.ensures.number
    ∙ ap (if_numbers test k)
    (c.in_ok-no-in-If.ensures.number ∙ ap (λ n. else_at n no) (grown c.args.self.now c.push_body.new.self (all_bodies yes) c.in_ok-yes-in-If.ensures.entries))
    ∙ ap (numbered_at k) (sym (ap place_view c.in-If.is ∙ seen_if c.in-If.test c.in-If.yes c.in-If.no))

pub push_place-returns-in_ok-if_of-in-If-clause-entries : goal.push_place-returns-in_ok-if_of-in-If-clause-entries
push_place-returns-in_ok-if_of-in-If-clause-entries t c =
    both_added c.args.self.now c.push_body.new.self (entries c.push_else.new.self) (all_bodies (nodes_view c.in-If.yes)) (else_bodies (nodes_view c.in-If.no))
    c.in_ok-yes-in-If.ensures.entries c.in_ok-no-in-If.ensures.entries
    ∙ ap (λ p. entries c.args.self.now ++ of_bodies (length c.args.self.now.bodies) (bodies_at p)) (sym (ap place_view c.in-If.is ∙ seen_if c.in-If.test c.in-If.yes c.in-If.no))

pub push_clauses-clauses-preserved : goal.push_clauses-clauses-preserved
push_clauses-clauses-preserved t c =
    let items = c.as_slice-clause-items.result.now in
    let item = c.clause-item.result in
    let added = c.in_ok-push_clause.ensures.entries in (
      clauses_next items c.clauses.clause-index item c.clauses.self c.push_clause.new.self c.clauses.branches c.push.new.self c.in_ok-push_clause.field-0 _
          c.clauses-test.true c.clause-item.is c.in_ok-push.ensures.ok c.in_ok-push_clause.ensures.branch added c.clauses.invariant.0,
      next_added (λ (x : Clause). all_bodies (clause_view x).1) (λ (xs : List Clause). clause_bodies (clauses_view xs)) (λ x xs. refl) items c.clauses.clause-index item c.clauses.self c.push_clause.new.self _
          c.clauses-test.true c.clause-item.is added c.clauses.invariant.1,
      plain_next (λ (x : Clause). all_plain (clause_view x).1) (λ (xs : List Clause). clauses_plain (clauses_view xs)) (λ x xs. refl) items c.clauses.clause-index item
          c.clauses-test.true c.clause-item.is c.in_ok-push_clause.ensures.judges c.clauses.invariant.2,
    )
