use Rattle.std.proofs.Common.{◌∷◌, ◌++◌, [], refl, sym, ap, ◌∙◌}
use Rattle.ast_core.specs.declared.node.Entry.{out-Entry}
use Rattle.ast_core.specs.Walk.{met, inside}
use Rattle.ast_core.specs.Free.{without}
use Rattle.ast_core.specs.NamesIn.{all_names, bound_by, expr_reads, option_reads, attribute_reads, node_reads, place_reads, clause_reads, body_reads, entry_reads}
use Rattle.ast_core.proofs.Walks.{met_next, met_as, met_both, met_then, inside-append, still_there, left_scope}
use Rattle.ast_core.proofs.NodeReads.{reads_element, reads_if, reads_case, reads_for, reads_call, reads_live, reads_slot, reads_stream, reads_clause, reads_body_let, reads_body, rest_reads, reads_entry_for, reads_entry}
use Rattle.ast_core.proofs.walk.Walk.+node.Goals as goal

pub read_nodes-nodes-preserved : goal.read_nodes-nodes-preserved
read_nodes-nodes-preserved t c =
    met_next node_reads c.as_slice-node-items.result.now c.nodes.node-index c.node-item.result c.nodes.self c.read_node.new.self _ c.nodes-test.true c.node-item.is c.in_ok-read_node.ensures c.nodes.invariant

pub read_clauses-clauses-preserved : goal.read_clauses-clauses-preserved
read_clauses-clauses-preserved t c =
    met_next clause_reads c.as_slice-clause-items.result.now c.clauses.clause-index c.clause-item.result c.clauses.self c.read_clause.new.self _ c.clauses-test.true c.clause-item.is c.in_ok-read_clause.ensures c.clauses.invariant

pub read_entries-entries-preserved : goal.read_entries-entries-preserved
read_entries-entries-preserved t c =
    met_next entry_reads c.as_slice-entry-items.result.now c.entries.entry-index c.entry-item.result c.entries.self c.read_entry.new.self _ c.entries-test.true c.entry-item.is c.in_ok-read_entry.ensures c.entries.invariant

pub read_node-returns-in_ok-read_attributes-in-Element : goal.read_node-returns-in_ok-read_attributes-in-Element
read_node-returns-in_ok-read_attributes-in-Element t c =
    met_then _ (all_names attribute_reads c.in-Element.attributes) (all_names node_reads c.in-Element.children) _ c.args.self.now c.read_attributes.new.self c.read_nodes.new.self
    (ap node_reads c.in-Element.is ∙ reads_element _ _ _ _) c.in_ok-read_attributes-in-Element.ensures c.read_nodes.ensures

pub read_place-returns-in_ok-read_nodes-in-If : goal.read_place-returns-in_ok-read_nodes-in-If
read_place-returns-in_ok-read_nodes-in-If t c =
    met_then _ (expr_reads c.in-If.test ++ all_names node_reads c.in-If.yes) (all_names node_reads c.in-If.no) _ c.args.self.now c.read_nodes.new.self c.read_nodes-in-If.new.self
    (ap place_reads c.in-If.is ∙ reads_if _ _ _)
    (met_both (expr_reads c.in-If.test) (all_names node_reads c.in-If.yes) c.args.self.now c.read_expr-in-If.new.self c.read_nodes.new.self c.in_ok-read_expr-in-If.ensures c.in_ok-read_nodes-in-If.ensures)
    c.read_nodes-in-If.ensures

pub read_place-returns-in_ok-read_expr-in-Case : goal.read_place-returns-in_ok-read_expr-in-Case
read_place-returns-in_ok-read_expr-in-Case t c =
    met_then _ (expr_reads c.in-Case.value) (all_names clause_reads c.in-Case.clauses) _ c.args.self.now c.read_expr-in-Case.new.self c.read_clauses.new.self
    (ap place_reads c.in-Case.is ∙ reads_case _ _) c.in_ok-read_expr-in-Case.ensures c.read_clauses.ensures

pub read_place-returns-in_ok-read_expr-in-For : goal.read_place-returns-in_ok-read_expr-in-For
read_place-returns-in_ok-read_expr-in-For t c =
    met_then _ (expr_reads c.in-For.list) (without (bound_by c.in-For.pattern) (all_names node_reads c.in-For.body)) _ c.args.self.now c.read_expr-in-For.new.self c.read_inside.new.self
    (ap place_reads c.in-For.is ∙ reads_for _ _ _) c.in_ok-read_expr-in-For.ensures c.read_inside.ensures

pub read_place-returns-in_ok-read_body-in-Call : goal.read_place-returns-in_ok-read_body-in-Call
read_place-returns-in_ok-read_body-in-Call t c =
    met_then _ (all_names attribute_reads c.in-Call.attributes ++ body_reads c.in-Call.content) (all_names entry_reads c.in-Call.entries) _ c.args.self.now c.read_body.new.self c.read_entries.new.self
    (ap place_reads c.in-Call.is ∙ reads_call _ _ _ _)
    (met_both (all_names attribute_reads c.in-Call.attributes) (body_reads c.in-Call.content) c.args.self.now c.read_attributes.new.self c.read_body.new.self
    c.in_ok-read_attributes-in-Call.ensures c.in_ok-read_body-in-Call.ensures)
    c.read_entries.ensures

pub read_place-returns-in-LiveCall : goal.read_place-returns-in-LiveCall
read_place-returns-in-LiveCall t c =
    met_as _ _ _ c.args.self.now c.read_attributes-in-LiveCall.new.self (ap place_reads c.in-LiveCall.is ∙ reads_live _ _ _) c.read_attributes-in-LiveCall.ensures

pub read_place-returns-in_ok-read_expr-in-RenderSlot : goal.read_place-returns-in_ok-read_expr-in-RenderSlot
read_place-returns-in_ok-read_expr-in-RenderSlot t c =
    met_then _ (expr_reads c.in-RenderSlot.value) (option_reads c.in-RenderSlot.argument) _ c.args.self.now c.read_expr-in-RenderSlot.new.self c.read_option.new.self
    (ap place_reads c.in-RenderSlot.is ∙ reads_slot _ _) c.in_ok-read_expr-in-RenderSlot.ensures c.read_option.ensures

pub read_place-returns-in-StreamFor : goal.read_place-returns-in-StreamFor
read_place-returns-in-StreamFor t c =
    met_as _ _ _ c.args.self.now c.read_row.new.self (ap place_reads c.in-StreamFor.is ∙ reads_stream _ _ _ _) c.read_row.ensures

pub read_clause-returns : goal.read_clause-returns
read_clause-returns t c = met_as _ _ _ c.args.self.now c.read_inside.new.self (reads_clause c.args.clause.now) c.read_inside.ensures

pub read_body-returns-in-Some : goal.read_body-returns-in-Some
read_body-returns-in-Some t c = met_as _ _ _ c.args.self.now c.read_inside.new.self (reads_body_let c.args.body.now _ c.in-Some.is) c.read_inside.ensures

pub read_body-returns-in-None : goal.read_body-returns-in-None
read_body-returns-in-None t c = met_as _ _ _ c.args.self.now c.read_nodes.new.self (reads_body c.args.body.now c.in-None.is) c.read_nodes.ensures

pub read_rest-returns : goal.read_rest-returns
read_rest-returns t c =
    met_then _ (option_reads c.args.test.now ++ all_names attribute_reads c.args.attributes.now) (body_reads c.args.body.now) _ c.args.self.now c.read_attributes.new.self c.read_body.new.self refl
    (met_both (option_reads c.args.test.now) (all_names attribute_reads c.args.attributes.now) c.args.self.now c.read_option.new.self c.read_attributes.new.self
    c.in_ok-read_option.ensures c.in_ok-read_attributes.ensures)
    c.read_body.ensures

pub read_inside-leave-requires : goal.read_inside-leave-requires
read_inside-leave-requires t c =
    still_there (bound_by c.args.pattern.now) (all_names node_reads c.args.nodes.now) c.len-count.result c.args.self.now c.bind.new.self c.read_nodes.new.self
    c.len-count.ensures c.in_ok-bind.ensures c.in_ok-read_nodes.ensures

pub read_inside-returns : goal.read_inside-returns
read_inside-returns t c =
    left_scope (bound_by c.args.pattern.now) (all_names node_reads c.args.nodes.now) c.len-count.result c.args.self.now c.bind.new.self c.read_nodes.new.self c.leave.new.self
    c.len-count.ensures c.in_ok-bind.ensures c.in_ok-read_nodes.ensures c.leave.ensures

pub read_row-leave-requires : goal.read_row-leave-requires
read_row-leave-requires t c =
    still_there (c.args.id.now ∷ bound_by c.args.pattern.now) (all_names node_reads c.args.nodes.now) c.len-count.result c.args.self.now c.bind.new.self c.read_nodes.new.self
    c.len-count.ensures
    (c.in_ok-bind.ensures ∙ ap (inside (bound_by c.args.pattern.now)) c.in_ok-bind_name.ensures
    ∙ sym (inside-append (c.args.id.now ∷ []) (bound_by c.args.pattern.now) c.args.self.now))
    c.in_ok-read_nodes.ensures

pub read_row-returns : goal.read_row-returns
read_row-returns t c =
    left_scope (c.args.id.now ∷ bound_by c.args.pattern.now) (all_names node_reads c.args.nodes.now) c.len-count.result c.args.self.now c.bind.new.self c.read_nodes.new.self c.leave.new.self
    c.len-count.ensures
    (c.in_ok-bind.ensures ∙ ap (inside (bound_by c.args.pattern.now)) c.in_ok-bind_name.ensures
    ∙ sym (inside-append (c.args.id.now ∷ []) (bound_by c.args.pattern.now) c.args.self.now))
    c.in_ok-read_nodes.ensures c.leave.ensures

pub read_entry-leave-requires : goal.read_entry-leave-requires
read_entry-leave-requires t c =
    let e = out-Entry c.args.entry.now in
    still_there (bound_by c.in-Some.generator.pattern) (rest_reads e.test e.attributes e.body) c.len-count.result c.read_expr.new.self c.bind.new.self c.read_rest.new.self
    c.len-count.ensures c.in_ok-bind-in-Some.ensures c.in_ok-read_rest-in-Some.ensures

pub read_entry-returns-in_ok-read_rest-in-Some : goal.read_entry-returns-in_ok-read_rest-in-Some
read_entry-returns-in_ok-read_rest-in-Some t c =
    let e = out-Entry c.args.entry.now in
    let rest = rest_reads e.test e.attributes e.body in
    met_both (expr_reads c.in-Some.generator.list) (without (bound_by c.in-Some.generator.pattern) rest) c.args.self.now c.read_expr.new.self c.leave.new.self
    c.in_ok-read_expr-in-Some.ensures
    (left_scope (bound_by c.in-Some.generator.pattern) rest c.len-count.result c.read_expr.new.self c.bind.new.self c.read_rest.new.self c.leave.new.self
    c.len-count.ensures c.in_ok-bind-in-Some.ensures c.in_ok-read_rest-in-Some.ensures c.leave.ensures)
    ∙ ap (λ ns. met ns c.args.self.now) (sym (reads_entry_for c.args.entry.now c.in-Some.generator c.in-Some.is))

pub read_entry-returns-in-None : goal.read_entry-returns-in-None
read_entry-returns-in-None t c =
    met_as _ _ _ c.args.self.now c.read_rest-in-None.new.self (reads_entry c.args.entry.now c.in-None.is) c.read_rest-in-None.ensures
