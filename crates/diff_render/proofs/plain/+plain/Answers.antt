use Rattle.std.proofs.Common.{◌≡◌, ◌+◌, ◌-◌, ◌≤◌, Err, true, length, drop, sym, ap, ◌∙◌, subst, arith, rules}
use Rattle.value_core.specs.View.{view}
use Rattle.ast_core.specs.declared.node.Clause.{out-Clause}
use Rattle.ast_core.specs.ExprView.{expr_view}
use Rattle.ast_core.specs.NodeView.{clause_view, clauses_view, node_view, nodes_view, place_view}
use Rattle.ast_core.specs.PatternView.{pattern_view}
use Rattle.ast_core.specs.Syntax.{for_place}
use Rattle.slot_compile.specs.Template.{all_plain, clauses_plain, is_plain}
use Rattle.slot_compile.proofs.Seen.{seen_for, seen_if}
use Rattle.diff_tree.specs.Tree.{flat}
use Rattle.doc_model.specs.Environment.{bind, binding}
use Rattle.doc_model.specs.Evaluation.{on_res}
use Rattle.doc_model.specs.FullRendering.{full_node, full_nodes, full_place, full_render, full_rows}
use Rattle.doc_model.proofs.Sames.{both_true}
use Rattle.diff_render.specs.Answers.{Shows}
use Rattle.diff_render.specs.Plain.{clauses_shown}
use Rattle.diff_render.specs.Scope.{AreScopes, alone, scope_in}
use Rattle.diff_render.specs.Taken.{looped}
use Rattle.diff_render.proofs.Texts.{answer_fails, bound_by, else_shown, else_taken, fails_behind, for_raises, for_rows, found_clause, more_behind, next_clause, no_clause, no_level, node_at, one_level, plain_at, plain_clause_at, shows_as}
use Rattle.diff_render.proofs.plain.+plain.Goals as goal

-- ---- levels

pub body_text-returns-then-levels-eq0-clause-shown : goal.body_text-returns-then-levels-eq0-clause-shown
body_text-returns-then-levels-eq0-clause-shown t c plain = no_level c.args.levels (scope_in c.args.assigns.now c.args.variables.now) (nodes_view c.args.nodes.now) c.if-levels-eq0.true

pub body_text-returns-clause-shown : goal.body_text-returns-clause-shown
body_text-returns-clause-shown t c plain =
    let env = scope_in c.args.assigns.now c.args.variables.now in
    let ns = nodes_view c.args.nodes.now in
    shows_as c.nodes_text.result (full_nodes alone (full_render alone (c.args.levels - 1)) env ns) (full_render alone c.args.levels env ns) (one_level c.args.levels env ns c.if-levels-eq0.false) (c.nodes_text.ensures.shown plain)

-- ---- clauses

pub clauses_text-returns-then-matches-clause-shown : goal.clauses_text-returns-then-matches-clause-shown
clauses_text-returns-then-matches-clause-shown t c plain =
    let go = full_render alone c.args.levels in
    let env = scope_in c.args.assigns.now c.args.variables.now in
    let v = view c.args.value in
    let cs = c.as_slice-clause-items.result.now in
    let one = c.clause-item.result in
    let b = bound_by (binding (pattern_view (out-Clause one).pattern) v) (sym c.matches.ensures ∙ c.if-matches.true) in
    let plain_cs : clauses_plain (clauses_view cs) ≡ true = ap (λ l. clauses_plain (clauses_view l)) c.as_slice-clause-items.ensures ∙ plain in
    let h = found_clause go env v cs c.clauses.clause-index one (clauses_shown go env v (clauses_view cs)) b.0 c.clauses-test.true c.clause-item.is c.clauses.invariant.so_far b.1 in
    let shown : Shows c.clause_text.result (go (bind b.0 env) (clause_view one).1)
    = subst (λ vs. Shows c.clause_text.result (go (bind b.0 (scope_in c.args.assigns.now vs)) (clause_view one).1)) c.clauses.invariant.scope
    (c.clause_text.ensures.shown b.0 (plain_clause_at cs c.clauses.clause-index one c.clauses-test.true c.clause-item.is plain_cs) b.1) in
    shows_as c.clause_text.result (go (bind b.0 env) (clause_view one).1) (clauses_shown go env v (clauses_view c.args.clauses.now))
    (ap (λ l. clauses_shown go env v (clauses_view l)) (sym c.as_slice-clause-items.ensures) ∙ h) shown

pub clauses_text-clauses-preserved : goal.clauses_text-clauses-preserved
clauses_text-clauses-preserved t c =
    let go = full_render alone c.args.levels in
    let env = scope_in c.args.assigns.now c.args.variables.now in
    let v = view c.args.value in
    let cs = c.as_slice-clause-items.result.now in
    record {
      scope = c.clauses.invariant.scope;
      so_far = next_clause go env v cs c.clauses.clause-index c.clause-item.result (clauses_shown go env v (clauses_view cs)) c.clauses-test.true c.clause-item.is c.clauses.invariant.so_far
          (sym c.matches.ensures ∙ c.if-matches.false);
    }

pub clauses_text-returns-clause-shown : goal.clauses_text-returns-clause-shown
clauses_text-returns-clause-shown t c plain =
    let go = full_render alone c.args.levels in
    let env = scope_in c.args.assigns.now c.args.variables.now in
    let v = view c.args.value in
    let cs = c.as_slice-clause-items.result.now in
    let past : length cs ≤ c.clauses.clause-index = omega arith in
    let h = no_clause go env v cs c.clauses.clause-index (clauses_shown go env v (clauses_view cs)) past c.clauses.invariant.so_far in
    search (rules, h)

-- ---- nodes

pub nodes_text-returns-in_err-more-clause-shown : goal.nodes_text-returns-in_err-more-clause-shown
nodes_text-returns-in_err-more-clause-shown t c plain =
    let go = full_render alone c.args.levels in
    let env = scope_in c.args.assigns.now c.args.variables.now in
    let xs = c.as_slice-node-items.result.now in
    let n = c.node-item.result in
    let all = full_nodes alone go env (nodes_view xs) in
    let rest = full_nodes alone go env (nodes_view (drop (c.nodes.node-index + 1) xs)) in
    let plain_xs : all_plain (nodes_view xs) ≡ true = ap (λ l. all_plain (nodes_view l)) c.as_slice-node-items.ensures ∙ plain in
    let shown : Shows (Err c.in_err-more.field-0.0) (full_node alone go env (node_view n))
    = subst (λ vs. Shows (Err c.in_err-more.field-0.0) (full_node alone go (scope_in c.args.assigns.now vs) (node_view n))) c.nodes.invariant.scope
    (c.in_err-more.ensures.shown (plain_at xs c.nodes.node-index n c.nodes-test.true c.node-item.is plain_xs)) in
    let h = fails_behind c.in_err-more.field-0.0 all (full_node alone go env (node_view n)) rest c.nodes.text
    (node_at go env xs c.nodes.node-index n c.nodes.text all c.nodes-test.true c.node-item.is (c.nodes.invariant.so_far plain_xs)) shown in
    search (rules, h)

pub nodes_text-nodes-preserved : goal.nodes_text-nodes-preserved
nodes_text-nodes-preserved t c =
    let go = full_render alone c.args.levels in
    let env = scope_in c.args.assigns.now c.args.variables.now in
    let xs = c.as_slice-node-items.result.now in
    let n = c.node-item.result in
    let all = full_nodes alone go env (nodes_view xs) in
    let rest = full_nodes alone go env (nodes_view (drop (c.nodes.node-index + 1) xs)) in
    record {
      scope = c.in_ok-more.ensures.scope ∙ c.nodes.invariant.scope;
      so_far = λ plain.
          more_behind all (full_node alone go env (node_view n)) rest c.nodes.text c.in_ok-more.more c.push_str.new.self
          (node_at go env xs c.nodes.node-index n c.nodes.text all c.nodes-test.true c.node-item.is (c.nodes.invariant.so_far plain))
          (ap (λ vs. full_node alone go (scope_in c.args.assigns.now vs) (node_view n)) (sym c.nodes.invariant.scope)
          ∙ c.in_ok-more.ensures.shown (plain_at xs c.nodes.node-index n c.nodes-test.true c.node-item.is plain)) (search rules);
    }

-- ---- places

pub place_text-returns-in_err-scopes-in-For-clause-shown : goal.place_text-returns-in_err-scopes-in-For-clause-shown
place_text-returns-in_err-scopes-in-For-clause-shown t c plain =
    let go = full_render alone c.args.levels in
    let env = scope_in c.args.assigns.now c.args.variables.now in
    let p = pattern_view c.in-For.pattern in
    let e = expr_view c.in-For.list in
    let body = nodes_view c.in-For.body in
    let h = answer_fails (AreScopes c.args.assigns.now c.args.variables.now) c.in_err-scopes-in-For.field-0.0 (looped env (for_place p e body)) (full_place alone go env (for_place p e body))
    (λ x k. for_raises go env p e body x k) (c.in_err-scopes-in-For.ensures body) in
    let k = shows_as (Err c.in_err-scopes-in-For.field-0.0) (full_place alone go env (for_place p e body)) (full_place alone go env (place_view c.args.place.now))
    (ap (full_place alone go env) (ap place_view c.in-For.is ∙ seen_for c.in-For.pattern c.in-For.list c.in-For.body)) h in
    search (rules, k)

pub place_text-returns-else-is_empty-clause-shown : goal.place_text-returns-else-is_empty-clause-shown
place_text-returns-else-is_empty-clause-shown t c plain =
    let go = full_render alone c.args.levels in
    let env = scope_in c.args.assigns.now c.args.variables.now in
    let test = expr_view c.in-If.test in
    let yes = nodes_view c.in-If.yes in
    let no = nodes_view c.in-If.no in
    let seen = ap place_view c.in-If.is ∙ seen_if c.in-If.test c.in-If.yes c.in-If.no in
    let plain_no : all_plain no ≡ true = (both_true (all_plain yes) (all_plain no) (sym (ap is_plain seen) ∙ plain)).1 in
    shows_as c.body_text-in-If.result (go env no) (full_place alone go env (place_view c.args.place.now))
    (ap (full_place alone go env) seen ∙ else_taken go env test yes no (view c.in_ok-test-in-If.test) c.is_true.result (go env no) c.in_ok-test-in-If.ensures c.is_true.ensures c.if-is_true.false
    (else_shown go env c.in-If.no c.is_empty.result c.is_empty.ensures c.if-is_empty.false)) (c.body_text-in-If.ensures.shown plain_no)

pub place_text-returns-in_ok-scopes-in-For-clause-shown : goal.place_text-returns-in_ok-scopes-in-For-clause-shown
place_text-returns-in_ok-scopes-in-For-clause-shown t c plain =
    let go = full_render alone c.args.levels in
    let env = scope_in c.args.assigns.now c.args.variables.now in
    let p = pattern_view c.in-For.pattern in
    let e = expr_view c.in-For.list in
    let body = nodes_view c.in-For.body in
    let seen = ap place_view c.in-For.is ∙ seen_for c.in-For.pattern c.in-For.list c.in-For.body in
    let plain_body : all_plain body ≡ true = sym (ap is_plain seen) ∙ plain in
    let rows = c.in_ok-scopes-in-For.ensures body in
    shows_as c.rows_text.result (on_res flat (full_rows go body rows.0)) (full_place alone go env (place_view c.args.place.now))
    (ap (full_place alone go env) seen ∙ for_rows go env p e body rows.0 rows.1) (c.rows_text.ensures.shown rows.0 plain_body rows.2)
