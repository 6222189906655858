use Rattle.std.proofs.Common.{◌≡◌, drop, length, true}
use Rattle.std.specs.Vec.Iter.{into_iter_items, into_iter_len}
use Rattle.value_core.specs.View.{view}
use Rattle.ast_core.specs.NodeView.{clauses_view, nodes_view}
use Rattle.slot_compile.specs.Template.{all_plain}
use Rattle.doc_model.specs.FullRendering.{full_nodes, full_render}
use Rattle.diff_render.specs.Plain.{clauses_shown}
use Rattle.diff_render.specs.Scope.{alone, scope_in}
use Rattle.diff_render.proofs.Texts.{behind, rows_full}
use Rattle.diff_render.proofs.plain.+plain.Given as goal

-- the text so far, and then what is left
abbrev pub invariant-nodes_text-nodes : goal.invariant-nodes_text-nodes
invariant-nodes_text-nodes l = record {
  scope : l.variables ≡ l.fn.variables;
  so_far : all_plain (nodes_view l.node-items) ≡ true → full_nodes alone (full_render alone l.levels) (scope_in l.assigns l.fn.variables) (nodes_view l.node-items)
      ≡ behind l.text (full_nodes alone (full_render alone l.levels) (scope_in l.assigns l.fn.variables) (nodes_view (drop l.node-index l.node-items)));
}

-- no clause so far matches
abbrev pub invariant-clauses_text-clauses : goal.invariant-clauses_text-clauses
invariant-clauses_text-clauses l = record {
  scope : l.variables ≡ l.fn.variables;
  so_far : clauses_shown (full_render alone l.levels) (scope_in l.assigns l.fn.variables) (view l.value) (clauses_view l.clause-items)
      ≡ clauses_shown (full_render alone l.levels) (scope_in l.assigns l.fn.variables) (view l.value) (clauses_view (drop l.clause-index l.clause-items));
}

-- the text of the rows so far, and then those that are left
abbrev pub invariant-rows_text-scopes : goal.invariant-rows_text-scopes
invariant-rows_text-scopes l = record {
  scope : l.variables ≡ l.fn.variables;
  so_far : all_plain (nodes_view l.body) ≡ true → rows_full (full_render alone l.levels) (nodes_view l.body) (scope_in l.assigns l.fn.variables) l.fn.scopes
      ≡ behind l.text (rows_full (full_render alone l.levels) (nodes_view l.body) (scope_in l.assigns l.fn.variables) (into_iter_items l.scope-iterator));
  counted : into_iter_len l.scope-iterator ≡ length (into_iter_items l.scope-iterator);
}
