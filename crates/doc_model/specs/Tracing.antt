-- The trace of nodes, by the recursion of the full rendering over the places.
use Rattle.std.specs.Prelude.{ℕ, zero, suc, List, [], ◌∷◌, Ok, Err, Some, None, if◌then◌else◌}
use Rattle.value_core.specs.Value.{Value}
use Rattle.ast_core.specs.Syntax.{Place, put, attribute, spread, if_place, case_place, for_place, call, render_slot, live_call, stream_place, Nodes, no_nodes, node}
use Rattle.ast_core.specs.Free.{free_names, free_place}
use Rattle.doc_model.specs.Environment.{Env, binding, bind, reading}
use Rattle.doc_model.specs.Evaluation.{Res, then_do, both, on_res, eval_expr, printed, is_true}
use Rattle.text_core.specs.Escape.{escape_text}
use Rattle.doc_model.specs.Printing.{print_attribute, print_spread}
use Rattle.value_core.specs.declared.raise.Raise.TheVariants.{Deep, NoClause}
use Rattle.doc_model.specs.Trace.{Items, no_items, item, Item, met_text, met_nothing, met_branch, met_rows, met_call, met_slots, met_component, met_stream, ItemRows, no_item_rows, item_row, Slots, no_slots, slot_of}
use Rattle.ast_core.specs.Places.{cut, places_in}
use Rattle.doc_model.specs.Scopes.{Captured, Deeper, Site, callee, chosen, component_of, component_scope, operations, row_scopes, slot_scope, slots_of, stream_of, stream_scopes}
use Rattle.doc_model.specs.Calls.{items_of, call_assigns, live_assigns, module_in}

-- the trace, by the same recursion over the places
abbrev pub trace_rows : Deeper Items → Nodes → List Env → Res ItemRows
trace_rows go body [] = Ok no_item_rows
trace_rows go body (env ∷ envs) = both item_row (go env body) (trace_rows go body envs)

-- what the body of an entry meets
abbrev pub trace_slot : Site → Deeper Items → Env → Value → Captured → Res Items
trace_slot site go env v c =
    elim (binding (site.body c.number).pattern v) [ None ↦ Err NoClause | Some as' ↦ go (slot_scope env c as') (site.body c.number).nodes ]

-- what the bodies of entries meet, in order
abbrev pub trace_slots : Site → Deeper Items → Env → Value → List Captured → Res Slots
trace_slots site go env v [] = Ok no_slots
trace_slots site go env v (c ∷ cs) =
    both (slot_of c.number (cut (site.body c.number).nodes)) (trace_slot site go env v c) (trace_slots site go env v cs)

-- an else without content is none
abbrev pub trace_else : Deeper Items → Env → Nodes → Res Item
trace_else go env no_nodes = Ok met_nothing
trace_else go env (node n ns) = on_res (met_branch 1 (cut (node n ns))) (go env (node n ns))

-- what a place meets
abbrev pub trace_place : Site → Deeper Items → Env → Place → Res Item
trace_place site go env (put e) = on_res (λ t. met_text (reading env (free_names e)) (escape_text t)) (then_do (eval_expr env e) printed)
trace_place site go env (attribute n e) = on_res (met_text (reading env (free_names e))) (then_do (eval_expr env e) (print_attribute n))
trace_place site go env (spread e) = on_res (met_text (reading env (free_names e))) (then_do (eval_expr env e) print_spread)
trace_place site go env (if_place t a b) =
    then_do (eval_expr env t) (λ v. if is_true v then on_res (met_branch 0 (cut a)) (go env a) else trace_else go env b)
trace_place site go env (case_place e cs) =
    then_do (eval_expr env e) (λ v. then_do (chosen v cs) (λ c. on_res (met_branch c.index (cut c.nodes)) (go (bind c.variables env) c.nodes)))
trace_place site go env (for_place p e body) =
    on_res (met_rows (reading env (free_place (for_place p e body))) (cut body)) (then_do (then_do (eval_expr env e) items_of) (λ vs. trace_rows go body (row_scopes env p vs)))
trace_place site go env (call t xs content es) =
    on_res (met_call (cut (site.template t))) (then_do (call_assigns env xs content es) (λ as'. go (callee env as') (site.template t)))
trace_place site go env (render_slot e a) =
    on_res met_slots (then_do (then_do (eval_expr env e) (slots_of site)) (λ cs. then_do (eval_expr env a) (λ v. trace_slots site go env v cs)))
trace_place site go env (live_call xs content es) =
    then_do (then_do (live_assigns env xs) (component_of env (module_in xs))) (λ c. on_res (met_component c.number (cut (site.root (module_in xs)))) (go (component_scope env c) (site.root (module_in xs))))
trace_place site go env (stream_place s x p body) =
    then_do (stream_of env s) (λ st. on_res (met_stream s st.shown (operations x p st) (cut body)) (trace_rows go body (stream_scopes env x p st)))

-- what places meet, in order
abbrev pub trace_places : Site → Deeper Items → Env → List Place → Res Items
trace_places site go env [] = Ok no_items
trace_places site go env (p ∷ ps) = both item (trace_place site go env p) (trace_places site go env ps)

-- with so many levels left
abbrev pub trace : Site → ℕ → Env → Nodes → Res Items
trace site zero env ns = Err Deep
trace site (suc k) env ns = trace_places site (trace site k) env (places_in ns)
