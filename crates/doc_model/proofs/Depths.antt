-- As many levels as the rendering had are enough to show a page through its components.
use Rattle.std.proofs.Common.{◌≡◌, ℕ, zero, suc, ◌≤◌, List, [], ◌∷◌, Err, Option, Some, None, Bool, true, false, if◌then◌else◌, refl, arith}
use Rattle.value_core.specs.Value.{Value, Assigns}
use Rattle.ast_core.specs.Syntax.{Place, put, attribute, spread, if_place, case_place, for_place, call, render_slot, live_call, stream_place, Nodes, no_nodes, node}
use Rattle.ast_core.specs.Free.{free_names, free_place}
use Rattle.doc_model.specs.Environment.{Env, binding, bind, reading}
use Rattle.doc_model.specs.Evaluation.{Res, then_do, on_res, eval_expr, printed, is_true}
use Rattle.text_core.specs.Escape.{escape_text}
use Rattle.doc_model.specs.Printing.{print_attribute, print_spread}
use Rattle.value_core.specs.declared.raise.Raise.TheVariants.{NoClause}
use Rattle.doc_model.specs.Trace.{Items, item, Item, met_text, met_branch, met_rows, met_call, met_slots, met_component, met_stream, item_row, slot_of}
use Rattle.doc_model.specs.Components.{depth, depth_of, depth_of_rows, depth_of_slots}
use Rattle.doc_model.specs.Scopes.{Site, Deeper, Captured, chosen, callee, component_scope, component_of, slot_scope, stream_of, stream_scopes, operations, row_scopes, slots_of}
use Rattle.ast_core.specs.Places.{cut, places_in}
use Rattle.doc_model.specs.Tracing.{trace, trace_places, trace_place, trace_rows, trace_slot, trace_slots, trace_else}
use Rattle.doc_model.proofs.Results.{On, on_made, on_bind, on_both, on_weaker, on_all}
use Rattle.doc_model.specs.Calls.{items_of, call_assigns, live_assigns, module_in}

module _ (site : Site) (k : ℕ) (go : Deeper Items) (h : (env : Env) (ns : Nodes) → On (λ is. depth is ≤ k) (go env ns)) where
  abbrev Low : Item → Type 0
  Low i = depth_of i ≤ suc k

  rows_low : (body : Nodes) (envs : List Env) → On (λ rs. depth_of_rows rs ≤ k) (trace_rows go body envs)
  rows_low body [] = omega arith
  rows_low body (env ∷ envs) = on_both (λ is. depth is ≤ k) (λ rs. depth_of_rows rs ≤ k) (λ rs. depth_of_rows rs ≤ k) item_row (go env body) (trace_rows go body envs) (λ x y p q. omega arith) (h env body) (rows_low body envs)

  slot_low : (env : Env) (v : Value) (c : Captured) → On (λ is. depth is ≤ k) (trace_slot site go env v c)
  slot_low env v c = by_binding (binding (site.body c.number).pattern v)
    where
      by_binding : (o : Option Assigns) → On (λ is. depth is ≤ k) (elim o [ None ↦ Err NoClause | Some as' ↦ go (slot_scope env c as') (site.body c.number).nodes ])
      by_binding None = tt
      by_binding (Some as') = h (slot_scope env c as') (site.body c.number).nodes

  slots_low : (env : Env) (v : Value) (cs : List Captured) → On (λ ss. depth_of_slots ss ≤ k) (trace_slots site go env v cs)
  slots_low env v [] = omega arith
  slots_low env v (c ∷ cs) = on_both (λ is. depth is ≤ k) (λ ss. depth_of_slots ss ≤ k) (λ ss. depth_of_slots ss ≤ k) (slot_of c.number (cut (site.body c.number).nodes)) (trace_slot site go env v c) (trace_slots site go env v cs) (λ x y p q. omega arith) (slot_low env v c) (slots_low env v cs)

  made_low : {A : Type 0} (g : A → Item) (P : A → Type 0) (r : Res A) → ((a : A) → P a → Low (g a)) → On P r → On Low (on_res g r)
  made_low g P r l p = on_made Low g r (on_weaker P (λ a. Low (g a)) r l p)

  none_low : {A : Type 0} (g : A → Item) (r : Res A) → ((a : A) → depth_of (g a) ≡ 0) → On Low (on_res g r)
  none_low g r l = on_made Low g r (on_all (λ a. Low (g a)) r (λ a. let x = l a in omega arith))

  branch_low : (i : ℕ) (env : Env) (ns : Nodes) → On Low (on_res (met_branch i (cut ns)) (go env ns))
  branch_low i env ns = made_low (met_branch i (cut ns)) (λ is. depth is ≤ k) (go env ns) (λ a p. omega arith) (h env ns)

  choice_low : (env : Env) (a b : Nodes) (c : Bool) → On Low (if c then on_res (met_branch 0 (cut a)) (go env a) else trace_else go env b)
  choice_low env a b true = branch_low 0 env a
  choice_low env a no_nodes false = omega arith
  choice_low env a (node n ns) false = branch_low 1 env (node n ns)

  place_low : (p : Place) (env : Env) → On Low (trace_place site go env p)
  place_low (put e) env = none_low (λ t. met_text (reading env (free_names e)) (escape_text t)) (then_do (eval_expr env e) printed) (λ t. refl)
  place_low (attribute n e) env = none_low (met_text (reading env (free_names e))) (then_do (eval_expr env e) (print_attribute n)) (λ t. refl)
  place_low (spread e) env = none_low (met_text (reading env (free_names e))) (then_do (eval_expr env e) print_spread) (λ t. refl)
  place_low (if_place t a b) env = on_bind Low (eval_expr env t) _ (λ v. choice_low env a b (is_true v))
  place_low (case_place e cs) env = on_bind Low (eval_expr env e) _ (λ v. on_bind Low (chosen v cs) _ (λ c. branch_low c.index (bind c.variables env) c.nodes))
  place_low (for_place p e body) env =
      made_low (met_rows (reading env (free_place (for_place p e body))) (cut body)) (λ rs. depth_of_rows rs ≤ k) _ (λ a q. omega arith) (on_bind (λ rs. depth_of_rows rs ≤ k) (then_do (eval_expr env e) items_of) _ (λ vs. rows_low body (row_scopes env p vs)))
  place_low (call t xs content es) env = made_low (met_call (cut (site.template t))) (λ is. depth is ≤ k) _ (λ a q. omega arith) (on_bind (λ is. depth is ≤ k) (call_assigns env xs content es) _ (λ as'. h (callee env as') (site.template t)))
  place_low (render_slot e a) env =
      made_low met_slots (λ ss. depth_of_slots ss ≤ k) _ (λ x q. omega arith) (on_bind (λ ss. depth_of_slots ss ≤ k) (then_do (eval_expr env e) (slots_of site)) _ (λ cs. on_bind (λ ss. depth_of_slots ss ≤ k) (eval_expr env a) _ (λ v. slots_low env v cs)))
  place_low (live_call xs content es) env =
      on_bind Low (then_do (live_assigns env xs) (component_of env (module_in xs))) _ (λ c. made_low (met_component c.number (cut (site.root (module_in xs)))) (λ is. depth is ≤ k) (go (component_scope env c) (site.root (module_in xs))) (λ a q. omega arith) (h (component_scope env c) (site.root (module_in xs))))
  place_low (stream_place s x p body) env =
      on_bind Low (stream_of env s) _ (λ st. none_low (met_stream s st.shown (operations x p st) (cut body)) (trace_rows go body (stream_scopes env x p st)) (λ t. refl))

  places_low : (ps : List Place) (env : Env) → On (λ is. depth is ≤ suc k) (trace_places site go env ps)
  places_low [] env = omega arith
  places_low (p ∷ ps) env = on_both Low (λ is. depth is ≤ suc k) (λ is. depth is ≤ suc k) item (trace_place site go env p) (trace_places site go env ps) (λ x y q r. omega arith) (place_low p env) (places_low ps env)

pub trace_depth : (site : Site) (k : ℕ) (env : Env) (ns : Nodes) → On (λ is. depth is ≤ k) (trace site k env ns)
trace_depth site zero env ns = tt
trace_depth site (suc k) env ns = places_low site k (trace site k) (trace_depth site k) (places_in ns) env
