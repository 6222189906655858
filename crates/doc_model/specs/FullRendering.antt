-- The full rendering: the text of nodes by direct recursion over the source.
use Rattle.std.specs.Prelude.{ℕ, zero, suc, List, [], ◌∷◌, ◌++◌, Ok, Err, Some, None, if◌then◌else◌, codes}
use Rattle.value_core.specs.Value.{Value}
use Rattle.ast_core.specs.Syntax.{Attributes, no_attributes, written, valued, spread_of, module_of, Node, text_node, element, at_place, Place, put, attribute, spread, if_place, case_place, for_place, call, render_slot, live_call, stream_place, Nodes, no_nodes, node}
use Rattle.doc_model.specs.Environment.{Env, binding, bind}
use Rattle.doc_model.specs.Evaluation.{Res, then_do, both, on_res, eval_expr, printed, is_true}
use Rattle.text_core.specs.Escape.{escape_text}
use Rattle.doc_model.specs.Printing.{print_attribute, print_spread}
use Rattle.diff_tree.specs.Container.{after, contents}
use Rattle.diff_tree.specs.Tree.{flat}
use Rattle.value_core.specs.declared.raise.Raise.TheVariants.{Deep, NoClause}
use Rattle.ast_core.specs.Places.{written_text, closing, opening}
use Rattle.doc_model.specs.Scopes.{Captured, Deeper, Site, callee, chosen, component_of, component_scope, operations, row_scopes, slot_scope, slots_of, stream_of, stream_scopes}
use Rattle.doc_model.specs.Calls.{items_of, call_assigns, live_assigns, module_in}

-- the full rendering, by recursion over the source
abbrev pub full_rows : Deeper (List ℕ) → Nodes → List Env → Res (List (List ℕ))
full_rows go body [] = Ok []
full_rows go body (env ∷ envs) = both (λ t ts. t ∷ ts) (go env body) (full_rows go body envs)

-- the body of an entry, under what it captured and what its `:let` binds
abbrev pub full_slot : Site → Deeper (List ℕ) → Env → Value → Captured → Res (List ℕ)
full_slot site go env v c =
    elim (binding (site.body c.number).pattern v) [ None ↦ Err NoClause | Some as' ↦ go (slot_scope env c as') (site.body c.number).nodes ]

-- the bodies of entries, in order
abbrev pub full_slots : Site → Deeper (List ℕ) → Env → Value → List Captured → Res (List ℕ)
full_slots site go env v [] = Ok []
full_slots site go env v (c ∷ cs) = both (λ a b. a ++ b) (full_slot site go env v c) (full_slots site go env v cs)

-- an else without content is none
abbrev pub full_else : Deeper (List ℕ) → Env → Nodes → Res (List ℕ)
full_else go env no_nodes = Ok []
full_else go env (node n ns) = go env (node n ns)

-- the text of a place
abbrev pub full_place : Site → Deeper (List ℕ) → Env → Place → Res (List ℕ)
full_place site go env (put e) = on_res escape_text (then_do (eval_expr env e) printed)
full_place site go env (attribute n e) = then_do (eval_expr env e) (print_attribute n)
full_place site go env (spread e) = then_do (eval_expr env e) print_spread
full_place site go env (if_place t a b) = then_do (eval_expr env t) (λ v. if is_true v then go env a else full_else go env b)
full_place site go env (case_place e cs) = then_do (eval_expr env e) (λ v. then_do (chosen v cs) (λ c. go (bind c.variables env) c.nodes))
full_place site go env (for_place p e body) = on_res flat (then_do (then_do (eval_expr env e) items_of) (λ vs. full_rows go body (row_scopes env p vs)))
full_place site go env (call t xs content es) = then_do (call_assigns env xs content es) (λ as'. go (callee env as') (site.template t))
full_place site go env (render_slot e a) = then_do (then_do (eval_expr env e) (slots_of site)) (λ cs. then_do (eval_expr env a) (λ v. full_slots site go env v cs))
full_place site go env (live_call xs content es) =
    then_do (then_do (live_assigns env xs) (component_of env (module_in xs))) (λ c. on_res (site.mark c.number) (go (component_scope env c) (site.root (module_in xs))))
full_place site go env (stream_place s x p body) =
    then_do (stream_of env s) (λ st. on_res (λ ts. flat (contents (after (operations x p st) ts st.shown))) (full_rows go body (stream_scopes env x p st)))

-- the text of attributes, in order
abbrev pub full_attributes : Site → Deeper (List ℕ) → Env → Attributes → Res (List ℕ)
full_attributes site go env no_attributes = Ok []
full_attributes site go env (written n w xs) = on_res (λ u. written_text n w ++ u) (full_attributes site go env xs)
full_attributes site go env (valued n e xs) = both (λ a b. a ++ b) (full_place site go env (attribute n e)) (full_attributes site go env xs)
full_attributes site go env (spread_of e xs) = both (λ a b. a ++ b) (full_place site go env (spread e)) (full_attributes site go env xs)
full_attributes site go env (module_of m xs) = full_attributes site go env xs

-- an element of its attributes and its children
abbrev pub element_text : List ℕ → List ℕ → List ℕ → List ℕ
element_text t a b = opening t ++ (a ++ (codes ">" ++ (b ++ closing t)))

abbrev mutual
  pub full_node : Site → Deeper (List ℕ) → Env → Node → Res (List ℕ)
  full_node site go env (text_node t) = Ok t
  full_node site go env (element l t xs ns) = both (element_text t) (full_attributes site go env xs) (full_nodes site go env ns)
  full_node site go env (at_place o p) = full_place site go env p

  pub full_nodes : Site → Deeper (List ℕ) → Env → Nodes → Res (List ℕ)
  full_nodes site go env no_nodes = Ok []
  full_nodes site go env (node n ns) = both (λ a b. a ++ b) (full_node site go env n) (full_nodes site go env ns)

-- with so many levels left
abbrev pub full_render : Site → ℕ → Env → Nodes → Res (List ℕ)
full_render site zero env ns = Err Deep
full_render site (suc k) env ns = full_nodes site (full_render site k) env ns
