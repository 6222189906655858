-- One rendering of a process: the walk through its components, and what it meets on the way.
use Rattle.std.specs.Prelude.{◌≡◌, ℕ, zero, suc, nat_lt, List, [], ◌∷◌, ◌++◌, ◌==◌, ◌&&◌, Ok, Err, Option, Some, None, Bool, true, false, if◌then◌else◌}
use Rattle.std.specs.Str.{bytes_eq}
use Rattle.value_core.specs.Value.{Value, Assigns, same, same_assigns}
use Rattle.ast_core.specs.Syntax.{Place, put, attribute, spread, if_place, case_place, for_place, call, render_slot, live_call, stream_place, Nodes, no_nodes, node}
use Rattle.ast_core.specs.Free.{free_place}
use Rattle.doc_model.specs.Environment.{Stream, Component, Env, binding, bind, reading, find}
use Rattle.doc_model.specs.Evaluation.{Res, then_do, on_res, eval_expr, is_true}
use Rattle.value_core.specs.declared.raise.Raise.TheVariants.{Deep, Duplicate, Range, NoClause}
use Rattle.doc_model.specs.Trace.{Items, no_items, item, Item, met_nothing, met_branch, met_rows, met_call, met_slots, met_component, ItemRows, no_item_rows, item_row, Slots, no_slots, slot_of}
use Rattle.doc_model.specs.Scopes.{Site, Captured, chosen, callee, component_scope, id_of, slot_scope, row_scopes, slots_of}
use Rattle.ast_core.specs.Places.{cut, places_in}
use Rattle.doc_model.specs.Tracing.{trace, trace_place}
use Rattle.doc_model.specs.Calls.{items_of, call_assigns, live_assigns, module_in}
use Rattle.diff_tree.specs.Client.{among}

-- what handlers of a component change
pub record Owner : Type 0 where
  pub assigns : Assigns
  pub streams : List ℕ → Stream

-- the meaning of the handed-in views: a new component's mount and update, and a living one's update;
-- X is the rest of the process: its inbox, actions and pushed events
pub record Views (X : Type 0) : Type 0 where
  -- by module, number and attributes
  pub mounted : List ℕ → ℕ → Assigns → X → Res (Owner × X)
  pub updated : List ℕ → Owner → Assigns → X → Res (Owner × X)

-- the process during a walk: the components in order of numbers, those met so far, the next number
pub record Walk (X : Type 0) : Type 0 where
  pub components : List Component
  pub met : List ℕ
  pub next : ℕ
  pub rest : X

-- what handlers of a component see
abbrev pub owner_of : Component → Owner
owner_of c = record { assigns = c.assigns; streams = c.streams }

-- a component after its handlers
abbrev pub component_with : ℕ → List ℕ → Value → Assigns → Owner → Component
component_with n m i as' o = record { number = n; module_name = m; id = i; passed = as'; assigns = o.assigns; streams = o.streams }

-- the component of a module and an id, changed
abbrev pub with_changed : List ℕ → Value → Component → List Component → List Component
with_changed m i c [] = []
with_changed m i c (d ∷ ds) = if bytes_eq m d.module_name && same i d.id then c ∷ ds else d ∷ with_changed m i c ds

-- steps that read and change the process, and may raise
abbrev pub Step : Type 0 → Type 0 → Type 0
Step X A = Walk X → Res (A × Walk X)

-- a result that leaves the process as it is
abbrev pub plainly : {X A : Type 0} → Res A → Step X A
plainly r s = on_res (λ a. (a, s)) r

-- one step and then the next
abbrev pub and_so : {X A B : Type 0} → Step X A → (A → Step X B) → Step X B
and_so m f s = then_do (m s) (λ p. f p.0 p.1)

-- a function of what a step gives
abbrev pub giving : {X A B : Type 0} → (A → B) → Step X A → Step X B
giving f m s = on_res (λ p. (f p.0, p.1)) (m s)

-- two steps, one after the other
abbrev pub in_turn : {X A B C : Type 0} → (A → B → C) → Step X A → Step X B → Step X C
in_turn f m n s = then_do (m s) (λ p. on_res (λ q. (f p.0 q.0, q.1)) (n p.1))

module _ {X : Type 0} (views : Views X) where
  -- a new pair of module and id
  abbrev pub begin : List ℕ → Value → Assigns → Step X Component
  begin m i as' s =
      if nat_lt s.next 4294967296
      then on_res (λ p. (component_with s.next m i as' p.0, record { components = s.components ++ (component_with s.next m i as' p.0 ∷ []); met = s.next ∷ s.met; next = suc s.next; rest = p.1 }))
      (views.mounted m s.next as' s.rest)
      else Err Range

  -- a living one, updated where its attributes differ from those last passed
  abbrev pub go_on : List ℕ → Value → Component → Assigns → Step X Component
  go_on m i c as' s =
      if among c.number s.met then Err Duplicate
      else if same_assigns as' c.passed then Ok (c, record s { met = c.number ∷ s.met })
      else on_res (λ p. (component_with c.number m i as' p.0, record { components = with_changed m i (component_with c.number m i as' p.0) s.components; met = c.number ∷ s.met; next = s.next; rest = p.1 }))
      (views.updated m (owner_of c) as' s.rest)

  abbrev pub reach_found : List ℕ → Value → Assigns → Option Component → Step X Component
  reach_found m i as' None = begin m i as'
  reach_found m i as' (Some c) = go_on m i c as'

  abbrev pub reach : List ℕ → Assigns → Step X Component
  reach m as' s = then_do (id_of as') (λ i. reach_found m i as' (find m i s.components) s)

  abbrev pub Onward : Type 0
  Onward = Env → Nodes → Step X Items

  -- the walk and the trace in one
  abbrev pub pass_rows : Onward → Nodes → List Env → Step X ItemRows
  pass_rows go body [] = plainly (Ok no_item_rows)
  pass_rows go body (env ∷ envs) = in_turn item_row (go env body) (pass_rows go body envs)

  abbrev pub pass_slot : Site → Onward → Env → Value → Captured → Step X Items
  pass_slot site go env v c =
      elim (binding (site.body c.number).pattern v) [ None ↦ plainly (Err NoClause) | Some as' ↦ go (slot_scope env c as') (site.body c.number).nodes ]

  abbrev pub pass_slots : Site → Onward → Env → Value → List Captured → Step X Slots
  pass_slots site go env v [] = plainly (Ok no_slots)
  pass_slots site go env v (c ∷ cs) = in_turn (slot_of c.number (cut (site.body c.number).nodes)) (pass_slot site go env v c) (pass_slots site go env v cs)

  abbrev pub pass_else : Onward → Env → Nodes → Step X Item
  pass_else go env no_nodes = plainly (Ok met_nothing)
  pass_else go env (node n ns) = giving (met_branch 1 (cut (node n ns))) (go env (node n ns))

  -- `k` levels are left below, and a place without nodes inside is as in the trace
  abbrev pub pass_place : Site → ℕ → Onward → Env → Place → Step X Item
  pass_place site k go env (if_place t a b) =
      and_so (plainly (eval_expr env t)) (λ v. if is_true v then giving (met_branch 0 (cut a)) (go env a) else pass_else go env b)
  pass_place site k go env (case_place e cs) =
      and_so (plainly (then_do (eval_expr env e) (λ v. chosen v cs))) (λ c. giving (met_branch c.index (cut c.nodes)) (go (bind c.variables env) c.nodes))
  pass_place site k go env (for_place p e body) =
      giving (met_rows (reading env (free_place (for_place p e body))) (cut body)) (and_so (plainly (then_do (eval_expr env e) items_of)) (λ vs. pass_rows go body (row_scopes env p vs)))
  pass_place site k go env (call t xs content es) =
      giving (met_call (cut (site.template t))) (and_so (plainly (call_assigns env xs content es)) (λ as'. go (callee env as') (site.template t)))
  pass_place site k go env (render_slot e a) =
      giving met_slots (and_so (plainly (then_do (eval_expr env e) (slots_of site))) (λ cs. and_so (plainly (eval_expr env a)) (λ v. pass_slots site go env v cs)))
  pass_place site k go env (live_call xs content es) =
      and_so (and_so (plainly (live_assigns env xs)) (reach (module_in xs))) (λ c. giving (met_component c.number (cut (site.root (module_in xs)))) (go (component_scope env c) (site.root (module_in xs))))
  pass_place site k go env (put e) = plainly (trace_place site (trace site k) env (put e))
  pass_place site k go env (attribute n e) = plainly (trace_place site (trace site k) env (attribute n e))
  pass_place site k go env (spread e) = plainly (trace_place site (trace site k) env (spread e))
  pass_place site k go env (stream_place s x p body) = plainly (trace_place site (trace site k) env (stream_place s x p body))

  abbrev pub pass_places : Site → ℕ → Onward → Env → List Place → Step X Items
  pass_places site k go env [] = plainly (Ok no_items)
  pass_places site k go env (p ∷ ps) = in_turn item (pass_place site k go env p) (pass_places site k go env ps)

  abbrev pub pass : Site → ℕ → Onward
  pass site zero env ns = plainly (Err Deep)
  pass site (suc k) env ns = pass_places site k (pass site k) env (places_in ns)

-- two that give nothing
abbrev pub nothing_more : {A B : Type 0} → A → B → Unit {0}
nothing_more a b = tt

module _ {X : Type 0} (views : Views X) where
  -- the walk alone: it evaluates only what leads to components
  abbrev pub Visit : Type 0
  Visit = Step X (Unit {0})

  abbrev pub skip : Visit
  skip s = Ok (tt, s)

  abbrev pub both_visited : Visit → Visit → Visit
  both_visited m n = in_turn nothing_more m n

  abbrev pub visit_rows : (Env → Nodes → Visit) → Nodes → List Env → Visit
  visit_rows go body [] = skip
  visit_rows go body (env ∷ envs) = both_visited (go env body) (visit_rows go body envs)

  abbrev pub visit_slot : Site → (Env → Nodes → Visit) → Env → Value → Captured → Visit
  visit_slot site go env v c =
      elim (binding (site.body c.number).pattern v) [ None ↦ plainly (Err NoClause) | Some as' ↦ go (slot_scope env c as') (site.body c.number).nodes ]

  abbrev pub visit_slots : Site → (Env → Nodes → Visit) → Env → Value → List Captured → Visit
  visit_slots site go env v [] = skip
  visit_slots site go env v (c ∷ cs) = both_visited (visit_slot site go env v c) (visit_slots site go env v cs)

  abbrev pub visit_else : (Env → Nodes → Visit) → Env → Nodes → Visit
  visit_else go env no_nodes = skip
  visit_else go env (node n ns) = go env (node n ns)

  abbrev pub visit_place : Site → (Env → Nodes → Visit) → Env → Place → Visit
  visit_place site go env (if_place t a b) = and_so (plainly (eval_expr env t)) (λ v. if is_true v then go env a else visit_else go env b)
  visit_place site go env (case_place e cs) = and_so (plainly (then_do (eval_expr env e) (λ v. chosen v cs))) (λ c. go (bind c.variables env) c.nodes)
  visit_place site go env (for_place p e body) = and_so (plainly (then_do (eval_expr env e) items_of)) (λ vs. visit_rows go body (row_scopes env p vs))
  visit_place site go env (call t xs content es) = and_so (plainly (call_assigns env xs content es)) (λ as'. go (callee env as') (site.template t))
  visit_place site go env (render_slot e a) =
      and_so (plainly (then_do (eval_expr env e) (slots_of site))) (λ cs. and_so (plainly (eval_expr env a)) (λ v. visit_slots site go env v cs))
  visit_place site go env (live_call xs content es) = and_so (and_so (plainly (live_assigns env xs)) (reach views (module_in xs))) (λ c. go (component_scope env c) (site.root (module_in xs)))
  visit_place site go env _ = skip

  abbrev pub visit_places : Site → (Env → Nodes → Visit) → Env → List Place → Visit
  visit_places site go env [] = skip
  visit_places site go env (p ∷ ps) = both_visited (visit_place site go env p) (visit_places site go env ps)

  abbrev pub visit : Site → ℕ → Env → Nodes → Visit
  visit site zero env ns = plainly (Err Deep)
  visit site (suc k) env ns = visit_places site (visit site k) env (places_in ns)

-- the components that were met are left
abbrev pub swept : List ℕ → List Component → List Component
swept ms [] = []
swept ms (c ∷ cs) = if among c.number ms then c ∷ swept ms cs else swept ms cs

-- a scope with the components of a state
abbrev pub in_state : List Component → Env → Env
in_state cs env = record env { components = cs }

-- the process after the walk: what was not met is gone
abbrev pub at_end_of_walk : {X : Type 0} → Walk X → Walk X
at_end_of_walk s = record s { components = swept s.met s.components; met = [] }

-- what one rendering of a process gives: the trace, and the process after it
abbrev pub render_state : {X : Type 0} → Views X → Site → ℕ → Env → Nodes → Walk X → Res (Items × Walk X)
render_state views site k env ns s =
    on_res (λ p. (p.0, at_end_of_walk p.1)) (pass views site k env ns (record s { met = [] }))

-- the process after the walk alone
abbrev pub walked : {X : Type 0} → Views X → Site → ℕ → Env → Nodes → Walk X → Res (Walk X)
walked views site k env ns s = on_res (λ p. p.1) (render_state views site k env ns s)

-- one pass raises exactly where the walk, and then the rendering of the state that it leaves, raise; its trace is the trace of that state
abbrev pub OnePass : Type 0 → Type 0
OnePass X = (views : Views X) (site : Site) (k : ℕ) (env : Env) (ns : Nodes) (s : Walk X)
    → render_state views site k env ns s ≡ then_do (walked views site k env ns s) (λ s'. on_res (λ is. (is, s')) (trace site k (in_state s'.components env) ns))

-- the walk alone, and what it leaves
abbrev pub component_walk : {X : Type 0} → Views X → Site → ℕ → Env → Nodes → Walk X → Res (Walk X)
component_walk views site k env ns s = on_res (λ p. at_end_of_walk p.1) (visit views site k env ns (record s { met = [] }))

-- a rendering in one pass does not raise exactly where the walk alone, and then the trace of the state that it leaves, do not raise; and it gives that state and that trace
abbrev pub PassIsWalkAndTrace : Type 0 → Type 0
PassIsWalkAndTrace X = (views : Views X) (site : Site) (k : ℕ) (env : Env) (ns : Nodes) (s : Walk X) (is : Items) (t : Walk X)
    → (render_state views site k env ns s ≡ Ok (is, t) → (component_walk views site k env ns s ≡ Ok t) × (trace site k (in_state t.components env) ns ≡ Ok is))
    × ((component_walk views site k env ns s ≡ Ok t) × (trace site k (in_state t.components env) ns ≡ Ok is) → render_state views site k env ns s ≡ Ok (is, t))
