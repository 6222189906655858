-- The page of the settled state is the page that the rendering showed.
use Rattle.std.proofs.Common.{◌≡◌, ℕ, zero, suc, List, [], ◌∷◌, ◌++◌, map, Ok, Err, Option, Some, None, Bool, true, false, ◌&&◌, if◌then◌else◌, refl, sym, ap, ◌∙◌, subst}
use Rattle.std.specs.Str.{bytes_eq}
use Rattle.value_core.specs.Value.{Value, Values, Assigns, same}
use Rattle.ast_core.specs.Syntax.{Pattern, Expr, Entries, Place, put, attribute, spread, if_place, case_place, for_place, call, render_slot, live_call, stream_place, Nodes, no_nodes, node, Clauses, Attributes, Body}
use Rattle.ast_core.specs.Free.{free_names, free_place}
use Rattle.doc_model.specs.Environment.{Stream, Component, Env, binding, bindings, bind, inside, reading, find}
use Rattle.doc_model.specs.Evaluation.{Res, then_do, both, on_res, eval_expr, printed, is_true}
use Rattle.text_core.specs.Escape.{escape_text}
use Rattle.doc_model.specs.Printing.{print_attribute, print_spread}
use Rattle.diff_tree.specs.Container.{after, contents}
use Rattle.value_core.specs.declared.raise.Raise.TheVariants.{NoClause, NoAssign}
use Rattle.diff_tree.specs.Tree.{weave, flat}
use Rattle.doc_model.specs.Trace.{Items, item, Item, met_text, met_branch, met_rows, met_call, met_slots, met_component, met_stream, item_row, slot_of, texts, shown, row_texts, shown_slots}
use Rattle.doc_model.specs.Left.{Containers, Leaves, LeavesItem, clause_at}
use Rattle.doc_model.specs.Components.{Part, parts, parts_of, parts_of_rows, parts_of_slots, AllOf, Lives}
use Rattle.doc_model.specs.Once.{left, left_to}
use Rattle.doc_model.specs.Run.{settled_stream, settled_streams, settled_components, settled_env, SettledShows}
use Rattle.doc_model.specs.Scopes.{Site, Deeper, Captured, Chosen, chosen, callee, component_scope, component_of, or_none, id_of, slot_scope, stream_scopes, operations, row_scopes, slots_of}
use Rattle.ast_core.specs.Places.{cut, places_in}
use Rattle.doc_model.specs.FullRendering.{full_render, full_place, full_rows, full_slot, full_slots, full_else}
use Rattle.doc_model.specs.Tracing.{trace, trace_places, trace_place, trace_rows, trace_slot, trace_slots, trace_else}
use Rattle.doc_model.proofs.Results.{On, on_made, on_both, on_weaker, on_all}
use Rattle.doc_model.proofs.Weave.{each, nodes_woven}
use Rattle.doc_model.proofs.Shows.{trace_shown}
use Rattle.doc_model.proofs.Names.{agree_same, eval_agrees}
use Rattle.doc_model.proofs.Calling.{call_same, live_same}
use Rattle.doc_model.proofs.Facts.{empty, chosen_at, LeavesNone, trace_leaves_none}
use Rattle.doc_model.proofs.Origins.{all_left, all_right, live_lives}
use Rattle.doc_model.proofs.Onces.{left_behind}
use Rattle.doc_model.specs.Calls.{items_of, call_assigns, live_assigns, module_in}

module _ (site : Site) (f : ℕ → Containers) where
  abbrev Behind : List Component → List Part → Type 0
  Behind cs ps = AllOf (λ q. (c : Component) → Lives c cs → c.number ≡ q.number → Leaves site.mark (f q.number) (places_in (site.root c.module_name)) q.items) ps

  abbrev of_part : List Component → Part → Type 0
  of_part cs q = (c : Component) → Lives c cs → c.number ≡ q.number → Leaves site.mark (f q.number) (places_in (site.root c.module_name)) q.items

  abbrev Settles : Deeper Items → Deeper (List ℕ) → Type 0
  Settles go to = (g : Containers) (env : Env) (ns : Nodes) → On (λ is. Leaves site.mark g (places_in ns) is → Behind env.components (parts is) → to (settled_env g f env) ns ≡ Ok (weave (cut ns) (texts site.mark is))) (go env ns)

  eval_settled : (g : Containers) (env : Env) (e : Expr) → eval_expr (settled_env g f env) e ≡ eval_expr env e
  eval_settled g env e = eval_agrees e (settled_env g f env) env (agree_same (settled_env g f env) env (free_names e) refl refl)

  call_settled : (g : Containers) (env : Env) (xs : Attributes) (c : Body) (es : Entries) → call_assigns (settled_env g f env) xs c es ≡ call_assigns env xs c es
  call_settled g env xs c es = call_same xs c es (settled_env g f env) env refl refl

  live_settled : (g : Containers) (env : Env) (xs : Attributes) → live_assigns (settled_env g f env) xs ≡ live_assigns env xs
  live_settled g env xs = live_same xs (settled_env g f env) env refl refl

  abbrev settle_one : Component → Component
  settle_one c = record c { streams = settled_stream (f c.number) }

  found_settled : (m : List ℕ) (v : Value) (cs : List Component) → or_none (find m v (settled_components f cs)) ≡ on_res settle_one (or_none (find m v cs))
  found_settled m v [] = refl
  found_settled m v (c ∷ cs) = by_test (bytes_eq m c.module_name && same v c.id) (found_settled m v cs)
    where
      by_test : (b : Bool) → or_none (find m v (settled_components f cs)) ≡ on_res settle_one (or_none (find m v cs)) → or_none (if b then Some (settle_one c) else find m v (settled_components f cs)) ≡ on_res settle_one (or_none (if b then Some c else find m v cs))
      by_test true e = refl
      by_test false e = e

  component_settled : (g : Containers) (env : Env) (m : List ℕ) (r : Res Assigns) → then_do r (component_of (settled_env g f env) m) ≡ on_res settle_one (then_do r (component_of env m))
  component_settled g env m (Err e) = refl
  component_settled g env m (Ok as') = by_id (id_of as')
    where
      by_id : (r : Res Value) → then_do r (λ v. or_none (find m v (settled_components f env.components))) ≡ on_res settle_one (then_do r (λ v. or_none (find m v env.components)))
      by_id (Ok v) = found_settled m v env.components
      by_id (Err e) = refl

  module _ (go : Deeper Items) (to : Deeper (List ℕ)) (h : Settles go to) (leaves : LeavesNone site go) where
    abbrev At : Containers → Env → Place → Item → Type 0
    At g env p i = LeavesItem site.mark g p i → Behind env.components (parts_of i) → full_place site to (settled_env g f env) p ≡ Ok (shown site.mark i)

    -- where there are no streams
    none_settles : (g : Containers) (env : Env) (ns : Nodes) → env.streams ≡ None → On (λ is. Behind env.components (parts is) → to (settled_env g f env) ns ≡ Ok (weave (cut ns) (texts site.mark is))) (go env ns)
    none_settles g env ns e =
        subst (λ o. On (λ is. Behind env.components (parts is) → to (record { assigns = env.assigns; variables = env.variables; streams = o; components = settled_components f env.components }) ns ≡ Ok (weave (cut ns) (texts site.mark is))) (go env ns))
        (no_streams empty g env.streams e)
        (both_on (go env ns) (leaves env ns e) (h empty env ns))
      where
        no_streams : (a b : Containers) (o : Option (List ℕ → Stream)) → o ≡ None → settled_streams a o ≡ settled_streams b o
        no_streams a b None q = refl
        no_streams a b (Some x) q = cc

        both_on : (r : Res Items) → On (Leaves site.mark empty (places_in ns)) r → On (λ is. Leaves site.mark empty (places_in ns) is → Behind env.components (parts is) → to (settled_env empty f env) ns ≡ Ok (weave (cut ns) (texts site.mark is))) r
            → On (λ is. Behind env.components (parts is) → to (settled_env empty f env) ns ≡ Ok (weave (cut ns) (texts site.mark is))) r
        both_on (Ok is) l k = k l
        both_on (Err x) l k = tt

    text_settles : {A : Type 0} (g : Containers) (env : Env) (p : Place) (i : A → Item) (t : A → List ℕ) (r : Res A) → ((a : A) → shown site.mark (i a) ≡ t a) → full_place site to (settled_env g f env) p ≡ on_res t r → On (At g env p) (on_res i r)
    text_settles g env p i t (Ok a) e q = λ l b. q ∙ ap Ok (sym (e a))
    text_settles g env p i t (Err x) e q = tt

    on_id : (r : Res (List ℕ)) → r ≡ on_res (λ t. t) r
    on_id (Ok t) = refl
    on_id (Err x) = refl

    branch_settles : (g : Containers) (env env' : Env) (p : Place) (i : ℕ) (ns : Nodes) → env'.components ≡ env.components → ((is : Items) → LeavesItem site.mark g p (met_branch i (cut ns) is) → Leaves site.mark g (places_in ns) is)
        → full_place site to (settled_env g f env) p ≡ to (settled_env g f env') ns → On (At g env p) (on_res (met_branch i (cut ns)) (go env' ns))
    branch_settles g env env' p i ns e l q =
        on_made (At g env p) (met_branch i (cut ns)) (go env' ns)
        (on_weaker _ (λ is. At g env p (met_branch i (cut ns) is)) (go env' ns) (λ is k x b. q ∙ k (l is x) (subst (λ cs. Behind cs (parts is)) (sym e) b)) (h g env' ns))

    choice_settles : (g : Containers) (env : Env) (t : Expr) (a b : Nodes) (c : Bool) → full_place site to (settled_env g f env) (if_place t a b) ≡ (if c then to (settled_env g f env) a else full_else to (settled_env g f env) b)
        → On (At g env (if_place t a b)) (if c then on_res (met_branch 0 (cut a)) (go env a) else trace_else go env b)
    choice_settles g env t a b true q = branch_settles g env env (if_place t a b) 0 a refl (λ is l. l.0) q
    choice_settles g env t a no_nodes false q = λ l b. q
    choice_settles g env t a (node n ns) false q = branch_settles g env env (if_place t a (node n ns)) 1 (node n ns) refl (λ is l. l.1) q

    clause_settles : (g : Containers) (env : Env) (e : Expr) (cs : Clauses) (r : Res Chosen) → On (λ c. c.nodes ≡ clause_at c.index cs) r → full_place site to (settled_env g f env) (case_place e cs) ≡ then_do r (λ c. to (bind c.variables (settled_env g f env)) c.nodes)
        → On (At g env (case_place e cs)) (then_do r (λ c. on_res (met_branch c.index (cut c.nodes)) (go (bind c.variables env) c.nodes)))
    clause_settles g env e cs (Ok c) q x = branch_settles g env (bind c.variables env) (case_place e cs) c.index c.nodes refl (λ is l. subst (λ m. Leaves site.mark g (places_in m) is) (sym q) l.0) x
    clause_settles g env e cs (Err y) q x = tt

    rows_settle : (g : Containers) (env : Env) (body : Nodes) (bs : List Assigns)
        → On (λ rs. Behind env.components (parts_of_rows rs) → full_rows to body (map (λ as'. inside as' (settled_env g f env)) bs) ≡ Ok (row_texts site.mark (cut body) rs)) (trace_rows go body (map (λ as'. inside as' env) bs))
    rows_settle g env body [] = λ b. refl
    rows_settle g env body (as' ∷ bs) =
        on_both (λ is. Behind env.components (parts is) → to (inside as' (settled_env g f env)) body ≡ Ok (weave (cut body) (texts site.mark is)))
        (λ rs. Behind env.components (parts_of_rows rs) → full_rows to body (map (λ as'. inside as' (settled_env g f env)) bs) ≡ Ok (row_texts site.mark (cut body) rs)) _ item_row (go (inside as' env) body) (trace_rows go body (map (λ as'. inside as' env) bs))
        (λ is rs x y b. ap (λ r. both (λ t ts. t ∷ ts) r (full_rows to body (map (λ as'. inside as' (settled_env g f env)) bs))) (x (all_left (of_part env.components) (parts is) (parts_of_rows rs) b))
        ∙ ap (both (λ t ts. t ∷ ts) (Ok (weave (cut body) (texts site.mark is)))) (y (all_right (of_part env.components) (parts is) (parts_of_rows rs) b)))
        (none_settles g (inside as' env) body refl) (rows_settle g env body bs)

    slot_settles : (g : Containers) (env : Env) (v : Value) (c : Captured) → On (λ is. Behind env.components (parts is) → full_slot site to (settled_env g f env) v c ≡ Ok (weave (cut (site.body c.number).nodes) (texts site.mark is))) (trace_slot site go env v c)
    slot_settles g env v c = by_binding (binding (site.body c.number).pattern v)
      where
        by_binding : (o : Option Assigns) → On (λ is. Behind env.components (parts is) → (elim o [ None ↦ Err NoClause | Some as' ↦ to (slot_scope (settled_env g f env) c as') (site.body c.number).nodes ]) ≡ Ok (weave (cut (site.body c.number).nodes) (texts site.mark is)))
            (elim o [ None ↦ Err NoClause | Some as' ↦ go (slot_scope env c as') (site.body c.number).nodes ])
        by_binding None = tt
        by_binding (Some as') = none_settles g (slot_scope env c as') (site.body c.number).nodes refl

    slots_settle : (g : Containers) (env : Env) (v : Value) (cs : List Captured) → On (λ ss. Behind env.components (parts_of_slots ss) → full_slots site to (settled_env g f env) v cs ≡ Ok (shown_slots site.mark ss)) (trace_slots site go env v cs)
    slots_settle g env v [] = λ b. refl
    slots_settle g env v (c ∷ cs) =
        on_both (λ is. Behind env.components (parts is) → full_slot site to (settled_env g f env) v c ≡ Ok (weave (cut (site.body c.number).nodes) (texts site.mark is)))
        (λ ss. Behind env.components (parts_of_slots ss) → full_slots site to (settled_env g f env) v cs ≡ Ok (shown_slots site.mark ss)) _ (slot_of c.number (cut (site.body c.number).nodes)) (trace_slot site go env v c) (trace_slots site go env v cs)
        (λ is ss x y b. ap (λ r. both (λ a b. a ++ b) r (full_slots site to (settled_env g f env) v cs)) (x (all_left (of_part env.components) (parts is) (parts_of_slots ss) b))
        ∙ ap (both (λ a b. a ++ b) (Ok (weave (cut (site.body c.number).nodes) (texts site.mark is)))) (y (all_right (of_part env.components) (parts is) (parts_of_slots ss) b)))
        (slot_settles g env v c) (slots_settle g env v cs)

    stream_settles : (g : Containers) (env : Env) (s x : List ℕ) (p : Pattern) (body : Nodes) (o : Option (List ℕ → Stream)) → full_place site to (settled_env g f env) (stream_place s x p body) ≡ then_do (elim (settled_streams g o) [ None ↦ Err NoAssign | Some y ↦ Ok (y s) ]) (λ st. Ok (flat (contents st.shown)))
        → On (At g env (stream_place s x p body)) (then_do (elim o [ None ↦ Err NoAssign | Some y ↦ Ok (y s) ]) (λ st. on_res (met_stream s st.shown (operations x p st) (cut body)) (trace_rows go body (stream_scopes env x p st))))
    stream_settles g env s x p body None q = tt
    stream_settles g env s x p body (Some y) q =
        on_made (At g env (stream_place s x p body)) (met_stream s (y s).shown (operations x p (y s)) (cut body)) (trace_rows go body (stream_scopes env x p (y s)))
        (on_all _ (trace_rows go body (stream_scopes env x p (y s))) (λ new l b. q ∙ ap (λ c. Ok (flat (contents c))) l))

    stream_full : (g : Containers) (env : Env) (s x : List ℕ) (p : Pattern) (body : Nodes) (o : Option (List ℕ → Stream))
        → then_do (elim (settled_streams g o) [ None ↦ Err NoAssign | Some y ↦ Ok (y s) ]) (λ st. on_res (λ ts. flat (contents (after (operations x p st) ts st.shown))) (full_rows to body (stream_scopes (settled_env g f env) x p st)))
        ≡ then_do (elim (settled_streams g o) [ None ↦ Err NoAssign | Some y ↦ Ok (y s) ]) (λ st. Ok (flat (contents st.shown)))
    stream_full g env s x p body None = refl
    stream_full g env s x p body (Some y) = refl

    then_eq : {A B : Type 0} (r r' : Res A) (k : A → Res B) → r ≡ r' → then_do r k ≡ then_do r' k
    then_eq r r' k e = ap (λ z. then_do z k) e

    place_settles : (p : Place) (g : Containers) (env : Env) → On (At g env p) (trace_place site go env p)
    place_settles (put e) g env = text_settles g env (put e) (λ t. met_text (reading env (free_names e)) (escape_text t)) escape_text (then_do (eval_expr env e) printed) (λ t. refl) (ap (λ r. on_res escape_text (then_do r printed)) (eval_settled g env e))
    place_settles (attribute n e) g env = text_settles g env (attribute n e) (met_text (reading env (free_names e))) (λ t. t) (then_do (eval_expr env e) (print_attribute n)) (λ t. refl) (ap (λ r. then_do r (print_attribute n)) (eval_settled g env e) ∙ on_id _)
    place_settles (spread e) g env = text_settles g env (spread e) (met_text (reading env (free_names e))) (λ t. t) (then_do (eval_expr env e) print_spread) (λ t. refl) (ap (λ r. then_do r print_spread) (eval_settled g env e) ∙ on_id _)
    place_settles (if_place t a b) g env = by_value (eval_expr env t) (eval_settled g env t)
      where
        by_value : (r : Res Value) → eval_expr (settled_env g f env) t ≡ r → On (At g env (if_place t a b)) (then_do r (λ v. if is_true v then on_res (met_branch 0 (cut a)) (go env a) else trace_else go env b))
        by_value (Ok v) q = choice_settles g env t a b (is_true v) (ap (λ r. then_do r (λ v. if is_true v then to (settled_env g f env) a else full_else to (settled_env g f env) b)) q)
        by_value (Err x) q = tt
    place_settles (case_place e cs) g env = by_value (eval_expr env e) (eval_settled g env e)
      where
        by_value : (r : Res Value) → eval_expr (settled_env g f env) e ≡ r → On (At g env (case_place e cs)) (then_do r (λ v. then_do (chosen v cs) (λ c. on_res (met_branch c.index (cut c.nodes)) (go (bind c.variables env) c.nodes))))
        by_value (Ok v) q = clause_settles g env e cs (chosen v cs) (chosen_at v cs) (ap (λ r. then_do r (λ v. then_do (chosen v cs) (λ c. to (bind c.variables (settled_env g f env)) c.nodes))) q)
        by_value (Err x) q = tt
    place_settles (for_place p e body) g env = by_value (then_do (eval_expr env e) items_of) (ap (λ r. then_do r items_of) (eval_settled g env e))
      where
        by_value : (r : Res Values) → then_do (eval_expr (settled_env g f env) e) items_of ≡ r → On (At g env (for_place p e body)) (on_res (met_rows (reading env (free_place (for_place p e body))) (cut body)) (then_do r (λ vs. trace_rows go body (row_scopes env p vs))))
        by_value (Ok vs) q =
            on_made (At g env (for_place p e body)) (met_rows (reading env (free_place (for_place p e body))) (cut body)) (trace_rows go body (row_scopes env p vs))
            (on_weaker _ _ (trace_rows go body (row_scopes env p vs)) (λ rs k l b. ap (λ r. on_res flat (then_do r (λ vs. full_rows to body (row_scopes (settled_env g f env) p vs)))) q ∙ ap (on_res flat) (k b)) (rows_settle g env body (bindings p vs)))
        by_value (Err x) q = tt
    place_settles (call t xs content es) g env = by_value (call_assigns env xs content es) (call_settled g env xs content es)
      where
        by_value : (r : Res Assigns) → call_assigns (settled_env g f env) xs content es ≡ r → On (At g env (call t xs content es)) (on_res (met_call (cut (site.template t))) (then_do r (λ as'. go (callee env as') (site.template t))))
        by_value (Ok as') q =
            on_made (At g env (call t xs content es)) (met_call (cut (site.template t))) (go (callee env as') (site.template t))
            (on_weaker _ _ (go (callee env as') (site.template t))
            (λ is k l b. ap (λ r. then_do r (λ as'. to (callee (settled_env g f env) as') (site.template t))) q ∙ k b)
            (none_settles g (callee env as') (site.template t) refl))
        by_value (Err x) q = tt
    place_settles (render_slot e a) g env = by_value (then_do (eval_expr env e) (slots_of site)) (ap (λ r. then_do r (slots_of site)) (eval_settled g env e)) (eval_expr env a) (eval_settled g env a)
      where
        by_value : (r : Res (List Captured)) → then_do (eval_expr (settled_env g f env) e) (slots_of site) ≡ r → (w : Res Value) → eval_expr (settled_env g f env) a ≡ w
            → On (At g env (render_slot e a)) (on_res met_slots (then_do r (λ cs. then_do w (λ v. trace_slots site go env v cs))))
        by_value (Ok cs) q (Ok v) y =
            on_made (At g env (render_slot e a)) met_slots (trace_slots site go env v cs)
            (on_weaker _ _ (trace_slots site go env v cs)
            (λ ss k l b. ap (λ r. then_do r (λ cs. then_do (eval_expr (settled_env g f env) a) (λ v. full_slots site to (settled_env g f env) v cs))) q
            ∙ ap (λ r. then_do r (λ v. full_slots site to (settled_env g f env) v cs)) y ∙ k b)
            (slots_settle g env v cs))
        by_value (Ok cs) q (Err x) y = tt
        by_value (Err x) q w y = tt
    place_settles (live_call xs content es) g env =
        by_component (then_do (live_assigns env xs) (component_of env (module_in xs))) (live_lives env (module_in xs) (live_assigns env xs)) (ap (λ r. then_do r (component_of (settled_env g f env) (module_in xs))) (live_settled g env xs) ∙ component_settled g env (module_in xs) (live_assigns env xs))
      where
        by_component : (r : Res Component) → On (λ c. Lives c env.components × (c.module_name ≡ (module_in xs))) r → then_do (live_assigns (settled_env g f env) xs) (component_of (settled_env g f env) (module_in xs)) ≡ on_res settle_one r
            → On (At g env (live_call xs content es)) (then_do r (λ c. on_res (met_component c.number (cut (site.root (module_in xs)))) (go (component_scope env c) (site.root (module_in xs)))))
        by_component (Err x) l q = tt
        by_component (Ok c) l q =
            on_made (At g env (live_call xs content es)) (met_component c.number (cut (site.root (module_in xs)))) (go (component_scope env c) (site.root (module_in xs)))
            (on_weaker _ _ (go (component_scope env c) (site.root (module_in xs)))
            (λ is k x b. ap (λ r. then_do r (λ c. on_res (site.mark c.number) (to (component_scope (settled_env g f env) c) (site.root (module_in xs))))) q
            ∙ ap (on_res (site.mark c.number)) (k (subst (λ y. Leaves site.mark (f c.number) (places_in (site.root y)) is) l.1 (b.0 c l.0 refl)) b.1))
            (h (f c.number) (component_scope env c) (site.root (module_in xs))))
    place_settles (stream_place s x p body) g env = stream_settles g env s x p body env.streams (stream_full g env s x p body env.streams)

    places_settle : (ps : List Place) (g : Containers) (env : Env) → On (λ is. Leaves site.mark g ps is → Behind env.components (parts is) → each (full_place site to (settled_env g f env)) ps ≡ Ok (texts site.mark is)) (trace_places site go env ps)
    places_settle [] g env = λ l b. refl
    places_settle (p ∷ ps) g env =
        on_both (At g env p) (λ is. Leaves site.mark g ps is → Behind env.components (parts is) → each (full_place site to (settled_env g f env)) ps ≡ Ok (texts site.mark is)) _ item (trace_place site go env p) (trace_places site go env ps)
        (λ i is x y l b. ap (λ r. both (λ t ts. t ∷ ts) r (each (full_place site to (settled_env g f env)) ps)) (x l.0 (all_left (of_part env.components) (parts_of i) (parts is) b))
        ∙ ap (both (λ t ts. t ∷ ts) (Ok (shown site.mark i))) (y l.1 (all_right (of_part env.components) (parts_of i) (parts is) b)))
        (place_settles p g env) (places_settle ps g env)

  trace_settles : (k : ℕ) → Settles (trace site k) (full_render site k)
  trace_settles zero g env ns = tt
  trace_settles (suc k) g env ns =
      on_weaker (λ is. Leaves site.mark g (places_in ns) is → Behind env.components (parts is) → each (full_place site (full_render site k) (settled_env g f env)) (places_in ns) ≡ Ok (texts site.mark is)) _ (trace site (suc k) env ns)
      (λ is x l b. sym (nodes_woven site (full_render site k) (settled_env g f env) ns) ∙ ap (on_res (weave (cut ns))) (x l b))
      (places_settle (trace site k) (full_render site k) (trace_settles k) (trace_leaves_none site k) (places_in ns) g env)

pub settled_shows : SettledShows
settled_shows site k n env ns is e table di once once_root =
    let lb = left_behind site k n env ns is e table di once once_root in
    let s = subst (On (λ is'. Leaves site.mark (left site.mark is) (places_in ns) is' → Behind site (left_to site.mark is) env.components (parts is') → full_render site k (settled_env (left site.mark is) (left_to site.mark is) env) ns ≡ Ok (weave (cut ns) (texts site.mark is')))) e
    (trace_settles site (left_to site.mark is) k (left site.mark is) env ns) in
    s lb.root_left lb.part_left ∙ sym (sym (trace_shown site k env ns) ∙ ap (on_res (λ x. weave (cut ns) (texts site.mark x))) e)
