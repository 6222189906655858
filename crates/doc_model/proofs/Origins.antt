-- Where the components of a page come from: each is the rendering of a living component's template under its assigns.
use Rattle.std.proofs.Common.{◌≡◌, inl, inr, ℕ, zero, suc, List, [], ◌∷◌, ◌++◌, map, Ok, Err, Option, Some, None, Bool, true, false, ◌&&◌, if◌then◌else◌, refl, sym, ap, ◌∙◌, subst}
use Rattle.std.specs.Str.{bytes_eq}
use Rattle.std.proofs.lemmas.Slice.Eq.{bytes_eq-Decides}
use Rattle.value_core.specs.Value.{Value, Assigns, no_assigns, same}
use Rattle.ast_core.specs.Syntax.{Place, put, attribute, spread, if_place, case_place, for_place, call, render_slot, live_call, stream_place, Nodes, no_nodes, node}
use Rattle.ast_core.specs.Free.{free_names, free_place}
use Rattle.doc_model.specs.Environment.{Component, Env, binding, bindings, bind, inside, reading, find}
use Rattle.doc_model.specs.Evaluation.{Res, then_do, on_res, eval_expr, printed, is_true}
use Rattle.text_core.specs.Escape.{escape_text}
use Rattle.doc_model.specs.Printing.{print_attribute, print_spread}
use Rattle.value_core.specs.declared.raise.Raise.TheVariants.{NoClause}
use Rattle.doc_model.specs.Trace.{Items, item, Item, met_text, met_branch, met_rows, met_call, met_slots, met_component, met_stream, item_row, slot_of}
use Rattle.doc_model.specs.Components.{Part, parts, parts_of, parts_of_rows, parts_of_slots, AllOf, Lives}
use Rattle.doc_model.specs.Scopes.{Site, Deeper, Captured, chosen, callee, component_scope, component_of, or_none, id_of, slot_scope, stream_of, stream_scopes, operations, row_scopes, slots_of}
use Rattle.ast_core.specs.Places.{cut, places_in}
use Rattle.doc_model.specs.Tracing.{trace, trace_places, trace_place, trace_rows, trace_slot, trace_slots, trace_else}
use Rattle.doc_model.proofs.Results.{On, on_made, on_bind, on_both, on_weaker, on_all, on_then}
use Rattle.doc_model.proofs.Sames.{both_true}
use Rattle.doc_model.specs.Calls.{items_of, call_assigns, live_assigns, module_in}

pub all_append : (P : Part → Type 0) (ps qs : List Part) → AllOf P ps → AllOf P qs → AllOf P (ps ++ qs)
all_append P [] qs h k = k
all_append P (p ∷ ps) qs h k = (h.0, all_append P ps qs h.1 k)

pub all_left : (P : Part → Type 0) (ps qs : List Part) → AllOf P (ps ++ qs) → AllOf P ps
all_left P [] qs h = tt
all_left P (p ∷ ps) qs h = (h.0, all_left P ps qs h.1)

pub all_right : (P : Part → Type 0) (ps qs : List Part) → AllOf P (ps ++ qs) → AllOf P qs
all_right P [] qs h = h
all_right P (p ∷ ps) qs h = all_right P ps qs h.1

pub all_weaker : (P Q : Part → Type 0) (ps : List Part) → ((p : Part) → P p → Q p) → AllOf P ps → AllOf Q ps
all_weaker P Q [] h k = tt
all_weaker P Q (p ∷ ps) h k = (h p k.0, all_weaker P Q ps h k.1)

pub all_both : (P Q R : Part → Type 0) (ps : List Part) → ((p : Part) → P p → Q p → R p) → AllOf P ps → AllOf Q ps → AllOf R ps
all_both P Q R [] h k l = tt
all_both P Q R (p ∷ ps) h k l = (h p k.0 l.0, all_both P Q R ps h k.1 l.1)

abbrev pub scope_of : List Component → Component → Env
scope_of cs c = record { assigns = c.assigns; variables = no_assigns; streams = Some c.streams; components = cs }

pub record Origin (site : Site) (cs : List Component) (p : Part) : Type 0 where
  pub level : ℕ
  pub component : Component
  pub lives : Lives component cs
  pub number_is : component.number ≡ p.number
  pub statics_are : p.statics ≡ cut (site.root component.module_name)
  pub rendered : trace site level (scope_of cs component) (site.root component.module_name) ≡ Ok p.items

-- what is found lives, and has the module
abbrev Found : List ℕ → List Component → Component → Type 0
Found m cs c = Lives c cs × (c.module_name ≡ m)

found_lives : (m : List ℕ) (v : Value) (cs : List Component) → On (Found m cs) (or_none (find m v cs))
found_lives m v [] = tt
found_lives m v (c ∷ cs) = by_test (bytes_eq m c.module_name && same v c.id) refl (on_weaker (Found m cs) (Found m (c ∷ cs)) (or_none (find m v cs)) (λ d h. (inr h.0, h.1)) (found_lives m v cs))
  where
    by_test : (b : Bool) → (bytes_eq m c.module_name && same v c.id) ≡ b → On (Found m (c ∷ cs)) (or_none (find m v cs)) → On (Found m (c ∷ cs)) (or_none (if b then Some c else find m v cs))
    by_test true e h = (inl refl, sym ((bytes_eq-Decides m c.module_name).0 (both_true (bytes_eq m c.module_name) (same v c.id) e).0))
    by_test false e h = h

pub live_lives : (env : Env) (m : List ℕ) (r : Res Assigns) → On (Found m env.components) (then_do r (component_of env m))
live_lives env m r = on_bind (Found m env.components) r (component_of env m) (λ as'. on_bind (Found m env.components) (id_of as') _ (λ v. found_lives m v env.components))

module _ (site : Site) where
  abbrev From : List Component → List Part → Type 0
  From cs ps = AllOf (Origin site cs) ps

  abbrev pub Comes : Deeper Items → Type 0
  Comes go = (env : Env) (ns : Nodes) → On (λ is. From env.components (parts is)) (go env ns)

  module _ (k : ℕ) (comes : Comes (trace site k)) where
    abbrev go : Deeper Items
    go env ns = trace site k env ns

    rows_come : {A : Type 0} (cs : List Component) (g : A → Env) (body : Nodes) (bs : List A) → ((b : A) → (g b).components ≡ cs) → On (λ rs. From cs (parts_of_rows rs)) (trace_rows (trace site k) body (map g bs))
    rows_come cs g body [] h = tt
    rows_come cs g body (b ∷ bs) h =
        on_both (λ is. From cs (parts is)) (λ rs. From cs (parts_of_rows rs)) (λ rs. From cs (parts_of_rows rs)) item_row (trace site k (g b) body) (trace_rows (trace site k) body (map g bs))
        (λ x y p q. all_append (Origin site cs) (parts x) (parts_of_rows y) p q)
        (subst (λ ds. On (λ is. From ds (parts is)) (trace site k (g b) body)) (h b) (comes (g b) body)) (rows_come cs g body bs h)

    slot_comes : (env : Env) (v : Value) (c : Captured) → On (λ is. From env.components (parts is)) (trace_slot site (trace site k) env v c)
    slot_comes env v c = by_binding (binding (site.body c.number).pattern v)
      where
        by_binding : (o : Option Assigns) → On (λ is. From env.components (parts is)) (elim o [ None ↦ Err NoClause | Some as' ↦ trace site k (slot_scope env c as') (site.body c.number).nodes ])
        by_binding None = tt
        by_binding (Some as') = comes (slot_scope env c as') (site.body c.number).nodes

    slots_come : (env : Env) (v : Value) (cs : List Captured) → On (λ ss. From env.components (parts_of_slots ss)) (trace_slots site (trace site k) env v cs)
    slots_come env v [] = tt
    slots_come env v (c ∷ cs) =
        on_both (λ is. From env.components (parts is)) (λ ss. From env.components (parts_of_slots ss)) (λ ss. From env.components (parts_of_slots ss)) (slot_of c.number (cut (site.body c.number).nodes)) (trace_slot site (trace site k) env v c) (trace_slots site (trace site k) env v cs)
        (λ x y p q. all_append (Origin site env.components) (parts x) (parts_of_slots y) p q) (slot_comes env v c) (slots_come env v cs)

    abbrev FromItem : Env → Item → Type 0
    FromItem env i = From env.components (parts_of i)

    branch_comes : (env : Env) (i : ℕ) (ns : Nodes) (env' : Env) → env'.components ≡ env.components → On (FromItem env) (on_res (met_branch i (cut ns)) (trace site k env' ns))
    branch_comes env i ns env' e = on_made (FromItem env) (met_branch i (cut ns)) (trace site k env' ns) (subst (λ ds. On (λ is. From ds (parts is)) (trace site k env' ns)) e (comes env' ns))

    choice_comes : (env : Env) (a b : Nodes) (c : Bool) → On (FromItem env) (if c then on_res (met_branch 0 (cut a)) (trace site k env a) else trace_else (trace site k) env b)
    choice_comes env a b true = branch_comes env 0 a env refl
    choice_comes env a no_nodes false = tt
    choice_comes env a (node n ns) false = branch_comes env 1 (node n ns) env refl

    none_come : (env : Env) (f : List ℕ → Item) (r : Res (List ℕ)) → ((t : List ℕ) → parts_of (f t) ≡ []) → On (FromItem env) (on_res f r)
    none_come env f (Ok t) h = subst (From env.components) (sym (h t)) tt
    none_come env f (Err e) h = tt

    component_comes : (env : Env) (m : List ℕ) (c : Component) → Found m env.components c → On (FromItem env) (on_res (met_component c.number (cut (site.root m))) (trace site k (component_scope env c) (site.root m)))
    component_comes env m c fd =
        on_made (FromItem env) (met_component c.number (cut (site.root m))) (trace site k (component_scope env c) (site.root m))
        (both_on (trace site k (component_scope env c) (site.root m)) refl (comes (component_scope env c) (site.root m)))
      where
        both_on : (r : Res Items) → trace site k (component_scope env c) (site.root m) ≡ r → On (λ is. From env.components (parts is)) r → On (λ is. FromItem env (met_component c.number (cut (site.root m)) is)) r
        both_on (Ok is) e h = (
          record {
            level = k;
            component = c;
            lives = fd.0;
            number_is = refl;
            statics_are = ap (λ x. cut (site.root x)) (sym fd.1);
            rendered = ap (λ x. trace site k (component_scope env c) (site.root x)) fd.1 ∙ e;
          },
          h,
        )
        both_on (Err x) e h = tt

    place_comes : (p : Place) (env : Env) → On (FromItem env) (trace_place site (trace site k) env p)
    place_comes (put e) env = none_come env (λ t. met_text (reading env (free_names e)) (escape_text t)) (then_do (eval_expr env e) printed) (λ t. refl)
    place_comes (attribute n e) env = none_come env (met_text (reading env (free_names e))) (then_do (eval_expr env e) (print_attribute n)) (λ t. refl)
    place_comes (spread e) env = none_come env (met_text (reading env (free_names e))) (then_do (eval_expr env e) print_spread) (λ t. refl)
    place_comes (if_place t a b) env = on_bind (FromItem env) (eval_expr env t) _ (λ v. choice_comes env a b (is_true v))
    place_comes (case_place e cs) env = on_bind (FromItem env) (eval_expr env e) _ (λ v. on_bind (FromItem env) (chosen v cs) _ (λ c. branch_comes env c.index c.nodes (bind c.variables env) refl))
    place_comes (for_place p e body) env =
        on_made (FromItem env) (met_rows (reading env (free_place (for_place p e body))) (cut body)) (then_do (then_do (eval_expr env e) items_of) (λ vs. trace_rows (trace site k) body (row_scopes env p vs)))
        (on_bind (λ rs. From env.components (parts_of_rows rs)) (then_do (eval_expr env e) items_of) (λ vs. trace_rows (trace site k) body (row_scopes env p vs)) (λ vs. rows_come env.components (λ as'. inside as' env) body (bindings p vs) (λ y. refl)))
    place_comes (call t xs content es) env =
        on_made (FromItem env) (met_call (cut (site.template t))) (then_do (call_assigns env xs content es) (λ as'. trace site k (callee env as') (site.template t)))
        (on_bind (λ is. From env.components (parts is)) (call_assigns env xs content es) (λ as'. trace site k (callee env as') (site.template t)) (λ as'. comes (callee env as') (site.template t)))
    place_comes (render_slot e a) env =
        on_made (FromItem env) met_slots (then_do (then_do (eval_expr env e) (slots_of site)) (λ cs. then_do (eval_expr env a) (λ v. trace_slots site (trace site k) env v cs)))
        (on_bind (λ ss. From env.components (parts_of_slots ss)) (then_do (eval_expr env e) (slots_of site)) (λ cs. then_do (eval_expr env a) (λ v. trace_slots site (trace site k) env v cs))
        (λ cs. on_bind (λ ss. From env.components (parts_of_slots ss)) (eval_expr env a) (λ v. trace_slots site (trace site k) env v cs) (λ v. slots_come env v cs)))
    place_comes (live_call xs content es) env = on_then (Found (module_in xs) env.components) (FromItem env) (then_do (live_assigns env xs) (component_of env (module_in xs))) _ (live_lives env (module_in xs) (live_assigns env xs)) (λ c fd. component_comes env (module_in xs) c fd)
    place_comes (stream_place s x p body) env =
        on_bind (FromItem env) (stream_of env s) _ (λ st. on_made (FromItem env) (met_stream s st.shown (operations x p st) (cut body)) (trace_rows (trace site k) body (stream_scopes env x p st)) (on_all _ (trace_rows (trace site k) body (stream_scopes env x p st)) (λ rs. tt)))

    places_come : (ps : List Place) (env : Env) → On (λ is. From env.components (parts is)) (trace_places site (trace site k) env ps)
    places_come [] env = tt
    places_come (p ∷ ps) env =
        on_both (FromItem env) (λ is. From env.components (parts is)) (λ is. From env.components (parts is)) item (trace_place site (trace site k) env p) (trace_places site (trace site k) env ps)
        (λ x y h l. all_append (Origin site env.components) (parts_of x) (parts y) h l) (place_comes p env) (places_come ps env)

  pub trace_comes : (k : ℕ) → Comes (trace site k)
  trace_comes zero env ns = tt
  trace_comes (suc k) env ns = places_come k (trace_comes k) (places_in ns) env
