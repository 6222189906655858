-- What is threaded through a pass: a relation between the process before and after, and the numbers met between.
use Rattle.std.proofs.Common.{◌≡◌, ℕ, zero, suc, List, [], ◌∷◌, ◌++◌, map, Ok, Err, Option, Some, None, Bool, true, false, if◌then◌else◌, refl, sym, subst}
use Rattle.std.proofs.lemmas.List.{map-append}
use Rattle.value_core.specs.Value.{Value, Assigns}
use Rattle.ast_core.specs.Syntax.{Place, put, attribute, spread, if_place, case_place, for_place, call, render_slot, live_call, stream_place, Nodes, no_nodes, node}
use Rattle.ast_core.specs.Free.{free_names, free_place}
use Rattle.doc_model.specs.Environment.{Component, Env, binding, bind, reading}
use Rattle.doc_model.specs.Evaluation.{Res, then_do, on_res, eval_expr, printed, is_true}
use Rattle.text_core.specs.Escape.{escape_text}
use Rattle.doc_model.specs.Printing.{print_attribute, print_spread}
use Rattle.value_core.specs.declared.raise.Raise.TheVariants.{NoClause}
use Rattle.doc_model.specs.Trace.{Items, no_items, item, Item, met_text, met_nothing, met_branch, met_rows, met_call, met_slots, met_component, met_stream, ItemRows, no_item_rows, item_row, Slots, no_slots, slot_of}
use Rattle.doc_model.specs.Components.{Part, parts, parts_of, parts_of_rows, parts_of_slots}
use Rattle.doc_model.specs.Scopes.{Site, Captured, chosen, callee, component_scope, slot_scope, stream_of, stream_scopes, operations, row_scopes, slots_of}
use Rattle.ast_core.specs.Places.{cut, places_in}
use Rattle.doc_model.specs.Tracing.{trace, trace_place, trace_rows}
use Rattle.doc_model.specs.Walk.{Views, Walk, Step, plainly, and_so, giving, in_turn, reach, Onward, pass_rows, pass_slot, pass_slots, pass_else, pass_place, pass_places, pass}
use Rattle.doc_model.proofs.Results.{On, on_bind}
use Rattle.doc_model.specs.Calls.{items_of, call_assigns, live_assigns, module_in}

abbrev pub numbers : List Part → List ℕ
numbers ps = map (λ p. p.number) ps

pub record Thread {X : Type 0} (views : Views X) (R : Walk X → List ℕ → Walk X → Type 0) : Type 0 where
  pub stay : (s : Walk X) → R s [] s
  pub chain : (s t u : Walk X) (ns ms : List ℕ) → R s ns t → R t ms u → R s (ns ++ ms) u
  pub at_reach : (m : List ℕ) (as' : Assigns) (s : Walk X) → On (λ p. R s (p.0.number ∷ []) p.1) (reach views m as' s)

module _ {X : Type 0} (views : Views X) (R : Walk X → List ℕ → Walk X → Type 0) (th : Thread views R) where
  abbrev Through : {A : Type 0} → (A → List ℕ) → Walk X → Res (A × Walk X) → Type 0
  Through num s r = On (λ p. R s (num p.0) p.1) r

  plainly_through : {A : Type 0} (num : A → List ℕ) (s : Walk X) (r : Res A) → On (λ a. num a ≡ []) r → Through num s (plainly r s)
  plainly_through num s (Ok a) h = subst (λ ns. R s ns s) (sym h) (th.stay s)
  plainly_through num s (Err e) h = tt

  giving_through : {A B : Type 0} (num : A → List ℕ) (num' : B → List ℕ) (g : A → B) (s : Walk X) (m : Step X A) → ((a : A) → num' (g a) ≡ num a) → Through num s (m s) → Through num' s (giving g m s)
  giving_through {A = A} num num' g s m e h = made (m s) h
    where
      made : (r : Res (A × Walk X)) → Through num s r → Through num' s (on_res (λ p. (g p.0, p.1)) r)
      made (Ok p) k = subst (λ ns. R s ns p.1) (sym (e p.0)) k
      made (Err x) k = tt

  -- a first step that meets nothing
  and_so_through : {A B : Type 0} (num : B → List ℕ) (s : Walk X) (r : Res A) (k : A → Step X B) → ((a : A) → Through num s (k a s)) → Through num s (and_so (plainly r) k s)
  and_so_through num s (Ok a) k h = h a
  and_so_through num s (Err e) k h = tt

  in_turn_through : {A B C : Type 0} (na : A → List ℕ) (nb : B → List ℕ) (nc : C → List ℕ) (g : A → B → C) (s : Walk X) (m : Step X A) (n : Step X B) → ((a : A) (b : B) → nc (g a b) ≡ na a ++ nb b)
      → Through na s (m s) → ((t : Walk X) → Through nb t (n t)) → Through nc s (in_turn g m n s)
  in_turn_through {A = A} {B = B} na nb nc g s m n e h k = first (m s) h
    where
      second : (a : A) (t : Walk X) → R s (na a) t → (r : Res (B × Walk X)) → Through nb t r → Through nc s (on_res (λ q. (g a q.0, q.1)) r)
      second a t x (Ok q) y = subst (λ ns. R s ns q.1) (sym (e a q.0)) (th.chain s t q.1 (na a) (nb q.0) x y)
      second a t x (Err w) y = tt

      first : (r : Res (A × Walk X)) → Through na s r → Through nc s (then_do r (λ p. on_res (λ q. (g p.0 q.0, q.1)) (n p.1)))
      first (Ok p) x = second p.0 p.1 x (n p.1) (k p.1)
      first (Err w) x = tt

  abbrev of_items : Items → List ℕ
  of_items is = numbers (parts is)

  abbrev of_item : Item → List ℕ
  of_item i = numbers (parts_of i)

  abbrev of_rows : ItemRows → List ℕ
  of_rows rs = numbers (parts_of_rows rs)

  abbrev of_slots : Slots → List ℕ
  of_slots ss = numbers (parts_of_slots ss)

  module _ (site : Site) (k : ℕ) (h : (env : Env) (ns : Nodes) (s : Walk X) → Through of_items s (pass views site k env ns s)) where
    abbrev onward : Onward views
    onward = pass views site k

    rows_through : (body : Nodes) (envs : List Env) (s : Walk X) → Through of_rows s (pass_rows views onward body envs s)
    rows_through body [] s = plainly_through of_rows s (Ok no_item_rows) refl
    rows_through body (env ∷ envs) s =
        in_turn_through of_items of_rows of_rows item_row s (onward env body) (pass_rows views onward body envs) (λ a b. map-append (λ p. p.number) (parts a) (parts_of_rows b)) (h env body s) (λ t. rows_through body envs t)

    slot_through : (env : Env) (v : Value) (c : Captured) (s : Walk X) → Through of_items s (pass_slot views site onward env v c s)
    slot_through env v c s = by_binding (binding (site.body c.number).pattern v)
      where
        by_binding : (o : Option Assigns) → Through of_items s ((elim o as (λ x. Step X Items) [ None ↦ plainly (Err NoClause) | Some as' ↦ pass views site k (slot_scope env c as') (site.body c.number).nodes ]) s)
        by_binding None = tt
        by_binding (Some as') = h (slot_scope env c as') (site.body c.number).nodes s

    slots_through : (env : Env) (v : Value) (cs : List Captured) (s : Walk X) → Through of_slots s (pass_slots views site onward env v cs s)
    slots_through env v [] s = plainly_through of_slots s (Ok no_slots) refl
    slots_through env v (c ∷ cs) s =
        in_turn_through of_items of_slots of_slots (slot_of c.number (cut (site.body c.number).nodes)) s (pass_slot views site onward env v c) (pass_slots views site onward env v cs) (λ a b. map-append (λ p. p.number) (parts a) (parts_of_slots b)) (slot_through env v c s) (λ t. slots_through env v cs t)

    branch_through : (i : ℕ) (env : Env) (ns : Nodes) (s : Walk X) → Through of_item s (giving (met_branch i (cut ns)) (onward env ns) s)
    branch_through i env ns s = giving_through of_items of_item (met_branch i (cut ns)) s (onward env ns) (λ a. refl) (h env ns s)

    choice_through : (env : Env) (a b : Nodes) (c : Bool) (s : Walk X) → Through of_item s ((if c then giving (met_branch 0 (cut a)) (onward env a) else pass_else views onward env b) s)
    choice_through env a b true s = branch_through 0 env a s
    choice_through env a no_nodes false s = plainly_through of_item s (Ok met_nothing) refl
    choice_through env a (node n ns) false s = branch_through 1 env (node n ns) s

    live_through : (env : Env) (m : List ℕ) (s : Walk X) (r : Res (Component × Walk X)) → On (λ p. R s (p.0.number ∷ []) p.1) r
        → Through of_item s (then_do r (λ p. giving (met_component p.0.number (cut (site.root m))) (onward (component_scope env p.0) (site.root m)) p.1))
    live_through env m s (Err e) x = tt
    live_through env m s (Ok p) x = made (onward (component_scope env p.0) (site.root m) p.1) (h (component_scope env p.0) (site.root m) p.1)
      where
        made : (r : Res (Items × Walk X)) → Through of_items p.1 r → Through of_item s (on_res (λ q. (met_component p.0.number (cut (site.root m)) q.0, q.1)) r)
        made (Ok q) y = th.chain s p.1 q.1 (p.0.number ∷ []) (of_items q.0) x y
        made (Err e) y = tt

    texts_none : {A : Type 0} (f : A → Item) (r : Res A) → ((a : A) → of_item (f a) ≡ []) → On (λ i. of_item i ≡ []) (on_res f r)
    texts_none f (Ok a) e = e a
    texts_none f (Err x) e = tt

    place_through : (p : Place) (env : Env) (s : Walk X) → Through of_item s (pass_place views site k onward env p s)
    place_through (put e) env s = plainly_through of_item s (trace_place site (trace site k) env (put e)) (texts_none (λ t. met_text (reading env (free_names e)) (escape_text t)) (then_do (eval_expr env e) printed) (λ t. refl))
    place_through (attribute n e) env s = plainly_through of_item s (trace_place site (trace site k) env (attribute n e)) (texts_none (met_text (reading env (free_names e))) (then_do (eval_expr env e) (print_attribute n)) (λ t. refl))
    place_through (spread e) env s = plainly_through of_item s (trace_place site (trace site k) env (spread e)) (texts_none (met_text (reading env (free_names e))) (then_do (eval_expr env e) print_spread) (λ t. refl))
    place_through (stream_place x y p body) env s =
        plainly_through of_item s (trace_place site (trace site k) env (stream_place x y p body))
        (on_bind (λ i. of_item i ≡ []) (stream_of env x) _ (λ st. texts_none (met_stream x st.shown (operations y p st) (cut body)) (trace_rows (trace site k) body (stream_scopes env y p st)) (λ rs. refl)))
    place_through (if_place t a b) env s = and_so_through of_item s (eval_expr env t) (λ v. if is_true v then giving (met_branch 0 (cut a)) (onward env a) else pass_else views onward env b) (λ v. choice_through env a b (is_true v) s)
    place_through (case_place e cs) env s =
        and_so_through of_item s (then_do (eval_expr env e) (λ v. chosen v cs)) (λ c. giving (met_branch c.index (cut c.nodes)) (onward (bind c.variables env) c.nodes)) (λ c. branch_through c.index (bind c.variables env) c.nodes s)
    place_through (for_place p e body) env s =
        giving_through of_rows of_item (met_rows (reading env (free_place (for_place p e body))) (cut body)) s (and_so (plainly (then_do (eval_expr env e) items_of)) (λ vs. pass_rows views onward body (row_scopes env p vs))) (λ a. refl)
        (and_so_through of_rows s (then_do (eval_expr env e) items_of) (λ vs. pass_rows views onward body (row_scopes env p vs)) (λ vs. rows_through body (row_scopes env p vs) s))
    place_through (call t xs content es) env s =
        giving_through of_items of_item (met_call (cut (site.template t))) s (and_so (plainly (call_assigns env xs content es)) (λ as'. onward (callee env as') (site.template t))) (λ a. refl)
        (and_so_through of_items s (call_assigns env xs content es) (λ as'. onward (callee env as') (site.template t)) (λ as'. h (callee env as') (site.template t) s))
    place_through (render_slot e a) env s =
        giving_through of_slots of_item met_slots s (and_so (plainly (then_do (eval_expr env e) (slots_of site))) (λ cs. and_so (plainly (eval_expr env a)) (λ v. pass_slots views site onward env v cs))) (λ x. refl)
        (and_so_through of_slots s (then_do (eval_expr env e) (slots_of site)) (λ cs. and_so (plainly (eval_expr env a)) (λ v. pass_slots views site onward env v cs))
        (λ cs. and_so_through of_slots s (eval_expr env a) (λ v. pass_slots views site onward env v cs) (λ v. slots_through env v cs s)))
    place_through (live_call xs content es) env s = by_pairs (live_assigns env xs)
      where
        by_pairs : (r : Res Assigns) → Through of_item s (and_so (and_so (plainly r) (reach views (module_in xs))) (λ c. giving (met_component c.number (cut (site.root (module_in xs)))) (onward (component_scope env c) (site.root (module_in xs)))) s)
        by_pairs (Ok as') = live_through env (module_in xs) s (reach views (module_in xs) as' s) (th.at_reach (module_in xs) as' s)
        by_pairs (Err e) = tt

    places_through : (ps : List Place) (env : Env) (s : Walk X) → Through of_items s (pass_places views site k onward env ps s)
    places_through [] env s = plainly_through of_items s (Ok no_items) refl
    places_through (p ∷ ps) env s =
        in_turn_through of_item of_items of_items item s (pass_place views site k onward env p) (pass_places views site k onward env ps) (λ a b. map-append (λ p. p.number) (parts_of a) (parts b)) (place_through p env s) (λ t. places_through ps env t)

  pub pass_through : (site : Site) (k : ℕ) (env : Env) (ns : Nodes) (s : Walk X) → Through of_items s (pass views site k env ns s)
  pass_through site zero env ns s = tt
  pass_through site (suc k) env ns s = places_through site k (pass_through site k) (places_in ns) env s
