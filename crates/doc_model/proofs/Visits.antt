-- One pass raises exactly where the walk alone, and then the trace of the state that it leaves, raise.
use Rattle.std.proofs.Common.{◌≡◌, ℕ, zero, suc, List, [], ◌∷◌, map, Ok, Err, Option, Some, None, Bool, true, false, if◌then◌else◌, refl, sym, ap, ◌∙◌}
use Rattle.value_core.specs.Value.{Value, Values, Assigns}
use Rattle.ast_core.specs.Syntax.{Place, put, attribute, spread, if_place, case_place, for_place, call, render_slot, live_call, stream_place, Nodes, no_nodes, node}
use Rattle.ast_core.specs.Free.{free_names, free_place}
use Rattle.doc_model.specs.Environment.{Component, Env, binding, bindings, bind, inside, reading}
use Rattle.doc_model.specs.Evaluation.{Res, then_do, both, on_res, eval_expr, printed, is_true}
use Rattle.text_core.specs.Escape.{escape_text}
use Rattle.doc_model.specs.Printing.{print_attribute, print_spread}
use Rattle.value_core.specs.declared.raise.Raise.TheVariants.{NoClause}
use Rattle.doc_model.specs.Trace.{Items, no_items, item, Item, met_text, met_nothing, met_branch, met_rows, met_call, met_slots, met_component, no_item_rows, item_row, no_slots, slot_of}
use Rattle.doc_model.specs.Scopes.{Site, Captured, Chosen, chosen, callee, component_scope, component_of, slot_scope, row_scopes, slots_of}
use Rattle.ast_core.specs.Places.{cut, places_in}
use Rattle.doc_model.specs.Tracing.{trace, trace_places, trace_place, trace_rows, trace_slot, trace_slots, trace_else}
use Rattle.doc_model.specs.Walk.{Views, Walk, Step, nothing_more, plainly, and_so, giving, in_turn, reach, Onward, pass_rows, pass_slot, pass_slots, pass_else, pass_place, pass_places, pass, visit_rows, visit_slot, visit_slots, visit_else, visit_place, visit_places, visit, swept, at_end_of_walk, in_state, render_state, component_walk, PassIsWalkAndTrace}
use Rattle.doc_model.proofs.Results.{On}
use Rattle.doc_model.proofs.Runs.{traced_of}
use Rattle.doc_model.proofs.Passes.{Settled, Extends, Traced, back, further, eval_in, live_in, call_in, reading_in, then_assoc, reach_traced, swept_settled, one_pass}
use Rattle.doc_model.specs.Calls.{items_of, call_assigns, live_assigns, module_in}

-- what an equation between results says
on_res_ok : {A B : Type 0} (g : A → B) (r : Res A) (b : B) → on_res g r ≡ Ok b → (a : A) × (r ≡ Ok a) × (g a ≡ b)
on_res_ok g (Ok a) b e = let q : g a ≡ b = cc in (a, refl, q)
on_res_ok g (Err x) b e = cc

both_ok : {A B C : Type 0} (g : A → B → C) (r : Res A) (q : Res B) (c : C) → both g r q ≡ Ok c → (a : A) × (b : B) × (r ≡ Ok a) × (q ≡ Ok b) × (g a b ≡ c)
both_ok g (Ok a) (Ok b) c e = let q : g a b ≡ c = cc in (a, b, refl, refl, q)
both_ok g (Ok a) (Err x) c e = cc
both_ok g (Err x) q c e = cc

abbrev done_with : {X : Type 0} → Walk X → Unit {0} × Walk X
done_with s = (tt, s)

abbrev done : {X : Type 0} → Walk X → Res (Unit {0} × Walk X)
done s = Ok (done_with s)

module _ {X : Type 0} where
  -- a step and its visit: the visit goes where the step goes, and the step goes where the visit goes and the later trace does not raise
  abbrev Alike : {A : Type 0} → Walk X → (List Component → Res A) → Res (A × Walk X) → Res (Unit {0} × Walk X) → Type 0
  Alike {A = A} s f r q = On (λ p. q ≡ done p.1) r × On (λ p. Extends s p.1 × ((cs : List Component) (a : A) → Settled p.1 cs → f cs ≡ Ok a → r ≡ Ok (a, p.1))) q

  plainly_alike : {A : Type 0} (s : Walk X) (f : List Component → Res A) (r : Res A) → ((cs : List Component) → f cs ≡ r) → Alike s f (plainly r s) (done s)
  plainly_alike {A = A} s f r e = (by_result r, (λ m i c g h. (g, h), λ cs a k x. ap (λ y. plainly y s) (sym (e cs) ∙ x)))
    where
      by_result : (y : Res A) → On (λ p. done s ≡ done p.1) (plainly y s)
      by_result (Ok a) = refl
      by_result (Err x) = tt

  giving_alike : {A B : Type 0} (s : Walk X) (g : A → B) (f : List Component → Res A) (r : Res (A × Walk X)) (q : Res (Unit {0} × Walk X)) → Alike s f r q → Alike s (λ cs. on_res g (f cs)) (on_res {B = B × Walk X} (λ p. (g p.0, p.1)) r) q
  giving_alike {A = A} {B = B} s g f r q h = (forth r h.0, by_visit q h.1)
    where
      forth : (y : Res (A × Walk X)) → On (λ p. q ≡ done p.1) y → On (λ p. q ≡ done p.1) (on_res {B = B × Walk X} (λ p. (g p.0, p.1)) y)
      forth (Ok p) k = k
      forth (Err x) k = tt

      by_visit : (z : Res (Unit {0} × Walk X)) → On (λ p. Extends s p.1 × ((cs : List Component) (a : A) → Settled p.1 cs → f cs ≡ Ok a → r ≡ Ok (a, p.1))) z
          → On (λ p. Extends s p.1 × ((cs : List Component) (b : B) → Settled p.1 cs → on_res g (f cs) ≡ Ok b → on_res {B = B × Walk X} (λ p. (g p.0, p.1)) r ≡ Ok (b, p.1))) z
      by_visit (Ok p) k = (
        k.0,
        λ cs b l x.
            let o = on_res_ok g (f cs) b x in
            ap (on_res {B = B × Walk X} (λ p. (g p.0, p.1))) (k.1 cs o.0 l o.1) ∙ ap (λ y. Ok (y, p.1)) o.2,
      )
      by_visit (Err x) k = tt

  alike_as : {A : Type 0} (s : Walk X) (f g : List Component → Res A) (r : Res (A × Walk X)) (q : Res (Unit {0} × Walk X)) → ((cs : List Component) → f cs ≡ g cs) → Alike s f r q → Alike s g r q
  alike_as {A = A} s f g r q e h = (h.0, by_visit q h.1)
    where
      by_visit : (z : Res (Unit {0} × Walk X)) → On (λ p. Extends s p.1 × ((cs : List Component) (a : A) → Settled p.1 cs → f cs ≡ Ok a → r ≡ Ok (a, p.1))) z → On (λ p. Extends s p.1 × ((cs : List Component) (a : A) → Settled p.1 cs → g cs ≡ Ok a → r ≡ Ok (a, p.1))) z
      by_visit (Ok p) k = (k.0, λ cs a l x. k.1 cs a l (e cs ∙ x))
      by_visit (Err x) k = tt

  -- a first step that is plain
  and_so_alike : {A B : Type 0} (s : Walk X) (r : Res A) (f : List Component → Res A) (h : A → List Component → Res B) (k : A → Step X B) (v : A → Step X (Unit {0})) → ((cs : List Component) → f cs ≡ r) → ((a : A) → Alike s (h a) (k a s) (v a s))
      → Alike s (λ cs. then_do (f cs) (λ a. h a cs)) (and_so (plainly r) k s) (and_so (plainly r) v s)
  and_so_alike s (Ok a) f h k v e x = alike_as s (h a) (λ cs. then_do (f cs) (λ a. h a cs)) (k a s) (v a s) (λ cs. ap (λ y. then_do y (λ a. h a cs)) (sym (e cs))) (x a)
  and_so_alike s (Err y) f h k v e x = (tt, tt)

  in_turn_alike : {A B C : Type 0} (s : Walk X) (g : A → B → C) (f : List Component → Res A) (h : List Component → Res B) (m : Step X A) (n : Step X B) (v w : Step X (Unit {0})) → Alike s f (m s) (v s) → ((t : Walk X) → Alike t h (n t) (w t))
      → Alike s (λ cs. both g (f cs) (h cs)) (in_turn g m n s) (in_turn nothing_more v w s)
  in_turn_alike {A = A} {B = B} {C = C} s g f h m n v w x y = (forth (m s) x.0, by_visit (v s) x.1)
    where
      next : (a : A) → Walk X → Res (C × Walk X)
      next a t = on_res {B = C × Walk X} (λ q. (g a q.0, q.1)) (n t)

      forth : (r : Res (A × Walk X)) → On (λ p. v s ≡ done p.1) r → On (λ p. in_turn nothing_more v w s ≡ done p.1) (then_do r (λ p. on_res {B = C × Walk X} (λ q. (g p.0 q.0, q.1)) (n p.1)))
      forth (Ok p) k = inner (n p.1) (y p.1).0
        where
          inner : (r : Res (B × Walk X)) → On (λ q. w p.1 ≡ done q.1) r → On (λ q. in_turn nothing_more v w s ≡ done q.1) (on_res {B = C × Walk X} (λ q. (g p.0 q.0, q.1)) r)
          inner (Ok q) l = ap (λ z. then_do z (λ p. on_res {B = Unit {0} × Walk X} (λ q. done_with q.1) (w p.1))) k ∙ ap (on_res {B = Unit {0} × Walk X} (λ q. done_with q.1)) l
          inner (Err z) l = tt
      forth (Err z) k = tt

      by_visit : (z : Res (Unit {0} × Walk X)) → On (λ p. Extends s p.1 × ((cs : List Component) (a : A) → Settled p.1 cs → f cs ≡ Ok a → m s ≡ Ok (a, p.1))) z
          → On (λ p. Extends s p.1 × ((cs : List Component) (c : C) → Settled p.1 cs → both g (f cs) (h cs) ≡ Ok c → in_turn g m n s ≡ Ok (c, p.1))) (then_do z (λ p. on_res {B = Unit {0} × Walk X} (λ q. done_with q.1) (w p.1)))
      by_visit (Ok p) k = inner (w p.1) (y p.1).1
        where
          inner : (r : Res (Unit {0} × Walk X)) → On (λ q. Extends p.1 q.1 × ((cs : List Component) (b : B) → Settled q.1 cs → h cs ≡ Ok b → n p.1 ≡ Ok (b, q.1))) r
              → On (λ q. Extends s q.1 × ((cs : List Component) (c : C) → Settled q.1 cs → both g (f cs) (h cs) ≡ Ok c → in_turn g m n s ≡ Ok (c, q.1))) (on_res {B = Unit {0} × Walk X} (λ q. done_with q.1) r)
          inner (Ok q) l = (
            further s p.1 q.1 k.0 l.0,
            λ cs c st e.
                let o = both_ok g (f cs) (h cs) c e in
                ap (λ z. then_do z (λ p. on_res {B = C × Walk X} (λ q. (g p.0 q.0, q.1)) (n p.1))) (k.1 cs o.0 (back p.1 q.1 cs l.0 st) o.2)
                ∙ ap (on_res {B = C × Walk X} (λ q. (g o.0 q.0, q.1))) (l.1 cs o.1 st o.3) ∙ ap (λ z. Ok (z, q.1)) o.4,
          )
          inner (Err z) l = tt
      by_visit (Err z) k = tt

  reached_alike : {B : Type 0} (s : Walk X) (r : Res (Component × Walk X)) (f : List Component → Res Component) (h : Component → List Component → Res B) (k : Component → Step X B) (v : Component → Step X (Unit {0})) → Traced s f r → ((c : Component) (t : Walk X) → Alike t (h c) (k c t) (v c t))
      → Alike s (λ cs. then_do (f cs) (λ c. h c cs)) (then_do r (λ p. k p.0 p.1)) (then_do r (λ p. v p.0 p.1))
  reached_alike s (Err z) f h k v x y = (tt, tt)
  reached_alike {B = B} s (Ok p) f h k v x y = ((y p.0 p.1).0, by_visit (v p.0 p.1) (y p.0 p.1).1)
    where
      by_visit : (z : Res (Unit {0} × Walk X)) → On (λ q. Extends p.1 q.1 × ((cs : List Component) (b : B) → Settled q.1 cs → h p.0 cs ≡ Ok b → k p.0 p.1 ≡ Ok (b, q.1))) z
          → On (λ q. Extends s q.1 × ((cs : List Component) (b : B) → Settled q.1 cs → then_do (f cs) (λ c. h c cs) ≡ Ok b → k p.0 p.1 ≡ Ok (b, q.1))) z
      by_visit (Ok q) l = (further s p.1 q.1 x.0 l.0, λ cs b st e. l.1 cs b st (ap (λ y. then_do y (λ c. h c cs)) (sym (x.1 cs (back p.1 q.1 cs l.0 st))) ∙ e))
      by_visit (Err z) l = tt

module _ {X : Type 0} (views : Views X) (site : Site) (k : ℕ) where
  abbrev AllAlike : Type 0
  AllAlike = (env : Env) (ns : Nodes) (s : Walk X) → Alike s (λ cs. trace site k (in_state cs env) ns) (pass views site k env ns s) (visit views site k env ns s)

  module _ (h : AllAlike) where
    abbrev onward : Onward views
    onward = pass views site k

    abbrev there : Env → Nodes → Step X (Unit {0})
    there = visit views site k

    rows_alike : {A : Type 0} (g : A → Env) (body : Nodes) (bs : List A) (s : Walk X) → Alike s (λ cs. trace_rows (trace site k) body (map (λ b. in_state cs (g b)) bs)) (pass_rows views onward body (map g bs) s) (visit_rows views there body (map g bs) s)
    rows_alike g body [] s = plainly_alike s (λ cs. Ok no_item_rows) (Ok no_item_rows) (λ cs. refl)
    rows_alike g body (b ∷ bs) s =
        in_turn_alike s item_row (λ cs. trace site k (in_state cs (g b)) body) (λ cs. trace_rows (trace site k) body (map (λ b. in_state cs (g b)) bs)) (onward (g b) body) (pass_rows views onward body (map g bs)) (there (g b) body) (visit_rows views there body (map g bs)) (h (g b) body s) (λ t. rows_alike g body bs t)

    slot_alike : (env : Env) (v : Value) (c : Captured) (s : Walk X) → Alike s (λ cs. trace_slot site (trace site k) (in_state cs env) v c) (pass_slot views site onward env v c s) (visit_slot views site there env v c s)
    slot_alike env v c s = by_binding (binding (site.body c.number).pattern v)
      where
        by_binding : (o : Option Assigns) → Alike s (λ cs. elim o [ None ↦ Err NoClause | Some as' ↦ trace site k (slot_scope (in_state cs env) c as') (site.body c.number).nodes ])
            ((elim o as (λ x. Step X Items) [ None ↦ plainly (Err NoClause) | Some as' ↦ pass views site k (slot_scope env c as') (site.body c.number).nodes ]) s)
            ((elim o as (λ x. Step X (Unit {0})) [ None ↦ plainly (Err NoClause) | Some as' ↦ visit views site k (slot_scope env c as') (site.body c.number).nodes ]) s)
        by_binding None = (tt, tt)
        by_binding (Some as') = h (slot_scope env c as') (site.body c.number).nodes s

    slots_alike : (env : Env) (v : Value) (cs' : List Captured) (s : Walk X) → Alike s (λ cs. trace_slots site (trace site k) (in_state cs env) v cs') (pass_slots views site onward env v cs' s) (visit_slots views site there env v cs' s)
    slots_alike env v [] s = plainly_alike s (λ cs. Ok no_slots) (Ok no_slots) (λ cs. refl)
    slots_alike env v (c ∷ cs') s =
        in_turn_alike s (slot_of c.number (cut (site.body c.number).nodes)) (λ cs. trace_slot site (trace site k) (in_state cs env) v c) (λ cs. trace_slots site (trace site k) (in_state cs env) v cs') (pass_slot views site onward env v c) (pass_slots views site onward env v cs')
        (visit_slot views site there env v c) (visit_slots views site there env v cs') (slot_alike env v c s) (λ t. slots_alike env v cs' t)

    branch_alike : (i : ℕ) (env : Env) (ns : Nodes) (s : Walk X) → Alike s (λ cs. on_res (met_branch i (cut ns)) (trace site k (in_state cs env) ns)) (giving (met_branch i (cut ns)) (onward env ns) s) (there env ns s)
    branch_alike i env ns s = giving_alike s (met_branch i (cut ns)) (λ cs. trace site k (in_state cs env) ns) (onward env ns s) (there env ns s) (h env ns s)

    choice_alike : (env : Env) (a b : Nodes) (c : Bool) (s : Walk X) → Alike s (λ cs. if c then on_res (met_branch 0 (cut a)) (trace site k (in_state cs env) a) else trace_else (trace site k) (in_state cs env) b)
        ((if c then giving (met_branch 0 (cut a)) (onward env a) else pass_else views onward env b) s) ((if c then there env a else visit_else views there env b) s)
    choice_alike env a b true s = branch_alike 0 env a s
    choice_alike env a no_nodes false s = plainly_alike s (λ cs. Ok met_nothing) (Ok met_nothing) (λ cs. refl)
    choice_alike env a (node n ns) false s = branch_alike 1 env (node n ns) s

    place_alike : (p : Place) (env : Env) (s : Walk X) → Alike s (λ cs. trace_place site (trace site k) (in_state cs env) p) (pass_place views site k onward env p s) (visit_place views site there env p s)
    place_alike (put e) env s =
        plainly_alike s (λ cs. trace_place site (trace site k) (in_state cs env) (put e)) (trace_place site (trace site k) env (put e))
        (λ cs. ap (λ rd. on_res (λ t. met_text rd (escape_text t)) (then_do (eval_expr (in_state cs env) e) printed)) (reading_in cs env (free_names e)) ∙ ap (λ r. on_res (λ t. met_text (reading env (free_names e)) (escape_text t)) (then_do r printed)) (eval_in cs env e))
    place_alike (attribute n e) env s =
        plainly_alike s (λ cs. trace_place site (trace site k) (in_state cs env) (attribute n e)) (trace_place site (trace site k) env (attribute n e))
        (λ cs. ap (λ rd. on_res (met_text rd) (then_do (eval_expr (in_state cs env) e) (print_attribute n))) (reading_in cs env (free_names e)) ∙ ap (λ r. on_res (met_text (reading env (free_names e))) (then_do r (print_attribute n))) (eval_in cs env e))
    place_alike (spread e) env s =
        plainly_alike s (λ cs. trace_place site (trace site k) (in_state cs env) (spread e)) (trace_place site (trace site k) env (spread e))
        (λ cs. ap (λ rd. on_res (met_text rd) (then_do (eval_expr (in_state cs env) e) print_spread)) (reading_in cs env (free_names e)) ∙ ap (λ r. on_res (met_text (reading env (free_names e))) (then_do r print_spread)) (eval_in cs env e))
    place_alike (stream_place x y p body) env s = plainly_alike s (λ cs. trace_place site (trace site k) (in_state cs env) (stream_place x y p body)) (trace_place site (trace site k) env (stream_place x y p body)) (λ cs. refl)
    place_alike (if_place t a b) env s =
        and_so_alike s (eval_expr env t) (λ cs. eval_expr (in_state cs env) t) (λ v cs. if is_true v then on_res (met_branch 0 (cut a)) (trace site k (in_state cs env) a) else trace_else (trace site k) (in_state cs env) b)
        (λ v. if is_true v then giving (met_branch 0 (cut a)) (onward env a) else pass_else views onward env b) (λ v. if is_true v then there env a else visit_else views there env b) (λ cs. eval_in cs env t) (λ v. choice_alike env a b (is_true v) s)
    place_alike (case_place e cs') env s =
        let f = λ (cs : List Component). then_do (eval_expr (in_state cs env) e) (λ v. chosen v cs') in
        let g = λ (c : Chosen) (cs : List Component). on_res (met_branch c.index (cut c.nodes)) (trace site k (bind c.variables (in_state cs env)) c.nodes) in
        alike_as s (λ cs. then_do (f cs) (λ c. g c cs)) (λ cs. trace_place site (trace site k) (in_state cs env) (case_place e cs')) _ _ (λ cs. sym (then_assoc (eval_expr (in_state cs env) e) (λ v. chosen v cs') (λ c. g c cs)))
        (and_so_alike s (then_do (eval_expr env e) (λ v. chosen v cs')) f g (λ c. giving (met_branch c.index (cut c.nodes)) (onward (bind c.variables env) c.nodes)) (λ c. there (bind c.variables env) c.nodes)
        (λ cs. ap (λ r. then_do r (λ v. chosen v cs')) (eval_in cs env e)) (λ c. branch_alike c.index (bind c.variables env) c.nodes s))
    place_alike (for_place p e body) env s =
        let q = for_place p e body in
        let f = λ (cs : List Component). then_do (eval_expr (in_state cs env) e) items_of in
        let g = λ (vs : Values) (cs : List Component). trace_rows (trace site k) body (row_scopes (in_state cs env) p vs) in
        alike_as s (λ cs. on_res (met_rows (reading env (free_place q)) (cut body)) (then_do (f cs) (λ vs. g vs cs))) (λ cs. trace_place site (trace site k) (in_state cs env) q) _ _
        (λ cs. ap (λ rd. on_res (met_rows rd (cut body)) (then_do (f cs) (λ vs. g vs cs))) (sym (reading_in cs env (free_place q))))
        (giving_alike s (met_rows (reading env (free_place q)) (cut body)) (λ cs. then_do (f cs) (λ vs. g vs cs)) (and_so (plainly (then_do (eval_expr env e) items_of)) (λ vs. pass_rows views onward body (row_scopes env p vs)) s) _
        (and_so_alike s (then_do (eval_expr env e) items_of) f g (λ vs. pass_rows views onward body (row_scopes env p vs)) (λ vs. visit_rows views there body (row_scopes env p vs))
        (λ cs. ap (λ r. then_do r items_of) (eval_in cs env e)) (λ vs. rows_alike (λ as'. inside as' env) body (bindings p vs) s)))
    place_alike (call t xs content es) env s =
        let f = λ (cs : List Component). call_assigns (in_state cs env) xs content es in
        let g = λ (as' : Assigns) (cs : List Component). trace site k (callee (in_state cs env) as') (site.template t) in
        giving_alike s (met_call (cut (site.template t))) (λ cs. then_do (f cs) (λ as'. g as' cs)) (and_so (plainly (call_assigns env xs content es)) (λ as'. onward (callee env as') (site.template t)) s) _
        (and_so_alike s (call_assigns env xs content es) f g (λ as'. onward (callee env as') (site.template t)) (λ as'. there (callee env as') (site.template t)) (λ cs. call_in cs env xs content es)
        (λ as'. h (callee env as') (site.template t) s))
    place_alike (render_slot e a) env s =
        let f = λ (cs : List Component). then_do (eval_expr (in_state cs env) e) (slots_of site) in
        let g = λ (cs' : List Captured) (v : Value) (cs : List Component). trace_slots site (trace site k) (in_state cs env) v cs' in
        let w = λ (cs' : List Captured) (cs : List Component). then_do (eval_expr (in_state cs env) a) (λ v. g cs' v cs) in
        giving_alike s met_slots (λ cs. then_do (f cs) (λ cs'. w cs' cs)) (and_so (plainly (then_do (eval_expr env e) (slots_of site))) (λ cs'. and_so (plainly (eval_expr env a)) (λ v. pass_slots views site onward env v cs')) s) _
        (and_so_alike s (then_do (eval_expr env e) (slots_of site)) f w (λ cs'. and_so (plainly (eval_expr env a)) (λ v. pass_slots views site onward env v cs')) (λ cs'. and_so (plainly (eval_expr env a)) (λ v. visit_slots views site there env v cs'))
        (λ cs. ap (λ r. then_do r (slots_of site)) (eval_in cs env e))
        (λ cs'. and_so_alike s (eval_expr env a) (λ cs. eval_expr (in_state cs env) a) (g cs') (λ v. pass_slots views site onward env v cs') (λ v. visit_slots views site there env v cs') (λ cs. eval_in cs env a) (λ v. slots_alike env v cs' s)))
    place_alike (live_call xs content es) env s = by_pairs (live_assigns env xs) (λ cs. live_in cs env xs)
      where
        g : Component → List Component → Res Item
        g c cs = on_res (met_component c.number (cut (site.root (module_in xs)))) (trace site k (component_scope (in_state cs env) c) (site.root (module_in xs)))

        by_pairs : (r : Res Assigns) → ((cs : List Component) → live_assigns (in_state cs env) xs ≡ r)
            → Alike s (λ cs. then_do (then_do (live_assigns (in_state cs env) xs) (component_of (in_state cs env) (module_in xs))) (λ c. on_res (met_component c.number (cut (site.root (module_in xs)))) (trace site k (component_scope (in_state cs env) c) (site.root (module_in xs)))))
            (and_so (and_so (plainly r) (reach views (module_in xs))) (λ c. giving (met_component c.number (cut (site.root (module_in xs)))) (onward (component_scope env c) (site.root (module_in xs)))) s)
            (and_so (and_so (plainly r) (reach views (module_in xs))) (λ c. there (component_scope env c) (site.root (module_in xs))) s)
        by_pairs (Err z) e = (tt, tt)
        by_pairs (Ok as') e =
            alike_as s (λ cs. then_do (component_of (in_state cs env) (module_in xs) as') (λ c. on_res (met_component c.number (cut (site.root (module_in xs)))) (trace site k (component_scope (in_state cs env) c) (site.root (module_in xs))))) _ _ _
            (λ cs. ap (λ y. then_do (then_do y (component_of (in_state cs env) (module_in xs))) (λ c. on_res (met_component c.number (cut (site.root (module_in xs)))) (trace site k (component_scope (in_state cs env) c) (site.root (module_in xs))))) (sym (e cs)))
            (reached_alike s (reach views (module_in xs) as' s) (λ cs. component_of (in_state cs env) (module_in xs) as') (λ c cs. on_res (met_component c.number (cut (site.root (module_in xs)))) (trace site k (component_scope (in_state cs env) c) (site.root (module_in xs))))
            (λ c. giving (met_component c.number (cut (site.root (module_in xs)))) (onward (component_scope env c) (site.root (module_in xs)))) (λ c. there (component_scope env c) (site.root (module_in xs))) (reach_traced views (module_in xs) as' s env)
            (λ c t. giving_alike t (met_component c.number (cut (site.root (module_in xs)))) (λ cs. trace site k (in_state cs (component_scope env c)) (site.root (module_in xs))) (onward (component_scope env c) (site.root (module_in xs)) t) (there (component_scope env c) (site.root (module_in xs)) t) (h (component_scope env c) (site.root (module_in xs)) t)))

    places_alike : (ps : List Place) (env : Env) (s : Walk X) → Alike s (λ cs. trace_places site (trace site k) (in_state cs env) ps) (pass_places views site k onward env ps s) (visit_places views site there env ps s)
    places_alike [] env s = plainly_alike s (λ cs. Ok no_items) (Ok no_items) (λ cs. refl)
    places_alike (p ∷ ps) env s =
        in_turn_alike s item (λ cs. trace_place site (trace site k) (in_state cs env) p) (λ cs. trace_places site (trace site k) (in_state cs env) ps) (pass_place views site k onward env p) (pass_places views site k onward env ps)
        (visit_place views site there env p) (visit_places views site there env ps) (place_alike p env s) (λ t. places_alike ps env t)

pub pass_alike : {X : Type 0} (views : Views X) (site : Site) (k : ℕ) → AllAlike views site k
pass_alike views site zero env ns s = (tt, tt)
pass_alike views site (suc k) env ns s = places_alike views site k (pass_alike views site k) (places_in ns) env s

module _ {X : Type 0} (views : Views X) (site : Site) (k : ℕ) (env : Env) (ns : Nodes) (s : Walk X) (is : Items) (t : Walk X) where
  abbrev begun : Walk X
  begun = record s { met = [] }

  abbrev ended : Items × Walk X → Items × Walk X
  ended p = (p.0, at_end_of_walk p.1)

  abbrev after_visit : Unit {0} × Walk X → Walk X
  after_visit p = at_end_of_walk p.1

  forth : (r : Res (Items × Walk X)) → On (λ p. visit views site k env ns begun ≡ done p.1) r → on_res ended r ≡ Ok (is, t) → component_walk views site k env ns s ≡ Ok t
  forth (Ok p) h e =
      let x : Items × Walk X = ended p in
      let y : Items × Walk X = (is, t) in
      let q : x ≡ y = cc in
      ap (on_res after_visit) h ∙ ap Ok (ap (λ (z : Items × Walk X). z.1) q)
  forth (Err x) h e = cc

  back_again : (q : Res (Unit {0} × Walk X)) → On (λ p. Extends begun p.1 × ((cs : List Component) (a : Items) → Settled p.1 cs → trace site k (in_state cs env) ns ≡ Ok a → pass views site k env ns begun ≡ Ok (a, p.1))) q
      → on_res after_visit q ≡ Ok t → trace site k (in_state t.components env) ns ≡ Ok is → on_res ended (pass views site k env ns begun) ≡ Ok (is, t)
  back_again (Ok p) h e f =
      let q : at_end_of_walk p.1 ≡ t = cc in
      let g : trace site k (in_state (at_end_of_walk p.1).components env) ns ≡ Ok is = ap (λ (u : Walk X). trace site k (in_state u.components env) ns) q ∙ f in
      ap (on_res ended) (h.1 (swept p.1.met p.1.components) is (swept_settled p.1) g) ∙ ap (λ (u : Walk X). Ok (is, u)) q
  back_again (Err x) h e f = cc

  trace_of : render_state views site k env ns s ≡ Ok (is, t) → trace site k (in_state t.components env) ns ≡ Ok is
  trace_of e = traced_of is t (render_state views site k env ns s) (λ u. trace site k (in_state u.components env) ns) e (one_pass X views site k env ns s)

pub pass_is_walk_and_trace : (X : Type 0) → PassIsWalkAndTrace X
pass_is_walk_and_trace X views site k env ns s is t =
    let a = pass_alike views site k env ns (record s { met = [] }) in (
      λ e. (forth views site k env ns s is t (pass views site k env ns (record s { met = [] })) a.0 e, trace_of views site k env ns s is t e),
      λ h. back_again views site k env ns s is t (visit views site k env ns (record s { met = [] })) a.1 h.0 h.1,
    )
