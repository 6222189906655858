-- The trace shows the full rendering, and so does the whole tree.
use Rattle.std.proofs.Common.{◌≡◌, ℕ, zero, suc, List, [], ◌∷◌, ◌++◌, Ok, Err, Option, Some, None, Bool, true, false, if◌then◌else◌, refl, sym, ap, ◌∙◌}
use Rattle.value_core.specs.Value.{Value, Assigns}
use Rattle.ast_core.specs.Syntax.{Place, put, attribute, spread, if_place, case_place, for_place, call, render_slot, live_call, stream_place, Nodes, no_nodes, node}
use Rattle.ast_core.specs.Free.{free_names, free_place}
use Rattle.doc_model.specs.Environment.{Env, binding, bind, reading}
use Rattle.doc_model.specs.Evaluation.{Res, then_do, both, on_res, eval_expr, printed, is_true}
use Rattle.text_core.specs.Escape.{escape_text}
use Rattle.doc_model.specs.Printing.{print_attribute, print_spread}
use Rattle.diff_tree.specs.Container.{after, contents}
use Rattle.value_core.specs.declared.raise.Raise.TheVariants.{NoClause}
use Rattle.diff_tree.specs.Tree.{weave, flat}
use Rattle.doc_model.specs.Trace.{Items, item, Item, met_text, met_branch, met_rows, met_call, met_slots, met_component, met_stream, item_row, slot_of, texts, shown, row_texts, shown_slots}
use Rattle.doc_model.specs.Scopes.{Site, Deeper, Captured, callee, component_scope, component_of, slot_scope, stream_of, stream_scopes, operations, row_scopes, slots_of, chosen}
use Rattle.ast_core.specs.Places.{cut, places_in}
use Rattle.doc_model.specs.FullRendering.{full_render, full_place, full_rows, full_slot, full_slots, full_else}
use Rattle.doc_model.specs.Tracing.{trace, trace_places, trace_place, trace_rows, trace_slot, trace_slots, trace_else}
use Rattle.doc_model.specs.Laws.{StaticsWeave}
use Rattle.doc_model.proofs.Weave.{each, nodes_woven}
use Rattle.doc_model.specs.Calls.{items_of, call_assigns, live_assigns, module_in}

pub fuse : {A B C : Type 0} (f : A → B) (g : B → C) (h : A → C) (r : Res A) → ((a : A) → g (f a) ≡ h a) → on_res g (on_res f r) ≡ on_res h r
fuse f g h (Ok a) e = ap Ok (e a)
fuse f g h (Err k) e = refl

pub on_then : {A B C : Type 0} (g : B → C) (r : Res A) (f : A → Res B) (f' : A → Res C) → ((a : A) → on_res g (f a) ≡ f' a) → on_res g (then_do r f) ≡ then_do r f'
on_then g (Ok a) f f' h = h a
on_then g (Err e) f f' h = refl

on_both : {A B C A' B' C' : Type 0} (f : A → B → C) (f' : A' → B' → C') (g : C → C') (p : A → A') (q : B → B') (a : Res A) (b : Res B) (a' : Res A') (b' : Res B')
    → ((x : A) (y : B) → g (f x y) ≡ f' (p x) (q y)) → on_res p a ≡ a' → on_res q b ≡ b' → on_res g (both f a b) ≡ both f' a' b'
on_both f f' g p q (Ok a) (Ok b) a' b' h k l = ap Ok (h a b) ∙ ap (λ r. both f' r (Ok (q b))) k ∙ ap (both f' a') l
on_both f f' g p q (Ok a) (Err e) a' b' h k l = ap (λ r. both f' r (Err e)) k ∙ ap (both f' a') l
on_both f f' g p q (Err e) b a' b' h k l = ap (λ r. both f' r b') k

-- each rendering one level deeper shows the full rendering one level deeper
abbrev pub Shows : Site → Deeper Items → Deeper (List ℕ) → Type 0
Shows site go to = (env : Env) (ns : Nodes) → on_res (λ is. weave (cut ns) (texts site.mark is)) (go env ns) ≡ to env ns

module _ (site : Site) (go : Deeper Items) (to : Deeper (List ℕ)) (h : Shows site go to) where
  abbrev Seen : Res Item → Res (List ℕ)
  Seen r = on_res (shown site.mark) r

  deeper_shown : (f : Items → Item) (env : Env) (ns : Nodes) → ((is : Items) → shown site.mark (f is) ≡ weave (cut ns) (texts site.mark is)) → Seen (on_res f (go env ns)) ≡ to env ns
  deeper_shown f env ns e = fuse f (shown site.mark) (λ is. weave (cut ns) (texts site.mark is)) (go env ns) e ∙ h env ns

  else_shown : (env : Env) (b : Nodes) → Seen (trace_else go env b) ≡ full_else to env b
  else_shown env no_nodes = refl
  else_shown env (node n ns) = deeper_shown (met_branch 1 (cut (node n ns))) env (node n ns) (λ is. refl)

  choice_shown : (env : Env) (a b : Nodes) (c : Bool) → Seen (if c then on_res (met_branch 0 (cut a)) (go env a) else trace_else go env b) ≡ (if c then to env a else full_else to env b)
  choice_shown env a b true = deeper_shown (met_branch 0 (cut a)) env a (λ is. refl)
  choice_shown env a b false = else_shown env b

  rows_shown : (body : Nodes) (envs : List Env) → on_res (row_texts site.mark (cut body)) (trace_rows go body envs) ≡ full_rows to body envs
  rows_shown body [] = refl
  rows_shown body (env ∷ envs) =
      on_both item_row (λ t ts. t ∷ ts) (row_texts site.mark (cut body)) (λ is. weave (cut body) (texts site.mark is)) (row_texts site.mark (cut body)) (go env body) (trace_rows go body envs) _ _ (λ x y. refl) (h env body) (rows_shown body envs)

  slot_shown : (env : Env) (v : Value) (c : Captured) → on_res (λ is. weave (cut (site.body c.number).nodes) (texts site.mark is)) (trace_slot site go env v c) ≡ full_slot site to env v c
  slot_shown env v c = at_slot (binding (site.body c.number).pattern v)
    where
      at_slot : (o : Option Assigns) → on_res (λ is. weave (cut (site.body c.number).nodes) (texts site.mark is)) (elim o [ None ↦ Err NoClause | Some as' ↦ go (slot_scope env c as') (site.body c.number).nodes ])
          ≡ elim o [ None ↦ Err NoClause | Some as' ↦ to (slot_scope env c as') (site.body c.number).nodes ]
      at_slot None = refl
      at_slot (Some as') = h (slot_scope env c as') (site.body c.number).nodes

  slots_shown : (env : Env) (v : Value) (cs : List Captured) → on_res (shown_slots site.mark) (trace_slots site go env v cs) ≡ full_slots site to env v cs
  slots_shown env v [] = refl
  slots_shown env v (c ∷ cs) =
      on_both (slot_of c.number (cut (site.body c.number).nodes)) (λ a b. a ++ b) (shown_slots site.mark) (λ is. weave (cut (site.body c.number).nodes) (texts site.mark is)) (shown_slots site.mark) (trace_slot site go env v c) (trace_slots site go env v cs) _ _ (λ x y. refl) (slot_shown env v c) (slots_shown env v cs)

  place_shown : (p : Place) (env : Env) → Seen (trace_place site go env p) ≡ full_place site to env p
  place_shown (put e) env = fuse (λ t. met_text (reading env (free_names e)) (escape_text t)) (shown site.mark) escape_text (then_do (eval_expr env e) printed) (λ a. refl)
  place_shown (attribute n e) env = fuse (met_text (reading env (free_names e))) (shown site.mark) (λ t. t) (then_do (eval_expr env e) (print_attribute n)) (λ a. refl) ∙ on_same (then_do (eval_expr env e) (print_attribute n))
    where
      on_same : (r : Res (List ℕ)) → on_res (λ t. t) r ≡ r
      on_same (Ok t) = refl
      on_same (Err k) = refl
  place_shown (spread e) env = fuse (met_text (reading env (free_names e))) (shown site.mark) (λ t. t) (then_do (eval_expr env e) print_spread) (λ a. refl) ∙ on_same (then_do (eval_expr env e) print_spread)
    where
      on_same : (r : Res (List ℕ)) → on_res (λ t. t) r ≡ r
      on_same (Ok t) = refl
      on_same (Err k) = refl
  place_shown (if_place t a b) env = on_then (shown site.mark) (eval_expr env t) _ _ (λ v. choice_shown env a b (is_true v))
  place_shown (case_place e cs) env = on_then (shown site.mark) (eval_expr env e) _ _ (λ v. on_then (shown site.mark) (chosen v cs) _ _ (λ c. deeper_shown (met_branch c.index (cut c.nodes)) (bind c.variables env) c.nodes (λ is. refl)))
  place_shown (for_place p e body) env =
      fuse (met_rows (reading env (free_place (for_place p e body))) (cut body)) (shown site.mark) (λ rs. flat (row_texts site.mark (cut body) rs)) _ (λ a. refl)
      ∙ sym (fuse (row_texts site.mark (cut body)) flat (λ rs. flat (row_texts site.mark (cut body) rs)) _ (λ a. refl))
      ∙ ap (on_res flat) (on_then (row_texts site.mark (cut body)) (then_do (eval_expr env e) items_of) _ _ (λ vs. rows_shown body (row_scopes env p vs)))
  place_shown (call t xs content es) env =
      fuse (met_call (cut (site.template t))) (shown site.mark) (λ is. weave (cut (site.template t)) (texts site.mark is)) _ (λ a. refl)
      ∙ on_then (λ is. weave (cut (site.template t)) (texts site.mark is)) (call_assigns env xs content es) _ _ (λ as'. h (callee env as') (site.template t))
  place_shown (render_slot e a) env =
      fuse met_slots (shown site.mark) (shown_slots site.mark) _ (λ a. refl)
      ∙ on_then (shown_slots site.mark) (then_do (eval_expr env e) (slots_of site)) _ _ (λ cs. on_then (shown_slots site.mark) (eval_expr env a) _ _ (λ v. slots_shown env v cs))
  place_shown (live_call xs content es) env =
      on_then (shown site.mark) (then_do (live_assigns env xs) (component_of env (module_in xs))) _ _
      (λ c. fuse (met_component c.number (cut (site.root (module_in xs)))) (shown site.mark) (λ is. site.mark c.number (weave (cut (site.root (module_in xs))) (texts site.mark is))) (go (component_scope env c) (site.root (module_in xs))) (λ a. refl)
      ∙ sym (fuse (λ is. weave (cut (site.root (module_in xs))) (texts site.mark is)) (site.mark c.number) (λ is. site.mark c.number (weave (cut (site.root (module_in xs))) (texts site.mark is))) (go (component_scope env c) (site.root (module_in xs))) (λ a. refl))
      ∙ ap (on_res (site.mark c.number)) (h (component_scope env c) (site.root (module_in xs))))
  place_shown (stream_place s x p body) env =
      on_then (shown site.mark) (stream_of env s) _ _
      (λ st. fuse (met_stream s st.shown (operations x p st) (cut body)) (shown site.mark) (λ rs. flat (contents (after (operations x p st) (row_texts site.mark (cut body) rs) st.shown))) (trace_rows go body (stream_scopes env x p st)) (λ a. refl)
      ∙ sym (fuse (row_texts site.mark (cut body)) (λ ts. flat (contents (after (operations x p st) ts st.shown))) (λ rs. flat (contents (after (operations x p st) (row_texts site.mark (cut body) rs) st.shown))) (trace_rows go body (stream_scopes env x p st)) (λ a. refl))
      ∙ ap (on_res (λ ts. flat (contents (after (operations x p st) ts st.shown)))) (rows_shown body (stream_scopes env x p st)))

  places_shown : (ps : List Place) (env : Env) → on_res (texts site.mark) (trace_places site go env ps) ≡ each (full_place site to env) ps
  places_shown [] env = refl
  places_shown (p ∷ ps) env =
      on_both item (λ y ys. y ∷ ys) (texts site.mark) (shown site.mark) (texts site.mark) (trace_place site go env p) (trace_places site go env ps) _ _ (λ x y. refl) (place_shown p env) (places_shown ps env)

-- the trace shows the full rendering, and raises where that raises
pub trace_shown : (site : Site) (k : ℕ) → Shows site (trace site k) (full_render site k)
trace_shown site zero env ns = refl
trace_shown site (suc k) env ns =
    sym (fuse (texts site.mark) (weave (cut ns)) (λ is. weave (cut ns) (texts site.mark is)) (trace_places site (trace site k) env (places_in ns)) (λ a. refl))
    ∙ ap (on_res (weave (cut ns))) (places_shown site (trace site k) (full_render site k) (trace_shown site k) (places_in ns) env)
    ∙ nodes_woven site (full_render site k) env ns

pub statics_weave : StaticsWeave
statics_weave site k env ns = trace_shown site k env ns
