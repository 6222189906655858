-- What holds of every trace: rows have their places' values, and streams stand only where an owner's nodes have them.
use Rattle.std.proofs.Common.{◌≡◌, ℕ, zero, suc, List, [], ◌∷◌, ◌++◌, length, map, Ok, Err, Option, Some, None, Bool, true, false, ◌&&◌, ◌==◌, if◌then◌else◌, refl, sym, ap, ◌∙◌, subst}
use Rattle.std.proofs.lemmas.Bool.Decides.{Decides-eqb}
use Rattle.value_core.specs.Value.{Value, Assigns}
use Rattle.ast_core.specs.Syntax.{Expr, Pattern, Attributes, no_attributes, written, valued, spread_of, Node, text_node, element, at_place, Place, put, attribute, spread, if_place, case_place, for_place, call, render_slot, live_call, stream_place, Nodes, no_nodes, node, Clauses, no_clauses, clause, module_of}
use Rattle.ast_core.specs.Free.{free_names, free_place}
use Rattle.doc_model.specs.Environment.{Stream, Component, Env, binding, bindings, bind, inside, reading, find}
use Rattle.doc_model.specs.Evaluation.{Res, then_do, on_res, eval_expr, printed, is_true}
use Rattle.text_core.specs.Escape.{escape_text}
use Rattle.doc_model.specs.Printing.{print_attribute, print_spread}
use Rattle.value_core.specs.declared.raise.Raise.TheVariants.{NoClause, NoAssign}
use Rattle.diff_tree.specs.Tree.{count, all_fit}
use Rattle.doc_model.specs.Trace.{Items, item, Item, met_text, met_branch, met_rows, met_call, met_slots, met_component, met_stream, ItemRows, item_row, slot_of}
use Rattle.doc_model.specs.Whole.{whole_places, whole_rows}
use Rattle.doc_model.specs.Holding.{Fresh, FreshItem, FreshRows, FreshSlots}
use Rattle.doc_model.specs.Left.{Containers, Unused, UnusedNode, UnusedPlace, UnusedClauses, UnusedOthers, clause_at, Leaves, LeavesItem, Based}
use Rattle.doc_model.specs.Scopes.{Site, Deeper, Captured, Chosen, later, chosen, callee, component_scope, component_of, or_none, id_of, slot_scope, stream_of, stream_row, stream_scopes, operations, matched, insert_contents, row_scopes, slots_of}
use Rattle.ast_core.specs.Places.{cut, places_in, places_of, places_of_attributes}
use Rattle.doc_model.specs.Tracing.{trace, trace_places, trace_place, trace_rows, trace_slot, trace_slots, trace_else}
use Rattle.doc_model.proofs.Results.{On, on_made, on_bind, on_both, on_weaker, on_all}
use Rattle.doc_model.proofs.Weave.{Fit, fit_nodes}
use Rattle.doc_model.proofs.Wholes.{Good, GoodItem, GoodRows, GoodSlots, Still, StillItem, StillRows, StillSlots}
use Rattle.doc_model.specs.Calls.{items_of, call_assigns, live_assigns, module_in}

-- the containers that are all empty
abbrev pub empty : Containers
empty s = []

module _ (f : Containers) (none : (s : List ℕ) → f s ≡ []) where
  mutual
    pub unused_all : (ns : Nodes) → Unused f ns
    unused_all no_nodes = tt
    unused_all (node n ns) = (unused_node n, unused_all ns)

    unused_node : (n : Node) → UnusedNode f n
    unused_node (text_node t) = tt
    unused_node (element l t xs ns) = unused_all ns
    unused_node (at_place o p) = unused_place p

    unused_place : (p : Place) → UnusedPlace f p
    unused_place (if_place t a b) = (unused_all a, unused_all b)
    unused_place (case_place e cs) = unused_clauses cs
    unused_place (stream_place s x p body) = none s
    unused_place _ = tt

    pub unused_clauses : (cs : Clauses) → UnusedClauses f cs
    unused_clauses no_clauses = tt
    unused_clauses (clause p ns cs) = (unused_all ns, unused_clauses cs)

pub unused_empty : (ns : Nodes) → Unused empty ns
unused_empty ns = unused_all empty (λ s. refl) ns

pub unused_others : (i : ℕ) (cs : Clauses) → UnusedOthers empty i cs
unused_others i no_clauses = tt
unused_others zero (clause p ns cs) = unused_clauses empty (λ s. refl) cs
unused_others (suc i) (clause p ns cs) = (unused_empty ns, unused_others i cs)

-- the clauses that were not chosen
pub unused_at : (f : Containers) (j : ℕ) (cs : Clauses) → UnusedClauses f cs → Unused f (clause_at j cs)
unused_at f j no_clauses h = tt
unused_at f zero (clause p ns cs) h = h.0
unused_at f (suc j) (clause p ns cs) h = unused_at f j cs h.1

pub unused_other : (f : Containers) (i j : ℕ) (cs : Clauses) → (i ≡ j → ⊥) → UnusedOthers f i cs → Unused f (clause_at j cs)
unused_other f i j no_clauses e h = tt
unused_other f zero zero (clause p ns cs) e h = absurd (e refl)
unused_other f zero (suc j) (clause p ns cs) e h = unused_at f j cs h
unused_other f (suc i) zero (clause p ns cs) e h = h.0
unused_other f (suc i) (suc j) (clause p ns cs) e h = unused_other f i j cs (λ q. e (ap suc q)) h.1

pub chosen_at : (v : Value) (cs : Clauses) → On (λ c. c.nodes ≡ clause_at c.index cs) (chosen v cs)
chosen_at v no_clauses = tt
chosen_at v (clause p ns cs) = by_binding (chosen_at v cs) (binding p v)
  where
    by_binding : On (λ c. c.nodes ≡ clause_at c.index cs) (chosen v cs) → (o : Option Assigns)
        → On (λ c. c.nodes ≡ clause_at c.index (clause p ns cs)) (elim o [ None ↦ on_res later (chosen v cs) | Some as' ↦ Ok (record { index = 0; variables = as'; nodes = ns }) ])
    by_binding rest None = on_made (λ (c : Chosen). c.nodes ≡ clause_at c.index (clause p ns cs)) later (chosen v cs) rest
    by_binding rest (Some as') = refl

-- a property of each place of some nodes
abbrev UnusedAt : Containers → List Place → Type 0
UnusedAt f [] = Unit {0}
UnusedAt f (p ∷ ps) = UnusedPlace f p × UnusedAt f ps

unused_append : (f : Containers) (ps qs : List Place) → UnusedAt f ps → UnusedAt f qs → UnusedAt f (ps ++ qs)
unused_append f [] qs h k = k
unused_append f (p ∷ ps) qs h k = (h.0, unused_append f ps qs h.1 k)

unused_attributes : (f : Containers) (xs : Attributes) → UnusedAt f (places_of_attributes xs)
unused_attributes f no_attributes = tt
unused_attributes f (written n w xs) = unused_attributes f xs
unused_attributes f (valued n e xs) = (tt, unused_attributes f xs)
unused_attributes f (spread_of e xs) = (tt, unused_attributes f xs)
unused_attributes f (module_of m xs) = unused_attributes f xs

mutual
  unused_of : (f : Containers) (n : Node) → UnusedNode f n → UnusedAt f (places_of n)
  unused_of f (text_node t) h = tt
  unused_of f (element l t xs ns) h = unused_append f (places_of_attributes xs) (places_in ns) (unused_attributes f xs) (unused_in f ns h)
  unused_of f (at_place o p) h = (h, tt)

  pub unused_in : (f : Containers) (ns : Nodes) → Unused f ns → UnusedAt f (places_in ns)
  unused_in f no_nodes h = tt
  unused_in f (node n ns) h = unused_append f (places_of n) (places_in ns) (unused_of f n h.0) (unused_in f ns h.1)

on_and : {A : Type 0} (P Q : A → Type 0) (r : Res A) → On P r → On Q r → On (λ x. P x × Q x) r
on_and P Q (Ok x) h k = (h, k)
on_and P Q (Err e) h k = tt

no_stream : (Q : Item → Type 0) (o : Option (List ℕ → Stream)) (s : List ℕ) (f : Stream → Res Item) → o ≡ None → On Q (then_do (elim o [ None ↦ Err NoAssign | Some g ↦ Ok (g s) ]) f)
no_stream Q None s f e = tt
no_stream Q (Some g) s f e = cc

-- unused streams begin empty
abbrev pub Freshens : Deeper Items → Type 0
Freshens go = (f : Containers) (env : Env) (ns : Nodes) → Based f env.streams → On (λ is. Unused f ns → Fresh is) (go env ns)

pub based_none : (o : Option (List ℕ → Stream)) → o ≡ None → Based empty o
based_none None e = tt
based_none (Some g) e = cc

module _ (site : Site) (go : Deeper Items) (fresh : Freshens go) where
  fresh_none : (env : Env) (ns : Nodes) → env.streams ≡ None → On Fresh (go env ns)
  fresh_none env ns e = on_weaker (λ is. Unused empty ns → Fresh is) Fresh (go env ns) (λ is h. h (unused_empty ns)) (fresh empty env ns (based_none env.streams e))

  pub fresh_rows : {A : Type 0} (g : A → Env) (body : Nodes) (bs : List A) → ((b : A) → (g b).streams ≡ None) → On FreshRows (trace_rows go body (map g bs))
  fresh_rows g body [] h = tt
  fresh_rows g body (b ∷ bs) h = on_both Fresh FreshRows FreshRows item_row (go (g b) body) (trace_rows go body (map g bs)) (λ x y p q. (p, q)) (fresh_none (g b) body (h b)) (fresh_rows g body bs h)

  fresh_slot : (env : Env) (v : Value) (c : Captured) → On Fresh (trace_slot site go env v c)
  fresh_slot env v c = by_binding (binding (site.body c.number).pattern v)
    where
      by_binding : (o : Option Assigns) → On Fresh (elim o [ None ↦ Err NoClause | Some as' ↦ go (slot_scope env c as') (site.body c.number).nodes ])
      by_binding None = tt
      by_binding (Some as') = fresh_none (slot_scope env c as') (site.body c.number).nodes refl

  pub fresh_slots : (env : Env) (v : Value) (cs : List Captured) → On FreshSlots (trace_slots site go env v cs)
  fresh_slots env v [] = tt
  fresh_slots env v (c ∷ cs) = on_both Fresh FreshSlots FreshSlots (slot_of c.number (cut (site.body c.number).nodes)) (trace_slot site go env v c) (trace_slots site go env v cs) (λ x y p q. (p, q)) (fresh_slot env v c) (fresh_slots env v cs)

  module _ (f : Containers) (env : Env) (based : Based f env.streams) where
    abbrev Here : Place → Item → Type 0
    Here p i = UnusedPlace f p → FreshItem i

    fresh_branch : (p : Place) (i : ℕ) (ns : Nodes) (env' : Env) → Based f env'.streams → (UnusedPlace f p → Unused f ns) → On (Here p) (on_res (met_branch i (cut ns)) (go env' ns))
    fresh_branch p i ns env' b l =
        on_made (Here p) (met_branch i (cut ns)) (go env' ns) (on_weaker (λ is. Unused f ns → Fresh is) (λ is. UnusedPlace f p → Fresh is) (go env' ns) (λ is h u. h (l u)) (fresh f env' ns b))

    fresh_choice : (t : Expr) (a b : Nodes) (c : Bool) → On (Here (if_place t a b)) (if c then on_res (met_branch 0 (cut a)) (go env a) else trace_else go env b)
    fresh_choice t a b true = fresh_branch (if_place t a b) 0 a env based (λ u. u.0)
    fresh_choice t a no_nodes false = λ u. tt
    fresh_choice t a (node n ns) false = fresh_branch (if_place t a (node n ns)) 1 (node n ns) env based (λ u. u.1)

    fresh_clause : (e : Expr) (cs : Clauses) (r : Res Chosen) → On (λ c. c.nodes ≡ clause_at c.index cs) r → On (Here (case_place e cs)) (then_do r (λ c. on_res (met_branch c.index (cut c.nodes)) (go (bind c.variables env) c.nodes)))
    fresh_clause e cs (Ok c) q = fresh_branch (case_place e cs) c.index c.nodes (bind c.variables env) based (λ u. subst (Unused f) (sym q) (unused_at f c.index cs u))
    fresh_clause e cs (Err x) q = tt

    anyway : (p : Place) (r : Res Item) → On FreshItem r → On (Here p) r
    anyway p r h = on_weaker FreshItem (Here p) r (λ x k u. k) h

    fresh_stream : (s x : List ℕ) (p : Pattern) (body : Nodes) (o : Option (List ℕ → Stream)) → Based f o
        → On (Here (stream_place s x p body)) (then_do (elim o [ None ↦ Err NoAssign | Some g ↦ Ok (g s) ]) (λ st. on_res (met_stream s st.shown (operations x p st) (cut body)) (trace_rows go body (stream_scopes env x p st))))
    fresh_stream s x p body None b = tt
    fresh_stream s x p body (Some g) b =
        on_made (Here (stream_place s x p body)) (met_stream s (g s).shown (operations x p (g s)) (cut body)) (trace_rows go body (stream_scopes env x p (g s)))
        (on_weaker FreshRows _ _ (λ rs k u. (b s ∙ u, k)) (fresh_rows (stream_row env) body (insert_contents (matched x p (g s).waiting.inserts)) (λ y. refl)))

    fresh_place : (p : Place) → On (Here p) (trace_place site go env p)
    fresh_place (put e) = on_made (Here (put e)) (λ t. met_text (reading env (free_names e)) (escape_text t)) (then_do (eval_expr env e) printed) (on_all _ (then_do (eval_expr env e) printed) (λ t u. tt))
    fresh_place (attribute n e) = on_made (Here (attribute n e)) (met_text (reading env (free_names e))) (then_do (eval_expr env e) (print_attribute n)) (on_all _ (then_do (eval_expr env e) (print_attribute n)) (λ t u. tt))
    fresh_place (spread e) = on_made (Here (spread e)) (met_text (reading env (free_names e))) (then_do (eval_expr env e) print_spread) (on_all _ (then_do (eval_expr env e) print_spread) (λ t u. tt))
    fresh_place (if_place t a b) = on_bind (Here (if_place t a b)) (eval_expr env t) _ (λ v. fresh_choice t a b (is_true v))
    fresh_place (case_place e cs) = on_bind (Here (case_place e cs)) (eval_expr env e) _ (λ v. fresh_clause e cs (chosen v cs) (chosen_at v cs))
    fresh_place (for_place p e body) =
        anyway (for_place p e body) _ (on_made FreshItem (met_rows (reading env (free_place (for_place p e body))) (cut body)) _
        (on_bind FreshRows (then_do (eval_expr env e) items_of) _ (λ vs. fresh_rows (λ as'. inside as' env) body (bindings p vs) (λ y. refl))))
    fresh_place (call t xs content es) =
        anyway (call t xs content es) _ (on_made FreshItem (met_call (cut (site.template t))) _ (on_bind Fresh (call_assigns env xs content es) _ (λ as'. fresh_none (callee env as') (site.template t) refl)))
    fresh_place (render_slot e a) =
        anyway (render_slot e a) _ (on_made FreshItem met_slots _ (on_bind FreshSlots (then_do (eval_expr env e) (slots_of site)) _ (λ cs. on_bind FreshSlots (eval_expr env a) _ (λ v. fresh_slots env v cs))))
    fresh_place (live_call xs content es) =
        anyway (live_call xs content es) _ (on_bind FreshItem (then_do (live_assigns env xs) (component_of env (module_in xs))) _ (λ c. on_made FreshItem (met_component c.number (cut (site.root (module_in xs)))) _ (on_all _ (go (component_scope env c) (site.root (module_in xs))) (λ t. tt))))
    fresh_place (stream_place s x p body) = fresh_stream s x p body env.streams based

    pub fresh_places : (ps : List Place) → On (λ is. UnusedAt f ps → Fresh is) (trace_places site go env ps)
    fresh_places [] = λ u. tt
    fresh_places (p ∷ ps) = on_both (Here p) (λ is. UnusedAt f ps → Fresh is) (λ is. UnusedAt f (p ∷ ps) → Fresh is) item (trace_place site go env p) (trace_places site go env ps) (λ x y h k u. (h u.0, k u.1)) (fresh_place p) (fresh_places ps)

pub trace_fresh : (site : Site) (k : ℕ) → Freshens (trace site k)
trace_fresh site zero f env ns b = tt
trace_fresh site (suc k) f env ns b =
    on_weaker (λ is. UnusedAt f (places_in ns) → Fresh is) (λ is. Unused f ns → Fresh is) (trace site (suc k) env ns) (λ is h u. h (unused_in f ns u))
    (fresh_places site (trace site k) (trace_fresh site k) f env b (places_in ns))

-- without components none is met
abbrev pub Stills : Deeper Items → Type 0
Stills go = (env : Env) (ns : Nodes) → env.components ≡ [] → On Still (go env ns)

none_found : {A : Type 0} (Q : A → Type 0) (cs : List Component) (m : List ℕ) (r : Res Value) (f : Component → Res A) → cs ≡ [] → On Q (then_do (then_do r (λ v. or_none (find m v cs))) f)
none_found Q [] m (Ok v) f e = tt
none_found Q [] m (Err k) f e = tt
none_found Q (c ∷ cs) m r f e = cc

module _ (site : Site) (go : Deeper Items) (still : Stills go) where
  pub still_rows : {A : Type 0} (g : A → Env) (body : Nodes) (bs : List A) → ((b : A) → (g b).components ≡ []) → On StillRows (trace_rows go body (map g bs))
  still_rows g body [] h = tt
  still_rows g body (b ∷ bs) h = on_both Still StillRows StillRows item_row (go (g b) body) (trace_rows go body (map g bs)) (λ x y p q. (p, q)) (still (g b) body (h b)) (still_rows g body bs h)

  module _ (env : Env) (none : env.components ≡ []) where
    still_slot : (v : Value) (c : Captured) → On Still (trace_slot site go env v c)
    still_slot v c = by_binding (binding (site.body c.number).pattern v)
      where
        by_binding : (o : Option Assigns) → On Still (elim o [ None ↦ Err NoClause | Some as' ↦ go (slot_scope env c as') (site.body c.number).nodes ])
        by_binding None = tt
        by_binding (Some as') = still (slot_scope env c as') (site.body c.number).nodes none

    still_slots : (v : Value) (cs : List Captured) → On StillSlots (trace_slots site go env v cs)
    still_slots v [] = tt
    still_slots v (c ∷ cs) = on_both Still StillSlots StillSlots (slot_of c.number (cut (site.body c.number).nodes)) (trace_slot site go env v c) (trace_slots site go env v cs) (λ x y p q. (p, q)) (still_slot v c) (still_slots v cs)

    still_branch : (i : ℕ) (ns : Nodes) (env' : Env) → env'.components ≡ [] → On StillItem (on_res (met_branch i (cut ns)) (go env' ns))
    still_branch i ns env' e = on_made StillItem (met_branch i (cut ns)) (go env' ns) (still env' ns e)

    still_choice : (a b : Nodes) (c : Bool) → On StillItem (if c then on_res (met_branch 0 (cut a)) (go env a) else trace_else go env b)
    still_choice a b true = still_branch 0 a env none
    still_choice a no_nodes false = tt
    still_choice a (node n ns) false = still_branch 1 (node n ns) env none

    still_place : (p : Place) → On StillItem (trace_place site go env p)
    still_place (put e) = on_made StillItem (λ t. met_text (reading env (free_names e)) (escape_text t)) (then_do (eval_expr env e) printed) (on_all _ (then_do (eval_expr env e) printed) (λ t. tt))
    still_place (attribute n e) = on_made StillItem (met_text (reading env (free_names e))) (then_do (eval_expr env e) (print_attribute n)) (on_all _ (then_do (eval_expr env e) (print_attribute n)) (λ t. tt))
    still_place (spread e) = on_made StillItem (met_text (reading env (free_names e))) (then_do (eval_expr env e) print_spread) (on_all _ (then_do (eval_expr env e) print_spread) (λ t. tt))
    still_place (if_place t a b) = on_bind StillItem (eval_expr env t) _ (λ v. still_choice a b (is_true v))
    still_place (case_place e cs) = on_bind StillItem (eval_expr env e) _ (λ v. on_bind StillItem (chosen v cs) _ (λ c. still_branch c.index c.nodes (bind c.variables env) none))
    still_place (for_place p e body) =
        on_made StillItem (met_rows (reading env (free_place (for_place p e body))) (cut body)) _ (on_bind StillRows (then_do (eval_expr env e) items_of) _ (λ vs. still_rows (λ as'. inside as' env) body (bindings p vs) (λ y. none)))
    still_place (call t xs content es) = on_made StillItem (met_call (cut (site.template t))) _ (on_bind Still (call_assigns env xs content es) _ (λ as'. still (callee env as') (site.template t) none))
    still_place (render_slot e a) = on_made StillItem met_slots _ (on_bind StillSlots (then_do (eval_expr env e) (slots_of site)) _ (λ cs. on_bind StillSlots (eval_expr env a) _ (λ v. still_slots v cs)))
    still_place (live_call xs content es) = by_pairs (live_assigns env xs)
      where
        by_pairs : (r : Res Assigns) → On StillItem (then_do (then_do r (component_of env (module_in xs))) (λ c. on_res (met_component c.number (cut (site.root (module_in xs)))) (go (component_scope env c) (site.root (module_in xs)))))
        by_pairs (Ok as') = none_found StillItem env.components (module_in xs) (id_of as') (λ c. on_res (met_component c.number (cut (site.root (module_in xs)))) (go (component_scope env c) (site.root (module_in xs)))) none
        by_pairs (Err k) = tt
    still_place (stream_place s x p body) =
        on_bind StillItem (stream_of env s) _ (λ st. on_made StillItem (met_stream s st.shown (operations x p st) (cut body)) (trace_rows go body (stream_scopes env x p st)) (still_rows (stream_row env) body (insert_contents (matched x p st.waiting.inserts)) (λ y. refl)))

    pub still_places : (ps : List Place) → On Still (trace_places site go env ps)
    still_places [] = tt
    still_places (p ∷ ps) = on_both StillItem Still Still item (trace_place site go env p) (trace_places site go env ps) (λ x y h k. (h, k)) (still_place p) (still_places ps)

pub trace_still : (site : Site) (k : ℕ) → Stills (trace site k)
trace_still site zero env ns e = tt
trace_still site (suc k) env ns e = still_places site (trace site k) (trace_still site k) env e (places_in ns)

-- one value for each place
abbrev pub Counts : Deeper Items → Type 0
Counts go = (env : Env) (ns : Nodes) → On (λ is. suc (count (whole_places is)) ≡ length (cut ns)) (go env ns)

fit_length : {A : Type 0} (st : List (List ℕ)) (xs : List A) → Fit st xs → length st ≡ suc (length xs)
fit_length [] xs h = absurd h
fit_length (s ∷ []) [] h = refl
fit_length (s ∷ []) (x ∷ xs) h = absurd h
fit_length (s ∷ t ∷ st) [] h = absurd h
fit_length (s ∷ t ∷ st) (x ∷ xs) h = ap suc (fit_length (t ∷ st) xs h)

places_count : (site : Site) (go : Deeper Items) (env : Env) (ps : List Place) → On (λ is. count (whole_places is) ≡ length ps) (trace_places site go env ps)
places_count site go env [] = refl
places_count site go env (p ∷ ps) = on_both (λ i. Unit {0}) (λ is. count (whole_places is) ≡ length ps) (λ is. count (whole_places is) ≡ suc (length ps)) item (trace_place site go env p) (trace_places site go env ps) (λ x y h k. ap suc k) (on_all _ (trace_place site go env p) (λ i. tt)) (places_count site go env ps)

pub trace_counts : (site : Site) (k : ℕ) → Counts (trace site k)
trace_counts site zero env ns = tt
trace_counts site (suc k) env ns =
    on_weaker (λ is. count (whole_places is) ≡ length (places_in ns)) _ (trace site (suc k) env ns) (λ is h. ap suc h ∙ sym (fit_length (cut ns) (places_in ns) (fit_nodes ns))) (places_count site (trace site k) env (places_in ns))

-- every trace is good
abbrev pub Goods : Deeper Items → Type 0
Goods go = (env : Env) (ns : Nodes) → On Good (go env ns)

module _ (site : Site) (go : Deeper Items) (fresh : Freshens go) (still : Stills go) (counts : Counts go) (good : Goods go) where
  abbrev FitRows : Nodes → ItemRows → Type 0
  FitRows body rs = all_fit (length (cut body)) (whole_rows rs) ≡ true

  one_more : (n m : ℕ) (b : Bool) → m ≡ n → b ≡ true → (m == n && b) ≡ true
  one_more n m b e h = let d = (Decides-eqb m n).1 e in ap (λ c. c && b) d ∙ h

  fit_rows : (body : Nodes) (envs : List Env) → On (FitRows body) (trace_rows go body envs)
  fit_rows body [] = refl
  fit_rows body (env ∷ envs) =
      on_both (λ is. suc (count (whole_places is)) ≡ length (cut body)) (FitRows body) (FitRows body) item_row (go env body) (trace_rows go body envs) (λ x y p q. one_more (length (cut body)) (suc (count (whole_places x))) _ p q) (counts env body) (fit_rows body envs)

  good_rows : (body : Nodes) (envs : List Env) → On GoodRows (trace_rows go body envs)
  good_rows body [] = tt
  good_rows body (env ∷ envs) = on_both Good GoodRows GoodRows item_row (go env body) (trace_rows go body envs) (λ x y p q. (p, q)) (good env body) (good_rows body envs)

  good_slot : (env : Env) (v : Value) (c : Captured) → On Good (trace_slot site go env v c)
  good_slot env v c = by_binding (binding (site.body c.number).pattern v)
    where
      by_binding : (o : Option Assigns) → On Good (elim o [ None ↦ Err NoClause | Some as' ↦ go (slot_scope env c as') (site.body c.number).nodes ])
      by_binding None = tt
      by_binding (Some as') = good (slot_scope env c as') (site.body c.number).nodes

  good_slots : (env : Env) (v : Value) (cs : List Captured) → On GoodSlots (trace_slots site go env v cs)
  good_slots env v [] = tt
  good_slots env v (c ∷ cs) = on_both Good GoodSlots GoodSlots (slot_of c.number (cut (site.body c.number).nodes)) (trace_slot site go env v c) (trace_slots site go env v cs) (λ x y p q. (p, q)) (good_slot env v c) (good_slots env v cs)

  good_branch : (i : ℕ) (ns : Nodes) (env : Env) → On GoodItem (on_res (met_branch i (cut ns)) (go env ns))
  good_branch i ns env = on_made GoodItem (met_branch i (cut ns)) (go env ns) (good env ns)

  good_choice : (env : Env) (a b : Nodes) (c : Bool) → On GoodItem (if c then on_res (met_branch 0 (cut a)) (go env a) else trace_else go env b)
  good_choice env a b true = good_branch 0 a env
  good_choice env a no_nodes false = tt
  good_choice env a (node n ns) false = good_branch 1 (node n ns) env

  three : (P Q R : ItemRows → Type 0) (r : Res ItemRows) → On P r → On Q r → On R r → On (λ x. P x × Q x × R x) r
  three P Q R (Ok x) h k l = (h, k, l)
  three P Q R (Err e) h k l = tt

  good_place : (p : Place) (env : Env) → On GoodItem (trace_place site go env p)
  good_place (put e) env = on_made GoodItem (λ t. met_text (reading env (free_names e)) (escape_text t)) (then_do (eval_expr env e) printed) (on_all _ (then_do (eval_expr env e) printed) (λ t. tt))
  good_place (attribute n e) env = on_made GoodItem (met_text (reading env (free_names e))) (then_do (eval_expr env e) (print_attribute n)) (on_all _ (then_do (eval_expr env e) (print_attribute n)) (λ t. tt))
  good_place (spread e) env = on_made GoodItem (met_text (reading env (free_names e))) (then_do (eval_expr env e) print_spread) (on_all _ (then_do (eval_expr env e) print_spread) (λ t. tt))
  good_place (if_place t a b) env = on_bind GoodItem (eval_expr env t) _ (λ v. good_choice env a b (is_true v))
  good_place (case_place e cs) env = on_bind GoodItem (eval_expr env e) _ (λ v. on_bind GoodItem (chosen v cs) _ (λ c. good_branch c.index c.nodes (bind c.variables env)))
  good_place (for_place p e body) env =
      on_made GoodItem (met_rows (reading env (free_place (for_place p e body))) (cut body)) _
      (on_bind (λ rs. FitRows body rs × FreshRows rs × GoodRows rs) (then_do (eval_expr env e) items_of) _
      (λ vs. three (FitRows body) FreshRows GoodRows (trace_rows go body (row_scopes env p vs)) (fit_rows body (row_scopes env p vs)) (fresh_rows site go fresh (λ as'. inside as' env) body (bindings p vs) (λ y. refl)) (good_rows body (row_scopes env p vs))))
  good_place (call t xs content es) env = on_made GoodItem (met_call (cut (site.template t))) _ (on_bind Good (call_assigns env xs content es) _ (λ as'. good (callee env as') (site.template t)))
  good_place (render_slot e a) env = on_made GoodItem met_slots _ (on_bind GoodSlots (then_do (eval_expr env e) (slots_of site)) _ (λ cs. on_bind GoodSlots (eval_expr env a) _ (λ v. good_slots env v cs)))
  good_place (live_call xs content es) env = on_bind GoodItem (then_do (live_assigns env xs) (component_of env (module_in xs))) _ (λ c. on_made GoodItem (met_component c.number (cut (site.root (module_in xs)))) _ (on_all _ (go (component_scope env c) (site.root (module_in xs))) (λ t. tt)))
  good_place (stream_place s x p body) env =
      on_bind GoodItem (stream_of env s) _ (λ st. on_made GoodItem (met_stream s st.shown (operations x p st) (cut body)) (trace_rows go body (stream_scopes env x p st))
      (three (FitRows body) FreshRows StillRows (trace_rows go body (stream_scopes env x p st)) (fit_rows body (stream_scopes env x p st))
      (fresh_rows site go fresh (stream_row env) body (insert_contents (matched x p st.waiting.inserts)) (λ y. refl))
      (still_rows site go still (stream_row env) body (insert_contents (matched x p st.waiting.inserts)) (λ y. refl))))

  good_places : (ps : List Place) (env : Env) → On Good (trace_places site go env ps)
  good_places [] env = tt
  good_places (p ∷ ps) env = on_both GoodItem Good Good item (trace_place site go env p) (trace_places site go env ps) (λ x y h k. (h, k)) (good_place p env) (good_places ps env)

pub trace_good : (site : Site) (k : ℕ) → Goods (trace site k)
trace_good site zero env ns = tt
trace_good site (suc k) env ns = good_places site (trace site k) (trace_fresh site k) (trace_still site k) (trace_counts site k) (trace_good site k) (places_in ns) env

-- where there are no streams, nothing is left
abbrev pub LeavesNone : Site → Deeper Items → Type 0
LeavesNone site go = (env : Env) (ns : Nodes) → env.streams ≡ None → On (Leaves site.mark empty (places_in ns)) (go env ns)

module _ (site : Site) (go : Deeper Items) (leaves : LeavesNone site go) (env : Env) (none : env.streams ≡ None) where
  leaves_branch : (p : Place) (i : ℕ) (ns : Nodes) (env' : Env) → env'.streams ≡ None → ((is : Items) → Leaves site.mark empty (places_in ns) is → LeavesItem site.mark empty p (met_branch i (cut ns) is)) → On (LeavesItem site.mark empty p) (on_res (met_branch i (cut ns)) (go env' ns))
  leaves_branch p i ns env' e l = on_made (LeavesItem site.mark empty p) (met_branch i (cut ns)) (go env' ns) (on_weaker (Leaves site.mark empty (places_in ns)) _ (go env' ns) l (leaves env' ns e))

  leaves_choice : (t : Expr) (a b : Nodes) (c : Bool) → On (LeavesItem site.mark empty (if_place t a b)) (if c then on_res (met_branch 0 (cut a)) (go env a) else trace_else go env b)
  leaves_choice t a b true = leaves_branch (if_place t a b) 0 a env none (λ is h. (h, unused_empty b))
  leaves_choice t a no_nodes false = (unused_empty a, tt)
  leaves_choice t a (node n ns) false = leaves_branch (if_place t a (node n ns)) 1 (node n ns) env none (λ is h. (unused_empty a, h))

  leaves_clause : (e : Expr) (cs : Clauses) (r : Res Chosen) → On (λ c. c.nodes ≡ clause_at c.index cs) r → On (LeavesItem site.mark empty (case_place e cs)) (then_do r (λ c. on_res (met_branch c.index (cut c.nodes)) (go (bind c.variables env) c.nodes)))
  leaves_clause e cs (Ok c) q = leaves_branch (case_place e cs) c.index c.nodes (bind c.variables env) none (λ is h. (subst (λ ns. Leaves site.mark empty (places_in ns) is) q h, unused_others c.index cs))
  leaves_clause e cs (Err x) q = tt

  leaves_place : (p : Place) → On (LeavesItem site.mark empty p) (trace_place site go env p)
  leaves_place (if_place t a b) = on_bind (LeavesItem site.mark empty (if_place t a b)) (eval_expr env t) _ (λ v. leaves_choice t a b (is_true v))
  leaves_place (case_place e cs) = on_bind (LeavesItem site.mark empty (case_place e cs)) (eval_expr env e) _ (λ v. leaves_clause e cs (chosen v cs) (chosen_at v cs))
  leaves_place (stream_place s x p body) = no_stream (LeavesItem site.mark empty (stream_place s x p body)) env.streams s _ none
  leaves_place (put e) = on_all _ (trace_place site go env (put e)) (λ i. tt)
  leaves_place (attribute n e) = on_all _ (trace_place site go env (attribute n e)) (λ i. tt)
  leaves_place (spread e) = on_all _ (trace_place site go env (spread e)) (λ i. tt)
  leaves_place (for_place p e body) = on_all _ (trace_place site go env (for_place p e body)) (λ i. tt)
  leaves_place (call t xs content es) = on_all _ (trace_place site go env (call t xs content es)) (λ i. tt)
  leaves_place (render_slot e a) = on_all _ (trace_place site go env (render_slot e a)) (λ i. tt)
  leaves_place (live_call xs content es) = on_all _ (trace_place site go env (live_call xs content es)) (λ i. tt)

  leaves_places : (ps : List Place) → On (Leaves site.mark empty ps) (trace_places site go env ps)
  leaves_places [] = tt
  leaves_places (p ∷ ps) = on_both (LeavesItem site.mark empty p) (Leaves site.mark empty ps) (Leaves site.mark empty (p ∷ ps)) item (trace_place site go env p) (trace_places site go env ps) (λ x y h k. (h, k)) (leaves_place p) (leaves_places ps)

pub trace_leaves_none : (site : Site) (k : ℕ) → LeavesNone site (trace site k)
trace_leaves_none site zero env ns e = tt
trace_leaves_none site (suc k) env ns e = leaves_places site (trace site k) (trace_leaves_none site k) env e (places_in ns)
