-- Two environments that agree on the names of an expression or of nodes give the same value and the same whole tree.
use Rattle.std.proofs.Common.{◌≡◌, ℕ, zero, suc, List, [], ◌∷◌, ◌++◌, map, Ok, Err, Option, Some, None, Bool, true, false, if◌then◌else◌, refl, ap, ◌∙◌, subst}
use Rattle.diff_tree.specs.Tree as tr
use Rattle.value_core.specs.Value.{Value, Values, no_values, value, Assigns}
use Rattle.ast_core.specs.Syntax.{Expr, Pattern, Place, put, attribute, spread, if_place, case_place, for_place, call, render_slot, live_call, stream_place, Node, text_node, element, at_place, Nodes, no_nodes, node, Clauses, no_clauses, clause, Attributes, no_attributes, written, valued, spread_of, module_of}
use Rattle.ast_core.specs.Free.{without, bound, free_names, free_nodes, free_node, free_place, free_clauses, free_attributes}
use Rattle.doc_model.specs.Environment.{Env, Component, Stream, bind, inside, binding, bindings, reading, find}
use Rattle.doc_model.specs.Evaluation.{Res, then_do, on_res, eval_expr, printed, is_true}
use Rattle.text_core.specs.Escape.{escape_text}
use Rattle.doc_model.specs.Printing.{print_attribute, print_spread}
use Rattle.value_core.specs.declared.raise.Raise.TheVariants.{NoAssign, NoClause}
use Rattle.diff_tree.specs.Tree.{tree, row}
use Rattle.doc_model.specs.Trace.{Items, item, Item, met_text, met_branch, met_rows, met_call, met_slots, met_component, ItemRows, item_row, Slots, slot_of}
use Rattle.doc_model.specs.Whole.{whole_places, whole_place, whole_rows, whole_slots, rows_tree, slots_tree}
use Rattle.doc_model.specs.Left.{SameNumbers}
use Rattle.doc_model.specs.Scopes.{Site, Deeper, Captured, callee, component_of, component_scope, or_none, id_of, slot_scope, row_scopes, slots_of, Chosen, chosen, later}
use Rattle.ast_core.specs.Places.{cut, places_in, places_of, places_of_attributes}
use Rattle.doc_model.specs.Tracing.{trace, trace_places, trace_place, trace_rows, trace_slot, trace_slots, trace_else}
use Rattle.doc_model.proofs.Results.{On, on_made, Pair, pair_err, pair_same, pair_both}
use Rattle.doc_model.specs.Calls.{items_of, call_assigns, live_assigns, module_in}
use Rattle.doc_model.proofs.Names.{Agree, agree_left, agree_right, agree_cast, agree_same, Binds, binds, agree_bound, eval_agrees}
use Rattle.doc_model.proofs.Calling.{call_agrees_on, live_agrees_on}

-- the chosen clause's names agree
pub agree_chosen : (v : Value) (cs : Clauses) (a b : Env) → Agree a b (free_clauses cs) → On (λ c. Agree (bind c.variables a) (bind c.variables b) (free_nodes c.nodes)) (chosen v cs)
agree_chosen v no_clauses a b k = tt
agree_chosen v (clause p ns cs) a b k = by_binding (agree_chosen v cs a b (agree_right a b (without (bound p) (free_nodes ns)) (free_clauses cs) k)) (binding p v) (binds p v)
  where
    by_binding : On (λ c. Agree (bind c.variables a) (bind c.variables b) (free_nodes c.nodes)) (chosen v cs) → (o : Option Assigns) → Binds (bound p) o
        → On (λ c. Agree (bind c.variables a) (bind c.variables b) (free_nodes c.nodes)) (elim o [ None ↦ on_res later (chosen v cs) | Some as' ↦ Ok (record { index = 0; variables = as'; nodes = ns }) ])
    by_binding rest None e = on_made (λ (c : Chosen). Agree (bind c.variables a) (bind c.variables b) (free_nodes c.nodes)) later (chosen v cs) rest
    by_binding rest (Some as') e = agree_bound a b as' (bound p) (free_nodes ns) e (agree_left a b (without (bound p) (free_nodes ns)) (free_clauses cs) k)

-- the same whole tree
abbrev pub SameTrees : Items → Items → Type 0
SameTrees is is' = whole_places is ≡ whole_places is'

abbrev pub SameItem : Item → Item → Type 0
SameItem i i' = whole_place i ≡ whole_place i'

-- each rendering one level deeper hangs on the free names and on the numbers alone, where there are no streams
abbrev pub Agrees : Deeper Items → Deeper Items → Type 0
Agrees go to = (a b : Env) (ns : Nodes) → Agree a b (free_nodes ns) → SameNumbers a.components b.components → a.streams ≡ None → Pair SameTrees (go a ns) (to b ns)

found_alike : (Q : Component → Component → Type 0) (o q : Option Component) → ((c d : Component) → o ≡ Some c → q ≡ Some d → Q c d) → Pair Q (or_none o) (or_none q)
found_alike Q (Some c) (Some d) h = h c d refl refl
found_alike Q (Some c) None h = tt
found_alike Q None q h = tt

pub component_alike : (a b : Env) (m : List ℕ) (as' : Assigns) → SameNumbers a.components b.components → Pair (λ c d. c.number ≡ d.number) (component_of a m as') (component_of b m as')
component_alike a b m as' h = pair_same (λ (c : Component) (d : Component). c.number ≡ d.number) (id_of as') (id_of as') _ _ refl (λ v. found_alike (λ c d. c.number ≡ d.number) (find m v a.components) (find m v b.components) (h m v))

pair_then : {A A' B C : Type 0} (P : A → A' → Type 0) (Q : B → C → Type 0) (r : Res A) (s : Res A') (f : A → Res B) (g : A' → Res C) → Pair P r s → ((x : A) (y : A') → P x y → Pair Q (f x) (g y)) → Pair Q (then_do r f) (then_do s g)
pair_then P Q (Ok x) (Ok y) f g p h = h x y p
pair_then P Q (Ok x) (Err e) f g p h = pair_err Q (f x) e
pair_then P Q (Err e) s f g p h = tt

module _ (site : Site) (go to : Deeper Items) (h : Agrees go to) where
  else_agrees : (ns : Nodes) (a b : Env) → Agree a b (free_nodes ns) → SameNumbers a.components b.components → a.streams ≡ None → Pair SameItem (trace_else go a ns) (trace_else to b ns)
  else_agrees no_nodes a b k l s = refl
  else_agrees (node n ns) a b k l s = made (go a (node n ns)) (to b (node n ns)) (h a b (node n ns) k l s)
    where
      made : (r t : Res Items) → Pair SameTrees r t → Pair SameItem (on_res (met_branch 1 (cut (node n ns))) r) (on_res (met_branch 1 (cut (node n ns))) t)
      made (Ok x) (Ok y) e = ap (tr.node (cut (node n ns))) e
      made (Ok x) (Err e) q = tt
      made (Err e) t q = tt

  branch_agrees : (i : ℕ) (st : List (List ℕ)) (r t : Res Items) → Pair SameTrees r t → Pair SameItem (on_res (met_branch i st) r) (on_res (met_branch i st) t)
  branch_agrees i st (Ok x) (Ok y) e = ap (tr.node st) e
  branch_agrees i st (Ok x) (Err e) q = tt
  branch_agrees i st (Err e) t q = tt

  call_agrees : (st : List (List ℕ)) (r t : Res Items) → Pair SameTrees r t → Pair SameItem (on_res (met_call st) r) (on_res (met_call st) t)
  call_agrees st (Ok x) (Ok y) e = ap (tr.node st) e
  call_agrees st (Ok x) (Err e) q = tt
  call_agrees st (Err e) t q = tt

  choice_agrees : (c : Bool) (ms ns : Nodes) (a b : Env) → Agree a b (free_nodes ms) → Agree a b (free_nodes ns) → SameNumbers a.components b.components → a.streams ≡ None
      → Pair SameItem (if c then on_res (met_branch 0 (cut ms)) (go a ms) else trace_else go a ns) (if c then on_res (met_branch 0 (cut ms)) (to b ms) else trace_else to b ns)
  choice_agrees true ms ns a b k l n s = branch_agrees 0 (cut ms) (go a ms) (to b ms) (h a b ms k n s)
  choice_agrees false ms ns a b k l n s = else_agrees ns a b l n s

  abbrev SameRows : ItemRows → ItemRows → Type 0
  SameRows rs rs' = whole_rows rs ≡ whole_rows rs'

  rows_agree : (vs : Values) (p : Pattern) (body : Nodes) (a b : Env) → Agree a b (without (bound p) (free_nodes body)) → SameNumbers a.components b.components
      → Pair SameRows (trace_rows go body (row_scopes a p vs)) (trace_rows to body (row_scopes b p vs))
  rows_agree no_values p body a b k n = refl
  rows_agree (value v vs) p body a b k n = at_row (rows_agree vs p body a b k n) (binding p v) (binds p v)
    where
      at_row : Pair SameRows (trace_rows go body (row_scopes a p vs)) (trace_rows to body (row_scopes b p vs)) → (o : Option Assigns) → Binds (bound p) o
          → Pair SameRows (trace_rows go body (map (λ as'. inside as' a) (elim o [ None ↦ bindings p vs | Some as' ↦ as' ∷ bindings p vs ]))) (trace_rows to body (map (λ as'. inside as' b) (elim o [ None ↦ bindings p vs | Some as' ↦ as' ∷ bindings p vs ])))
      at_row rest None e = rest
      at_row rest (Some as') e =
          pair_both SameTrees SameRows SameRows item_row item_row (go (inside as' a) body) (to (inside as' b) body) (trace_rows go body (row_scopes a p vs)) (trace_rows to body (row_scopes b p vs))
          (λ x x' y y' f g. ap (λ t. row t (whole_rows y)) f ∙ ap (row (whole_places x')) g)
          (h (inside as' a) (inside as' b) body (agree_cast (bind as' a) (bind as' b) (inside as' a) (inside as' b) (free_nodes body) refl refl refl refl (agree_bound a b as' (bound p) (free_nodes body) e k)) n refl)
          rest

  pub for_agrees : (p : Pattern) (e : Expr) (body : Nodes) (a b : Env) → Agree a b (free_place (for_place p e body)) → SameNumbers a.components b.components
      → Pair SameRows (then_do (then_do (eval_expr a e) items_of) (λ vs. trace_rows go body (row_scopes a p vs))) (then_do (then_do (eval_expr b e) items_of) (λ vs. trace_rows to body (row_scopes b p vs)))
  for_agrees p e body a b k n =
      pair_same SameRows _ _ _ _ (ap (λ r. then_do r items_of) (eval_agrees e a b (agree_left a b (free_names e) (without (bound p) (free_nodes body)) k)))
      (λ vs. rows_agree vs p body a b (agree_right a b (free_names e) (without (bound p) (free_nodes body)) k) n)

  abbrev SameSlots : Slots → Slots → Type 0
  SameSlots ss ss' = whole_slots ss ≡ whole_slots ss'

  slot_agrees : (a b : Env) (v : Value) (c : Captured) → SameNumbers a.components b.components → Pair SameTrees (trace_slot site go a v c) (trace_slot site to b v c)
  slot_agrees a b v c n = at_slot (binding (site.body c.number).pattern v)
    where
      at_slot : (o : Option Assigns) → Pair SameTrees (elim o [ None ↦ Err NoClause | Some as' ↦ go (slot_scope a c as') (site.body c.number).nodes ]) (elim o [ None ↦ Err NoClause | Some as' ↦ to (slot_scope b c as') (site.body c.number).nodes ])
      at_slot None = tt
      at_slot (Some as') = h (slot_scope a c as') (slot_scope b c as') (site.body c.number).nodes (agree_same (slot_scope a c as') (slot_scope b c as') (free_nodes (site.body c.number).nodes) refl refl) n refl

  slots_agree : (cs : List Captured) (a b : Env) (v : Value) → SameNumbers a.components b.components → Pair SameSlots (trace_slots site go a v cs) (trace_slots site to b v cs)
  slots_agree [] a b v n = refl
  slots_agree (c ∷ cs) a b v n =
      let st = cut (site.body c.number).nodes in
      pair_both SameTrees SameSlots SameSlots (slot_of c.number st) (slot_of c.number st) (trace_slot site go a v c) (trace_slot site to b v c) (trace_slots site go a v cs) (trace_slots site to b v cs)
      (λ x x' y y' f g. ap (λ t. tree (tr.node st t) (whole_slots y)) f ∙ ap (tree (tr.node st (whole_places x'))) g)
      (slot_agrees a b v c n) (slots_agree cs a b v n)

  text_agrees : (rd rd' : List (Option Value)) (r s : Res (List ℕ)) → r ≡ s → Pair SameItem (on_res (met_text rd) r) (on_res (met_text rd') s)
  text_agrees rd rd' r s e = subst (λ t. Pair SameItem (on_res (met_text rd) r) (on_res (met_text rd') t)) e (alike r)
    where
      alike : (t : Res (List ℕ)) → Pair SameItem (on_res (met_text rd) t) (on_res (met_text rd') t)
      alike (Ok t) = refl
      alike (Err k) = tt

  no_stream : (o : Option (List ℕ → Stream)) (f : Stream → Res Item) (s : List ℕ) (Q : Item → Item → Type 0) (r : Res Item) → o ≡ None → Pair Q (then_do (elim o [ None ↦ Err NoAssign | Some g ↦ Ok (g s) ]) f) r
  no_stream None f s Q r e = tt
  no_stream (Some g) f s Q r e = cc

  place_agrees : (p : Place) (a b : Env) → Agree a b (free_place p) → SameNumbers a.components b.components → a.streams ≡ None → Pair SameItem (trace_place site go a p) (trace_place site to b p)
  place_agrees (put e) a b k n s =
      fused (then_do (eval_expr a e) printed) (then_do (eval_expr b e) printed) (ap (λ r. then_do r printed) (eval_agrees e a b k))
    where
      fused : (r t : Res (List ℕ)) → r ≡ t → Pair SameItem (on_res (λ t. met_text (reading a (free_names e)) (escape_text t)) r) (on_res (λ t. met_text (reading b (free_names e)) (escape_text t)) t)
      fused r t q = subst (λ u. Pair SameItem (on_res (λ t. met_text (reading a (free_names e)) (escape_text t)) r) (on_res (λ t. met_text (reading b (free_names e)) (escape_text t)) u)) q (alike r)
        where
          alike : (u : Res (List ℕ)) → Pair SameItem (on_res (λ t. met_text (reading a (free_names e)) (escape_text t)) u) (on_res (λ t. met_text (reading b (free_names e)) (escape_text t)) u)
          alike (Ok u) = refl
          alike (Err k) = tt
  place_agrees (attribute m e) a b k n s = text_agrees (reading a (free_names e)) (reading b (free_names e)) _ _ (ap (λ r. then_do r (print_attribute m)) (eval_agrees e a b k))
  place_agrees (spread e) a b k n s = text_agrees (reading a (free_names e)) (reading b (free_names e)) _ _ (ap (λ r. then_do r print_spread) (eval_agrees e a b k))
  place_agrees (if_place t ms ns) a b k n s =
      let l = agree_left a b (free_names t ++ free_nodes ms) (free_nodes ns) k in
      pair_same SameItem (eval_expr a t) (eval_expr b t) _ _ (eval_agrees t a b (agree_left a b (free_names t) (free_nodes ms) l))
      (λ v. choice_agrees (is_true v) ms ns a b (agree_right a b (free_names t) (free_nodes ms) l) (agree_right a b (free_names t ++ free_nodes ms) (free_nodes ns) k) n s)
  place_agrees (case_place e cs) a b k n s =
      pair_same SameItem (eval_expr a e) (eval_expr b e) _ _ (eval_agrees e a b (agree_left a b (free_names e) (free_clauses cs) k))
      (λ v. chosen_agrees (chosen v cs) (agree_chosen v cs a b (agree_right a b (free_names e) (free_clauses cs) k)))
    where
      chosen_agrees : (r : Res Chosen) → On (λ c. Agree (bind c.variables a) (bind c.variables b) (free_nodes c.nodes)) r
          → Pair SameItem (then_do r (λ c. on_res (met_branch c.index (cut c.nodes)) (go (bind c.variables a) c.nodes))) (then_do r (λ c. on_res (met_branch c.index (cut c.nodes)) (to (bind c.variables b) c.nodes)))
      chosen_agrees (Ok c) q = branch_agrees c.index (cut c.nodes) _ _ (h (bind c.variables a) (bind c.variables b) c.nodes q n s)
      chosen_agrees (Err x) q = tt
  place_agrees (for_place p e body) a b k n s = made _ _ (for_agrees p e body a b k n)
    where
      made : (r t : Res ItemRows) → Pair SameRows r t → Pair SameItem (on_res (met_rows (reading a (free_place (for_place p e body))) (cut body)) r) (on_res (met_rows (reading b (free_place (for_place p e body))) (cut body)) t)
      made (Ok x) (Ok y) q = ap (rows_tree (cut body)) q
      made (Ok x) (Err e) q = tt
      made (Err e) t q = tt
  place_agrees (call t xs content es) a b k n s =
      call_agrees (cut (site.template t)) _ _
      (pair_same SameTrees (call_assigns a xs content es) (call_assigns b xs content es) _ _ (call_agrees_on xs content es a b k)
      (λ as'. h (callee a as') (callee b as') (site.template t)
      (agree_same (callee a as') (callee b as') (free_nodes (site.template t)) refl refl) n refl))
  place_agrees (render_slot e x) a b k n s =
      made _ _ (pair_same SameSlots _ _ _ _ (ap (λ r. then_do r (slots_of site)) (eval_agrees e a b (agree_left a b (free_names e) (free_names x) k)))
      (λ cs. pair_same SameSlots (eval_expr a x) (eval_expr b x) _ _ (eval_agrees x a b (agree_right a b (free_names e) (free_names x) k)) (λ v. slots_agree cs a b v n)))
    where
      made : (r t : Res Slots) → Pair SameSlots r t → Pair SameItem (on_res met_slots r) (on_res met_slots t)
      made (Ok x) (Ok y) q = ap slots_tree q
      made (Ok x) (Err e) q = tt
      made (Err e) t q = tt
  place_agrees (live_call xs content es) a b k n s =
      pair_then (λ (c : Component) (d : Component). c.number ≡ d.number) SameItem _ _ _ _
      (pair_same (λ (c : Component) (d : Component). c.number ≡ d.number) (live_assigns a xs) (live_assigns b xs) _ _ (live_agrees_on xs a b k) (λ as'. component_alike a b (module_in xs) as' n))
      (λ c d e. made c d e (go (component_scope a c) (site.root (module_in xs))) (to (component_scope b d) (site.root (module_in xs))))
    where
      made : (c d : Component) → c.number ≡ d.number → (r t : Res Items) → Pair SameItem (on_res (met_component c.number (cut (site.root (module_in xs)))) r) (on_res (met_component d.number (cut (site.root (module_in xs)))) t)
      made c d e (Ok x) (Ok y) = ap tr.number e
      made c d e (Ok x) (Err q) = tt
      made c d e (Err q) t = tt
  place_agrees (stream_place st x p body) a b k n s = no_stream a.streams _ st SameItem (trace_place site to b (stream_place st x p body)) s

  -- the free names of each place
  abbrev AgreeAt : Env → Env → List Place → Type 0
  AgreeAt a b [] = Unit {0}
  AgreeAt a b (p ∷ ps) = Agree a b (free_place p) × AgreeAt a b ps

  at_append : (a b : Env) (ps qs : List Place) → AgreeAt a b ps → AgreeAt a b qs → AgreeAt a b (ps ++ qs)
  at_append a b [] qs h k = k
  at_append a b (p ∷ ps) qs h k = (h.0, at_append a b ps qs h.1 k)

  at_attributes : (a b : Env) (xs : Attributes) → Agree a b (free_attributes xs) → AgreeAt a b (places_of_attributes xs)
  at_attributes a b no_attributes k = tt
  at_attributes a b (written n w xs) k = at_attributes a b xs k
  at_attributes a b (valued n e xs) k = (agree_left a b (free_names e) (free_attributes xs) k, at_attributes a b xs (agree_right a b (free_names e) (free_attributes xs) k))
  at_attributes a b (spread_of e xs) k = (agree_left a b (free_names e) (free_attributes xs) k, at_attributes a b xs (agree_right a b (free_names e) (free_attributes xs) k))
  at_attributes a b (module_of m xs) k = at_attributes a b xs k

  mutual
    at_node : (a b : Env) (n : Node) → Agree a b (free_node n) → AgreeAt a b (places_of n)
    at_node a b (text_node t) k = tt
    at_node a b (element l t xs ns) k =
        at_append a b (places_of_attributes xs) (places_in ns) (at_attributes a b xs (agree_left a b (free_attributes xs) (free_nodes ns) k)) (at_nodes a b ns (agree_right a b (free_attributes xs) (free_nodes ns) k))
    at_node a b (at_place o p) k = (k, tt)

    at_nodes : (a b : Env) (ns : Nodes) → Agree a b (free_nodes ns) → AgreeAt a b (places_in ns)
    at_nodes a b no_nodes k = tt
    at_nodes a b (node n ns) k = at_append a b (places_of n) (places_in ns) (at_node a b n (agree_left a b (free_node n) (free_nodes ns) k)) (at_nodes a b ns (agree_right a b (free_node n) (free_nodes ns) k))

  places_agree : (ps : List Place) (a b : Env) → AgreeAt a b ps → SameNumbers a.components b.components → a.streams ≡ None → Pair SameTrees (trace_places site go a ps) (trace_places site to b ps)
  places_agree [] a b k n s = refl
  places_agree (p ∷ ps) a b k n s =
      pair_both SameItem SameTrees SameTrees item item (trace_place site go a p) (trace_place site to b p) (trace_places site go a ps) (trace_places site to b ps)
      (λ x x' y y' f g. ap (λ t. tree t (whole_places y)) f ∙ ap (tree (whole_place x')) g)
      (place_agrees p a b k.0 n s) (places_agree ps a b k.1 n s)

-- at any two levels
pub trace_agrees : (site : Site) (k l : ℕ) → Agrees (trace site k) (trace site l)
trace_agrees site zero l a b ns h n s = tt
trace_agrees site (suc k) zero a b ns h n s = pair_err SameTrees (trace site (suc k) a ns) _
trace_agrees site (suc k) (suc l) a b ns h n s =
    let r = trace_agrees site k l in
    places_agree site (trace site k) (trace site l) r (places_in ns) a b (at_nodes site (trace site k) (trace site l) r a b ns h) n s
