-- The merge law for one node: two renderings of the same nodes are kept, so the lean diff merges.
use Rattle.std.proofs.Common.{◌≡◌, ℕ, zero, suc, List, [], ◌∷◌, Ok, Err, Option, Some, None, Bool, true, false, ◌==◌, if◌then◌else◌, refl, sym, ap, ◌∙◌, subst, arith, true≢false}
use Rattle.std.proofs.lemmas.Bool.Decides.{Decides-eqb}
use Rattle.value_core.specs.Value.{Value, Assigns}
use Rattle.ast_core.specs.Syntax.{Expr, Pattern, Place, put, attribute, spread, if_place, case_place, for_place, call, render_slot, live_call, stream_place, Nodes, no_nodes, node, Clauses}
use Rattle.ast_core.specs.Free.{free_names, free_place}
use Rattle.doc_model.specs.Environment.{Stream, Env, binding, bind, reading}
use Rattle.doc_model.specs.Evaluation.{Res, then_do, on_res, eval_expr, printed, is_true}
use Rattle.text_core.specs.Escape.{escape_text}
use Rattle.doc_model.specs.Printing.{print_attribute, print_spread}
use Rattle.value_core.specs.declared.raise.Raise.TheVariants.{NoClause, NoAssign}
use Rattle.diff_tree.specs.Tree.{Trees, merge_changes}
use Rattle.doc_model.specs.Trace.{Items, item, Item, met_text, met_nothing, met_branch, met_rows, met_call, met_slots, met_component, met_stream, Slots, no_slots, slot_of}
use Rattle.doc_model.specs.Whole.{whole_rows}
use Rattle.doc_model.specs.Lean.{lean_places}
use Rattle.doc_model.specs.Holding.{Holds, Fresh, FreshSlots}
use Rattle.doc_model.specs.Left.{Containers, Unused, clause_at, Leaves, LeavesItem, Based, SameNumbers}
use Rattle.doc_model.specs.Scopes.{Site, Deeper, Captured, Chosen, chosen, callee, component_scope, component_of, slot_scope, stream_scopes, operations, row_scopes, slots_of}
use Rattle.ast_core.specs.Places.{cut, places_in}
use Rattle.doc_model.specs.Tracing.{trace, trace_places, trace_place, trace_rows, trace_slot, trace_slots, trace_else}
use Rattle.doc_model.proofs.Results.{On, on_all, Pair, pair_err, pair_made, pair_bind, pair_both, pair_weaker, pair_with}
use Rattle.doc_model.specs.Laws.{Gives}
use Rattle.doc_model.proofs.Merges.{Kept, KeptItem, KeptSlots, lean_merges}
use Rattle.doc_model.proofs.Names.{agree_from, eval_agrees}
use Rattle.doc_model.proofs.Agrees.{Agrees, for_agrees, trace_agrees}
use Rattle.doc_model.proofs.Facts.{empty, unused_other, chosen_at, Freshens, fresh_slots, trace_fresh, LeavesNone, trace_leaves_none, trace_good}
use Rattle.doc_model.proofs.Wholes.{Good}
use Rattle.doc_model.specs.Calls.{items_of, call_assigns, live_assigns, module_in}

-- two renderings of the same nodes one level deeper, where the old one left the new one's containers
abbrev pub Keeps : Site → Deeper Items → Deeper Items → Type 0
Keeps site go to = (f : Containers) (a b : Env) (ns : Nodes) → SameNumbers a.components b.components → Based f b.streams
    → Pair (λ is is'. Leaves site.mark f (places_in ns) is → Kept site.mark is is') (go a ns) (to b ns)

pair_all : {A B : Type 0} (Q : A → B → Type 0) (r : Res A) (s : Res B) → ((x : A) (y : B) → Q x y) → Pair Q r s
pair_all Q (Ok x) (Ok y) h = h x y
pair_all Q (Ok x) (Err e) h = tt
pair_all Q (Err e) s h = tt

pair_given : {A B : Type 0} (P : Type 0) (Q : A → B → Type 0) (r : Res A) (s : Res B) → (P → Pair Q r s) → Pair (λ x y. P → Q x y) r s
pair_given P Q (Ok x) (Ok y) h = h
pair_given P Q (Ok x) (Err e) h = tt
pair_given P Q (Err e) s h = tt

pair_alike : {A : Type 0} (t : Res A) → Pair (λ x y. x ≡ y) t t
pair_alike (Ok x) = refl
pair_alike (Err k) = tt

pair_equal : {A : Type 0} (r s : Res A) → r ≡ s → Pair (λ x y. x ≡ y) r s
pair_equal r s e = subst (Pair (λ x y. x ≡ y) r) e (pair_alike r)

pair_right : {A B : Type 0} (P : B → Type 0) (Q R : A → B → Type 0) (r : Res A) (s : Res B) → ((x : A) (y : B) → P y → Q x y → R x y) → On P s → Pair Q r s → Pair R r s
pair_right P Q R (Ok x) (Ok y) h p q = h x y p q
pair_right P Q R (Ok x) (Err e) h p q = tt
pair_right P Q R (Err e) s h p q = tt

module _ (site : Site) (go to : Deeper Items) (agrees : Agrees go to) (keeps : Keeps site go to) (fresh : Freshens to) (leaves : LeavesNone site go) where
  abbrev K : Containers → Place → Item → Item → Type 0
  K f p i i' = LeavesItem site.mark f p i → KeptItem site.mark i i'

  text_kept : (f : Containers) (p : Place) (rd rd' : List (Option Value)) (r s : Res (List ℕ)) → (rd ≡ rd' → r ≡ s) → Pair (K f p) (on_res (met_text rd) r) (on_res (met_text rd') s)
  text_kept f p rd rd' r s h =
      pair_made (K f p) (met_text rd) (met_text rd') r s
      (pair_weaker (λ x y. rd ≡ rd' → x ≡ y) (λ x y. K f p (met_text rd x) (met_text rd' y)) r s (λ x y q l. q)
      (pair_given (rd ≡ rd') (λ x y. x ≡ y) r s (λ e. pair_equal r s (h e))))

  put_kept : (f : Containers) (p : Place) (rd rd' : List (Option Value)) (r s : Res (List ℕ)) → (rd ≡ rd' → r ≡ s) → Pair (K f p) (on_res (λ t. met_text rd (escape_text t)) r) (on_res (λ t. met_text rd' (escape_text t)) s)
  put_kept f p rd rd' r s h =
      pair_made (K f p) (λ t. met_text rd (escape_text t)) (λ t. met_text rd' (escape_text t)) r s
      (pair_weaker (λ x y. rd ≡ rd' → x ≡ y) (λ x y. K f p (met_text rd (escape_text x)) (met_text rd' (escape_text y))) r s (λ x y q l e. ap escape_text (q e))
      (pair_given (rd ≡ rd') (λ x y. x ≡ y) r s (λ e. pair_equal r s (h e))))

  -- the same branch is kept, another one begins with empty containers
  branch_kept : (f : Containers) (p : Place) (a b : Env) (i j : ℕ) (x y : Nodes) → SameNumbers a.components b.components → Based f b.streams
      → (i ≡ j → x ≡ y) → ((is : Items) → i ≡ j → LeavesItem site.mark f p (met_branch i (cut x) is) → Leaves site.mark f (places_in x) is)
      → ((is : Items) → (i ≡ j → ⊥) → LeavesItem site.mark f p (met_branch i (cut x) is) → Unused f y)
      → Pair (K f p) (on_res (met_branch i (cut x)) (go a x)) (on_res (met_branch j (cut y)) (to b y))
  branch_kept f p a b i j x y n base same l u =
      pair_made (K f p) (met_branch i (cut x)) (met_branch j (cut y)) (go a x) (to b y)
      (pair_right (λ is'. Unused f y → Fresh is') (λ is is'. i ≡ j → Leaves site.mark f (places_in x) is → Kept site.mark is is') (λ is is'. K f p (met_branch i (cut x) is) (met_branch j (cut y) is')) (go a x) (to b y)
      (λ is is' fr k q. (
        λ e. (ap cut (same ((Decides-eqb i j).0 e)), k ((Decides-eqb i j).0 e) (l is ((Decides-eqb i j).0 e) q)),
        λ e. fr (u is (λ d. true≢false (sym ((Decides-eqb i j).1 d) ∙ e)) q),
      ))
      (fresh f b y base)
      (pair_given (i ≡ j) (λ is is'. Leaves site.mark f (places_in x) is → Kept site.mark is is') (go a x) (to b y)
      (λ e. subst (λ z. Pair (λ is is'. Leaves site.mark f (places_in x) is → Kept site.mark is is') (go a x) (to b z)) (same e) (keeps f a b x n base))))

  -- a branch where there was none, and none where there was one
  new_branch : (f : Containers) (p : Place) (b : Env) (j : ℕ) (y : Nodes) → Based f b.streams → (LeavesItem site.mark f p met_nothing → Unused f y) → Pair (K f p) (Ok met_nothing) (on_res (met_branch j (cut y)) (to b y))
  new_branch f p b j y base u = made (to b y) (fresh f b y base)
    where
      made : (r : Res Items) → On (λ is'. Unused f y → Fresh is') r → Pair (K f p) (Ok met_nothing) (on_res (met_branch j (cut y)) r)
      made (Ok is') h = λ q. h (u q)
      made (Err e) h = tt

  no_branch : (f : Containers) (p : Place) (a : Env) (i : ℕ) (x : Nodes) → Pair (K f p) (on_res (met_branch i (cut x)) (go a x)) (Ok met_nothing)
  no_branch f p a i x = made (go a x)
    where
      made : (r : Res Items) → Pair (K f p) (on_res (met_branch i (cut x)) r) (Ok met_nothing)
      made (Ok is) = λ q. tt
      made (Err e) = tt

  choice_kept : (f : Containers) (t : Expr) (x y : Nodes) (a b : Env) (c d : Bool) → SameNumbers a.components b.components → Based f b.streams
      → Pair (K f (if_place t x y)) (if c then on_res (met_branch 0 (cut x)) (go a x) else trace_else go a y) (if d then on_res (met_branch 0 (cut x)) (to b x) else trace_else to b y)
  choice_kept f t x y a b true true n base = branch_kept f (if_place t x y) a b 0 0 x x n base (λ e. refl) (λ is e q. q.0) (λ is e q. absurd (e refl))
  choice_kept f t x no_nodes a b true false n base = no_branch f (if_place t x no_nodes) a 0 x
  choice_kept f t x (node m ms) a b true false n base =
      branch_kept f (if_place t x (node m ms)) a b 0 1 x (node m ms) n base (λ e. absurd (omega arith)) (λ is e q. absurd (omega arith)) (λ is e q. q.1)
  choice_kept f t x no_nodes a b false true n base = new_branch f (if_place t x no_nodes) b 0 x base (λ q. q.0)
  choice_kept f t x (node m ms) a b false true n base =
      branch_kept f (if_place t x (node m ms)) a b 1 0 (node m ms) x n base (λ e. absurd (omega arith)) (λ is e q. absurd (omega arith)) (λ is e q. q.0)
  choice_kept f t x no_nodes a b false false n base = λ q. tt
  choice_kept f t x (node m ms) a b false false n base = branch_kept f (if_place t x (node m ms)) a b 1 1 (node m ms) (node m ms) n base (λ e. refl) (λ is e q. q.1) (λ is e q. absurd (e refl))

  clauses_kept : (f : Containers) (e : Expr) (cs : Clauses) (a b : Env) (r s : Res Chosen) → SameNumbers a.components b.components → Based f b.streams
      → On (λ c. c.nodes ≡ clause_at c.index cs) r → On (λ c. c.nodes ≡ clause_at c.index cs) s
      → Pair (K f (case_place e cs)) (then_do r (λ c. on_res (met_branch c.index (cut c.nodes)) (go (bind c.variables a) c.nodes))) (then_do s (λ c. on_res (met_branch c.index (cut c.nodes)) (to (bind c.variables b) c.nodes)))
  clauses_kept f e cs a b (Ok c) (Ok d) n base p q =
      branch_kept f (case_place e cs) (bind c.variables a) (bind d.variables b) c.index d.index c.nodes d.nodes n base
      (λ h. p ∙ ap (λ i. clause_at i cs) h ∙ sym q)
      (λ is h l. subst (λ z. Leaves site.mark f (places_in z) is) (sym p) l.0)
      (λ is h l. subst (Unused f) (sym q) (unused_other f c.index d.index cs h l.1))
  clauses_kept f e cs a b (Ok c) (Err x) n base p q = pair_err (K f (case_place e cs)) (on_res (met_branch c.index (cut c.nodes)) (go (bind c.variables a) c.nodes)) x
  clauses_kept f e cs a b (Err x) s n base p q = tt

  -- where there are no streams, nothing was left
  none_kept : (a b : Env) (ns : Nodes) → SameNumbers a.components b.components → a.streams ≡ None → Based empty b.streams → Pair (Kept site.mark) (go a ns) (to b ns)
  none_kept a b ns n e base =
      pair_with (Leaves site.mark empty (places_in ns)) (λ is'. Unit {0}) (λ is is'. Leaves site.mark empty (places_in ns) is → Kept site.mark is is') (Kept site.mark) (go a ns) (to b ns)
      (λ x y l u k. k l) (leaves a ns e) (on_all _ (to b ns) (λ x. tt)) (keeps empty a b ns n base)

  slot_kept : (a b : Env) (v w : Value) (c d : Captured) → SameNumbers a.components b.components
      → Pair (λ is is'. (c.number == d.number) ≡ true → (cut (site.body c.number).nodes ≡ cut (site.body d.number).nodes) × Kept site.mark is is') (trace_slot site go a v c) (trace_slot site to b w d)
  slot_kept a b v w c d n =
      pair_given ((c.number == d.number) ≡ true) (λ is is'. (cut (site.body c.number).nodes ≡ cut (site.body d.number).nodes) × Kept site.mark is is') (trace_slot site go a v c) (trace_slot site to b w d)
      (λ e. let s = (Decides-eqb c.number d.number).0 e in at_bindings s (binding (site.body c.number).pattern v) (binding (site.body d.number).pattern w))
    where
      at_bindings : c.number ≡ d.number → (o q : Option Assigns)
          → Pair (λ is is'. (cut (site.body c.number).nodes ≡ cut (site.body d.number).nodes) × Kept site.mark is is')
          (elim o [ None ↦ Err NoClause | Some as' ↦ go (slot_scope a c as') (site.body c.number).nodes ]) (elim q [ None ↦ Err NoClause | Some as' ↦ to (slot_scope b d as') (site.body d.number).nodes ])
      at_bindings s None q = tt
      at_bindings s (Some as') None = pair_err _ (go (slot_scope a c as') (site.body c.number).nodes) _
      at_bindings s (Some as') (Some bs) =
          subst (λ m. Pair (λ is is'. (cut (site.body c.number).nodes ≡ cut (site.body m).nodes) × Kept site.mark is is') (go (slot_scope a c as') (site.body c.number).nodes) (to (slot_scope b d bs) (site.body m).nodes)) s
          (pair_weaker (Kept site.mark) _ (go (slot_scope a c as') (site.body c.number).nodes) (to (slot_scope b d bs) (site.body c.number).nodes) (λ x y k. (refl, k))
          (none_kept (slot_scope a c as') (slot_scope b d bs) (site.body c.number).nodes n refl tt))

  slots_none : (r : Res Slots) → Pair (KeptSlots site.mark) (Ok no_slots) r
  slots_none (Ok ss) = tt
  slots_none (Err e) = tt

  none_slots : (r : Res Slots) → Pair (KeptSlots site.mark) r (Ok no_slots)
  none_slots (Ok no_slots) = tt
  none_slots (Ok (slot_of b st is ss)) = tt
  none_slots (Err e) = tt

  slots_kept : (a b : Env) (v w : Value) (cs ds : List Captured) → SameNumbers a.components b.components → Pair (KeptSlots site.mark) (trace_slots site go a v cs) (trace_slots site to b w ds)
  slots_kept a b v w [] ds n = slots_none (trace_slots site to b w ds)
  slots_kept a b v w (c ∷ cs) [] n = none_slots (trace_slots site go a v (c ∷ cs))
  slots_kept a b v w (c ∷ cs) (d ∷ ds) n =
      pair_both (λ is is'. (c.number == d.number) ≡ true → (cut (site.body c.number).nodes ≡ cut (site.body d.number).nodes) × Kept site.mark is is') (KeptSlots site.mark) (KeptSlots site.mark)
      (slot_of c.number (cut (site.body c.number).nodes)) (slot_of d.number (cut (site.body d.number).nodes)) (trace_slot site go a v c) (trace_slot site to b w d) (trace_slots site go a v cs) (trace_slots site to b w ds)
      (λ x x' y y' p q. (p, q)) (slot_kept a b v w c d n) (slots_kept a b v w cs ds n)

  stream_kept : (f : Containers) (s x : List ℕ) (p : Pattern) (body : Nodes) (a b : Env) (o q : Option (List ℕ → Stream)) → Based f q
      → Pair (K f (stream_place s x p body))
      (then_do (elim o [ None ↦ Err NoAssign | Some g ↦ Ok (g s) ]) (λ st. on_res (met_stream s st.shown (operations x p st) (cut body)) (trace_rows go body (stream_scopes a x p st))))
      (then_do (elim q [ None ↦ Err NoAssign | Some g ↦ Ok (g s) ]) (λ st. on_res (met_stream s st.shown (operations x p st) (cut body)) (trace_rows to body (stream_scopes b x p st))))
  stream_kept f s x p body a b None q base = tt
  stream_kept f s x p body a b (Some g) None base = pair_err (K f (stream_place s x p body)) (on_res (met_stream s (g s).shown (operations x p (g s)) (cut body)) (trace_rows go body (stream_scopes a x p (g s)))) _
  stream_kept f s x p body a b (Some g) (Some h) base =
      pair_made (K f (stream_place s x p body)) (met_stream s (g s).shown (operations x p (g s)) (cut body)) (met_stream s (h s).shown (operations x p (h s)) (cut body)) (trace_rows go body (stream_scopes a x p (g s))) (trace_rows to body (stream_scopes b x p (h s)))
      (pair_all _ (trace_rows go body (stream_scopes a x p (g s))) (trace_rows to body (stream_scopes b x p (h s))) (λ y y' l. (refl, refl, base s ∙ l)))

  place_kept : (f : Containers) (p : Place) (a b : Env) → SameNumbers a.components b.components → Based f b.streams → Pair (K f p) (trace_place site go a p) (trace_place site to b p)
  place_kept f (put e) a b n base = put_kept f (put e) _ _ _ _ (λ h. ap (λ r. then_do r printed) (eval_agrees e a b (agree_from a b (free_names e) h)))
  place_kept f (attribute m e) a b n base = text_kept f (attribute m e) _ _ _ _ (λ h. ap (λ r. then_do r (print_attribute m)) (eval_agrees e a b (agree_from a b (free_names e) h)))
  place_kept f (spread e) a b n base = text_kept f (spread e) _ _ _ _ (λ h. ap (λ r. then_do r print_spread) (eval_agrees e a b (agree_from a b (free_names e) h)))
  place_kept f (if_place t x y) a b n base = pair_bind (K f (if_place t x y)) (eval_expr a t) (eval_expr b t) _ _ (λ v w. choice_kept f t x y a b (is_true v) (is_true w) n base)
  place_kept f (case_place e cs) a b n base = pair_bind (K f (case_place e cs)) (eval_expr a e) (eval_expr b e) _ _ (λ v w. clauses_kept f e cs a b (chosen v cs) (chosen w cs) n base (chosen_at v cs) (chosen_at w cs))
  place_kept f (for_place p e body) a b n base =
      let q = for_place p e body in
      let r = then_do (then_do (eval_expr a e) items_of) (λ vs. trace_rows go body (row_scopes a p vs)) in
      let s = then_do (then_do (eval_expr b e) items_of) (λ vs. trace_rows to body (row_scopes b p vs)) in
      pair_made (K f q) (met_rows (reading a (free_place q)) (cut body)) (met_rows (reading b (free_place q)) (cut body)) r s
      (pair_weaker (λ x y. reading a (free_place q) ≡ reading b (free_place q) → whole_rows x ≡ whole_rows y) _ r s (λ x y h l. (refl, h))
      (pair_given (reading a (free_place q) ≡ reading b (free_place q)) (λ x y. whole_rows x ≡ whole_rows y) r s (λ h. for_agrees site go to agrees p e body a b (agree_from a b (free_place q) h) n)))
  place_kept f (call t xs content es) a b n base =
      pair_made (K f (call t xs content es)) (met_call (cut (site.template t))) (met_call (cut (site.template t))) _ _
      (pair_bind _ (call_assigns a xs content es) (call_assigns b xs content es) _ _
      (λ as' bs. pair_weaker (Kept site.mark) _ (go (callee a as') (site.template t)) (to (callee b bs) (site.template t)) (λ x y k l. (refl, k))
      (none_kept (callee a as') (callee b bs) (site.template t) n refl tt)))
  place_kept f (render_slot e x) a b n base =
      pair_made (K f (render_slot e x)) met_slots met_slots _ _
      (pair_bind _ (then_do (eval_expr a e) (slots_of site)) (then_do (eval_expr b e) (slots_of site)) _ _
      (λ cs ds. pair_bind _ (eval_expr a x) (eval_expr b x) _ _
      (λ v w. pair_right FreshSlots (KeptSlots site.mark) _ (trace_slots site go a v cs) (trace_slots site to b w ds) (λ y y' h k l. (k, h)) (fresh_slots site to fresh b w ds) (slots_kept a b v w cs ds n))))
  place_kept f (live_call xs content es) a b n base =
      pair_bind (K f (live_call xs content es)) (then_do (live_assigns a xs) (component_of a (module_in xs))) (then_do (live_assigns b xs) (component_of b (module_in xs))) _ _
      (λ c d. pair_made (K f (live_call xs content es)) (met_component c.number (cut (site.root (module_in xs)))) (met_component d.number (cut (site.root (module_in xs)))) (go (component_scope a c) (site.root (module_in xs))) (to (component_scope b d) (site.root (module_in xs)))
      (pair_all _ (go (component_scope a c) (site.root (module_in xs))) (to (component_scope b d) (site.root (module_in xs))) (λ x y l. tt)))
  place_kept f (stream_place s x p body) a b n base = stream_kept f s x p body a b a.streams b.streams base

  places_kept : (f : Containers) (ps : List Place) (a b : Env) → SameNumbers a.components b.components → Based f b.streams
      → Pair (λ is is'. Leaves site.mark f ps is → Kept site.mark is is') (trace_places site go a ps) (trace_places site to b ps)
  places_kept f [] a b n base = λ l. tt
  places_kept f (p ∷ ps) a b n base =
      pair_both (K f p) (λ is is'. Leaves site.mark f ps is → Kept site.mark is is') (λ is is'. Leaves site.mark f (p ∷ ps) is → Kept site.mark is is') item item (trace_place site go a p) (trace_place site to b p) (trace_places site go a ps) (trace_places site to b ps)
      (λ x x' y y' h k l. (h l.0, k l.1)) (place_kept f p a b n base) (places_kept f ps a b n base)

pub trace_keeps : (site : Site) (k l : ℕ) → Keeps site (trace site k) (trace site l)
trace_keeps site zero l f a b ns n base = tt
trace_keeps site (suc k) zero f a b ns n base = pair_err (λ is is'. Leaves site.mark f (places_in ns) is → Kept site.mark is is') (trace site (suc k) a ns) _
trace_keeps site (suc k) (suc l) f a b ns n base =
    places_kept site (trace site k) (trace site l) (trace_agrees site k l) (trace_keeps site k l) (trace_fresh site l) (trace_leaves_none site k) f (places_in ns) a b n base

-- The merge law for one node of a client's tree
pub lean_gives_whole : (site : Site) (k l : ℕ) (f : Containers) (a b : Env) (ns : Nodes) (is is' : Items) (ts : Trees)
    → SameNumbers a.components b.components → Based f b.streams → trace site k a ns ≡ Ok is → trace site l b ns ≡ Ok is' → Leaves site.mark f (places_in ns) is → Holds site.mark ts is
    → Gives (λ us. Holds site.mark us is') (merge_changes ts (lean_places is is'))
lean_gives_whole site k l f a b ns is is' ts n base e e' left h =
    let p = subst (λ r. Pair (λ x y. Leaves site.mark f (places_in ns) x → Kept site.mark x y) r (trace site l b ns)) e (trace_keeps site k l f a b ns n base) in
    let q : Leaves site.mark f (places_in ns) is → Kept site.mark is is' = subst (λ r. Pair (λ x y. Leaves site.mark f (places_in ns) x → Kept site.mark x y) (Ok is) r) e' p in
    let g : Good is' = subst (On Good) e' (trace_good site l b ns) in
    lean_merges site.mark ts is is' h (q left) g
