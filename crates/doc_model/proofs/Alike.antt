-- Two environments that agree on the free names of nodes, with the same streams and components, meet the same and show the same.
use Rattle.std.proofs.Common.{◌≡◌, ℕ, zero, suc, List, [], ◌∷◌, ◌++◌, map, Ok, Err, Option, Some, None, Bool, true, false, if◌then◌else◌, refl, sym, ap, ◌∙◌}
use Rattle.text_core.specs.Escape.{escape_text}
use Rattle.diff_tree.specs.Container.{Insert, after, contents}
use Rattle.diff_tree.specs.Tree.{weave, flat}
use Rattle.value_core.specs.Value.{Value, text, Values, no_values, value, Assigns, assign}
use Rattle.value_core.specs.declared.raise.Raise.TheVariants.{NoAssign, NoClause}
use Rattle.ast_core.specs.Syntax.{Expr, Pattern, Place, put, attribute, spread, if_place, case_place, for_place, call, render_slot, live_call, stream_place, Node, text_node, element, at_place, Nodes, no_nodes, node, Clauses, Attributes, no_attributes, written, valued, spread_of, module_of}
use Rattle.ast_core.specs.Free.{without, bound, free_names, free_nodes, free_node, free_place, free_clauses, free_attributes}
use Rattle.ast_core.specs.Places.{cut, places_in, places_of, places_of_attributes}
use Rattle.doc_model.specs.Environment.{Env, Component, bind, inside, binding, bindings, reading, find}
use Rattle.doc_model.specs.Evaluation.{Res, then_do, both, on_res, eval_expr, printed, is_true}
use Rattle.doc_model.specs.Printing.{print_attribute, print_spread}
use Rattle.doc_model.specs.Calls.{items_of, call_assigns, live_assigns, module_in}
use Rattle.doc_model.specs.Scopes.{Site, Deeper, Captured, Chosen, chosen, callee, component_scope, stream_row, slots_of, slot_scope, or_none, id_of, component_of, stream_of, matched, insert_contents, operations, row_scopes}
use Rattle.doc_model.specs.Trace.{Items, item, met_text, met_branch, met_rows, met_call, met_slots, met_component, met_stream, item_row, slot_of, texts}
use Rattle.doc_model.specs.Tracing.{trace, trace_places, trace_place, trace_rows, trace_slot, trace_slots, trace_else}
use Rattle.doc_model.specs.FullRendering.{full_render, full_place, full_rows, full_slot, full_slots, full_else}
use Rattle.doc_model.proofs.Results.{On}
use Rattle.doc_model.proofs.Names.{Agree, agree_left, agree_right, agree_cast, agree_same, agree_reading, keys, Binds, binds, agree_bound, eval_agrees}
use Rattle.doc_model.proofs.Calling.{call_agrees_on, live_agrees_on}
use Rattle.doc_model.proofs.Agrees.{agree_chosen}
use Rattle.doc_model.proofs.Shows.{trace_shown}

-- what renders one level deeper hangs on the free names, the streams and the components alone
abbrev pub Alike : {A : Type 0} → Deeper A → Type 0
Alike go = (a b : Env) (ns : Nodes) → Agree a b (free_nodes ns) → a.streams ≡ b.streams → a.components ≡ b.components → go a ns ≡ go b ns

-- equal steps on equal results
then_each : {A B : Type 0} (r : Res A) (f g : A → Res B) → ((x : A) → f x ≡ g x) → then_do r f ≡ then_do r g
then_each (Ok x) f g h = h x
then_each (Err e) f g h = refl

then_alike : {A B : Type 0} (r s : Res A) (f g : A → Res B) → r ≡ s → ((x : A) → f x ≡ g x) → then_do r f ≡ then_do s g
then_alike r s f g e h = ap (λ q. then_do q f) e ∙ then_each s f g h

both_alike : {A B C : Type 0} (f : A → B → C) (r r' : Res A) (s s' : Res B) → r ≡ r' → s ≡ s' → both f r s ≡ both f r' s'
both_alike f r r' s s' e k = ap (λ q. both f q s) e ∙ ap (both f r') k

test_alike : {A : Type 0} (c : Bool) (x x' y y' : A) → x ≡ x' → y ≡ y' → (if c then x else y) ≡ (if c then x' else y')
test_alike true x x' y y' e k = e
test_alike false x x' y y' e k = k

matched_alike : {A : Type 0} (o : Option Assigns) (f g : Assigns → Res A) → ((as' : Assigns) → f as' ≡ g as')
    → ◌≡◌ {A = Res A} (elim o [ None ↦ Err NoClause | Some as' ↦ f as' ]) (elim o [ None ↦ Err NoClause | Some as' ↦ g as' ])
matched_alike None f g h = refl
matched_alike (Some as') f g h = h as'

-- the stream and the component of a name
stream_alike : (a b : Env) (s : List ℕ) → a.streams ≡ b.streams → stream_of a s ≡ stream_of b s
stream_alike a b s e = ap (λ o. elim o [ None ↦ Err NoAssign | Some f ↦ Ok (f s) ]) e

found_same : (a b : Env) (m : List ℕ) (as' : Assigns) → a.components ≡ b.components → component_of a m as' ≡ component_of b m as'
found_same a b m as' e = ap (λ cs. then_do (id_of as') (λ v. or_none (find m v cs))) e

-- each of these binds the same names
abbrev AllBind : List (List ℕ) → List Assigns → Type 0
AllBind xs [] = Unit {0}
AllBind xs (as' ∷ ls) = (keys as' ≡ xs) × AllBind xs ls

rows_bind : (p : Pattern) (vs : Values) → AllBind (bound p) (bindings p vs)
rows_bind p no_values = tt
rows_bind p (value v vs) = at_row (rows_bind p vs) (binding p v) (binds p v)
  where
    at_row : AllBind (bound p) (bindings p vs) → (o : Option Assigns) → Binds (bound p) o → AllBind (bound p) (elim o [ None ↦ bindings p vs | Some as' ↦ as' ∷ bindings p vs ])
    at_row rest None e = rest
    at_row rest (Some as') e = (e, rest)

inserts_bind : (x : List ℕ) (p : Pattern) (is : List (Insert Value)) → AllBind (x ∷ bound p) (insert_contents (matched x p is))
inserts_bind x p [] = tt
inserts_bind x p (i ∷ is) = at_insert (inserts_bind x p is) (binding p i.content) (binds p i.content)
  where
    at_insert : AllBind (x ∷ bound p) (insert_contents (matched x p is)) → (o : Option Assigns) → Binds (bound p) o
        → AllBind (x ∷ bound p) (insert_contents (elim o [ None ↦ matched x p is | Some as' ↦ record { id = i.id; position = i.position; limit = i.limit; content = assign x (text i.id) as' } ∷ matched x p is ]))
    at_insert rest None e = rest
    at_insert rest (Some as') e = (ap (λ l. x ∷ l) e, rest)

-- each scope that is made from such environments
module _ {A : Type 0} (go : Deeper A) (h : Alike go) where
  pub bind_alike : (as' : Assigns) (xs : List (List ℕ)) (ns : Nodes) (a b : Env) → keys as' ≡ xs → Agree a b (without xs (free_nodes ns)) → a.streams ≡ b.streams → a.components ≡ b.components
      → go (bind as' a) ns ≡ go (bind as' b) ns
  bind_alike as' xs ns a b e k s c = h (bind as' a) (bind as' b) ns (agree_bound a b as' xs (free_nodes ns) e k) s c

  pub inside_alike : (as' : Assigns) (xs : List (List ℕ)) (ns : Nodes) (a b : Env) → keys as' ≡ xs → Agree a b (without xs (free_nodes ns)) → a.components ≡ b.components
      → go (inside as' a) ns ≡ go (inside as' b) ns
  inside_alike as' xs ns a b e k c =
      h (inside as' a) (inside as' b) ns
      (agree_cast (bind as' a) (bind as' b) (inside as' a) (inside as' b) (free_nodes ns) refl refl refl refl (agree_bound a b as' xs (free_nodes ns) e k)) refl c

  pub stream_row_alike : (as' : Assigns) (xs : List (List ℕ)) (ns : Nodes) (a b : Env) → keys as' ≡ xs → Agree a b (without xs (free_nodes ns)) → go (stream_row a as') ns ≡ go (stream_row b as') ns
  stream_row_alike as' xs ns a b e k =
      h (stream_row a as') (stream_row b as') ns
      (agree_cast (bind as' a) (bind as' b) (stream_row a as') (stream_row b as') (free_nodes ns) refl refl refl refl (agree_bound a b as' xs (free_nodes ns) e k)) refl refl

  pub callee_alike : (as' : Assigns) (ns : Nodes) (a b : Env) → a.components ≡ b.components → go (callee a as') ns ≡ go (callee b as') ns
  callee_alike as' ns a b c = h (callee a as') (callee b as') ns (agree_same (callee a as') (callee b as') (free_nodes ns) refl refl) refl c

  pub component_scope_alike : (d : Component) (ns : Nodes) (a b : Env) → a.components ≡ b.components → go (component_scope a d) ns ≡ go (component_scope b d) ns
  component_scope_alike d ns a b c = h (component_scope a d) (component_scope b d) ns (agree_same (component_scope a d) (component_scope b d) (free_nodes ns) refl refl) refl c

  pub slot_scope_alike : (d : Captured) (as' : Assigns) (ns : Nodes) (a b : Env) → a.components ≡ b.components → go (slot_scope a d as') ns ≡ go (slot_scope b d as') ns
  slot_scope_alike d as' ns a b c = h (slot_scope a d as') (slot_scope b d as') ns (agree_same (slot_scope a d as') (slot_scope b d as') (free_nodes ns) refl refl) refl c

  -- the clause that a value chooses
  pub chosen_alike : {B : Type 0} (f : Chosen → Res A → Res B) (v : Value) (cs : Clauses) (a b : Env) → Agree a b (free_clauses cs) → a.streams ≡ b.streams → a.components ≡ b.components
      → then_do (chosen v cs) (λ x. f x (go (bind x.variables a) x.nodes)) ≡ then_do (chosen v cs) (λ x. f x (go (bind x.variables b) x.nodes))
  chosen_alike f v cs a b k s c = by_choice (chosen v cs) (agree_chosen v cs a b k)
    where
      by_choice : (r : Res Chosen) → On (λ x. Agree (bind x.variables a) (bind x.variables b) (free_nodes x.nodes)) r
          → then_do r (λ x. f x (go (bind x.variables a) x.nodes)) ≡ then_do r (λ x. f x (go (bind x.variables b) x.nodes))
      by_choice (Ok x) q = ap (f x) (h (bind x.variables a) (bind x.variables b) x.nodes q s c)
      by_choice (Err e) q = refl

-- what each place of nodes mentions agrees
abbrev pub AgreeAt : Env → Env → List Place → Type 0
AgreeAt a b [] = Unit {0}
AgreeAt a b (p ∷ ps) = Agree a b (free_place p) × AgreeAt a b ps

at_append : (a b : Env) (ps qs : List Place) → AgreeAt a b ps → AgreeAt a b qs → AgreeAt a b (ps ++ qs)
at_append a b [] qs h k = k
at_append a b (p ∷ ps) qs h k = (h.0, at_append a b ps qs h.1 k)

at_attributes : (a b : Env) (xs : Attributes) → Agree a b (free_attributes xs) → AgreeAt a b (places_of_attributes xs)
at_attributes a b no_attributes k = tt
at_attributes a b (written n w xs) k = at_attributes a b xs k
at_attributes a b (valued n e xs) k = (agree_left a b (free_names e) (free_attributes xs) k, at_attributes a b xs (agree_right a b (free_names e) (free_attributes xs) k))
at_attributes a b (spread_of e xs) k = (agree_left a b (free_names e) (free_attributes xs) k, at_attributes a b xs (agree_right a b (free_names e) (free_attributes xs) k))
at_attributes a b (module_of m xs) k = at_attributes a b xs k

mutual
  at_node : (a b : Env) (n : Node) → Agree a b (free_node n) → AgreeAt a b (places_of n)
  at_node a b (text_node t) k = tt
  at_node a b (element l t xs ns) k =
      at_append a b (places_of_attributes xs) (places_in ns) (at_attributes a b xs (agree_left a b (free_attributes xs) (free_nodes ns) k)) (at_nodes a b ns (agree_right a b (free_attributes xs) (free_nodes ns) k))
  at_node a b (at_place o p) k = (k, tt)

  pub at_nodes : (a b : Env) (ns : Nodes) → Agree a b (free_nodes ns) → AgreeAt a b (places_in ns)
  at_nodes a b no_nodes k = tt
  at_nodes a b (node n ns) k = at_append a b (places_of n) (places_in ns) (at_node a b n (agree_left a b (free_node n) (free_nodes ns) k)) (at_nodes a b ns (agree_right a b (free_node n) (free_nodes ns) k))

-- rows, each from what it binds
trace_each : (go : Deeper Items) (body : Nodes) (xs : List (List ℕ)) (ls : List Assigns) (f g : Assigns → Env) → AllBind xs ls → ((as' : Assigns) → keys as' ≡ xs → go (f as') body ≡ go (g as') body)
    → trace_rows go body (map f ls) ≡ trace_rows go body (map g ls)
trace_each go body xs [] f g k h = refl
trace_each go body xs (as' ∷ ls) f g k h = both_alike item_row (go (f as') body) (go (g as') body) (trace_rows go body (map f ls)) (trace_rows go body (map g ls)) (h as' k.0) (trace_each go body xs ls f g k.1 h)

-- what a loop meets
pub rows_alike : (go : Deeper Items) → Alike go → (p : Pattern) (e : Expr) (body : Nodes) (a b : Env) → Agree a b (free_place (for_place p e body)) → a.components ≡ b.components
    → then_do (then_do (eval_expr a e) items_of) (λ vs. trace_rows go body (row_scopes a p vs)) ≡ then_do (then_do (eval_expr b e) items_of) (λ vs. trace_rows go body (row_scopes b p vs))
rows_alike go h p e body a b k c =
    let inner = agree_right a b (free_names e) (without (bound p) (free_nodes body)) k in
    then_alike (then_do (eval_expr a e) items_of) (then_do (eval_expr b e) items_of) _ _
    (ap (λ r. then_do r items_of) (eval_agrees e a b (agree_left a b (free_names e) (without (bound p) (free_nodes body)) k)))
    (λ vs. trace_each go body (bound p) (bindings p vs) (λ as'. inside as' a) (λ as'. inside as' b) (rows_bind p vs) (λ as' q. inside_alike go h as' (bound p) body a b q inner c))

module _ (site : Site) (go : Deeper Items) (h : Alike go) where
  else_alike : (ns : Nodes) (a b : Env) → Agree a b (free_nodes ns) → a.streams ≡ b.streams → a.components ≡ b.components → trace_else go a ns ≡ trace_else go b ns
  else_alike no_nodes a b k s c = refl
  else_alike (node n ns) a b k s c = ap (on_res (met_branch 1 (cut (node n ns)))) (h a b (node n ns) k s c)

  -- the branch that a condition chooses
  pub choice_alike : (t : Bool) (ms ns : Nodes) (a b : Env) → Agree a b (free_nodes ms) → Agree a b (free_nodes ns) → a.streams ≡ b.streams → a.components ≡ b.components
      → (if t then on_res (met_branch 0 (cut ms)) (go a ms) else trace_else go a ns) ≡ (if t then on_res (met_branch 0 (cut ms)) (go b ms) else trace_else go b ns)
  choice_alike t ms ns a b k l s c =
      test_alike t (on_res (met_branch 0 (cut ms)) (go a ms)) (on_res (met_branch 0 (cut ms)) (go b ms)) (trace_else go a ns) (trace_else go b ns)
      (ap (on_res (met_branch 0 (cut ms))) (h a b ms k s c)) (else_alike ns a b l s c)

  pub slot_alike : (a b : Env) (v : Value) (d : Captured) → a.components ≡ b.components → trace_slot site go a v d ≡ trace_slot site go b v d
  slot_alike a b v d c =
      matched_alike (binding (site.body d.number).pattern v) (λ as'. go (slot_scope a d as') (site.body d.number).nodes) (λ as'. go (slot_scope b d as') (site.body d.number).nodes)
      (λ as'. slot_scope_alike go h d as' (site.body d.number).nodes a b c)

  pub slots_alike : (ds : List Captured) (a b : Env) (v : Value) → a.components ≡ b.components → trace_slots site go a v ds ≡ trace_slots site go b v ds
  slots_alike [] a b v c = refl
  slots_alike (d ∷ ds) a b v c =
      both_alike (slot_of d.number (cut (site.body d.number).nodes)) (trace_slot site go a v d) (trace_slot site go b v d) (trace_slots site go a v ds) (trace_slots site go b v ds) (slot_alike a b v d c) (slots_alike ds a b v c)

  pub trace_place_alike : (p : Place) (a b : Env) → Agree a b (free_place p) → a.streams ≡ b.streams → a.components ≡ b.components → trace_place site go a p ≡ trace_place site go b p
  trace_place_alike (put e) a b k s c =
      ap (λ rd. on_res (λ t. met_text rd (escape_text t)) (then_do (eval_expr a e) printed)) (agree_reading a b (free_names e) k)
      ∙ ap (λ r. on_res (λ t. met_text (reading b (free_names e)) (escape_text t)) (then_do r printed)) (eval_agrees e a b k)
  trace_place_alike (attribute n e) a b k s c =
      ap (λ rd. on_res (met_text rd) (then_do (eval_expr a e) (print_attribute n))) (agree_reading a b (free_names e) k)
      ∙ ap (λ r. on_res (met_text (reading b (free_names e))) (then_do r (print_attribute n))) (eval_agrees e a b k)
  trace_place_alike (spread e) a b k s c =
      ap (λ rd. on_res (met_text rd) (then_do (eval_expr a e) print_spread)) (agree_reading a b (free_names e) k)
      ∙ ap (λ r. on_res (met_text (reading b (free_names e))) (then_do r print_spread)) (eval_agrees e a b k)
  trace_place_alike (if_place t ms ns) a b k s c =
      let l = agree_left a b (free_names t ++ free_nodes ms) (free_nodes ns) k in
      then_alike (eval_expr a t) (eval_expr b t) _ _ (eval_agrees t a b (agree_left a b (free_names t) (free_nodes ms) l))
      (λ v. choice_alike (is_true v) ms ns a b (agree_right a b (free_names t) (free_nodes ms) l) (agree_right a b (free_names t ++ free_nodes ms) (free_nodes ns) k) s c)
  trace_place_alike (case_place e cs) a b k s c =
      then_alike (eval_expr a e) (eval_expr b e) _ _ (eval_agrees e a b (agree_left a b (free_names e) (free_clauses cs) k))
      (λ v. chosen_alike go h (λ x r. on_res (met_branch x.index (cut x.nodes)) r) v cs a b (agree_right a b (free_names e) (free_clauses cs) k) s c)
  trace_place_alike (for_place p e body) a b k s c =
      ap (λ rd. on_res (met_rows rd (cut body)) (then_do (then_do (eval_expr a e) items_of) (λ vs. trace_rows go body (row_scopes a p vs)))) (agree_reading a b (free_place (for_place p e body)) k)
      ∙ ap (on_res (met_rows (reading b (free_place (for_place p e body))) (cut body))) (rows_alike go h p e body a b k c)
  trace_place_alike (call t xs content es) a b k s c =
      ap (on_res (met_call (cut (site.template t))))
      (then_alike (call_assigns a xs content es) (call_assigns b xs content es) _ _ (call_agrees_on xs content es a b k) (λ as'. callee_alike go h as' (site.template t) a b c))
  trace_place_alike (render_slot e x) a b k s c =
      ap (on_res met_slots)
      (then_alike (then_do (eval_expr a e) (slots_of site)) (then_do (eval_expr b e) (slots_of site)) _ _ (ap (λ r. then_do r (slots_of site)) (eval_agrees e a b (agree_left a b (free_names e) (free_names x) k)))
      (λ ds. then_alike (eval_expr a x) (eval_expr b x) _ _ (eval_agrees x a b (agree_right a b (free_names e) (free_names x) k)) (λ v. slots_alike ds a b v c)))
  trace_place_alike (live_call xs content es) a b k s c =
      then_alike (then_do (live_assigns a xs) (component_of a (module_in xs))) (then_do (live_assigns b xs) (component_of b (module_in xs))) _ _
      (then_alike (live_assigns a xs) (live_assigns b xs) (component_of a (module_in xs)) (component_of b (module_in xs)) (live_agrees_on xs a b k) (λ as'. found_same a b (module_in xs) as' c))
      (λ d. ap (on_res (met_component d.number (cut (site.root (module_in xs))))) (component_scope_alike go h d (site.root (module_in xs)) a b c))
  trace_place_alike (stream_place st x p body) a b k s c =
      then_alike (stream_of a st) (stream_of b st) _ _ (stream_alike a b st s)
      (λ m. ap (on_res (met_stream st m.shown (operations x p m) (cut body)))
      (trace_each go body (x ∷ bound p) (insert_contents (matched x p m.waiting.inserts)) (stream_row a) (stream_row b) (inserts_bind x p m.waiting.inserts) (λ as' q. stream_row_alike go h as' (x ∷ bound p) body a b q k)))

  pub trace_places_alike : (ps : List Place) (a b : Env) → AgreeAt a b ps → a.streams ≡ b.streams → a.components ≡ b.components → trace_places site go a ps ≡ trace_places site go b ps
  trace_places_alike [] a b k s c = refl
  trace_places_alike (p ∷ ps) a b k s c =
      both_alike item (trace_place site go a p) (trace_place site go b p) (trace_places site go a ps) (trace_places site go b ps) (trace_place_alike p a b k.0 s c) (trace_places_alike ps a b k.1 s c)

pub trace_alike : (site : Site) (k : ℕ) → Alike (trace site k)
trace_alike site zero a b ns h s c = refl
trace_alike site (suc k) a b ns h s c = trace_places_alike site (trace site k) (trace_alike site k) (places_in ns) a b (at_nodes a b ns h) s c

-- the same of the full rendering
full_each : (go : Deeper (List ℕ)) (body : Nodes) (xs : List (List ℕ)) (ls : List Assigns) (f g : Assigns → Env) → AllBind xs ls → ((as' : Assigns) → keys as' ≡ xs → go (f as') body ≡ go (g as') body)
    → full_rows go body (map f ls) ≡ full_rows go body (map g ls)
full_each go body xs [] f g k h = refl
full_each go body xs (as' ∷ ls) f g k h = both_alike (λ t ts. t ∷ ts) (go (f as') body) (go (g as') body) (full_rows go body (map f ls)) (full_rows go body (map g ls)) (h as' k.0) (full_each go body xs ls f g k.1 h)

pub full_rows_alike : (go : Deeper (List ℕ)) → Alike go → (p : Pattern) (e : Expr) (body : Nodes) (a b : Env) → Agree a b (free_place (for_place p e body)) → a.components ≡ b.components
    → then_do (then_do (eval_expr a e) items_of) (λ vs. full_rows go body (row_scopes a p vs)) ≡ then_do (then_do (eval_expr b e) items_of) (λ vs. full_rows go body (row_scopes b p vs))
full_rows_alike go h p e body a b k c =
    let inner = agree_right a b (free_names e) (without (bound p) (free_nodes body)) k in
    then_alike (then_do (eval_expr a e) items_of) (then_do (eval_expr b e) items_of) _ _
    (ap (λ r. then_do r items_of) (eval_agrees e a b (agree_left a b (free_names e) (without (bound p) (free_nodes body)) k)))
    (λ vs. full_each go body (bound p) (bindings p vs) (λ as'. inside as' a) (λ as'. inside as' b) (rows_bind p vs) (λ as' q. inside_alike go h as' (bound p) body a b q inner c))

module _ (site : Site) (go : Deeper (List ℕ)) (h : Alike go) where
  full_else_alike : (ns : Nodes) (a b : Env) → Agree a b (free_nodes ns) → a.streams ≡ b.streams → a.components ≡ b.components → full_else go a ns ≡ full_else go b ns
  full_else_alike no_nodes a b k s c = refl
  full_else_alike (node n ns) a b k s c = h a b (node n ns) k s c

  full_slot_alike : (a b : Env) (v : Value) (d : Captured) → a.components ≡ b.components → full_slot site go a v d ≡ full_slot site go b v d
  full_slot_alike a b v d c =
      matched_alike (binding (site.body d.number).pattern v) (λ as'. go (slot_scope a d as') (site.body d.number).nodes) (λ as'. go (slot_scope b d as') (site.body d.number).nodes)
      (λ as'. slot_scope_alike go h d as' (site.body d.number).nodes a b c)

  full_slots_alike : (ds : List Captured) (a b : Env) (v : Value) → a.components ≡ b.components → full_slots site go a v ds ≡ full_slots site go b v ds
  full_slots_alike [] a b v c = refl
  full_slots_alike (d ∷ ds) a b v c =
      both_alike (λ x y. x ++ y) (full_slot site go a v d) (full_slot site go b v d) (full_slots site go a v ds) (full_slots site go b v ds) (full_slot_alike a b v d c) (full_slots_alike ds a b v c)

  pub full_place_alike : (p : Place) (a b : Env) → Agree a b (free_place p) → a.streams ≡ b.streams → a.components ≡ b.components → full_place site go a p ≡ full_place site go b p
  full_place_alike (put e) a b k s c = ap (λ r. on_res escape_text (then_do r printed)) (eval_agrees e a b k)
  full_place_alike (attribute n e) a b k s c = ap (λ r. then_do r (print_attribute n)) (eval_agrees e a b k)
  full_place_alike (spread e) a b k s c = ap (λ r. then_do r print_spread) (eval_agrees e a b k)
  full_place_alike (if_place t ms ns) a b k s c =
      let l = agree_left a b (free_names t ++ free_nodes ms) (free_nodes ns) k in
      then_alike (eval_expr a t) (eval_expr b t) _ _ (eval_agrees t a b (agree_left a b (free_names t) (free_nodes ms) l))
      (λ v. test_alike (is_true v) (go a ms) (go b ms) (full_else go a ns) (full_else go b ns)
      (h a b ms (agree_right a b (free_names t) (free_nodes ms) l) s c) (full_else_alike ns a b (agree_right a b (free_names t ++ free_nodes ms) (free_nodes ns) k) s c))
  full_place_alike (case_place e cs) a b k s c =
      then_alike (eval_expr a e) (eval_expr b e) _ _ (eval_agrees e a b (agree_left a b (free_names e) (free_clauses cs) k))
      (λ v. chosen_alike go h (λ x r. r) v cs a b (agree_right a b (free_names e) (free_clauses cs) k) s c)
  full_place_alike (for_place p e body) a b k s c = ap (on_res flat) (full_rows_alike go h p e body a b k c)
  full_place_alike (call t xs content es) a b k s c =
      then_alike (call_assigns a xs content es) (call_assigns b xs content es) _ _ (call_agrees_on xs content es a b k) (λ as'. callee_alike go h as' (site.template t) a b c)
  full_place_alike (render_slot e x) a b k s c =
      then_alike (then_do (eval_expr a e) (slots_of site)) (then_do (eval_expr b e) (slots_of site)) _ _ (ap (λ r. then_do r (slots_of site)) (eval_agrees e a b (agree_left a b (free_names e) (free_names x) k)))
      (λ ds. then_alike (eval_expr a x) (eval_expr b x) _ _ (eval_agrees x a b (agree_right a b (free_names e) (free_names x) k)) (λ v. full_slots_alike ds a b v c))
  full_place_alike (live_call xs content es) a b k s c =
      then_alike (then_do (live_assigns a xs) (component_of a (module_in xs))) (then_do (live_assigns b xs) (component_of b (module_in xs))) _ _
      (then_alike (live_assigns a xs) (live_assigns b xs) (component_of a (module_in xs)) (component_of b (module_in xs)) (live_agrees_on xs a b k) (λ as'. found_same a b (module_in xs) as' c))
      (λ d. ap (on_res (site.mark d.number)) (component_scope_alike go h d (site.root (module_in xs)) a b c))
  full_place_alike (stream_place st x p body) a b k s c =
      then_alike (stream_of a st) (stream_of b st) _ _ (stream_alike a b st s)
      (λ m. ap (on_res (λ ts. flat (contents (after (operations x p m) ts m.shown))))
      (full_each go body (x ∷ bound p) (insert_contents (matched x p m.waiting.inserts)) (stream_row a) (stream_row b) (inserts_bind x p m.waiting.inserts) (λ as' q. stream_row_alike go h as' (x ∷ bound p) body a b q k)))

-- what is shown is the trace's
pub full_alike : (site : Site) (k : ℕ) → Alike (full_render site k)
full_alike site k a b ns h s c = sym (trace_shown site k a ns) ∙ ap (on_res (λ is. weave (cut ns) (texts site.mark is))) (trace_alike site k a b ns h s c) ∙ trace_shown site k b ns
