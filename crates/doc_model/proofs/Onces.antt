-- The containers that a rendering leaves.
use Rattle.std.proofs.Common.{◌≡◌, ℕ, zero, suc, List, [], ◌∷◌, ◌++◌, Ok, Err, Option, Some, None, Bool, true, false, if◌then◌else◌, refl, sym, ap, ◌∙◌, subst, append_assoc, append-nil, true≢false}
use Rattle.std.specs.Str.{bytes_eq}
use Rattle.std.proofs.lemmas.Slice.Eq.{bytes_eq-Decides}
use Rattle.ast_core.specs.Syntax.{Expr, Attributes, no_attributes, written, valued, spread_of, Node, text_node, element, at_place, Place, put, attribute, spread, if_place, case_place, for_place, call, render_slot, live_call, stream_place, Nodes, no_nodes, node, Clauses, no_clauses, clause, module_of}
use Rattle.ast_core.specs.Free.{one_of, free_names, free_place}
use Rattle.doc_model.specs.Environment.{Component, Env, bind, reading}
use Rattle.doc_model.specs.Evaluation.{Res, then_do, on_res, eval_expr, printed, is_true}
use Rattle.text_core.specs.Escape.{escape_text}
use Rattle.doc_model.specs.Printing.{print_attribute, print_spread}
use Rattle.diff_tree.specs.Container.{Row, after}
use Rattle.doc_model.specs.Trace.{Items, item, Item, met_text, met_branch, met_rows, met_call, met_slots, met_component, met_stream, row_texts}
use Rattle.doc_model.specs.Left.{Containers, Unused, UnusedNode, UnusedPlace, UnusedClauses, UnusedOthers, clause_at, Leaves, LeavesItem}
use Rattle.doc_model.specs.Components.{Part, parts, part_at, Lives, Distinct}
use Rattle.ast_core.specs.Places.{streams_in, streams_of, streams_at, streams_in_clauses, Once, cut, places_in, places_of, places_of_attributes}
use Rattle.doc_model.specs.Once.{or_else, or_empty, left_in, left_item, left, left_of, left_to}
use Rattle.doc_model.specs.Table.{IsTable, LeftBehind}
use Rattle.doc_model.specs.Scopes.{Site, Deeper, Chosen, chosen, component_scope, component_of, stream_of, stream_scopes, operations}
use Rattle.doc_model.specs.Tracing.{trace, trace_places, trace_place, trace_rows, trace_else}
use Rattle.doc_model.proofs.Results.{On, on_made, on_bind, on_both, on_weaker}
use Rattle.doc_model.proofs.Facts.{chosen_at}
use Rattle.doc_model.proofs.Origins.{Origin, scope_of, all_both}
use Rattle.doc_model.proofs.Pages.{origins, all_found}
use Rattle.doc_model.proofs.Tables.{one_number}
use Rattle.doc_model.specs.Calls.{live_assigns, module_in}

in_left : (s : List ℕ) (xs ys : List (List ℕ)) → one_of s xs ≡ true → one_of s (xs ++ ys) ≡ true
in_left s [] ys h = absurd (true≢false (sym h))
in_left s (x ∷ xs) ys h = by_test (bytes_eq s x) h (in_left s xs ys)
  where
    by_test : (b : Bool) → (if b then true else one_of s xs) ≡ true → (one_of s xs ≡ true → one_of s (xs ++ ys) ≡ true) → (if b then true else one_of s (xs ++ ys)) ≡ true
    by_test true k r = refl
    by_test false k r = r k

in_right : (s : List ℕ) (xs ys : List (List ℕ)) → one_of s ys ≡ true → one_of s (xs ++ ys) ≡ true
in_right s [] ys h = h
in_right s (x ∷ xs) ys h = by_test (bytes_eq s x) (in_right s xs ys h)
  where
    by_test : (b : Bool) → one_of s (xs ++ ys) ≡ true → (if b then true else one_of s (xs ++ ys)) ≡ true
    by_test true k = refl
    by_test false k = k

not_in : (b : Bool) → (b ≡ true → ⊥) → b ≡ false
not_in true h = absurd (h refl)
not_in false h = refl

not_left : (s : List ℕ) (xs ys : List (List ℕ)) → one_of s (xs ++ ys) ≡ false → one_of s xs ≡ false
not_left s xs ys h = not_in (one_of s xs) (λ k. true≢false (sym (in_left s xs ys k) ∙ h))

not_right : (s : List ℕ) (xs ys : List (List ℕ)) → one_of s (xs ++ ys) ≡ false → one_of s ys ≡ false
not_right s xs ys h = not_in (one_of s ys) (λ k. true≢false (sym (in_right s xs ys k) ∙ h))

once_left : (xs ys : List (List ℕ)) → Once (xs ++ ys) → Once xs
once_left [] ys h = tt
once_left (x ∷ xs) ys h = (not_left x xs ys h.0, once_left xs ys h.1)

once_right : (xs ys : List (List ℕ)) → Once (xs ++ ys) → Once ys
once_right [] ys h = h
once_right (x ∷ xs) ys h = once_right xs ys h.1

once_apart : (xs ys : List (List ℕ)) → Once (xs ++ ys) → (s : List ℕ) → one_of s xs ≡ true → one_of s ys ≡ false
once_apart [] ys h s k = absurd (true≢false (sym k))
once_apart (x ∷ xs) ys h s k = by_test (bytes_eq s x) refl k (once_apart xs ys h.1 s)
  where
    by_test : (b : Bool) → bytes_eq s x ≡ b → (if b then true else one_of s xs) ≡ true → (one_of s xs ≡ true → one_of s ys ≡ false) → one_of s ys ≡ false
    by_test true e q r = ap (λ z. one_of z ys) ((bytes_eq-Decides s x).0 e) ∙ not_right x xs ys h.0
    by_test false e q r = r q

apart_back : (xs ys : List (List ℕ)) → Once (xs ++ ys) → (s : List ℕ) → one_of s ys ≡ true → one_of s xs ≡ false
apart_back xs ys h s k = not_in (one_of s xs) (λ q. true≢false (sym k ∙ once_apart xs ys h s q))

-- streams whose containers are empty
mutual
  unused_names : (f : Containers) (ns : Nodes) → ((s : List ℕ) → one_of s (streams_in ns) ≡ true → f s ≡ []) → Unused f ns
  unused_names f no_nodes h = tt
  unused_names f (node n ns) h = (unused_of_node f n (λ s k. h s (in_left s (streams_of n) (streams_in ns) k)), unused_names f ns (λ s k. h s (in_right s (streams_of n) (streams_in ns) k)))

  unused_of_node : (f : Containers) (n : Node) → ((s : List ℕ) → one_of s (streams_of n) ≡ true → f s ≡ []) → UnusedNode f n
  unused_of_node f (text_node t) h = tt
  unused_of_node f (element l t xs ns) h = unused_names f ns h
  unused_of_node f (at_place o p) h = unused_of_place f p h

  unused_of_place : (f : Containers) (p : Place) → ((s : List ℕ) → one_of s (streams_at p) ≡ true → f s ≡ []) → UnusedPlace f p
  unused_of_place f (if_place t a b) h = (unused_names f a (λ s k. h s (in_left s (streams_in a) (streams_in b) k)), unused_names f b (λ s k. h s (in_right s (streams_in a) (streams_in b) k)))
  unused_of_place f (case_place e cs) h = unused_of_clauses f cs h
  unused_of_place f (stream_place s x p body) h = h s (ap (λ b. if b then true else false) ((bytes_eq-Decides s s).1 refl))
  unused_of_place f _ h = tt

  unused_of_clauses : (f : Containers) (cs : Clauses) → ((s : List ℕ) → one_of s (streams_in_clauses cs) ≡ true → f s ≡ []) → UnusedClauses f cs
  unused_of_clauses f no_clauses h = tt
  unused_of_clauses f (clause p ns cs) h =
      (unused_names f ns (λ s k. h s (in_left s (streams_in ns) (streams_in_clauses cs) k)), unused_of_clauses f cs (λ s k. h s (in_right s (streams_in ns) (streams_in_clauses cs) k)))

-- the clause that was chosen, and the others
clause_in : (i : ℕ) (cs : Clauses) (s : List ℕ) → one_of s (streams_in (clause_at i cs)) ≡ true → one_of s (streams_in_clauses cs) ≡ true
clause_in i no_clauses s h = h
clause_in zero (clause p ns cs) s h = in_left s (streams_in ns) (streams_in_clauses cs) h
clause_in (suc i) (clause p ns cs) s h = in_right s (streams_in ns) (streams_in_clauses cs) (clause_in i cs s h)

clause_once : (i : ℕ) (cs : Clauses) → Once (streams_in_clauses cs) → Once (streams_in (clause_at i cs))
clause_once i no_clauses h = tt
clause_once zero (clause p ns cs) h = once_left (streams_in ns) (streams_in_clauses cs) h
clause_once (suc i) (clause p ns cs) h = clause_once i cs (once_right (streams_in ns) (streams_in_clauses cs) h)

clause_others : (f : Containers) (i : ℕ) (cs : Clauses) → Once (streams_in_clauses cs) → ((s : List ℕ) → one_of s (streams_in_clauses cs) ≡ true → one_of s (streams_in (clause_at i cs)) ≡ false → f s ≡ []) → UnusedOthers f i cs
clause_others f i no_clauses o h = tt
clause_others f zero (clause p ns cs) o h = unused_of_clauses f cs (λ s k. h s (in_right s (streams_in ns) (streams_in_clauses cs) k) (apart_back (streams_in ns) (streams_in_clauses cs) o s k))
clause_others f (suc i) (clause p ns cs) o h = (
  unused_names f ns (λ s k. h s (in_left s (streams_in ns) (streams_in_clauses cs) k)
      (not_in (one_of s (streams_in (clause_at i cs))) (λ q. true≢false (sym (clause_in i cs s q) ∙ once_apart (streams_in ns) (streams_in_clauses cs) o s k)))),
  clause_others f i cs (once_right (streams_in ns) (streams_in_clauses cs) o) (λ s k. h s (in_right s (streams_in ns) (streams_in_clauses cs) k)),
)

-- the places' streams
abbrev streams_along : List Place → List (List ℕ)
streams_along [] = []
streams_along (p ∷ ps) = streams_at p ++ streams_along ps

along-append : (ps qs : List Place) → streams_along (ps ++ qs) ≡ streams_along ps ++ streams_along qs
along-append [] qs = refl
along-append (p ∷ ps) qs = ap (λ x. streams_at p ++ x) (along-append ps qs) ∙ sym (append_assoc (streams_at p) (streams_along ps) (streams_along qs))

along-attributes : (xs : Attributes) → streams_along (places_of_attributes xs) ≡ []
along-attributes no_attributes = refl
along-attributes (written n w xs) = along-attributes xs
along-attributes (valued n e xs) = along-attributes xs
along-attributes (spread_of e xs) = along-attributes xs
along-attributes (module_of m xs) = along-attributes xs

mutual
  along-node : (n : Node) → streams_along (places_of n) ≡ streams_of n
  along-node (text_node t) = refl
  along-node (element l t xs ns) = along-append (places_of_attributes xs) (places_in ns) ∙ ap (λ x. x ++ streams_along (places_in ns)) (along-attributes xs) ∙ along-in ns
  along-node (at_place o p) = append-nil (streams_at p)

  along-in : (ns : Nodes) → streams_along (places_in ns) ≡ streams_in ns
  along-in no_nodes = refl
  along-in (node n ns) = along-append (places_of n) (places_in ns) ∙ ap (λ x. x ++ streams_along (places_in ns)) (along-node n) ∙ ap (λ x. streams_of n ++ x) (along-in ns)

module _ (site : Site) where
  abbrev M : ℕ → List ℕ → List ℕ
  M n t = site.mark n t

  -- only the streams of its places are met, and containers that are as met are left
  abbrev Tells : List (List ℕ) → List Place → Items → Type 0
  Tells names ps is = ((s : List ℕ) → one_of s names ≡ false → left_in site.mark s is ≡ None)
      × (Once names → (f : Containers) → ((s : List ℕ) → one_of s names ≡ true → f s ≡ or_empty (left_in site.mark s is)) → Leaves site.mark f ps is)

  abbrev TellsItem : Place → Item → Type 0
  TellsItem p i = ((s : List ℕ) → one_of s (streams_at p) ≡ false → left_item site.mark s i ≡ None)
      × (Once (streams_at p) → (f : Containers) → ((s : List ℕ) → one_of s (streams_at p) ≡ true → f s ≡ or_empty (left_item site.mark s i)) → LeavesItem site.mark f p i)

  abbrev Telling : Deeper Items → Type 0
  Telling go = (env : Env) (ns : Nodes) → On (Tells (streams_in ns) (places_in ns)) (go env ns)

  module _ (go : Deeper Items) (h : Telling go) where
    first_tells : (t : Expr) (a b : Nodes) (env : Env) → On (TellsItem (if_place t a b)) (on_res (met_branch 0 (cut a)) (go env a))
    first_tells t a b env =
        on_made (TellsItem (if_place t a b)) (met_branch 0 (cut a)) (go env a)
        (on_weaker (Tells (streams_in a) (places_in a)) _ (go env a)
        (λ is x. (
          λ s k. x.0 s (not_left s (streams_in a) (streams_in b) k),
          λ o f k. (
            x.1 (once_left (streams_in a) (streams_in b) o) f (λ s q. k s (in_left s (streams_in a) (streams_in b) q)),
            unused_names f b (λ s q. k s (in_right s (streams_in a) (streams_in b) q) ∙ ap or_empty (x.0 s (apart_back (streams_in a) (streams_in b) o s q))),
          ),
        ))
        (h env a))

    second_tells : (t : Expr) (a b : Nodes) (env : Env) → On (TellsItem (if_place t a b)) (on_res (met_branch 1 (cut b)) (go env b))
    second_tells t a b env =
        on_made (TellsItem (if_place t a b)) (met_branch 1 (cut b)) (go env b)
        (on_weaker (Tells (streams_in b) (places_in b)) _ (go env b)
        (λ is x. (
          λ s k. x.0 s (not_right s (streams_in a) (streams_in b) k),
          λ o f k. (
            unused_names f a (λ s q. k s (in_left s (streams_in a) (streams_in b) q) ∙ ap or_empty (x.0 s (once_apart (streams_in a) (streams_in b) o s q))),
            x.1 (once_right (streams_in a) (streams_in b) o) f (λ s q. k s (in_right s (streams_in a) (streams_in b) q)),
          ),
        ))
        (h env b))

    choice_tells : (t : Expr) (a b : Nodes) (env : Env) (c : Bool) → On (TellsItem (if_place t a b)) (if c then on_res (met_branch 0 (cut a)) (go env a) else trace_else go env b)
    choice_tells t a b env true = first_tells t a b env
    choice_tells t a no_nodes env false = (λ s k. refl, λ o f k. (unused_names f a (λ s q. k s (in_left s (streams_in a) [] q)), tt))
    choice_tells t a (node n ns) env false = second_tells t a (node n ns) env

    clause_tells : (e : Expr) (cs : Clauses) (env : Env) (r : Res Chosen) → On (λ c. c.nodes ≡ clause_at c.index cs) r → On (TellsItem (case_place e cs)) (then_do r (λ c. on_res (met_branch c.index (cut c.nodes)) (go (bind c.variables env) c.nodes)))
    clause_tells e cs env (Err x) q = tt
    clause_tells e cs env (Ok c) q =
        on_made (TellsItem (case_place e cs)) (met_branch c.index (cut c.nodes)) (go (bind c.variables env) c.nodes)
        (on_weaker (Tells (streams_in (clause_at c.index cs)) (places_in (clause_at c.index cs))) _ (go (bind c.variables env) c.nodes)
        (λ is x. (
          λ s k. x.0 s (not_in (one_of s (streams_in (clause_at c.index cs))) (λ y. true≢false (sym (clause_in c.index cs s y) ∙ k))),
          λ o f k. (
            x.1 (clause_once c.index cs o) f (λ s y. k s (clause_in c.index cs s y)),
            clause_others f c.index cs o (λ s y z. k s y ∙ ap or_empty (x.0 s z)),
          ),
        ))
        (subst (λ m. On (Tells (streams_in m) (places_in m)) (go (bind c.variables env) c.nodes)) q (h (bind c.variables env) c.nodes)))

    plain_tells : {A : Type 0} (p : Place) (g : A → Item) (r : Res A) → ((x : A) → TellsItem p (g x)) → On (TellsItem p) (on_res g r)
    plain_tells p g (Ok x) k = k x
    plain_tells p g (Err e) k = tt

    one_name : (s x : List ℕ) (c : List (Row (List ℕ))) (b : Bool) → bytes_eq s x ≡ b → (if b then true else false) ≡ false → (if b then Some c else None) ≡ None
    one_name s x c true e k = absurd (true≢false k)
    one_name s x c false e k = refl

    place_tells : (p : Place) (env : Env) → On (TellsItem p) (trace_place site go env p)
    place_tells (put e) env = plain_tells (put e) (λ t. met_text (reading env (free_names e)) (escape_text t)) (then_do (eval_expr env e) printed) (λ t. (λ s k. refl, λ o f k. tt))
    place_tells (attribute n e) env = plain_tells (attribute n e) (met_text (reading env (free_names e))) (then_do (eval_expr env e) (print_attribute n)) (λ t. (λ s k. refl, λ o f k. tt))
    place_tells (spread e) env = plain_tells (spread e) (met_text (reading env (free_names e))) (then_do (eval_expr env e) print_spread) (λ t. (λ s k. refl, λ o f k. tt))
    place_tells (if_place t a b) env = on_bind (TellsItem (if_place t a b)) (eval_expr env t) _ (λ v. choice_tells t a b env (is_true v))
    place_tells (case_place e cs) env = on_bind (TellsItem (case_place e cs)) (eval_expr env e) _ (λ v. clause_tells e cs env (chosen v cs) (chosen_at v cs))
    place_tells (for_place p e body) env = plain_tells (for_place p e body) (met_rows (reading env (free_place (for_place p e body))) (cut body)) _ (λ t. (λ s k. refl, λ o f k. tt))
    place_tells (call t xs content es) env = plain_tells (call t xs content es) (met_call (cut (site.template t))) _ (λ t. (λ s k. refl, λ o f k. tt))
    place_tells (render_slot e a) env = plain_tells (render_slot e a) met_slots _ (λ t. (λ s k. refl, λ o f k. tt))
    place_tells (live_call xs content es) env =
        on_bind (TellsItem (live_call xs content es)) (then_do (live_assigns env xs) (component_of env (module_in xs))) _ (λ c. plain_tells (live_call xs content es) (met_component c.number (cut (site.root (module_in xs)))) (go (component_scope env c) (site.root (module_in xs))) (λ t. (λ s k. refl, λ o f k. tt)))
    place_tells (stream_place x y p body) env =
        on_bind (TellsItem (stream_place x y p body)) (stream_of env x) _
        (λ st. plain_tells (stream_place x y p body) (met_stream x st.shown (operations y p st) (cut body)) (trace_rows go body (stream_scopes env y p st))
        (λ new. (
          λ s k. one_name s x (after (operations y p st) (row_texts site.mark (cut body) new) st.shown) (bytes_eq s x) refl k,
          λ o f k. k x (ap (λ b. if b then true else false) ((bytes_eq-Decides x x).1 refl))
              ∙ ap (λ b. or_empty (if b then Some (after (operations y p st) (row_texts site.mark (cut body) new) st.shown) else None)) ((bytes_eq-Decides x x).1 refl),
        )))

    else_none : (o q : Option (List (Row (List ℕ)))) → q ≡ None → or_empty (or_else o q) ≡ or_empty o
    else_none None q e = ap or_empty e
    else_none (Some c) q e = refl

    places_tell : (ps : List Place) (env : Env) → On (Tells (streams_along ps) ps) (trace_places site go env ps)
    places_tell [] env = (λ s k. refl, λ o f k. tt)
    places_tell (p ∷ ps) env =
        on_both (TellsItem p) (Tells (streams_along ps) ps) (Tells (streams_along (p ∷ ps)) (p ∷ ps)) item (trace_place site go env p) (trace_places site go env ps)
        (λ i is x y. (
          λ s k. ap (λ o. or_else o (left_in site.mark s is)) (x.0 s (not_left s (streams_at p) (streams_along ps) k)) ∙ y.0 s (not_right s (streams_at p) (streams_along ps) k),
          λ o f k. (
            x.1 (once_left (streams_at p) (streams_along ps) o) f
                (λ s q. k s (in_left s (streams_at p) (streams_along ps) q) ∙ else_none (left_item site.mark s i) (left_in site.mark s is) (y.0 s (once_apart (streams_at p) (streams_along ps) o s q))),
            y.1 (once_right (streams_at p) (streams_along ps) o) f
                (λ s q. k s (in_right s (streams_at p) (streams_along ps) q) ∙ ap (λ z. or_empty (or_else z (left_in site.mark s is))) (x.0 s (apart_back (streams_at p) (streams_along ps) o s q))),
          ),
        ))
        (place_tells p env) (places_tell ps env)

  trace_tells : (k : ℕ) → Telling (trace site k)
  trace_tells zero env ns = tt
  trace_tells (suc k) env ns = subst (λ names. On (Tells names (places_in ns)) (trace site (suc k) env ns)) (along-in ns) (places_tell (trace site k) (trace_tells k) (places_in ns) env)

  pub leaves_left : (k : ℕ) (env : Env) (ns : Nodes) (is : Items) → trace site k env ns ≡ Ok is → Once (streams_in ns) → Leaves site.mark (left site.mark is) (places_in ns) is
  leaves_left k env ns is e o =
      let t : Tells (streams_in ns) (places_in ns) is = subst (On (Tells (streams_in ns) (places_in ns))) e (trace_tells k env ns) in
      t.1 o (left site.mark is) (λ s q. refl)

-- where each stream has one place in its template, a rendering leaves what its places show
pub left_behind : (site : Site) (k n : ℕ) (env : Env) (ns : Nodes) (is : Items) → trace site k env ns ≡ Ok is → IsTable n env.components → Distinct (parts is) → Once (streams_in ns) → ((m : List ℕ) → Once (streams_in (site.root m)))
    → LeftBehind site ns env.components is (left site.mark is) (left_to site.mark is)
left_behind site k n env ns is e table di once once_root = record {
  root_left = leaves_left site k env ns is e once;
  part_left = all_both (Origin site env.components) (λ q. part_at q.number (parts is) ≡ Some q)
      (λ q. (c : Component) → Lives c env.components → c.number ≡ q.number → Leaves site.mark (left_to site.mark is q.number) (places_in (site.root c.module_name)) q.items)
      (parts is) (λ q o found. of_part q o found) (origins site k env ns is e) (all_found (parts is) di);
  none_left = λ m h s. ap (λ o. left_of site.mark o s) h;
}
  where
    of_part : (q : Part) → Origin site env.components q → part_at q.number (parts is) ≡ Some q → (c : Component) → Lives c env.components → c.number ≡ q.number
        → Leaves site.mark (left_to site.mark is q.number) (places_in (site.root c.module_name)) q.items
    of_part q o found c l h =
        let m : o.component ≡ c = one_number n env.components o.component c table o.lives l (o.number_is ∙ sym h) in
        let r : Leaves site.mark (left site.mark q.items) (places_in (site.root o.component.module_name)) q.items =
        leaves_left site o.level (scope_of env.components o.component) (site.root o.component.module_name) q.items o.rendered (once_root o.component.module_name) in
        subst (λ x. Leaves site.mark (left_of site.mark x) (places_in (site.root c.module_name)) q.items) (sym found)
        (subst (λ x. Leaves site.mark (left site.mark q.items) (places_in (site.root x.module_name)) q.items) m r)
