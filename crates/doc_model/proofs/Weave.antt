-- The constant text of nodes, woven with the full rendering of their places, is their full rendering.
use Rattle.std.proofs.Common.{◌≡◌, ℕ, List, [], ◌∷◌, ◌++◌, Ok, Err, refl, sym, ap, ◌∙◌, subst, append_assoc, append-nil, codes}
use Rattle.ast_core.specs.Syntax.{Attributes, no_attributes, written, valued, spread_of, Node, text_node, element, at_place, Place, attribute, spread, Nodes, no_nodes, node, module_of}
use Rattle.doc_model.specs.Environment.{Env}
use Rattle.doc_model.specs.Evaluation.{Res, both, on_res}
use Rattle.diff_tree.specs.Tree.{weave}
use Rattle.doc_model.specs.Scopes.{Site, Deeper}
use Rattle.ast_core.specs.Places.{written_text, opening, closing, places_of_attributes, places_of, places_in, join_statics, cut_attributes, cut, cut_node}
use Rattle.doc_model.specs.FullRendering.{element_text, full_attributes, full_nodes, full_node, full_place}

abbrev pub each : {A B : Type 0} → (A → Res B) → List A → Res (List B)
each f [] = Ok []
each f (x ∷ xs) = both (λ y ys. y ∷ ys) (f x) (each f xs)

-- one static more than there are places
abbrev pub Fit : {A : Type 0} → List (List ℕ) → List A → Type 0
Fit [] xs = ⊥
Fit (s ∷ []) [] = Unit {0}
Fit (s ∷ []) (x ∷ xs) = ⊥
Fit (s ∷ t ∷ ss) [] = ⊥
Fit (s ∷ t ∷ ss) (x ∷ xs) = Fit (t ∷ ss) xs

pub weave_join : (a b xs ys : List (List ℕ)) → Fit a xs → Fit b ys → weave (join_statics a b) (xs ++ ys) ≡ weave a xs ++ weave b ys
weave_join [] b xs ys h k = absurd h
weave_join (s ∷ []) [] [] ys h k = absurd k
weave_join (s ∷ []) (t ∷ b) [] [] h k = refl
weave_join (s ∷ []) (t ∷ b) [] (y ∷ ys) h k = append_assoc s t (y ++ weave b ys)
weave_join (s ∷ []) b (x ∷ xs) ys h k = absurd h
weave_join (s ∷ t ∷ ss) b [] ys h k = absurd h
weave_join (s ∷ t ∷ ss) b (x ∷ xs) ys h k =
    ap (λ r. s ++ (x ++ r)) (weave_join (t ∷ ss) b xs ys h k) ∙ ap (λ r. s ++ r) (sym (append_assoc x (weave (t ∷ ss) xs) (weave b ys))) ∙ sym (append_assoc s (x ++ weave (t ∷ ss) xs) (weave b ys))

pub fit_join : {A : Type 0} (a b : List (List ℕ)) (xs ys : List A) → Fit a xs → Fit b ys → Fit (join_statics a b) (xs ++ ys)
fit_join [] b xs ys h k = absurd h
fit_join (s ∷ []) [] xs ys h k = absurd k
fit_join (s ∷ []) (t ∷ []) [] ys h k = k
fit_join (s ∷ []) (t ∷ u ∷ b) [] ys h k = k
fit_join (s ∷ []) (t ∷ b) (x ∷ xs) ys h k = absurd h
fit_join (s ∷ t ∷ ss) b [] ys h k = absurd h
fit_join (s ∷ t ∷ []) [] (x ∷ xs) ys h k = absurd k
fit_join (s ∷ t ∷ []) (u ∷ b) (x ∷ xs) ys h k = fit_join (t ∷ []) (u ∷ b) xs ys h k
fit_join (s ∷ t ∷ v ∷ ss) b (x ∷ xs) ys h k = fit_join (t ∷ v ∷ ss) b xs ys h k

-- a tag's statics, woven with the texts of its attributes and of its children
abbrev tag : List ℕ → List (List ℕ) → List (List ℕ) → List (List ℕ)
tag t a b = join_statics (opening t ∷ []) (join_statics a (join_statics (codes ">" ∷ []) (join_statics b (closing t ∷ []))))

fit_tag : {A : Type 0} (t : List ℕ) (a b : List (List ℕ)) (xs ys : List A) → Fit a xs → Fit b ys → Fit (tag t a b) (xs ++ ys)
fit_tag t a b xs ys h k =
    let c : Fit (join_statics b (closing t ∷ [])) ys = subst (Fit (join_statics b (closing t ∷ []))) (append-nil ys) (fit_join b (closing t ∷ []) ys [] k tt) in
    fit_join (opening t ∷ []) (join_statics a (join_statics (codes ">" ∷ []) (join_statics b (closing t ∷ [])))) [] (xs ++ ys) tt
    (fit_join a (join_statics (codes ">" ∷ []) (join_statics b (closing t ∷ []))) xs ys h (fit_join (codes ">" ∷ []) (join_statics b (closing t ∷ [])) [] ys tt c))

weave_tag : (t : List ℕ) (a b xs ys : List (List ℕ)) → Fit a xs → Fit b ys → weave (tag t a b) (xs ++ ys) ≡ element_text t (weave a xs) (weave b ys)
weave_tag t a b xs ys h k =
    let c : Fit (join_statics b (closing t ∷ [])) ys = subst (Fit (join_statics b (closing t ∷ []))) (append-nil ys) (fit_join b (closing t ∷ []) ys [] k tt) in
    let d : Fit (join_statics (codes ">" ∷ []) (join_statics b (closing t ∷ []))) ys = fit_join (codes ">" ∷ []) (join_statics b (closing t ∷ [])) [] ys tt c in
    let e : weave (join_statics b (closing t ∷ [])) ys ≡ weave b ys ++ closing t = ap (weave (join_statics b (closing t ∷ []))) (sym (append-nil ys)) ∙ weave_join b (closing t ∷ []) ys [] k tt in
    weave_join (opening t ∷ []) (join_statics a (join_statics (codes ">" ∷ []) (join_statics b (closing t ∷ [])))) [] (xs ++ ys) tt (fit_join a (join_statics (codes ">" ∷ []) (join_statics b (closing t ∷ []))) xs ys h d)
    ∙ ap (λ r. opening t ++ r) (weave_join a (join_statics (codes ">" ∷ []) (join_statics b (closing t ∷ []))) xs ys h d)
    ∙ ap (λ r. opening t ++ (weave a xs ++ r)) (weave_join (codes ">" ∷ []) (join_statics b (closing t ∷ [])) [] ys tt c)
    ∙ ap (λ r. opening t ++ (weave a xs ++ (codes ">" ++ r))) e

fit_cons : {A : Type 0} (x : A) (a : List (List ℕ)) (xs : List A) → Fit a xs → Fit ([] ∷ a) (x ∷ xs)
fit_cons x [] xs h = absurd h
fit_cons x (t ∷ a) xs h = h

fit_attributes : (xs : Attributes) → Fit (cut_attributes xs) (places_of_attributes xs)
fit_attributes no_attributes = tt
fit_attributes (written n w xs) = fit_join (written_text n w ∷ []) (cut_attributes xs) [] (places_of_attributes xs) tt (fit_attributes xs)
fit_attributes (valued n e xs) = fit_cons (attribute n e) (cut_attributes xs) (places_of_attributes xs) (fit_attributes xs)
fit_attributes (spread_of e xs) = fit_cons (spread e) (cut_attributes xs) (places_of_attributes xs) (fit_attributes xs)
fit_attributes (module_of m xs) = fit_attributes xs

mutual
  fit_node : (n : Node) → Fit (cut_node n) (places_of n)
  fit_node (text_node t) = tt
  fit_node (element l t xs ns) = fit_tag t (cut_attributes xs) (cut ns) (places_of_attributes xs) (places_in ns) (fit_attributes xs) (fit_nodes ns)
  fit_node (at_place o p) = tt

  pub fit_nodes : (ns : Nodes) → Fit (cut ns) (places_in ns)
  fit_nodes no_nodes = tt
  fit_nodes (node n ns) = fit_join (cut_node n) (cut ns) (places_of n) (places_in ns) (fit_node n) (fit_nodes ns)

none_first : {B : Type 0} (r : Res (List B)) → r ≡ both (λ a b. a ++ b) (Ok []) r
none_first (Ok b) = refl
none_first (Err e) = refl

shift : {B : Type 0} (a : Res B) (b c : Res (List B)) → both (λ y zs. y ∷ zs) a (both (λ u v. u ++ v) b c) ≡ both (λ u v. u ++ v) (both (λ y zs. y ∷ zs) a b) c
shift (Ok a) (Ok b) (Ok c) = refl
shift (Ok a) (Ok b) (Err e) = refl
shift (Ok a) (Err e) c = refl
shift (Err e) b c = refl

each-append : {A B : Type 0} (f : A → Res B) (xs ys : List A) → each f (xs ++ ys) ≡ both (λ a b. a ++ b) (each f xs) (each f ys)
each-append f [] ys = none_first (each f ys)
each-append f (x ∷ xs) ys = ap (both (λ y zs. y ∷ zs) (f x)) (each-append f xs ys) ∙ shift (f x) (each f xs) (each f ys)

-- the texts of a stretch fit its statics
abbrev Fits : List (List ℕ) → Res (List (List ℕ)) → Type 0
Fits a (Ok xs) = Fit a xs
Fits a (Err e) = Unit {0}

cons_fits : (s t : List ℕ) (ss : List (List ℕ)) (r : Res (List ℕ)) (q : Res (List (List ℕ))) → Fits (t ∷ ss) q → Fits (s ∷ t ∷ ss) (both (λ y ys. y ∷ ys) r q)
cons_fits s t ss (Ok y) (Ok ys) h = h
cons_fits s t ss (Ok y) (Err e) h = tt
cons_fits s t ss (Err e) q h = tt

fits_each : {A : Type 0} (f : A → Res (List ℕ)) (ns : List A) (a : List (List ℕ)) → Fit a ns → Fits a (each f ns)
fits_each f [] [] h = absurd h
fits_each f [] (s ∷ []) h = tt
fits_each f [] (s ∷ t ∷ ss) h = absurd h
fits_each f (n ∷ ns) [] h = absurd h
fits_each f (n ∷ ns) (s ∷ []) h = absurd h
fits_each f (n ∷ ns) (s ∷ t ∷ ss) h = cons_fits s t ss (f n) (each f ns) (fits_each f ns (t ∷ ss) h)

woven : (a b : List (List ℕ)) (r s : Res (List (List ℕ))) → Fits a r → Fits b s → on_res (weave (join_statics a b)) (both (λ u v. u ++ v) r s) ≡ both (λ u v. u ++ v) (on_res (weave a) r) (on_res (weave b) s)
woven a b (Ok xs) (Ok ys) h k = ap Ok (weave_join a b xs ys h k)
woven a b (Ok xs) (Err e) h k = refl
woven a b (Err e) s h k = refl

one_woven : (r : Res (List ℕ)) → on_res (weave ([] ∷ [] ∷ [])) (both (λ y ys. y ∷ ys) r (Ok [])) ≡ r
one_woven (Ok t) = ap Ok (append-nil t)
one_woven (Err e) = refl

element_woven : (t : List ℕ) (a b : List (List ℕ)) (r s : Res (List (List ℕ))) → Fits a r → Fits b s
    → on_res (weave (tag t a b)) (both (λ u v. u ++ v) r s) ≡ both (element_text t) (on_res (weave a) r) (on_res (weave b) s)
element_woven t a b (Ok xs) (Ok ys) h k = ap Ok (weave_tag t a b xs ys h k)
element_woven t a b (Ok xs) (Err e) h k = refl
element_woven t a b (Err e) s h k = refl

written_woven : (t : List ℕ) (a : List (List ℕ)) (r : Res (List (List ℕ))) → Fits a r → on_res (weave (join_statics (t ∷ []) a)) r ≡ on_res (λ u. t ++ u) (on_res (weave a) r)
written_woven t a (Ok xs) h = ap Ok (weave_join (t ∷ []) a [] xs tt h)
written_woven t a (Err e) h = refl

valued_woven : (a : List (List ℕ)) (r : Res (List ℕ)) (s : Res (List (List ℕ))) → on_res (weave ([] ∷ a)) (both (λ y ys. y ∷ ys) r s) ≡ both (λ x y. x ++ y) r (on_res (weave a) s)
valued_woven a (Ok t) (Ok xs) = refl
valued_woven a (Ok t) (Err e) = refl
valued_woven a (Err e) s = refl

module _ (site : Site) (go : Deeper (List ℕ)) (env : Env) where
  abbrev at' : Place → Res (List ℕ)
  at' p = full_place site go env p

  attributes_woven : (xs : Attributes) → on_res (weave (cut_attributes xs)) (each at' (places_of_attributes xs)) ≡ full_attributes site go env xs
  attributes_woven no_attributes = refl
  attributes_woven (written n w xs) =
      written_woven (written_text n w) (cut_attributes xs) _ (fits_each at' (places_of_attributes xs) (cut_attributes xs) (fit_attributes xs)) ∙ ap (on_res (λ u. written_text n w ++ u)) (attributes_woven xs)
  attributes_woven (valued n e xs) = valued_woven (cut_attributes xs) (at' (attribute n e)) _ ∙ ap (both (λ x y. x ++ y) (at' (attribute n e))) (attributes_woven xs)
  attributes_woven (spread_of e xs) = valued_woven (cut_attributes xs) (at' (spread e)) _ ∙ ap (both (λ x y. x ++ y) (at' (spread e))) (attributes_woven xs)
  attributes_woven (module_of m xs) = attributes_woven xs

  mutual
    node_woven : (n : Node) → on_res (weave (cut_node n)) (each at' (places_of n)) ≡ full_node site go env n
    node_woven (text_node t) = refl
    node_woven (element l t xs ns) =
        ap (on_res (weave (cut_node (element l t xs ns)))) (each-append at' (places_of_attributes xs) (places_in ns))
        ∙ element_woven t (cut_attributes xs) (cut ns) _ _ (fits_each at' (places_of_attributes xs) (cut_attributes xs) (fit_attributes xs)) (fits_each at' (places_in ns) (cut ns) (fit_nodes ns))
        ∙ ap (λ r. both (element_text t) r (on_res (weave (cut ns)) (each at' (places_in ns)))) (attributes_woven xs)
        ∙ ap (both (element_text t) (full_attributes site go env xs)) (nodes_woven ns)
    node_woven (at_place o p) = one_woven (at' p)

    pub nodes_woven : (ns : Nodes) → on_res (weave (cut ns)) (each (full_place site go env) (places_in ns)) ≡ full_nodes site go env ns
    nodes_woven no_nodes = refl
    nodes_woven (node n ns) =
        ap (on_res (weave (cut (node n ns)))) (each-append at' (places_of n) (places_in ns))
        ∙ woven (cut_node n) (cut ns) _ _ (fits_each at' (places_of n) (cut_node n) (fit_node n)) (fits_each at' (places_in ns) (cut ns) (fit_nodes ns))
        ∙ ap (λ r. both (λ u v. u ++ v) r (on_res (weave (cut ns)) (each at' (places_in ns)))) (node_woven n)
        ∙ ap (both (λ u v. u ++ v) (full_node site go env n)) (nodes_woven ns)
