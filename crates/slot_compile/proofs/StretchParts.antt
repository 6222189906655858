-- Stretches of attributes and nodes, from those of what stands inside.
use Rattle.std.proofs.Common.{◌≡◌, ℕ, ◌+◌, ◌<◌, ◌≤◌, List, [], ◌∷◌, ◌++◌, length, get_or, drop, map, codes, refl, sym, ap, ◌∙◌, append_assoc, append-nil, length-append, arith}
use Rattle.std.proofs.lemmas.List.{drop_all}
use Rattle.text_core.proofs.Keyed.{cons_at}
use Rattle.ast_core.specs.declared.node.Location.{Location}
use Rattle.ast_core.specs.declared.node.Attribute.{Attribute}
use Rattle.ast_core.specs.declared.node.AttributeValue.{AttributeValue}
use Rattle.ast_core.specs.declared.node.AttributeValue.TheVariants as attribute
use Rattle.ast_core.specs.declared.node.Node.{Node}
use Rattle.ast_core.specs.declared.node.Place.{Place}
use Rattle.ast_core.specs.declared.node.Node.TheVariants as form
use Rattle.ast_core.specs.Syntax as model
use Rattle.ast_core.specs.NodeView.{attribute_on, attributes_view, node_view, nodes_view, place_view}
use Rattle.ast_core.specs.ExprView.{expr_view}
use Rattle.ast_core.specs.Places.{closing, cut, cut_attributes, cut_node, join_statics, opening, places_in, places_of, places_of_attributes, written_text}
use Rattle.slot_compile.specs.declared.flattening.Flattening.{Flattening}
use Rattle.slot_compile.specs.Gathering.{Stretch, alone, gathered, hole, stretch, text, then_on}
use Rattle.slot_compile.specs.Numbering.{bodies_at, bodies_in, bodies_of}
use Rattle.slot_compile.specs.Stretches.{numbered_at, numbered_from, of_attribute, of_attributes, of_node, of_nodes}
use Rattle.slot_compile.proofs.Counts.{none_on}
use Rattle.slot_compile.proofs.Filled.{inside_places}
use Rattle.slot_compile.proofs.Joined.{join_assoc, nothing_on, then_assoc}
use Rattle.slot_compile.proofs.Seen.{seen_element, seen_place}

text_first : (t : List ℕ) (c : List (List ℕ)) → join_statics ([] ∷ []) (join_statics (t ∷ []) c) ≡ join_statics (t ∷ []) c
text_first t [] = refl
text_first t (u ∷ c) = refl

-- no text before attributes leaves them as they are
none_first : (xs : model.Attributes) → join_statics ([] ∷ []) (cut_attributes xs) ≡ cut_attributes xs
none_first model.no_attributes = refl
none_first (model.written n w xs) = text_first (written_text n w) (cut_attributes xs)
none_first (model.valued n e xs) = refl
none_first (model.spread_of e xs) = refl
none_first (model.module_of m xs) = none_first xs

pub attributes_cons : (a : Attribute) (xs : List Attribute) → of_attributes (a ∷ xs) ≡ then_on (of_attribute a.name a.value) (of_attributes xs)
attributes_cons a xs = by a.value
  where
    rest : model.Attributes
    rest = attributes_view xs

    by : (v : AttributeValue) → stretch (cut_attributes (attribute_on a.name v rest)) (map alone (places_of_attributes (attribute_on a.name v rest))) ≡ then_on (of_attribute a.name v) (of_attributes xs)
    by (attribute.Double t) = refl
    by (attribute.Single t) = refl
    by attribute.Bare = refl
    by (attribute.Put e) = ap (λ c. stretch ([] ∷ c) (alone (model.attribute a.name (expr_view e)) ∷ map alone (places_of_attributes rest))) (sym (none_first rest))
    by (attribute.Spread e) = ap (λ c. stretch ([] ∷ c) (alone (model.spread (expr_view e)) ∷ map alone (places_of_attributes rest))) (sym (none_first rest))
    by (attribute.Module m) = ap (λ c. stretch c (map alone (places_of_attributes rest))) (sym (none_first rest))

first_node : (n : model.Node) → join_statics ([] ∷ []) (cut_node n) ≡ cut_node n
first_node (model.text_node t) = refl
first_node (model.element l t xs ns) = text_first (opening t) (join_statics (cut_attributes xs) (join_statics (codes ">" ∷ []) (join_statics (cut ns) (closing t ∷ []))))
first_node (model.at_place l p) = refl

first_nodes : (ns : model.Nodes) → join_statics ([] ∷ []) (cut ns) ≡ cut ns
first_nodes model.no_nodes = refl
first_nodes (model.node n ns) = sym (join_assoc ([] ∷ []) (cut_node n) (cut ns)) ∙ ap (λ c. join_statics c (cut ns)) (first_node n)

-- nodes behind nothing
pub nodes_first : (k : ℕ) (ns : List Node) → then_on (text []) (of_nodes k ns) ≡ of_nodes k ns
nodes_first k ns = ap (λ c. stretch c (of_nodes k ns).places) (first_nodes (nodes_view ns))

-- attributes have nothing inside
attributes_alone : (k : ℕ) (xs : model.Attributes) (ps : List model.Place) → numbered_from k (places_of_attributes xs ++ ps) ≡ map alone (places_of_attributes xs) ++ numbered_from k ps
attributes_alone k model.no_attributes ps = refl
attributes_alone k (model.written n w xs) ps = attributes_alone k xs ps
attributes_alone k (model.valued n e xs) ps =
    ap (λ m. alone (model.attribute n e) ∷ numbered_from m (places_of_attributes xs ++ ps)) (none_on k) ∙ ap (λ r. alone (model.attribute n e) ∷ r) (attributes_alone k xs ps)
attributes_alone k (model.spread_of e xs) ps =
    ap (λ m. alone (model.spread e) ∷ numbered_from m (places_of_attributes xs ++ ps)) (none_on k) ∙ ap (λ r. alone (model.spread e) ∷ r) (attributes_alone k xs ps)
attributes_alone k (model.module_of m xs) ps = attributes_alone k xs ps

attributes_inside : (xs : model.Attributes) (ps : List model.Place) → inside_places (places_of_attributes xs ++ ps) ≡ inside_places ps
attributes_inside model.no_attributes ps = refl
attributes_inside (model.written n w xs) ps = attributes_inside xs ps
attributes_inside (model.valued n e xs) ps = attributes_inside xs ps
attributes_inside (model.spread_of e xs) ps = attributes_inside xs ps
attributes_inside (model.module_of m xs) ps = attributes_inside xs ps

inside-append : (ps qs : List model.Place) → inside_places (ps ++ qs) ≡ inside_places ps ++ inside_places qs
inside-append [] qs = refl
inside-append (p ∷ ps) qs =
    ap (λ bs. bodies_at p ++ bs) (inside-append ps qs) ∙ sym (append_assoc (bodies_at p) (inside_places ps) (inside_places qs))

-- the bodies inside nodes are those inside their places
mutual
  pub bodies_inside : (ns : model.Nodes) → bodies_in ns ≡ inside_places (places_in ns)
  bodies_inside model.no_nodes = refl
  bodies_inside (model.node n ns) =
      ap (λ bs. bs ++ bodies_in ns) (bodies_inside_node n) ∙ ap (λ bs. inside_places (places_of n) ++ bs) (bodies_inside ns) ∙ sym (inside-append (places_of n) (places_in ns))

  pub bodies_inside_node : (n : model.Node) → bodies_of n ≡ inside_places (places_of n)
  bodies_inside_node (model.text_node t) = refl
  bodies_inside_node (model.element l t xs ns) = bodies_inside ns ∙ sym (attributes_inside xs (places_in ns))
  bodies_inside_node (model.at_place l p) = sym (append-nil (bodies_at p))

two_on : (k : ℕ) (xs ys : List model.Nodes) → (k + length xs) + length ys ≡ k + length (xs ++ ys)
two_on k xs ys = omega (arith, length-append xs ys)

numbered-append : (k : ℕ) (ps qs : List model.Place) → numbered_from k (ps ++ qs) ≡ numbered_from k ps ++ numbered_from (k + length (inside_places ps)) qs
numbered-append k [] qs = ap (λ n. numbered_from n qs) (sym (none_on k))
numbered-append k (p ∷ ps) qs =
    ap (λ r. numbered_at k p ∷ r)
    (numbered-append (k + length (bodies_at p)) ps qs
    ∙ ap (λ n. numbered_from (k + length (bodies_at p)) ps ++ numbered_from n qs) (two_on k (bodies_at p) (inside_places ps)))

-- a node before others, whose bodies' numbers follow those inside it
pub nodes_cons : (k : ℕ) (n : Node) (ns : List Node) → of_nodes k (n ∷ ns) ≡ then_on (of_node k n) (of_nodes (k + length (bodies_of (node_view n))) ns)
nodes_cons k n ns =
    ap (stretch (cut (nodes_view (n ∷ ns))))
    (numbered-append k (places_of (node_view n)) (places_in (nodes_view ns))
    ∙ ap (λ bs. numbered_from k (places_of (node_view n)) ++ numbered_from (k + length bs) (places_in (nodes_view ns))) (sym (bodies_inside_node (node_view n))))

-- one more node of a list, and the end of the list
pub nodes_next : (s : List Node) (i : ℕ) (n : Node) (k m : ℕ) (g h z : Stretch) → i < length s → n ≡ get_or s i n → m ≡ k + length (bodies_of (node_view n))
    → h ≡ then_on g (of_node k n) → then_on g (of_nodes k (drop i s)) ≡ z → then_on h (of_nodes m (drop (i + 1) s)) ≡ z
nodes_next s i n k m g h z within is count step inv =
    ap (λ u. then_on u (of_nodes m (drop (i + 1) s))) step ∙ then_assoc g (of_node k n) (of_nodes m (drop (i + 1) s))
    ∙ ap (λ c. then_on g (then_on (of_node k n) (of_nodes c (drop (i + 1) s)))) count
    ∙ ap (then_on g) (sym (nodes_cons k n (drop (i + 1) s)) ∙ ap (of_nodes k) (sym (cons_at s i n within is))) ∙ inv

pub nodes_end : (s : List Node) (i k : ℕ) (f : Flattening) (z : Stretch) → length s ≤ i → then_on (gathered f) (of_nodes k (drop i s)) ≡ z → gathered f ≡ z
nodes_end s i k f z h inv = nothing_on f ∙ ap (λ r. then_on (gathered f) (of_nodes k r)) (sym (drop_all i s h)) ∙ inv

-- an element: its start tag, its children and its end tag
abbrev pub started : List ℕ → List Attribute → Stretch
started t xs = then_on (text (opening t)) (then_on (of_attributes xs) (text (codes ">")))

abbrev tagged : ℕ → List ℕ → List Attribute → List Node → Stretch
tagged k t xs ns = then_on (text (opening t)) (then_on (of_attributes xs) (then_on (text (codes ">")) (then_on (of_nodes k ns) (text (closing t)))))

abbrev seen : ℕ → model.Node → Stretch
seen k n = stretch (cut_node n) (numbered_from k (places_of n))

as_tagged : (k : ℕ) (l : Location) (t : List ℕ) (xs : List Attribute) (ns : List Node) → of_node k (form.Element l t xs ns) ≡ tagged k t xs ns
as_tagged k l t xs ns =
    ap (seen k) (seen_element l t xs ns)
    ∙ ap (stretch (tagged k t xs ns).statics) (attributes_alone k (attributes_view xs) (places_in (nodes_view ns)))
    ∙ ap (λ ps. stretch (tagged k t xs ns).statics ((of_attributes xs).places ++ ps)) (sym (append-nil (of_nodes k ns).places))

pub of_element : (k : ℕ) (l : Location) (t : List ℕ) (xs : List Attribute) (ns : List Node)
    → of_node k (form.Element l t xs ns) ≡ then_on (started t xs) (then_on (of_nodes k ns) (text (closing t)))
of_element k l t xs ns =
    as_tagged k l t xs ns
    ∙ sym (then_assoc (text (opening t)) (then_on (of_attributes xs) (text (codes ">"))) (then_on (of_nodes k ns) (text (closing t)))
    ∙ ap (then_on (text (opening t))) (then_assoc (of_attributes xs) (text (codes ">")) (then_on (of_nodes k ns) (text (closing t)))))

pub of_place : (k : ℕ) (l : Location) (p : Place) → of_node k (form.Place l p) ≡ hole (numbered_at k (place_view p))
of_place k l p = ap (seen k) (seen_place l p)
