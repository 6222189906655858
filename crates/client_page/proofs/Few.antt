-- Bodies of fewer than 2^64 places.
use Rattle.std.proofs.Common.{ℕ, ◌+◌, ◌<◌, ◌^◌, List, [], ◌∷◌, ◌++◌, length, map, arith}
use Rattle.std.specs.List.{fold}
use Rattle.ast_core.specs.Syntax.{Attributes, no_attributes, written, valued, spread_of, module_of, Node, text_node, element, at_place, Place, Nodes, no_nodes, node}
use Rattle.ast_core.specs.Places.{places_in, places_of, places_of_attributes}
use Rattle.slot_compile.specs.Numbering.{bodies_in, bodies_of, bodies_at, all_bodies, place_count}

abbrev pub AllFew : List Nodes → Type 0
AllFew [] = Unit {0}
AllFew (ns ∷ xs) = (length (places_in ns) < 2 ^ 64) × AllFew xs

pub few_left : (xs ys : List Nodes) → AllFew (xs ++ ys) → AllFew xs
few_left [] ys h = tt
few_left (x ∷ xs) ys h = (h.0, few_left xs ys h.1)

pub few_right : (xs ys : List Nodes) → AllFew (xs ++ ys) → AllFew ys
few_right [] ys h = h
few_right (x ∷ xs) ys h = few_right xs ys h.1

-- each is below what all are together
sum_few : (before : ℕ) (xs : List Nodes) → fold ◌+◌ before (map (λ ns. length (places_in ns)) xs) < 2 ^ 64 → (before < 2 ^ 64) × AllFew xs
sum_few before [] h = (h, tt)
sum_few before (x ∷ xs) h =
    let rest = sum_few (before + length (places_in x)) xs h in
    let below : before + length (places_in x) < 2 ^ 64 = rest.0 in
    (omega (arith, below), (omega (arith, below), rest.1))

-- all bodies of a template that has few places altogether
pub count_few : (ns : Nodes) → place_count ns < 2 ^ 64 → AllFew (all_bodies ns)
count_few ns h = (sum_few 0 (all_bodies ns) h).1

-- the bodies inside places
abbrev pub PlacesFew : List Place → Type 0
PlacesFew [] = Unit {0}
PlacesFew (p ∷ ps) = AllFew (bodies_at p) × PlacesFew ps

both_few : (ps qs : List Place) → PlacesFew ps → PlacesFew qs → PlacesFew (ps ++ qs)
both_few [] qs h g = g
both_few (p ∷ ps) qs h g = (h.0, both_few ps qs h.1 g)

attributes_few : (xs : Attributes) → PlacesFew (places_of_attributes xs)
attributes_few no_attributes = tt
attributes_few (written n w xs) = attributes_few xs
attributes_few (valued n e xs) = (tt, attributes_few xs)
attributes_few (spread_of e xs) = (tt, attributes_few xs)
attributes_few (module_of m xs) = attributes_few xs

mutual
  pub places_few : (ns : Nodes) → AllFew (bodies_in ns) → PlacesFew (places_in ns)
  places_few no_nodes h = tt
  places_few (node n ns) h = both_few (places_of n) (places_in ns) (node_few n (few_left (bodies_of n) (bodies_in ns) h)) (places_few ns (few_right (bodies_of n) (bodies_in ns) h))

  node_few : (n : Node) → AllFew (bodies_of n) → PlacesFew (places_of n)
  node_few (text_node t) h = tt
  node_few (element l t xs ns) h = both_few (places_of_attributes xs) (places_in ns) (attributes_few xs) (places_few ns h)
  node_few (at_place l p) h = (h, tt)
