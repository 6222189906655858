-- Everything inside a plain template is plain: its places, and its bodies.
use Rattle.std.proofs.Common.{◌≡◌, ℕ, zero, suc, List, [], ◌∷◌, ◌++◌, get_or, Bool, true, false, ◌&&◌, refl, sym, ap, ◌∙◌}
use Rattle.std.specs.List.{list_all}
use Rattle.std.proofs.lemmas.List.Folds.{list_all-append}
use Rattle.text_core.proofs.Keyed.{both_of}
use Rattle.ast_core.specs.Places.{places_in, places_of, places_of_attributes}
use Rattle.ast_core.specs.Syntax.{Place, put, attribute, spread, if_place, case_place, for_place, call, render_slot, live_call, stream_place, Node, text_node, element, at_place, Nodes, no_nodes, node, Attributes, no_attributes, written, valued, spread_of, module_of, Clauses, no_clauses, clause}
use Rattle.slot_compile.specs.Numbering.{all_bodies, bodies_at, bodies_in, bodies_of, clause_bodies, else_bodies, node_at}
use Rattle.slot_compile.specs.Template.{all_plain, clauses_plain, is_plain, node_plain}
use Rattle.slot_compile.proofs.Judging.{both_plain}

attributes_plain : (xs : Attributes) (ps : List Place) → list_all is_plain (places_of_attributes xs ++ ps) ≡ list_all is_plain ps
attributes_plain no_attributes ps = refl
attributes_plain (written n w xs) ps = attributes_plain xs ps
attributes_plain (valued n e xs) ps = attributes_plain xs ps
attributes_plain (spread_of e xs) ps = attributes_plain xs ps
attributes_plain (module_of m xs) ps = attributes_plain xs ps

and_true : (b : Bool) → (b && true) ≡ b
and_true true = refl
and_true false = refl

-- nodes are plain where their places are
mutual
  pub plain_places : (ns : Nodes) → all_plain ns ≡ list_all is_plain (places_in ns)
  plain_places no_nodes = refl
  plain_places (node n ns) =
      ap (λ b. b && all_plain ns) (plain_node n) ∙ ap (λ b. list_all is_plain (places_of n) && b) (plain_places ns) ∙ sym (list_all-append is_plain (places_of n) (places_in ns))

  pub plain_node : (n : Node) → node_plain n ≡ list_all is_plain (places_of n)
  plain_node (text_node t) = refl
  plain_node (element l t xs ns) = plain_places ns ∙ sym (attributes_plain xs (places_in ns))
  plain_node (at_place l p) = sym (and_true (is_plain p))

-- bodies that are all plain
abbrev AllPlain : List Nodes → Type 0
AllPlain bs = list_all all_plain bs ≡ true

joined : (xs ys : List Nodes) → AllPlain xs → AllPlain ys → AllPlain (xs ++ ys)
joined xs ys h g = list_all-append all_plain xs ys ∙ both_plain (list_all all_plain xs) (list_all all_plain ys) h g

-- the same of what stands in two parts
two : (a b : Bool) (xs ys : List Nodes) → (a ≡ true → AllPlain xs) → (b ≡ true → AllPlain ys) → (a && b) ≡ true → AllPlain (xs ++ ys)
two a b xs ys f g h = joined xs ys (f (both_of a b h).0) (g (both_of a b h).1)

whole : (ns : Nodes) (bs : List Nodes) → (all_plain ns ≡ true → AllPlain bs) → all_plain ns ≡ true → AllPlain (ns ∷ bs)
whole ns bs f h = both_plain (all_plain ns) (list_all all_plain bs) h (f h)

mutual
  plain_in : (ns : Nodes) → all_plain ns ≡ true → AllPlain (bodies_in ns)
  plain_in no_nodes h = refl
  plain_in (node n ns) h = two (node_plain n) (all_plain ns) (bodies_of n) (bodies_in ns) (plain_of n) (plain_in ns) h

  plain_of : (n : Node) → node_plain n ≡ true → AllPlain (bodies_of n)
  plain_of (text_node t) h = refl
  plain_of (element l t xs ns) h = plain_in ns h
  plain_of (at_place l p) h = plain_at p h

  plain_at : (p : Place) → is_plain p ≡ true → AllPlain (bodies_at p)
  plain_at (put e) h = refl
  plain_at (attribute n e) h = refl
  plain_at (spread e) h = refl
  plain_at (if_place t a b) h = two (all_plain a) (all_plain b) (a ∷ bodies_in a) (else_bodies b) (whole a (bodies_in a) (plain_in a)) (plain_else b) h
  plain_at (case_place e cs) h = plain_clauses cs h
  plain_at (for_place p e ns) h = whole ns (bodies_in ns) (plain_in ns) h
  plain_at (call t xs b es) h = refl
  plain_at (render_slot e a) h = refl
  plain_at (live_call xs b es) h = refl
  plain_at (stream_place s x p ns) h = refl

  plain_else : (b : Nodes) → all_plain b ≡ true → AllPlain (else_bodies b)
  plain_else no_nodes h = refl
  plain_else (node n ns) h = whole (node n ns) (bodies_of n ++ bodies_in ns) (two (node_plain n) (all_plain ns) (bodies_of n) (bodies_in ns) (plain_of n) (plain_in ns)) h

  plain_clauses : (cs : Clauses) → clauses_plain cs ≡ true → AllPlain (clause_bodies cs)
  plain_clauses no_clauses h = refl
  plain_clauses (clause p ns cs) h = two (all_plain ns) (clauses_plain cs) (ns ∷ bodies_in ns) (clause_bodies cs) (whole ns (bodies_in ns) (plain_in ns)) (plain_clauses cs) h

found_plain : (bs : List Nodes) (k : ℕ) → AllPlain bs → all_plain (get_or bs k no_nodes) ≡ true
found_plain [] k h = refl
found_plain (b ∷ bs) zero h = (both_of (all_plain b) (list_all all_plain bs) h).0
found_plain (b ∷ bs) (suc k) h = found_plain bs k (both_of (all_plain b) (list_all all_plain bs) h).1

-- the body of each number is plain
pub plain_number : (s : Nodes) (k : ℕ) → all_plain s ≡ true → all_plain (node_at s k) ≡ true
plain_number s k h = found_plain (all_bodies s) k (whole s (bodies_in s) (plain_in s) h)
