-- Which bodies stand in a template from a number on.
use Rattle.std.proofs.Common.{◌≡◌, ℕ, zero, suc, ◌+◌, ◌<◌, List, [], ◌∷◌, ◌++◌, length, get_or, refl, sym, subst, arith}
use Rattle.ast_core.specs.Syntax.{Place, put, attribute, spread, if_place, case_place, for_place, call, render_slot, live_call, stream_place, Node, text_node, element, at_place, Nodes, no_nodes, node, Clauses, no_clauses, clause}
use Rattle.slot_compile.specs.Numbering.{all_bodies, bodies_at, bodies_in, bodies_of, clause_bodies, else_bodies, node_at}
use Rattle.slot_compile.proofs.Counts.{none_before, none_on, one_on}

-- these bodies stand in a list from a number on
abbrev StandIn : List Nodes → ℕ → List Nodes → Type 0
StandIn all k [] = Unit {0}
StandIn all k (b ∷ bs) = (get_or all k no_nodes ≡ b) × StandIn all (suc k) bs

abbrev pub Stands : Nodes → ℕ → List Nodes → Type 0
Stands s = StandIn (all_bodies s)

left_in : (all : List Nodes) (k : ℕ) (xs ys : List Nodes) → StandIn all k (xs ++ ys) → StandIn all k xs
left_in all k [] ys h = tt
left_in all k (x ∷ xs) ys h = (h.0, left_in all (suc k) xs ys h.1)

right_in : (all : List Nodes) (k : ℕ) (xs ys : List Nodes) → StandIn all k (xs ++ ys) → StandIn all (k + length xs) ys
right_in all k [] ys h = subst (λ n. StandIn all n ys) (sym (none_on k)) h
right_in all k (x ∷ xs) ys h = subst (λ n. StandIn all n ys) (one_on k (length xs)) (right_in all (suc k) xs ys h.1)

pub stands_left : (s : Nodes) (k : ℕ) (xs ys : List Nodes) → Stands s k (xs ++ ys) → Stands s k xs
stands_left s = left_in (all_bodies s)

pub stands_right : (s : Nodes) (k : ℕ) (xs ys : List Nodes) → Stands s k (xs ++ ys) → Stands s (k + length xs) ys
stands_right s = right_in (all_bodies s)

further : (b : Nodes) (all : List Nodes) (k : ℕ) (xs : List Nodes) → StandIn all k xs → StandIn (b ∷ all) (suc k) xs
further b all k [] h = tt
further b all k (x ∷ xs) h = (h.0, further b all (suc k) xs h.1)

all_stand : (all : List Nodes) → StandIn all 0 all
all_stand [] = tt
all_stand (b ∷ all) = (refl, further b all 0 all (all_stand all))

-- what stands inside each of these bodies follows it
abbrev Follow : List Nodes → ℕ → List Nodes → Type 0
Follow all k [] = Unit {0}
Follow all k (b ∷ bs) = StandIn all (suc k) (bodies_in b) × Follow all (suc k) bs

joined : (all : List Nodes) (k : ℕ) (xs ys : List Nodes) → Follow all k xs → Follow all (k + length xs) ys → Follow all k (xs ++ ys)
joined all k [] ys f g = subst (λ n. Follow all n ys) (none_on k) g
joined all k (x ∷ xs) ys f g = (f.0, joined all (suc k) xs ys f.1 (subst (λ n. Follow all n ys) (sym (one_on k (length xs))) g))

-- from what follows the first and the rest
two_follow : (all : List Nodes) (k : ℕ) (xs ys : List Nodes) → (StandIn all k xs → Follow all k xs) → (StandIn all (k + length xs) ys → Follow all (k + length xs) ys)
    → StandIn all k (xs ++ ys) → Follow all k (xs ++ ys)
two_follow all k xs ys f g h = joined all k xs ys (f (left_in all k xs ys h)) (g (right_in all k xs ys h))

module _ (all : List Nodes) where
  mutual
    follow_in : (ns : Nodes) (k : ℕ) → StandIn all k (bodies_in ns) → Follow all k (bodies_in ns)
    follow_in no_nodes k h = tt
    follow_in (node n ns) k h = two_follow all k (bodies_of n) (bodies_in ns) (follow_of n k) (follow_in ns (k + length (bodies_of n))) h

    follow_of : (n : Node) (k : ℕ) → StandIn all k (bodies_of n) → Follow all k (bodies_of n)
    follow_of (text_node t) k h = tt
    follow_of (element l t xs ns) k h = follow_in ns k h
    follow_of (at_place l p) k h = follow_at p k h

    follow_at : (p : Place) (k : ℕ) → StandIn all k (bodies_at p) → Follow all k (bodies_at p)
    follow_at (put e) k h = tt
    follow_at (attribute n e) k h = tt
    follow_at (spread e) k h = tt
    follow_at (if_place t a b) k h =
        two_follow all k (a ∷ bodies_in a) (else_bodies b) (λ g. (g.1, follow_in a (suc k) g.1)) (follow_else b (k + length (a ∷ bodies_in a))) h
    follow_at (case_place e cs) k h = follow_clauses cs k h
    follow_at (for_place p e ns) k h = (h.1, follow_in ns (suc k) h.1)
    follow_at (call t xs b es) k h = tt
    follow_at (render_slot e a) k h = tt
    follow_at (live_call xs b es) k h = tt
    follow_at (stream_place s x p ns) k h = tt

    follow_else : (b : Nodes) (k : ℕ) → StandIn all k (else_bodies b) → Follow all k (else_bodies b)
    follow_else no_nodes k h = tt
    follow_else (node n ns) k h =
        (h.1, two_follow all (suc k) (bodies_of n) (bodies_in ns) (follow_of n (suc k)) (follow_in ns (suc k + length (bodies_of n))) h.1)

    follow_clauses : (cs : Clauses) (k : ℕ) → StandIn all k (clause_bodies cs) → Follow all k (clause_bodies cs)
    follow_clauses no_clauses k h = tt
    follow_clauses (clause p ns cs) k h =
        two_follow all k (ns ∷ bodies_in ns) (clause_bodies cs) (λ g. (g.1, follow_in ns (suc k) g.1)) (follow_clauses cs (k + length (ns ∷ bodies_in ns))) h

follow_whole : (s : Nodes) → Follow (all_bodies s) 0 (all_bodies s)
follow_whole s =
    let stand : StandIn (all_bodies s) 0 (all_bodies s) = all_stand (all_bodies s) in
    (stand.1, follow_in (all_bodies s) s 1 stand.1)

follow_number : (all : List Nodes) (k : ℕ) (bs : List Nodes) (m : ℕ) → Follow all k bs → m < length bs → StandIn all (suc (k + m)) (bodies_in (get_or bs m no_nodes))
follow_number all k [] m h small = absurd (omega (arith, small))
follow_number all k (b ∷ bs) zero h small = subst (λ n. StandIn all (suc n) (bodies_in b)) (sym (none_on k)) h.0
follow_number all k (b ∷ bs) (suc m) h small =
    subst (λ n. StandIn all (suc n) (bodies_in (get_or bs m no_nodes))) (one_on k m) (follow_number all (suc k) bs m h.1 (omega (arith, small)))

-- behind the body of a number stand those inside it
pub inside_number : (s : Nodes) (m : ℕ) → m < length (all_bodies s) → Stands s (suc m) (bodies_in (node_at s m))
inside_number s m small =
    subst (λ n. StandIn (all_bodies s) (suc n) (bodies_in (node_at s m))) (none_before m) (follow_number (all_bodies s) 0 (all_bodies s) m (follow_whole s) small)
