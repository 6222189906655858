-- The entries of a table, one body after the other.
use Rattle.std.proofs.Common.{◌≡◌, ℕ, zero, suc, ◌+◌, ◌<◌, ◌≤◌, List, [], ◌∷◌, ◌++◌, length, get_or, drop, map, set, sum, refl, sym, ap, ◌∙◌, arith, append_assoc, append-nil, length-append}
use Rattle.std.proofs.lemmas.List.{drop_all, length-map, map-append, map-set}
use Rattle.text_core.proofs.Keyed.{cons_at}
use Rattle.ast_core.specs.declared.node.Clause.{Clause}
use Rattle.ast_core.specs.NodeView.{clause_view, clauses_view}
use Rattle.ast_core.specs.Places.{cut, places_in}
use Rattle.ast_core.specs.Syntax.{Pattern, Place, Nodes, no_nodes}
use Rattle.slot_compile.specs.declared.compiled.Branch.{Branch}
use Rattle.slot_compile.specs.declared.flattening.Body.{Body}
use Rattle.slot_compile.specs.declared.flattening.Table.{Table}
use Rattle.slot_compile.specs.Gathering.{Stretch, blank, branch_of, count_places, entries, stretch, stretch_of}
use Rattle.slot_compile.specs.Numbering.{all_bodies, bodies_at, bodies_in, place_count}
use Rattle.slot_compile.specs.Stretches.{clauses_at, numbered_from, of_bodies, of_body}
use Rattle.slot_compile.proofs.Counts.{none_on, one_on}

pub bodies-append : (k : ℕ) (xs ys : List Nodes) → of_bodies k (xs ++ ys) ≡ of_bodies k xs ++ of_bodies (k + length xs) ys
bodies-append k [] ys = ap (λ n. of_bodies n ys) (sym (none_on k))
bodies-append k (x ∷ xs) ys =
    ap (λ r. of_body k x ∷ r) (bodies-append (suc k) xs ys ∙ ap (λ n. of_bodies (suc k) xs ++ of_bodies n ys) (one_on k (length xs)))

pub length-bodies : (k : ℕ) (xs : List Nodes) → length (of_bodies k xs) ≡ length xs
length-bodies k [] = refl
length-bodies k (x ∷ xs) = ap suc (length-bodies (suc k) xs)

-- how many bodies a table has after some were added
pub grown : (t u : Table) (bs : List Nodes) → entries u ≡ entries t ++ of_bodies (length t.bodies) bs → length u.bodies ≡ length t.bodies + length bs
grown t u bs is =
    sym (length-map u.bodies stretch_of) ∙ ap length is ∙ length-append (entries t) (of_bodies (length t.bodies) bs)
    ∙ ap (λ n. n + length (of_bodies (length t.bodies) bs)) (length-map t.bodies stretch_of) ∙ ap (λ n. length t.bodies + n) (length-bodies (length t.bodies) bs)

-- bodies behind bodies
pub both_added : (t u : Table) (e : List Stretch) (xs ys : List Nodes) → entries u ≡ entries t ++ of_bodies (length t.bodies) xs → e ≡ entries u ++ of_bodies (length u.bodies) ys
    → e ≡ entries t ++ of_bodies (length t.bodies) (xs ++ ys)
both_added t u e xs ys first second =
    second ∙ ap (λ n. entries u ++ of_bodies n ys) (grown t u xs first)
    ∙ ap (λ es. es ++ of_bodies (length t.bodies + length xs) ys) first
    ∙ append_assoc (entries t) (of_bodies (length t.bodies) xs) (of_bodies (length t.bodies + length xs) ys)
    ∙ ap (λ es. entries t ++ es) (sym (bodies-append (length t.bodies) xs ys))

-- one more item of a list, and the end of the list
pub next_added : {X : Type 0} (one : X → List Nodes) (all : List X → List Nodes) → ((x : X) (xs : List X) → all (x ∷ xs) ≡ one x ++ all xs)
    → (s : List X) (i : ℕ) (x : X) (t u : Table) (z : List Stretch) → i < length s → x ≡ get_or s i x → entries u ≡ entries t ++ of_bodies (length t.bodies) (one x)
    → entries t ++ of_bodies (length t.bodies) (all (drop i s)) ≡ z → entries u ++ of_bodies (length u.bodies) (all (drop (i + 1) s)) ≡ z
next_added one all by_cons s i x t u z within is step inv =
    both_added t u (entries u ++ of_bodies (length u.bodies) (all (drop (i + 1) s))) (one x) (all (drop (i + 1) s)) step refl
    ∙ ap (λ bs. entries t ++ of_bodies (length t.bodies) bs) (sym (by_cons x (drop (i + 1) s)) ∙ ap all (sym (cons_at s i x within is))) ∙ inv

pub end_added : {X : Type 0} (all : List X → List Nodes) → all [] ≡ [] → (s : List X) (i : ℕ) (t : Table) (z : List Stretch) → length s ≤ i
    → entries t ++ of_bodies (length t.bodies) (all (drop i s)) ≡ z → entries t ≡ z
end_added all none s i t z h inv =
    sym (append-nil (entries t)) ∙ ap (λ bs. entries t ++ of_bodies (length t.bodies) bs) (sym none ∙ ap all (sym (drop_all i s h))) ∙ inv

pub none_added : (t : Table) → entries t ≡ entries t ++ of_bodies (length t.bodies) []
none_added t = sym (append-nil (entries t))

-- how many places there are
length-numbered : (k : ℕ) (ps : List Place) → length (numbered_from k ps) ≡ length ps
length-numbered k [] = refl
length-numbered k (p ∷ ps) = ap suc (length-numbered (k + length (bodies_at p)) ps)

counted : (k : ℕ) (bs : List Nodes) → map (λ (e : Stretch). length e.places) (of_bodies k bs) ≡ map (λ ns. length (places_in ns)) bs
counted k [] = refl
counted k (b ∷ bs) =
    ap (λ n. n ∷ map (λ (e : Stretch). length e.places) (of_bodies (suc k) bs)) (length-numbered (suc k) (places_in b))
    ∙ ap (λ ns. length (places_in b) ∷ ns) (counted (suc k) bs)

pub places_counted : (s : Nodes) (es : List Stretch) → es ≡ of_bodies 0 (all_bodies s) → count_places es ≡ place_count s
places_counted s es is = ap count_places is ∙ ap sum (counted 0 (all_bodies s))

-- the entry of a number
pub entry_at : (k : ℕ) (bs : List Nodes) (m : ℕ) (e : Stretch) → m < length bs → get_or (of_bodies k bs) m e ≡ of_body (k + m) (get_or bs m no_nodes)
entry_at k [] m e small = absurd (omega (arith, small))
entry_at k (b ∷ bs) zero e small = ap (λ n. of_body n b) (sym (none_on k))
entry_at k (b ∷ bs) (suc m) e small = entry_at (suc k) bs m e (omega (arith, small)) ∙ ap (λ n. of_body n (get_or bs m no_nodes)) (one_on k m)

set_behind : (es : List Stretch) (x y : Stretch) (rest : List Stretch) → set ((es ++ x ∷ []) ++ rest) (length es) y ≡ es ++ y ∷ rest
set_behind [] x y rest = refl
set_behind (e ∷ es) x y rest = ap (λ r. e ∷ r) (set_behind es x y rest)

one_more : (t r : Table) → entries r ≡ entries t ++ blank ∷ [] → length r.bodies ≡ suc (length t.bodies)
one_more t r is =
    sym (length-map r.bodies stretch_of) ∙ ap length is ∙ length-append (entries t) (blank ∷ []) ∙ ap (λ n. n + 1) (length-map t.bodies stretch_of) ∙ omega arith

-- the number that was kept stands before those of the bodies inside
pub number_stands : (t r u : Table) (bs : List Nodes) (n : ℕ) → n ≡ length t.bodies → entries r ≡ entries t ++ blank ∷ [] → entries u ≡ entries r ++ of_bodies (length r.bodies) bs
    → n < length u.bodies
number_stands t r u bs n count kept added = omega (arith, count, one_more t r kept, grown r u bs added)

-- a body with those inside it: it is put where its number was kept
pub body_added : (t r u : Table) (bs : List Body) (ns : Nodes) (b : Body) (n : ℕ) → n ≡ length t.bodies → entries r ≡ entries t ++ blank ∷ []
    → entries u ≡ entries r ++ of_bodies (length r.bodies) (bodies_in ns) → stretch_of b ≡ stretch (cut ns) (numbered_from (length r.bodies) (places_in ns)) → bs ≡ set u.bodies n b
    → map stretch_of bs ≡ entries t ++ of_bodies (length t.bodies) (all_bodies ns)
body_added t r u bs ns b n count kept added gathered put =
    let more : length r.bodies ≡ suc (length t.bodies) = one_more t r kept in
    let inside : List Stretch = of_bodies (suc (length t.bodies)) (bodies_in ns) in
    ap (map stretch_of) put ∙ map-set stretch_of u.bodies n b
    ∙ ap (λ es. set es n (stretch_of b)) (added ∙ ap (λ k. entries r ++ of_bodies k (bodies_in ns)) more ∙ ap (λ es. es ++ inside) kept)
    ∙ ap (λ k. set ((entries t ++ blank ∷ []) ++ inside) k (stretch_of b)) (count ∙ sym (length-map t.bodies stretch_of))
    ∙ set_behind (entries t) blank (stretch_of b) inside
    ∙ ap (λ e. entries t ++ e ∷ inside) (gathered ∙ ap (λ k. stretch (cut ns) (numbered_from k (places_in ns))) more)

-- one more clause of a case
pub clauses_next : (s : List Clause) (i : ℕ) (x : Clause) (t u : Table) (bs cs : List Branch) (b : Branch) (z : List (Pattern × ℕ)) → i < length s → x ≡ get_or s i x → cs ≡ bs ++ b ∷ []
    → branch_of b ≡ ((clause_view x).0, length t.bodies) → entries u ≡ entries t ++ of_bodies (length t.bodies) (all_bodies (clause_view x).1)
    → map branch_of bs ++ clauses_at (length t.bodies) (clauses_view (drop i s)) ≡ z → map branch_of cs ++ clauses_at (length u.bodies) (clauses_view (drop (i + 1) s)) ≡ z
clauses_next s i x t u bs cs b z within is pushed branch added inv =
    let rest = clauses_view (drop (i + 1) s) in
    ap (λ r. map branch_of r ++ clauses_at (length u.bodies) rest) pushed
    ∙ ap (λ r. r ++ clauses_at (length u.bodies) rest) (map-append branch_of bs (b ∷ []))
    ∙ append_assoc (map branch_of bs) (branch_of b ∷ []) (clauses_at (length u.bodies) rest)
    ∙ ap (λ r. map branch_of bs ++ r ∷ clauses_at (length u.bodies) rest) branch
    ∙ ap (λ n. map branch_of bs ++ ((clause_view x).0, length t.bodies) ∷ clauses_at n rest) (grown t u (all_bodies (clause_view x).1) added)
    ∙ ap (λ r. map branch_of bs ++ clauses_at (length t.bodies) (clauses_view r)) (sym (cons_at s i x within is)) ∙ inv
