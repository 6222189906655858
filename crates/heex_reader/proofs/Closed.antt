-- What is open can be closed.
use Rattle.std.proofs.Common.{◌≡◌, ℕ, ◌+◌, ◌≤◌, max, List, [], ◌∷◌, ◌++◌, length, refl, sym, ap, ◌∙◌, subst, arith, append_assoc, append-nil}
use Rattle.ast_core.specs.Syntax.{Location, Pattern, any, clause}
use Rattle.ast_core.specs.NodeView.{clauses_of}
use Rattle.heex_reader.specs.Signs.{case_block, Sign, closes, block, clause_head, ends, Placed}
use Rattle.heex_reader.specs.Grammar.{sign_at, Tree, inside, choice, choice_else, loop, cases, Forest, no_trees, Branches, last_branch, branch, gap_signs, tree_signs, forest_signs, branch_signs, BranchesLawful, forest_height, branches_height, block_nodes, branch_clauses}
use Rattle.heex_reader.specs.Answers.{Begins}
use Rattle.heex_reader.proofs.Shapes.{add_tree, added_signs, Fits, FitsTree, higher, added_fits, Earlier, Kind, of_tag, of_yes, of_no, of_loop, of_clause, Piece, piece, Shape, inner, awaiting, earlier_signs, head_signs, told_pieces, told, FineEarlier, FineKind, FineShape, clauses_seen}

-- The tree that is closed.
abbrev pub branches_from : List Earlier → ℕ → Pattern → Forest → Branches
branches_from [] k p f = last_branch k p f
branches_from (x ∷ xs) k p f = branch x.at x.pattern x.body (branches_from xs k p f)

abbrev pub closed : ℕ → Kind → Forest → ℕ → Tree
closed n (of_tag t) f m = inside n t f m
closed n (of_yes e) f m = choice n e f m
closed n (of_no e y k) f m = choice_else n e y k f m
closed n (of_loop p e) f m = loop n p e f m
closed n (of_clause e g es k p) f m = cases n e g (branches_from es k p f) m

-- the sign that closes it
abbrev pub end_sign : Kind → Sign
end_sign (of_tag t) = closes t.name
end_sign (of_yes e) = ends
end_sign (of_no e y k) = ends
end_sign (of_loop p e) = ends
end_sign (of_clause e g es k p) = ends

branches_signs : (es : List Earlier) (k : ℕ) (p : Pattern) (f : Forest) → branch_signs (branches_from es k p f) ≡ earlier_signs es ++ sign_at k (clause_head p) ∷ forest_signs f
branches_signs [] k p f = refl
branches_signs (x ∷ xs) k p f =
    ap (λ l. sign_at x.at (clause_head x.pattern) ∷ (forest_signs x.body ++ l)) (branches_signs xs k p f)
    ∙ ap (λ l. sign_at x.at (clause_head x.pattern) ∷ l) (sym (append_assoc (forest_signs x.body) (earlier_signs xs) (sign_at k (clause_head p) ∷ forest_signs f)))

closed_signs : (n : ℕ) (k : Kind) (f : Forest) (m : ℕ) → tree_signs (closed n k f m) ≡ head_signs n k ++ (forest_signs f ++ sign_at m (end_sign k) ∷ [])
closed_signs n (of_tag t) f m = refl
closed_signs n (of_yes e) f m = refl
closed_signs n (of_no e y k) f m = simp append_assoc
closed_signs n (of_loop p e) f m = refl
closed_signs n (of_clause e g es k p) f m =
    ap (λ l. sign_at n (block (case_block e)) ∷ (gap_signs g ++ (l ++ sign_at m ends ∷ []))) (branches_signs es k p f) ∙ simp append_assoc

branches_fit : (d : ℕ) (es : List Earlier) (k : ℕ) (p : Pattern) (f : Forest) → FineEarlier d es → Fits d f → BranchesLawful (branches_from es k p f) × (branches_height (branches_from es k p f) + d ≤ 128)
branches_fit d [] k p f h i = i
branches_fit d (x ∷ xs) k p f h i =
    let r = branches_fit d xs k p f h.1 i in
    ((h.0.0, r.0), higher (forest_height x.body) (branches_height (branches_from xs k p f)) d h.0.1 r.1)

-- one level further out
outward : (h d : ℕ) → h + (d + 1) ≤ 128 → (h + 1) + d ≤ 128
outward h d k = omega (arith, k)

closed_fits : (d n : ℕ) (k : Kind) (f : Forest) (m : ℕ) → FineKind (d + 1) k → Fits (d + 1) f → FitsTree d (closed n k f m)
closed_fits d n (of_tag t) f m h i = ((h, i.0), outward (forest_height f) d i.1)
closed_fits d n (of_yes e) f m h i = (i.0, outward (forest_height f) d i.1)
closed_fits d n (of_no e y k) f m h i = ((h.0, i.0), outward (max (forest_height y) (forest_height f)) d (higher (forest_height y) (forest_height f) (d + 1) h.1 i.1))
closed_fits d n (of_loop p e) f m h i = (i.0, outward (forest_height f) d i.1)
closed_fits d n (of_clause e g es k p) f m h i =
    let r = branches_fit (d + 1) es k p f h.1 i in
    ((h.0, r.0), outward (branches_height (branches_from es k p f)) d r.1)

-- The forest behind the innermost end.
abbrev pub ended : Piece → Forest → ℕ → Forest
ended p f m = add_tree p.before (closed p.at p.kind f m)

pub fine_ended : (p : Piece) (ps : List Piece) (f : Forest) (m : ℕ) → FineShape (inner f (p ∷ ps)) → FineShape (inner (ended p f m) ps)
fine_ended p ps f m h =
    let i : Fits (length ps + 1) f = (h.0.0, omega (arith, h.0.1)) in
    (added_fits (length ps) p.before (closed p.at p.kind f m) h.1.0 (closed_fits (length ps) p.at p.kind f m h.1.1 i), h.1.2)

pub told_ended : (p : Piece) (ps : List Piece) (f : Forest) (m : ℕ) → told (inner (ended p f m) ps) ≡ told (inner f (p ∷ ps)) ++ sign_at m (end_sign p.kind) ∷ []
told_ended p ps f m =
    ap (λ l. told_pieces ps ++ l) (added_signs p.before (closed p.at p.kind f m) ∙ ap (λ l. forest_signs p.before ++ l) (closed_signs p.at p.kind f m))
    ∙ simp append_assoc

pub clauses_more : (place : ℕ → Location) (es : List Earlier) (k : ℕ) (p : Pattern) (f : Forest)
    → branch_clauses place (branches_from es k p f) ≡ clauses_of (clauses_seen place es ++ (p, block_nodes place f) ∷ [])
clauses_more place [] k p f = refl
clauses_more place (x ∷ xs) k p f = ap (clause x.pattern (block_nodes place x.body)) (clauses_more place xs k p f)

-- What begins with more signs begins with fewer.
sooner : (ps : List Placed) (q : Placed) → Begins (ps ++ q ∷ []) → Begins ps
sooner ps q b =
    let r = b.2 in
    (q ∷ b.0, b.1, record { lawful = r.lawful; shallow = r.shallow; same = r.same ∙ append_assoc ps (q ∷ []) b.0 })

inner_begins : (ps : List Piece) (f : Forest) → FineShape (inner f ps) → Begins (told (inner f ps))
inner_begins [] f h = ([], f, record { lawful = h.0.0; shallow = omega (arith, h.0.1); same = sym (append-nil (forest_signs f)) })
inner_begins (p ∷ ps) f h =
    sooner (told (inner f (p ∷ ps))) (sign_at 0 (end_sign p.kind))
    (subst Begins (told_ended p ps f 0) (inner_begins ps (ended p f 0) (fine_ended p ps f 0 h)))

-- Whatever the reader holds begins a template.
pub viable : (s : Shape) → FineShape s → Begins (told s)
viable (inner f ps) h = inner_begins ps f h
viable (awaiting b n e g ps) h =
    let p = piece b n (of_clause e g [] 0 any) in
    let i : FineShape (inner no_trees (p ∷ ps)) = ((tt, omega (arith, h.2)), (h.0, (h.1, tt), h.3)) in
    let t : told (inner no_trees (p ∷ ps)) ≡ told (awaiting b n e g ps) ++ sign_at 0 (clause_head any) ∷ [] = simp (append_assoc, append-nil) in
    sooner (told (awaiting b n e g ps)) (sign_at 0 (clause_head any)) (subst Begins t (inner_begins (p ∷ ps) no_trees i))
