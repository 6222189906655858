-- Places that have their bodies by numbers, filled again: they are the places of the template.
use Rattle.std.proofs.Common.{◌≡◌, ℕ, ◌+◌, List, [], ◌∷◌, ◌++◌, map, length, refl, sym, ap, ◌∙◌, subst}
use Rattle.ast_core.specs.ExprView.{expr_view}
use Rattle.ast_core.specs.Free.{free_place}
use Rattle.ast_core.specs.Reads.{assigns_in, variables_in}
use Rattle.ast_core.specs.Syntax.{Pattern, Place, put, attribute, spread, if_place, case_place, for_place, call, render_slot, live_call, stream_place, Nodes, no_nodes, node, Clauses, no_clauses, clause}
use Rattle.slot_compile.specs.declared.compiled.Branch.{Branch}
use Rattle.slot_compile.specs.declared.compiled.Dynamic.{Dynamic}
use Rattle.slot_compile.specs.declared.compiled.Dynamic.TheVariants.{Put, Attribute, Spread, If, Case, For}
use Rattle.slot_compile.specs.Gathering.{Numbered, alone, branch_of, case_numbers, for_number, if_numbers, numbered}
use Rattle.slot_compile.specs.Numbering.{AllReadRight, ElseStands, HasContent, ReadsRight, bodies_at, bodies_in, clause_bodies, clauses_in, else_bodies, else_in, node_at, place_in}
use Rattle.slot_compile.specs.Stretches.{clauses_at, else_at, numbered_at, numbered_from}
use Rattle.slot_compile.proofs.Standing.{Stands, stands_left, stands_right}

abbrev clauses_with : Nodes → List (Pattern × ℕ) → Clauses
clauses_with s [] = no_clauses
clauses_with s (c ∷ cs) = clause c.0 (node_at s c.1) (clauses_with s cs)

abbrev filled : Nodes → Numbered → Place
filled s (alone p) = p
filled s (if_numbers t a b) = if_place t (node_at s a) (else_in s b)
filled s (case_numbers e cs) = case_place e (clauses_with s cs)
filled s (for_number p e r k) = for_place p e (node_at s k)

clauses_are : (s : Nodes) (bs : List Branch) → clauses_in s bs ≡ clauses_with s (map branch_of bs)
clauses_are s [] = refl
clauses_are s (b ∷ bs) = ap (clause (branch_of b).0 (node_at s b.body)) (clauses_are s bs)

place_is : (s : Nodes) (d : Dynamic) → place_in s d ≡ filled s (numbered d)
place_is s (Put e) = refl
place_is s (Attribute n e) = refl
place_is s (Spread e) = refl
place_is s (If t a b) = refl
place_is s (Case e bs) = ap (case_place (expr_view e)) (clauses_are s bs)
place_is s (For l p r k) = refl

places_are : (s : Nodes) (ds : List Dynamic) → map (place_in s) ds ≡ map (filled s) (map numbered ds)
places_are s [] = refl
places_are s (d ∷ ds) = ap (λ p. p ∷ map (place_in s) ds) (place_is s d) ∙ ap (λ ps. filled s (numbered d) ∷ ps) (places_are s ds)

else_filled : (s : Nodes) (k : ℕ) (b : Nodes) → Stands s k (else_bodies b) → else_in s (else_at k b) ≡ b
else_filled s k no_nodes h = refl
else_filled s k (node n ns) h = h.0

clauses_filled : (s : Nodes) (k : ℕ) (cs : Clauses) → Stands s k (clause_bodies cs) → clauses_with s (clauses_at k cs) ≡ cs
clauses_filled s k no_clauses h = refl
clauses_filled s k (clause p ns cs) h =
    ap (λ b. clause p b (clauses_with s (clauses_at (k + length (ns ∷ bodies_in ns)) cs))) h.0
    ∙ ap (clause p ns) (clauses_filled s (k + length (ns ∷ bodies_in ns)) cs (stands_right s k (ns ∷ bodies_in ns) (clause_bodies cs) h))

place_filled : (s : Nodes) (k : ℕ) (p : Place) → Stands s k (bodies_at p) → filled s (numbered_at k p) ≡ p
place_filled s k (put e) h = refl
place_filled s k (attribute n e) h = refl
place_filled s k (spread e) h = refl
place_filled s k (if_place t a b) h =
    ap (λ ns. if_place t ns (else_in s (else_at (k + length (a ∷ bodies_in a)) b))) h.0
    ∙ ap (if_place t a) (else_filled s (k + length (a ∷ bodies_in a)) b (stands_right s k (a ∷ bodies_in a) (else_bodies b) h))
place_filled s k (case_place e cs) h = ap (case_place e) (clauses_filled s k cs h)
place_filled s k (for_place p e ns) h = ap (for_place p e) h.0
place_filled s k (call t xs b es) h = refl
place_filled s k (render_slot e a) h = refl
place_filled s k (live_call xs b es) h = refl
place_filled s k (stream_place st x p ns) h = refl

-- the bodies inside places
abbrev pub inside_places : List Place → List Nodes
inside_places [] = []
inside_places (p ∷ ps) = bodies_at p ++ inside_places ps

pub places_filled : (s : Nodes) (k : ℕ) (ps : List Place) (ds : List Dynamic) → map numbered ds ≡ numbered_from k ps → Stands s k (inside_places ps) → map (place_in s) ds ≡ ps
places_filled s k ps ds is h = places_are s ds ∙ ap (map (filled s)) is ∙ all k ps h
  where
    all : (k : ℕ) (ps : List Place) → Stands s k (inside_places ps) → map (filled s) (numbered_from k ps) ≡ ps
    all k [] h = refl
    all k (p ∷ ps) h =
        ap (λ q. q ∷ map (filled s) (numbered_from (k + length (bodies_at p)) ps)) (place_filled s k p (stands_left s k (bodies_at p) (inside_places ps) h))
        ∙ ap (λ qs. p ∷ qs) (all (k + length (bodies_at p)) ps (stands_right s k (bodies_at p) (inside_places ps) h))

-- what loops read, and that an else has content
abbrev Right : Nodes → Numbered → Type 0
Right s (if_numbers t a b) = ElseStands s b
Right s (for_number p e r k) = (r.assigns ≡ assigns_in (free_place (for_place p e (node_at s k)))) × (r.variables ≡ variables_in (free_place (for_place p e (node_at s k))))
Right s _ = Unit {0}

abbrev AllRight : Nodes → List Numbered → Type 0
AllRight s [] = Unit {0}
AllRight s (n ∷ ns) = Right s n × AllRight s ns

else_right : (s : Nodes) (k : ℕ) (b : Nodes) → Stands s k (else_bodies b) → ElseStands s (else_at k b)
else_right s k no_nodes h = tt
else_right s k (node n ns) h = subst HasContent (sym h.0) tt

right_at : (s : Nodes) (k : ℕ) (p : Place) → Stands s k (bodies_at p) → Right s (numbered_at k p)
right_at s k (put e) h = tt
right_at s k (attribute n e) h = tt
right_at s k (spread e) h = tt
right_at s k (if_place t a b) h = else_right s (k + length (a ∷ bodies_in a)) b (stands_right s k (a ∷ bodies_in a) (else_bodies b) h)
right_at s k (case_place e cs) h = tt
right_at s k (for_place p e ns) h =
    (ap (λ b. assigns_in (free_place (for_place p e b))) (sym h.0), ap (λ b. variables_in (free_place (for_place p e b))) (sym h.0))
right_at s k (call t xs b es) h = tt
right_at s k (render_slot e a) h = tt
right_at s k (live_call xs b es) h = tt
right_at s k (stream_place st x p ns) h = tt

all_right : (s : Nodes) (k : ℕ) (ps : List Place) → Stands s k (inside_places ps) → AllRight s (numbered_from k ps)
all_right s k [] h = tt
all_right s k (p ∷ ps) h = (
  right_at s k p (stands_left s k (bodies_at p) (inside_places ps) h),
  all_right s (k + length (bodies_at p)) ps (stands_right s k (bodies_at p) (inside_places ps) h),
)

reads_right : (s : Nodes) (d : Dynamic) → Right s (numbered d) → ReadsRight s d
reads_right s (Put e) h = tt
reads_right s (Attribute n e) h = tt
reads_right s (Spread e) h = tt
reads_right s (If t a b) h = h
reads_right s (Case e bs) h = tt
reads_right s (For l p r k) h = h

all_reads : (s : Nodes) (ds : List Dynamic) → AllRight s (map numbered ds) → AllReadRight s ds
all_reads s [] h = tt
all_reads s (d ∷ ds) h = (reads_right s d h.0, all_reads s ds h.1)

pub places_read : (s : Nodes) (k : ℕ) (ps : List Place) (ds : List Dynamic) → map numbered ds ≡ numbered_from k ps → Stands s k (inside_places ps) → AllReadRight s ds
places_read s k ps ds is h = all_reads s ds (subst (AllRight s) (sym is) (all_right s k ps h))
