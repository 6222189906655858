-- Stretches of a template, one after the other.
use Rattle.std.proofs.Common.{◌≡◌, ℕ, ◌+◌, ◌<◌, ◌≤◌, List, [], ◌∷◌, ◌++◌, length, get_or, drop, map, Result, OnOk, refl, sym, ap, ◌∙◌, subst, append_assoc, append-nil}
use Rattle.std.proofs.lemmas.List.{drop_all}
use Rattle.text_core.proofs.Keyed.{cons_at}
use Rattle.ast_core.specs.Places.{join_statics}
use Rattle.slot_compile.specs.declared.flattening.Flattening.{Flattening}
use Rattle.slot_compile.specs.Gathering.{Numbered, Stretch, gathered, hole, numbered, stretch, text, then_on}

cons_join : (x s : List ℕ) (a b c : List (List ℕ)) → join_statics (x ∷ join_statics (s ∷ a) b) c ≡ x ∷ join_statics (join_statics (s ∷ a) b) c
cons_join x s [] [] c = refl
cons_join x s [] (t ∷ b) c = refl
cons_join x s (s' ∷ a) b c = refl

pub join_assoc : (a b c : List (List ℕ)) → join_statics (join_statics a b) c ≡ join_statics a (join_statics b c)
join_assoc [] b c = refl
join_assoc (s ∷ []) [] c = refl
join_assoc (s ∷ []) (t ∷ []) [] = refl
join_assoc (s ∷ []) (t ∷ []) (u ∷ c) = ap (λ r. r ∷ c) (append_assoc s t u)
join_assoc (s ∷ []) (t ∷ t' ∷ b) c = refl
join_assoc (s ∷ s' ∷ a) b c = cons_join s s' a b c ∙ ap (λ r. s ∷ r) (join_assoc (s' ∷ a) b c)

pub then_assoc : (a b c : Stretch) → then_on (then_on a b) c ≡ then_on a (then_on b c)
then_assoc a b c =
    ap (λ ss. stretch ss ((a.places ++ b.places) ++ c.places)) (join_assoc a.statics b.statics c.statics)
    ∙ ap (stretch (join_statics a.statics (join_statics b.statics c.statics))) (append_assoc a.places b.places c.places)

cons_last : (y : List ℕ) (ys : List (List ℕ)) (x : List ℕ) (zs : List (List ℕ)) → join_statics (y ∷ (ys ++ x ∷ [])) zs ≡ y ∷ join_statics (ys ++ x ∷ []) zs
cons_last y [] x zs = refl
cons_last y (z ∷ ys) x zs = refl

-- only the last text of a stretch goes on
join_last : (xs : List (List ℕ)) (x : List ℕ) (zs : List (List ℕ)) → join_statics (xs ++ x ∷ []) zs ≡ xs ++ join_statics (x ∷ []) zs
join_last [] x zs = refl
join_last (y ∷ ys) x zs = cons_last y ys x zs ∙ ap (λ r. y ∷ r) (join_last ys x zs)

-- a constant text, a place and nothing, behind what was gathered
pub text_on : (ss : List (List ℕ)) (s t : List ℕ) (ps : List Numbered) → stretch (ss ++ (s ++ t) ∷ []) ps ≡ then_on (stretch (ss ++ s ∷ []) ps) (text t)
text_on ss s t ps = ap (λ r. stretch r ps) (sym (join_last ss s (t ∷ []))) ∙ ap (stretch (join_statics (ss ++ s ∷ []) (t ∷ []))) (sym (append-nil ps))

pub hole_on : (ss : List (List ℕ)) (s : List ℕ) (ps : List Numbered) (p : Numbered) → stretch ((ss ++ s ∷ []) ++ [] ∷ []) (ps ++ p ∷ []) ≡ then_on (stretch (ss ++ s ∷ []) ps) (hole p)
hole_on ss s ps p =
    ap (λ r. stretch r (ps ++ p ∷ []))
    (append_assoc ss (s ∷ []) ([] ∷ []) ∙ ap (λ r. ss ++ r ∷ [] ∷ []) (sym (append-nil s)) ∙ sym (join_last ss s ([] ∷ [] ∷ [])))

none_on : (ss : List (List ℕ)) (s : List ℕ) (ps : List Numbered) → then_on (stretch (ss ++ s ∷ []) ps) (text []) ≡ stretch (ss ++ s ∷ []) ps
none_on ss s ps = sym (text_on ss s [] ps) ∙ ap (λ r. stretch (ss ++ r ∷ []) ps) (append-nil s)

pub nothing_on : (f : Flattening) → gathered f ≡ then_on (gathered f) (text [])
nothing_on f = sym (none_on f.statics f.last (map numbered f.dynamics))

-- two steps, one after the other
pub both_on : (a b g h k : Stretch) → h ≡ then_on g a → k ≡ then_on h b → k ≡ then_on g (then_on a b)
both_on a b g h k first second = second ∙ ap (λ z. then_on z b) first ∙ then_assoc g a b

pub last_on : {T E : Type 0} (r : Result T E) (a b s g h k : Stretch) → h ≡ then_on g a → then_on a b ≡ s → OnOk r (k ≡ then_on h b) → OnOk r (k ≡ then_on g s)
last_on r a b s g h k first is = subst (λ (z : Stretch). OnOk r (k ≡ z)) (ap (λ z. then_on z b) first ∙ then_assoc g a b ∙ ap (then_on g) is)

-- one more item of a list, and the end of the list
pub next_on : {X : Type 0} (one : X → Stretch) (all : List X → Stretch) → ((x : X) (xs : List X) → all (x ∷ xs) ≡ then_on (one x) (all xs))
    → (s : List X) (i : ℕ) (x : X) (g h z : Stretch) → i < length s → x ≡ get_or s i x → h ≡ then_on g (one x)
    → then_on g (all (drop i s)) ≡ z → then_on h (all (drop (i + 1) s)) ≡ z
next_on one all by_cons s i x g h z within is step inv =
    ap (λ u. then_on u (all (drop (i + 1) s))) step ∙ then_assoc g (one x) (all (drop (i + 1) s))
    ∙ ap (then_on g) (sym (by_cons x (drop (i + 1) s)) ∙ ap all (sym (cons_at s i x within is))) ∙ inv

pub end_on : {X : Type 0} (all : List X → Stretch) → all [] ≡ text [] → (s : List X) (i : ℕ) (f : Flattening) (z : Stretch) → length s ≤ i
    → then_on (gathered f) (all (drop i s)) ≡ z → gathered f ≡ z
end_on all nothing s i f z h inv = nothing_on f ∙ ap (then_on (gathered f)) (sym nothing ∙ ap all (sym (drop_all i s h))) ∙ inv
