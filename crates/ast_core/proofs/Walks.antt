-- What a walk meets in lists, and in the scope of variables.
use Rattle.std.proofs.Common.{◌≡◌, ℕ, ◌+◌, ◌<◌, ◌≤◌, List, [], ◌∷◌, ◌++◌, length, get_or, take, drop, Bool, true, false, if◌then◌else◌, refl, sym, ap, ◌∙◌, arith, append_assoc, append-nil, length-append, Result, OnOk, subst}
use Rattle.std.proofs.lemmas.List.{drop_all}
use Rattle.std.specs.Str.{bytes_eq}
use Rattle.text_core.proofs.Keyed.{cons_at}
use Rattle.ast_core.specs.declared.walk.Walk.{Walk}
use Rattle.ast_core.specs.Syntax.{Name, at, var}
use Rattle.ast_core.specs.Free.{one_of, without}
use Rattle.ast_core.specs.Reads.{with_name}
use Rattle.ast_core.specs.NamesIn.{all_names, all_bound}
use Rattle.ast_core.specs.Walk.{meet, met, inside, outside}

pub met-append : (xs ys : List Name) (w : Walk) → met (xs ++ ys) w ≡ met ys (met xs w)
met-append [] ys w = refl
met-append (x ∷ xs) ys w = met-append xs ys (meet x w)

-- what a call met, as the names are seen above it
pub met_as : {T E : Type 0} (r : Result T E) (xs ys : List Name) (u v : Walk) → ys ≡ xs → OnOk r (v ≡ met xs u) → OnOk r (v ≡ met ys u)
met_as r xs ys u v e h = subst (λ (ns : List Name). OnOk r (v ≡ met ns u)) (sym e) h

-- and what two calls met, one after the other
pub met_then : {T E : Type 0} (r : Result T E) (xs ys ns : List Name) (u v w : Walk) → ns ≡ xs ++ ys → v ≡ met xs u → OnOk r (w ≡ met ys v) → OnOk r (w ≡ met ns u)
met_then r xs ys ns u v w e first h =
    subst (λ (ks : List Name). OnOk r (w ≡ met ks u)) (sym e)
    (subst (λ (z : Walk). OnOk r (w ≡ z)) (ap (met ys) first ∙ sym (met-append xs ys u)) h)

pub met_both : (xs ys : List Name) (u v w : Walk) → v ≡ met xs u → w ≡ met ys v → w ≡ met (xs ++ ys) u
met_both xs ys u v w first second = second ∙ ap (met ys) first ∙ sym (met-append xs ys u)

-- one more item of a list, and the end of the list
pub met_next : {X : Type 0} (f : X → List Name) (s : List X) (i : ℕ) (x : X) (w w' z : Walk) → i < length s → x ≡ get_or s i x → w' ≡ met (f x) w
    → met (all_names f (drop i s)) w ≡ z → met (all_names f (drop (i + 1) s)) w' ≡ z
met_next f s i x w w' z h is step inv =
    ap (met (all_names f (drop (i + 1) s))) step
    ∙ sym (met-append (f x) (all_names f (drop (i + 1) s)) w)
    ∙ ap (λ l. met (all_names f l) w) (sym (cons_at s i x h is)) ∙ inv

pub met_end : {X : Type 0} (f : X → List Name) (s : List X) (i : ℕ) (w z : Walk) → length s ≤ i → met (all_names f (drop i s)) w ≡ z → w ≡ z
met_end f s i w z h inv = ap (λ l. met (all_names f l) w) (sym (drop_all i s h)) ∙ inv

pub inside-append : (xs ys : List (List ℕ)) (w : Walk) → inside (xs ++ ys) w ≡ inside ys (inside xs w)
inside-append xs ys w = ap (λ (b : List (List ℕ)). record w { bound = b }) (sym (append_assoc w.bound xs ys))

pub inside_none : (w : Walk) → inside [] w ≡ w
inside_none w = ap (λ (b : List (List ℕ)). record w { bound = b }) (append-nil w.bound)

pub inside_next : {X : Type 0} (f : X → List (List ℕ)) (s : List X) (i : ℕ) (x : X) (w w' z : Walk) → i < length s → x ≡ get_or s i x → w' ≡ inside (f x) w
    → inside (all_bound f (drop i s)) w ≡ z → inside (all_bound f (drop (i + 1) s)) w' ≡ z
inside_next f s i x w w' z h is step inv =
    ap (inside (all_bound f (drop (i + 1) s))) step
    ∙ sym (inside-append (f x) (all_bound f (drop (i + 1) s)) w)
    ∙ ap (λ l. inside (all_bound f l) w) (sym (cons_at s i x h is)) ∙ inv

pub inside_end : {X : Type 0} (f : X → List (List ℕ)) (s : List X) (i : ℕ) (w z : Walk) → length s ≤ i → inside (all_bound f (drop i s)) w ≡ z → w ≡ z
inside_end f s i w z h inv = sym (inside_none w) ∙ ap (λ l. inside (all_bound f l) w) (sym (drop_all i s h)) ∙ inv

-- a name among two lists of variables
first_has : (k : List ℕ) (xs ys : List (List ℕ)) → one_of k xs ≡ true → one_of k (xs ++ ys) ≡ true
first_has k [] ys h = cc
first_has k (x ∷ xs) ys h = by (bytes_eq k x) h (first_has k xs ys)
  where
    by : (b : Bool) → (if b then true else one_of k xs) ≡ true → (one_of k xs ≡ true → one_of k (xs ++ ys) ≡ true) → (if b then true else one_of k (xs ++ ys)) ≡ true
    by true g rest = refl
    by false g rest = rest g

first_has_not : (k : List ℕ) (xs ys : List (List ℕ)) → one_of k xs ≡ false → one_of k (xs ++ ys) ≡ one_of k ys
first_has_not k [] ys h = refl
first_has_not k (x ∷ xs) ys h = by (bytes_eq k x) h (first_has_not k xs ys)
  where
    by : (b : Bool) → (if b then true else one_of k xs) ≡ false → (one_of k xs ≡ false → one_of k (xs ++ ys) ≡ one_of k ys) → (if b then true else one_of k (xs ++ ys)) ≡ one_of k ys
    by true g rest = cc
    by false g rest = rest g

taken : (xs ys : List (List ℕ)) → take (length xs) (xs ++ ys) ≡ xs
taken [] ys = refl
taken (x ∷ xs) ys = ap (λ l. x ∷ l) (taken xs ys)

meet_bound : (v : List ℕ) (w : Walk) → one_of v w.bound ≡ true → meet (var v) w ≡ w
meet_bound v w h = rw h refl

meet_free : (v : List ℕ) (w : Walk) → one_of v w.bound ≡ false → meet (var v) w ≡ record w { variables = with_name v w.variables }
meet_free v w h = rw h refl

-- a walk that leaves the scope of variables has met the names but these variables
pub scope : (xs : List (List ℕ)) (ns : List Name) (w : Walk) → outside (length w.bound) (met ns (inside xs w)) ≡ met (without xs ns) w
scope xs [] w = ap (λ (b : List (List ℕ)). record w { bound = b }) (taken w.bound xs)
scope xs (at a ∷ ns) w = scope xs ns (meet (at a) w)
scope xs (var v ∷ ns) w = by (one_of v w.bound) (one_of v xs) refl refl (λ u. scope xs ns u)
  where
    by : (p q : Bool) → one_of v w.bound ≡ p → one_of v xs ≡ q
        → ((u : Walk) → outside (length u.bound) (met ns (inside xs u)) ≡ met (without xs ns) u)
        → outside (length w.bound) (met ns (if one_of v (w.bound ++ xs) then inside xs w else inside xs (record w { variables = with_name v w.variables })))
        ≡ met (if one_of v xs then without xs ns else var v ∷ without xs ns) w
    by true true h k rest = rw (first_has v w.bound xs h, k) (rest w)
    by true false h k rest = rw (first_has v w.bound xs h, k) (rest w ∙ ap (met (without xs ns)) (sym (meet_bound v w h)))
    by false true h k rest = rw (first_has_not v w.bound xs h, k) (rest w)
    by false false h k rest =
        rw (first_has_not v w.bound xs h, k) (rest (record w { variables = with_name v w.variables }) ∙ ap (met (without xs ns)) (sym (meet_free v w h)))

stays : (ns : List Name) (w : Walk) → (met ns w).bound ≡ w.bound
stays [] w = refl
stays (at a ∷ ns) w = stays ns (meet (at a) w)
stays (var v ∷ ns) w = by (one_of v w.bound) (λ u. stays ns u)
  where
    by : (b : Bool) → ((u : Walk) → (met ns u).bound ≡ u.bound) → (met ns (if b then w else record w { variables = with_name v w.variables })).bound ≡ w.bound
    by true rest = rest w
    by false rest = rest (record w { variables = with_name v w.variables })

-- the variables of the scope outside are the first
pub still_there : (xs : List (List ℕ)) (ns : List Name) (n : ℕ) (w v u : Walk) → n ≡ length w.bound → v ≡ inside xs w → u ≡ met ns v → n ≤ length u.bound
still_there xs ns n w v u count into through =
    let same : u.bound ≡ w.bound ++ xs = ap (λ (z : Walk). z.bound) through ∙ stays ns v ∙ ap (λ (z : Walk). z.bound) into in
    rw same (omega (arith, length-append w.bound xs))

pub left_scope : (xs : List (List ℕ)) (ns : List Name) (n : ℕ) (w v u z : Walk) → n ≡ length w.bound → v ≡ inside xs w → u ≡ met ns v → z ≡ outside n u → z ≡ met (without xs ns) w
left_scope xs ns n w v u z count into through out =
    out ∙ ap (λ m. outside m u) count ∙ ap (outside (length w.bound)) (through ∙ ap (met ns) into) ∙ scope xs ns w
