-- Whether everything in a list is compiled, item by item.
use Rattle.std.proofs.Common.{◌≡◌, ℕ, ◌+◌, ◌<◌, ◌≤◌, List, [], ◌∷◌, length, get_or, drop, Bool, true, false, ◌&&◌, Result, Ok, Err, refl, ap, ◌∙◌}
use Rattle.std.proofs.lemmas.List.{drop_all}
use Rattle.text_core.proofs.Keyed.{cons_at}
use Rattle.slot_compile.specs.declared.flattening.CompileFault.{CompileFault}
use Rattle.slot_compile.specs.declared.flattening.CompileFault.TheVariants.{NotYet, OutOfMemory}
use Rattle.slot_compile.specs.Gathering.{Judges}

at_item : {X : Type 0} (one : X → Bool) (all : List X → Bool) → ((x : X) (xs : List X) → all (x ∷ xs) ≡ (one x && all xs)) → (s : List X) (i : ℕ) (x : X) → i < length s → x ≡ get_or s i x
    → all (drop i s) ≡ (one x && all (drop (i + 1) s))
at_item one all by_cons s i x within is = ap all (cons_at s i x within is) ∙ by_cons x (drop (i + 1) s)

pub plain_next : {X : Type 0} (one : X → Bool) (all : List X → Bool) → ((x : X) (xs : List X) → all (x ∷ xs) ≡ (one x && all xs)) → (s : List X) (i : ℕ) (x : X) → i < length s → x ≡ get_or s i x
    → one x ≡ true → all s ≡ all (drop i s) → all s ≡ all (drop (i + 1) s)
plain_next one all by_cons s i x within is plain inv =
    inv ∙ at_item one all by_cons s i x within is ∙ ap (λ b. b && all (drop (i + 1) s)) plain

pub plain_not : {X : Type 0} (one : X → Bool) (all : List X → Bool) → ((x : X) (xs : List X) → all (x ∷ xs) ≡ (one x && all xs)) → (s : List X) (i : ℕ) (x : X) → i < length s → x ≡ get_or s i x
    → all s ≡ all (drop i s) → one x ≡ false → all s ≡ false
plain_not one all by_cons s i x within is inv plain =
    inv ∙ at_item one all by_cons s i x within is ∙ ap (λ b. b && all (drop (i + 1) s)) plain

pub plain_end : {X : Type 0} (all : List X → Bool) → all [] ≡ true → (s : List X) (i : ℕ) → length s ≤ i → all s ≡ all (drop i s) → all s ≡ true
plain_end all none s i h inv = inv ∙ ap all (drop_all i s h) ∙ none

-- what is judged of something inside is judged of what is around it
pub judged_around : {T : Type 0} (r : Result T CompileFault) (a b : Bool) → (a ≡ true → b ≡ true) → (a ≡ false → b ≡ false) → Judges r a → Judges r b
judged_around (Ok t) a b good bad h = good h
judged_around (Err NotYet) a b good bad h = bad h
judged_around (Err OutOfMemory) a b good bad h = tt

pub judged_as : {T : Type 0} (r : Result T CompileFault) (a b : Bool) → b ≡ a → Judges r a → Judges r b
judged_as r a b is = judged_around r a b (λ h. is ∙ h) (λ h. is ∙ h)

pub both_plain : (a b : Bool) → a ≡ true → b ≡ true → (a && b) ≡ true
both_plain a b h g = ap (λ c. c && b) h ∙ g

pub first_not : (a b : Bool) → a ≡ false → (a && b) ≡ false
first_not a b h = ap (λ c. c && b) h

pub second_not : (a b : Bool) → b ≡ false → (a && b) ≡ false
second_not true b h = h
second_not false b h = refl
