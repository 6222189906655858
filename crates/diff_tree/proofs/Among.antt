-- Numbers among others.
use Rattle.std.proofs.Common.{◌≡◌, ℕ, List, [], ◌∷◌, ◌++◌, Bool, true, false, ◌&&◌, ◌==◌, if◌then◌else◌, refl, sym, ap, true≢false}
use Rattle.std.proofs.lemmas.Bool.Decides.{Decides-eqb}
use Rattle.diff_tree.specs.Client.{among}

pub both_true : (a b : Bool) → (a && b) ≡ true → (a ≡ true) × (b ≡ true)
both_true true b h = (refl, h)
both_true false b h = absurd (true≢false (sym h))

pub among_itself : (n : ℕ) (ns : List ℕ) → among n (n ∷ ns) ≡ true
among_itself n ns = ap (λ b. if b then true else among n ns) ((Decides-eqb n n).1 refl)

pub among_left : (n : ℕ) (a b : List ℕ) → among n a ≡ true → among n (a ++ b) ≡ true
among_left n [] b h = absurd (true≢false (sym h))
among_left n (m ∷ a) b h = by_test (n == m) h (among_left n a b)
  where
    by_test : (c : Bool) → (if c then true else among n a) ≡ true → (among n a ≡ true → among n (a ++ b) ≡ true) → (if c then true else among n (a ++ b)) ≡ true
    by_test true k r = refl
    by_test false k r = r k

pub among_right : (n : ℕ) (a b : List ℕ) → among n b ≡ true → among n (a ++ b) ≡ true
among_right n [] b h = h
among_right n (m ∷ a) b h = by_test (n == m) (among_right n a b h)
  where
    by_test : (c : Bool) → among n (a ++ b) ≡ true → (if c then true else among n (a ++ b)) ≡ true
    by_test true k = refl
    by_test false k = k

-- what is among the rest is among all
pub among_later : (n m : ℕ) (ns : List ℕ) → among n ns ≡ true → among n (m ∷ ns) ≡ true
among_later n m ns h = by_test (n == m)
  where
    by_test : (c : Bool) → (if c then true else among n ns) ≡ true
    by_test true = refl
    by_test false = h
