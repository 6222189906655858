-- Where nothing was written.
use Rattle.std.proofs.Common.{◌≡◌, refl, ℕ, List, [], ◌∷◌, ◌++◌, Option, Some, None, ap, sym}
use Rattle.replay_core.specs.Ends.{AddsFront}

append_none : (xs : List ℕ) → xs ++ [] ≡ xs
append_none [] = refl
append_none (x ∷ xs) = ap (λ ys. x ∷ ys) (append_none xs)

-- nothing is a front of every text
pub nothing_front : (before : Option (List ℕ)) (text : List ℕ) → AddsFront before before text
nothing_front None text = tt
nothing_front (Some b) text = (0, ap Some (sym (append_none b)))
