-- What a post adds.
use Rattle.std.specs.Prelude.{◌≡◌, ℕ, [], ◌∷◌, Some, slice_get}
use Rattle.turnstile.specs.Known.{Known}
use Rattle.turnstile.specs.Histories.{add_made}

-- the entry stands at the place, under the pass's number, and is the last that the pass made
pub record AddsEntry {E G : Type 0} (p : Known E G) (e : E) (q : Known E G) (place : ℕ) : Type 0 where
  pub stands : slice_get q.seen place ≡ Some (p.number, e)
  pub made : q.made ≡ add_made (e ∷ []) p.made
