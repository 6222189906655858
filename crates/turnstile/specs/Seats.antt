-- A pass by its number and its seat at the table.
use Rattle.std.specs.Prelude.{◌≡◌, ℕ, Bool, true, false, List, [], ◌∷◌, Option, Some, None}
use Rattle.atomic_table.specs.declared.shared.Seat.{Seat}
use Rattle.turnstile.specs.declared.view.View.{View}
use Rattle.turnstile.specs.declared.view.Stage.{Stage}
use Rattle.turnstile.specs.declared.view.Stage.TheVariants.{Away, Waiting, Inside, Filling}
use Rattle.turnstile.specs.Histories.{IsFirst}
use Rattle.turnstile.specs.Known.{Known}

abbrev pub inside : Stage → Bool
inside Away = false
inside (Waiting t) = true
inside (Inside t) = true
inside Filling = true

-- what it has out of the table
abbrev pub Holds : {K : Type 0} → Stage → List (ℕ × Option K) → Type 0
Holds Away held = held ≡ []
Holds (Waiting t) held = ⊥
Holds (Inside t) held = held ≡ (0, None) ∷ []
Holds Filling held = ⊥

module _ {K E G : Type 0} where
  abbrev pub known_of : ℕ → Seat (Option K) (View E G) → Known E G
  known_of number seat = record { table = seat.table_id; basis = seat.me.0.basis; number = number; seen = seat.me.0.seen; made = seat.me.0.made; passes = seat.me.0.known; is_in = inside seat.me.0.stage }

  -- between two calls a pass is away with nothing, or has the value out and its empty slot
  pub record Sound (lawful : G → List (ℕ × E) → Type 0) (number : ℕ) (seat : Seat (Option K) (View E G)) : Type 0 where
    pub holds : Holds seat.me.0.stage seat.me.1
    pub on : G
    pub its_basis : seat.me.0.basis ≡ Some on
    pub spare : seat.me.0.spare ≡ None
    pub first : IsFirst number seat.me.0.made
    pub lawful_seen : lawful on seat.me.0.seen
