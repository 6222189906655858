-- What each step on a turnstile's table tells.
use Rattle.std.specs.Prelude.{◌≡◌, ℕ, ◌+◌, ◌%◌, ◌<◌, ◌≤◌, eqb, List, [], ◌∷◌, ◌++◌, max, min, Option, Some, None, MatchBool}
use Rattle.atomic_table.specs.Table.{Me, Step}
use Rattle.turnstile.specs.declared.view.View.{View}
use Rattle.turnstile.specs.declared.view.Stage.{Stage}
use Rattle.turnstile.specs.declared.view.Stage.TheVariants.{Away, Waiting, Inside}
use Rattle.turnstile.specs.Histories.{most_passes, StartsWith, longer, entries_by, news, Made, add_made}
use Rattle.turnstile.specs.Rules.{turn}

-- what a pass with this number has made at first
abbrev pub alone : {E : Type 0} → Option ℕ → List (ℕ × List E)
alone (Some n) = (n, []) ∷ []
alone None = []

module _ {E G : Type 0} where
  -- the pass at another stage
  abbrev pub staged : Stage → View E G → View E G
  staged stage v = record { stage = stage; basis = v.basis; seen = v.seen; made = v.made; spare = v.spare; known = v.known }

  -- it has the value, and has seen its journal
  abbrev pub entered : ℕ → List (ℕ × E) → View E G → View E G
  entered t found v = record { stage = Inside t; basis = v.basis; seen = found; made = v.made; spare = v.spare; known = v.known }

  -- it is away, has seen the journal that it left, and has made what is new there
  abbrev pub left_with : List (ℕ × E) → View E G → View E G
  left_with log v = record { stage = Away; basis = v.basis; seen = log; made = add_made (news v.seen log) v.made; spare = v.spare; known = v.known }

  -- it has seen so many passes made, and has this number for a new one
  abbrev pub knows : ℕ → Option ℕ → View E G → View E G
  knows n spare v = record { stage = v.stage; basis = v.basis; seen = v.seen; made = v.made; spare = spare; known = n }

  -- a pass after a split, and the new one
  abbrev pub kept_half : View E G → View E G
  kept_half v = knows v.known None v

  abbrev pub new_half : View E G → View E G
  new_half v = record { stage = Away; basis = v.basis; seen = v.seen; made = alone v.spare; spare = None; known = v.known }

  -- a pass that took in another, and that other
  abbrev pub joined : View E G → View E G → View E G
  joined v w = record { stage = v.stage; basis = v.basis; seen = longer v.seen w.seen; made = v.made ++ w.made; spare = v.spare; known = max v.known w.known }

  abbrev pub spent : View E G
  spent = record { stage = Away; basis = None; seen = []; made = []; spare = None; known = 0 }

-- what a seat knows and holds
abbrev pub Sat : Type 0 → Type 0 → Type 0 → Type 0
Sat K E G = Me (Option K) (View E G)

module _ {K E G : Type 0} where
  -- the ticket is the seat's
  abbrev pub DrawsTicket : Step (Option K) → Sat K E G → ℕ → Sat K E G → Type 0
  DrawsTicket st m r m' = (t : ℕ) × (r ≡ t % turn) × (m' ≡ (staged (Waiting t) m.0, m.1))

  -- the slot goes out with the seat that is to bring the first value
  abbrev pub BringsFirst : Step (Option K) → Sat K E G → ℕ → Sat K E G → Type 0
  BringsFirst st m r m' = m' ≡ (staged (Inside 0) m.0, (0, None) ∷ m.1)

  -- the count is no lower than the seat knew, and it knows the count now
  abbrev pub ChecksPassCount : Step (Option K) → Sat K E G → ℕ → Sat K E G → Type 0
  ChecksPassCount st m r m' = (m' ≡ (knows (min r most_passes) m.0.spare m.0, m.1)) × (m.0.known ≤ r)

  -- below the limit the number is the seat's, for a new pass, and no entry that it has seen is under that number; else it knows that all passes were made
  abbrev pub DrawsPassNumber : Step (Option K) → Sat K E G → ℕ → Sat K E G → Type 0
  DrawsPassNumber st m r m' =
      (r < most_passes → (m' ≡ (knows (r + 1) (Some r) m.0, m.1)) × (entries_by r m.0.seen ≡ []) × (m.0.known ≤ r))
      × (most_passes ≤ r → m' ≡ (knows most_passes m.0.spare m.0, m.1))

  -- the value that the seat had is back, and the seat knows its journal
  abbrev pub ServesNext : (K → List (ℕ × E)) → Step (Option K) → Sat K E G → ℕ → Sat K E G → Type 0
  ServesNext journal st m r m' = (k : K) → m.1 ≡ (0, Some k) ∷ [] → m' ≡ (left_with (journal k) m.0, [])

  module _ (journal : K → List (ℕ × E)) (basis : K → G) (lawful : G → List (ℕ × E) → Type 0) where
    -- the seat has the value, whose journal begins with what it has seen, and has of its own entries those that it made
    pub record Enters (t : ℕ) (m m' : Sat K E G) : Type 0 where
      pub value : K
      pub holds : m' ≡ (entered t (journal value) m.0, (0, Some value) ∷ m.1)
      pub prefix : StartsWith (journal value) m.0.seen
      pub lawful_found : (g : G) → m.0.basis ≡ Some g → (basis value ≡ g) × lawful g (journal value)
      pub own : (n : ℕ) (es : List E) → Made m.0.made n es → entries_by n (journal value) ≡ es

    -- exactly where its ticket is served the seat has the value now
    abbrev pub LooksServed : Step (Option K) → Sat K E G → ℕ → Sat K E G → Type 0
    LooksServed st m r m' = (t : ℕ) → m.0.stage ≡ Waiting t → MatchBool (eqb r (t % turn)) (Enters t m m') (m' ≡ m)
