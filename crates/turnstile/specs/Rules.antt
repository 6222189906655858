-- The rule of a turnstile's table.
-- Word 0 is the next ticket and word 1 the ticket that is served, both without the turns of their 64 bits.
-- Word 2 counts the numbers that were drawn for passes. Slot 0 has the value, which is out with the pass whose ticket is served.
use Rattle.std.specs.Prelude.{◌≡◌, ℕ, ◌+◌, ◌-◌, ◌%◌, ◌<◌, ◌≤◌, ◌⊎◌, List, [], ◌∷◌, length, slice_index, min, Option, Some, None}
use mathlib.Core.Option.{Option as Maybe, some}
use lib.ListN.{get_elem?}
use Rattle.atomic_table.specs.Table.{State}
use Rattle.turnstile.specs.Histories.{most_passes, StartsWith, entries_by, Made}
use Rattle.turnstile.specs.declared.view.View.{View}
use Rattle.turnstile.specs.declared.view.Stage.{Stage}
use Rattle.turnstile.specs.declared.view.Stage.TheVariants.{Away, Waiting, Inside, Filling}

-- the number of values that a word has
abbrev pub turn : ℕ
turn = 18446744073709551616

-- the sum over the views
abbrev pub total : {V : Type 0} → (V → ℕ) → List V → ℕ
total f [] = 0
total f (v ∷ vs) = f v + total f vs

-- the slot is at home, with no value
abbrev pub Vacant : {K : Type 0} → List (Maybe (Option K)) → Type 0
Vacant homes = get_elem? homes 0 ≡ some (some None)

-- how many tickets a pass has out
abbrev pub tickets : Stage → ℕ
tickets Away = 0
tickets (Waiting t) = 1
tickets (Inside t) = 1
tickets Filling = 1

-- a ticket that is out has one holder
abbrev pub Queued : (ℕ → ℕ) → ℕ → ℕ → ℕ → Stage → Type 0
Queued holder served drawn id Away = Unit {0}
Queued holder served drawn id (Waiting t) = (served ≤ t) × (t < drawn) × (holder t ≡ id)
Queued holder served drawn id (Inside t) = (t ≡ served) × (t < drawn) × (holder t ≡ id)
Queued holder served drawn id Filling = (0 ≡ served) × (0 < drawn) × (holder 0 ≡ id)

-- it has the value, or is to bring it
abbrev pub IsInside : Stage → Type 0
IsInside Away = ⊥
IsInside (Waiting t) = ⊥
IsInside (Inside t) = Unit {0}
IsInside Filling = Unit {0}

-- how many numbers a pass with this spare one has
abbrev pub taken_by : {N : Type 0} → Option N → ℕ
taken_by (Some n) = 2
taken_by None = 1

-- whether a pass that knows of so many draws no number any more: 1 or 0
abbrev pub stopped : {G : Type 0} → Option G → ℕ → ℕ
stopped (Some g) known = min 1 (known + 1 - most_passes)
stopped None known = 1

module _ {E G : Type 0} where
  -- what the first pass knows
  abbrev pub founder : G → View E G
  founder on = record { stage = Filling; basis = Some on; seen = []; made = (0, []) ∷ []; spare = None; known = 1 }

  -- the tickets that it has out
  abbrev pub waits : View E G → ℕ
  waits v = tickets v.stage

  -- the numbers that were drawn for it: a pass has its own, or had one, and maybe one for a new pass
  abbrev pub claims : View E G → ℕ
  claims v = taken_by v.spare

  -- it draws no number any more
  abbrev pub stops : View E G → ℕ
  stops v = stopped v.basis v.known

module _ {E G : Type 0} (lawful : G → List (ℕ × E) → Type 0) (on : G) (served drawn numbers : ℕ) (holder owner : ℕ → ℕ) (log : List (ℕ × E)) (vacant : Type 0) where
  -- What a pass knows is true: it has seen a lawful beginning of the journal, and has made exactly the entries under its numbers, in order
  pub record PassHolds (id : ℕ) (v : View E G) : Type 0 where
    -- its ticket is its own, and is served where it has the value
    pub queued : Queued holder served drawn id v.stage
    -- whoever has the value has seen its whole journal
    pub inside : IsInside v.stage → v.seen ≡ log
    -- whoever is to bring the first value finds the slot empty
    pub filling : v.stage ≡ Filling → vacant
    pub prefix : StartsWith log v.seen
    pub lawful_seen : (g : G) → v.basis ≡ Some g → (g ≡ on) × lawful on v.seen
    -- a number has one owner, which made all entries under it
    pub own : (n : ℕ) (es : List E) → Made v.made n es → (owner n ≡ id) × (n < numbers) × (entries_by n log ≡ es)
    -- the number under which it makes entries is in its lists once
    pub first_once : (n : ℕ) (es : List E) (ms : List (ℕ × List E)) → v.made ≡ (n, es) ∷ ms → (fs : List E) → Made ms n fs → ⊥
    -- a number that it drew for a new pass is unused
    pub spare : (n : ℕ) → v.spare ≡ Some n → (owner n ≡ id) × (n < numbers) × (entries_by n log ≡ []) × ((es : List E) → Made v.made n es → ⊥)
    pub known : v.known ≤ numbers

module _ {K E G : Type 0} (journal : K → List (ℕ × E)) (basis : K → G) (lawful : G → List (ℕ × E) → Type 0) (on : G) where
  -- the value is at home with this journal, or out with the pass whose ticket is served
  abbrev pub Placed : ℕ → List (ℕ × E) → State (Option K) (View E G) → Type 0
  Placed seat log s =
      ((k : K) × (get_elem? s.homes 0 ≡ some (some (Some k))) × (journal k ≡ log) × (basis k ≡ on))
      ⊎ ((v : View E G) × (get_elem? s.views seat ≡ some v) × IsInside v.stage)

  -- There is one journal, tickets are served in order, and what each pass knows is true
  pub record Orderly (s : State (Option K) (View E G)) : Type 0 where
    -- how many tickets were drawn, and which one is served, without end
    pub drawn : ℕ
    pub served : ℕ
    -- which seat has a ticket, and which one a pass's number
    pub holder : ℕ → ℕ
    pub owner : ℕ → ℕ
    -- the journal, and how many numbers were drawn
    pub log : List (ℕ × E)
    pub numbers : ℕ
    pub wide : length s.words ≡ 3
    pub slot : length s.homes ≡ 1
    pub ticket_word : slice_index s.words 0 ≡ drawn % turn
    pub serving_word : slice_index s.words 1 ≡ served % turn
    pub count_word : slice_index s.words 2 ≡ numbers
    -- each ticket that is not served yet is out
    pub queue : total waits s.views + served ≡ drawn
    -- fewer passes are there than numbers, so that two tickets that are out differ in their word
    pub few : total claims s.views ≤ most_passes
    pub numbered : total claims s.views ≤ numbers
    -- a number past the last one was drawn by a pass that draws none any more
    pub ends : numbers ≤ most_passes + total stops s.views
    pub placed : Placed (holder served) log s
    -- no entry is under a number that was not drawn
    pub unborn : (n : ℕ) → numbers ≤ n → entries_by n log ≡ []
    pub lawful_log : lawful on log
    pub each : (id : ℕ) (v : View E G) → get_elem? s.views id ≡ some v → PassHolds lawful on served drawn numbers holder owner log (Vacant s.homes) id v
