-- What one step of a machine adds to its journal.
use Rattle.std.specs.Prelude.{◌≡◌, ◌≢◌, ℕ, ◌+◌, ◌<◌, ◌≤◌, min, Bool, true, false, List, [], ◌∷◌, ◌++◌, length, Result, Ok, Err, MatchBool}
use Rattle.machine_api.specs.declared.machine.Action.{Action}
use Rattle.machine_api.specs.declared.machine.Handled.{Handled}
use Rattle.machine_api.specs.declared.machine.Handled.TheVariants.{Idle, Done, Crashed, Fell}
use Rattle.machine_api.specs.declared.machine.PostFault.{PostFault}
use Rattle.machine_api.specs.declared.machine.PostFault.TheVariants.{Full, JournalFull, OutOfMemory}

-- the messages that an inbox holds at most
abbrev pub inbox_limit : ℕ
inbox_limit = 1024

-- what a journal and the message that is asked for may measure together
abbrev pub journal_limit : ℕ
journal_limit = 16777216

-- a size as an answer tells it
abbrev pub told_size : ℕ → ℕ
told_size n = min n 18446744073709551615

-- one message more fits the inbox, and the journal
abbrev pub Fits : ℕ → ℕ → ℕ → Type 0
Fits waiting kept asked = (waiting < inbox_limit) × (kept + asked ≤ journal_limit)

module _ {E : Type 0} where
  -- one entry more, of the kind, under the number
  abbrev pub Adds : (E → Bool) → ℕ → List (ℕ × E) → List (ℕ × E) → Type 0
  Adds kind by before after = (e : E) × (kind e ≡ true) × (after ≡ before ++ (by, e) ∷ [])

  -- The entry is added under the number, and its place answered, or nothing is added.
  -- Full exactly where the inbox is, else JournalFull exactly where the sizes together pass the limit
  abbrev pub Posts : ℕ → E → ℕ → ℕ → ℕ → List (ℕ × E) → Result ℕ PostFault → List (ℕ × E) → Type 0
  Posts by e asked waiting kept before (Ok place) after = Fits waiting kept asked × (place ≡ length before) × (after ≡ before ++ (by, e) ∷ [])
  Posts by e asked waiting kept before (Err Full) after = (inbox_limit ≤ waiting) × (after ≡ before)
  Posts by e asked waiting kept before (Err (JournalFull told_kept told_asked)) after =
      (waiting < inbox_limit) × (journal_limit < kept + asked) × (told_kept ≡ told_size kept) × (told_asked ≡ told_size asked) × (after ≡ before)
  Posts by e asked waiting kept before (Err OutOfMemory) after = Fits waiting kept asked × (after ≡ before)

  -- Nothing where no message waits, else one entry: the outcome of the message, which raised exactly at Crashed, or Fell
  abbrev pub Handles : (E → Bool) → (E → Bool) → ℕ → ℕ → (List (ℕ × E) → Bool) → (List (ℕ × E) → List Action) → List (ℕ × E) → Handled → List (ℕ × E) → Type 0
  Handles is_handled is_fell by waiting raised asked before Idle after = (waiting ≡ 0) × (after ≡ before)
  Handles is_handled is_fell by waiting raised asked before (Done actions) after =
      (waiting ≢ 0) × Adds is_handled by before after × (raised after ≡ false) × (actions ≡ asked after)
  Handles is_handled is_fell by waiting raised asked before Crashed after = (waiting ≢ 0) × Adds is_handled by before after × (raised after ≡ true)
  Handles is_handled is_fell by waiting raised asked before Fell after = (waiting ≢ 0) × Adds is_fell by before after

  -- one entry where the process is up, else nothing
  abbrev pub PutsDown : (E → Bool) → ℕ → Bool → List (ℕ × E) → List (ℕ × E) → Type 0
  PutsDown is_overrun by up before after = MatchBool up (Adds is_overrun by before after) (after ≡ before)
