-- Why a text was not put into the inbox.
use Rattle.std.specs.Prelude.{◌≡◌, ℕ, ◌+◌, ◌<◌, ◌≤◌}
use Rattle.machine_api.specs.declared.machine.PostFault.{PostFault}
use Rattle.machine_api.specs.declared.machine.PostFault.TheVariants.{Full, JournalFull, OutOfMemory}
use Rattle.machine_api.specs.Steps.{inbox_limit, journal_limit}

-- the inbox is full, or else the journal would grow too large
abbrev pub Refuses : ℕ → ℕ → ℕ → PostFault → Type 0
Refuses waiting kept asked Full = inbox_limit ≤ waiting
Refuses waiting kept asked (JournalFull told_kept told_asked) = (waiting < inbox_limit) × (journal_limit < kept + asked) × (told_kept ≡ kept) × (told_asked ≡ asked)
Refuses waiting kept asked OutOfMemory = ⊥

-- memory is wanting
abbrev pub IsMemory : PostFault → Type 0
IsMemory OutOfMemory = Unit {0}
IsMemory Full = ⊥
IsMemory (JournalFull told_kept told_asked) = ⊥
