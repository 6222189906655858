-- What the listener over TCP keeps of its number of links, and of a refused address.
use Rattle.std.specs.Prelude.{◌≡◌, ℕ, ◌-◌, Bool, true, false, Option, Some, option_map}
use Rattle.link_io.specs.declared.link.Accepted.{Accepted}
use Rattle.link_io.specs.declared.link.Accepted.TheVariants as accepted

-- the number of links left, before and after: Stop exactly where it is 0
abbrev pub Counts : {L : Type 0} → Option ℕ → Option ℕ → Accepted L → Type 0
Counts before after accepted.Stop = (before ≡ Some 0) × (after ≡ Some 0)
Counts before after (accepted.Link l) = (¬ before ≡ Some 0) × (after ≡ option_map (λ n. n - 1) before)
Counts before after accepted.Failed = (¬ before ≡ Some 0) × (after ≡ before)
Counts before after accepted.OutOfMemory = (¬ before ≡ Some 0) × (after ≡ before)

-- a refused address gives nothing but Failed, as long as links are left
abbrev pub IsRefused : {L : Type 0} → Bool → Option ℕ → Accepted L → Type 0
IsRefused true links answer = Unit {0}
IsRefused false links answer = (¬ links ≡ Some 0) → answer ≡ accepted.Failed
