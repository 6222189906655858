-- What links and listeners in memory answer.
use Rattle.std.specs.Prelude.{◌≡◌, ℕ, List, [], ◌∷◌, drop, Contains}
use Rattle.link_io.specs.declared.link.Got.{Got}
use Rattle.link_io.specs.declared.link.Got.TheVariants as got
use Rattle.link_io.specs.declared.link.Sent.{Sent}
use Rattle.link_io.specs.declared.link.Sent.TheVariants as sent
use Rattle.link_io.specs.declared.link.Accepted.{Accepted}
use Rattle.link_io.specs.declared.link.Accepted.TheVariants as accepted
use Rattle.link_io.specs.declared.held.Look.{Look}
use Rattle.link_io.specs.declared.held.Look.TheVariants as look

-- what a script of looks gives first: it is closed at its end
abbrev pub first_of : List Look → Got
first_of [] = got.Closed
first_of (look.Text t ∷ rest) = got.Text t
first_of (look.Quiet ∷ rest) = got.Quiet

-- a script before and after an answer: want of memory leaves it, and failures too
abbrev pub Follows : List Look → List Look → Got → Type 0
Follows before after got.OutOfMemory = after ≡ before
Follows before after got.Failed = after ≡ before
Follows before after (got.Text t) = (first_of before ≡ got.Text t) × (after ≡ drop 1 before)
Follows before after got.Quiet = (first_of before ≡ got.Quiet) × (after ≡ drop 1 before)
Follows before after got.Closed = (first_of before ≡ got.Closed) × (after ≡ drop 1 before)

-- the links of a listener before and after an answer
abbrev pub Hands : {L : Type 0} → List L → List L → Accepted L → Type 0
Hands before after (accepted.Link l) = before ≡ l ∷ after
Hands before after accepted.Stop = (before ≡ []) × (after ≡ [])
Hands before after accepted.Failed = after ≡ before
Hands before after accepted.OutOfMemory = after ≡ before

-- a receive fails only at its number
abbrev pub Fails : List ℕ → ℕ → Got → Type 0
Fails numbers n got.OutOfMemory = Unit {0}
Fails numbers n got.Failed = Contains numbers n
Fails numbers n (got.Text t) = ¬ Contains numbers n
Fails numbers n got.Quiet = ¬ Contains numbers n
Fails numbers n got.Closed = ¬ Contains numbers n

-- a send fails exactly at its number
abbrev pub SendFails : List ℕ → ℕ → Sent → Type 0
SendFails numbers n sent.Failed = Contains numbers n
SendFails numbers n sent.Whole = ¬ Contains numbers n
SendFails numbers n sent.OutOfMemory = ¬ Contains numbers n

-- an accept fails only at its number
abbrev pub AcceptFails : {L : Type 0} → List ℕ → ℕ → Accepted L → Type 0
AcceptFails numbers n accepted.OutOfMemory = Unit {0}
AcceptFails numbers n accepted.Failed = Contains numbers n
AcceptFails numbers n (accepted.Link l) = ¬ Contains numbers n
AcceptFails numbers n accepted.Stop = ¬ Contains numbers n
