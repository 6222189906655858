-- What links and listeners tell, and the causes of what they answer.
use Rattle.std.specs.Prelude.{◌≡◌, ◌≤◌, ℕ, List, [], ◌∷◌, ◌++◌, Option, option_map}
use Rattle.text_core.specs.Outside.{Rose}
use Rattle.link_io.specs.declared.link.Got.{Got}
use Rattle.link_io.specs.declared.link.Got.TheVariants as got
use Rattle.link_io.specs.declared.link.Sent.{Sent}
use Rattle.link_io.specs.declared.link.Sent.TheVariants as sent
use Rattle.link_io.specs.declared.link.Accepted.{Accepted}
use Rattle.link_io.specs.declared.link.Accepted.TheVariants as accepted
use Rattle.link_io.specs.declared.link.Answer.{Answer}
use Rattle.link_io.specs.declared.link.Answer.TheVariants as answer

-- a list, where it is told, and then one more
abbrev pub and_then : {T : Type 0} → Option (List T) → T → Option (List T)
and_then told x = option_map (λ xs. xs ++ x ∷ []) told

-- the answers so far, before and after: each one joins the list, but want of memory leaves it
abbrev pub Gives : Option (List Got) → Option (List Got) → Got → Type 0
Gives before after (got.Text t) = after ≡ and_then before (got.Text t)
Gives before after got.Quiet = after ≡ and_then before got.Quiet
Gives before after got.Closed = after ≡ and_then before got.Closed
Gives before after got.Failed = after ≡ and_then before got.Failed
Gives before after got.OutOfMemory = after ≡ before

-- the counts of failures and of quiet looks, before and after: neither falls
abbrev pub GotCause : ℕ → ℕ → ℕ → ℕ → Got → Type 0
GotCause f f' q q' (got.Text t) = (f ≤ f') × (q ≤ q')
GotCause f f' q q' got.Quiet = (f ≤ f') × (q ≤ q') × Rose q q'
GotCause f f' q q' got.Closed = (f ≤ f') × (q ≤ q')
GotCause f f' q q' got.Failed = (f ≤ f') × Rose f f' × (q ≤ q')
GotCause f f' q q' got.OutOfMemory = (f ≤ f') × (q ≤ q')

-- the texts sent whole, before and after
abbrev pub Takes : Option (List (List ℕ)) → Option (List (List ℕ)) → List ℕ → Sent → Type 0
Takes before after text sent.Whole = after ≡ and_then before text
Takes before after text sent.Failed = after ≡ before
Takes before after text sent.OutOfMemory = after ≡ before

abbrev pub SentCause : ℕ → ℕ → Sent → Type 0
SentCause f f' sent.Whole = f ≤ f'
SentCause f f' sent.Failed = (f ≤ f') × Rose f f'
SentCause f f' sent.OutOfMemory = f ≤ f'

-- the answers of a listener so far, before and after
abbrev pub Accepts : {L : Type 0} → Option (List Answer) → Option (List Answer) → Accepted L → Type 0
Accepts before after (accepted.Link l) = after ≡ and_then before answer.Link
Accepts before after accepted.Stop = after ≡ and_then before answer.Stop
Accepts before after accepted.Failed = after ≡ and_then before answer.Failed
Accepts before after accepted.OutOfMemory = after ≡ before

abbrev pub AcceptedCause : {L : Type 0} → ℕ → ℕ → Accepted L → Type 0
AcceptedCause f f' (accepted.Link l) = f ≤ f'
AcceptedCause f f' accepted.Stop = f ≤ f'
AcceptedCause f f' accepted.Failed = (f ≤ f') × Rose f f'
AcceptedCause f f' accepted.OutOfMemory = f ≤ f'
