-- Readers that take token by token.
use Rattle.std.specs.Prelude.{ℕ, ◌+◌, List, [], ◌∷◌, nat_le, if◌then◌else◌, Option, Some, None}
use Rattle.expr_token.specs.declared.token.Token.{Token}
use Rattle.expr_token.specs.declared.token.Token.TheVariants.{BadNumber}
use Rattle.expr_core.specs.Language.{Language, Spells, StrayAt, BadNumberAt, DeepAt, Ended}

-- What becomes of tokens: a meaning, or the number of the token that is at fault, or they end too early.
pub data Outcome (A : Type 0) : Type 0 where
  done : A → Outcome A
  stray : ℕ → Outcome A
  bad_number : ℕ → Outcome A
  too_deep : ℕ → Outcome A
  ended : Outcome A

-- an outcome is the right one
abbrev pub Answers : (L : Language) → List Token → Outcome L.Meaning → Type 0
Answers L ts (done m) = Spells L ts m
Answers L ts (stray n) = StrayAt L ts n
Answers L ts (bad_number n) = BadNumberAt L ts n
Answers L ts (too_deep n) = DeepAt L ts n
Answers L ts ended = Ended L ts

-- A reader: its states, how deep the last token stands, and what was read where the text may end.
pub record Reader (A : Type 0) : Type 1 where
  pub State : Type 0
  pub start : State
  pub step : State → Token → Option State
  pub depth : State → ℕ
  pub finished : State → Option A

abbrev pub at_end : {A : Type 0} → Option A → Outcome A
at_end (Some m) = done m
at_end None = ended

abbrev pub at_fault : {A : Type 0} → Token → ℕ → Outcome A
at_fault BadNumber n = bad_number n
at_fault t n = stray n

abbrev pub on_step : {A S : Type 0} → (S → ℕ) → (S → Outcome A) → Token → ℕ → Option S → Outcome A
on_step depth go t n None = at_fault t n
on_step depth go t n (Some s) = if nat_le (depth s) 64 then go s else too_deep n

-- what becomes of the tokens from the n-th on
abbrev pub outcome : {A : Type 0} (R : Reader A) → List Token → ℕ → R.State → Outcome A
outcome R [] n s = at_end (R.finished s)
outcome R (t ∷ ts) n s = on_step R.depth (outcome R ts (n + 1)) t n (R.step s t)

-- what becomes of tokens
abbrev pub outcome_of : {A : Type 0} → Reader A → List Token → Outcome A
outcome_of R ts = outcome R ts 0 R.start
