-- What a reader does over tokens, and what is to be shown of it so that its outcomes are the right ones.
use Rattle.std.proofs.Common.{◌≡◌, ℕ, List, [], ◌∷◌, ◌++◌, Option, Some, sym, ap, ◌∙◌, subst, append_assoc, append-nil}
use Rattle.std.specs.Prelude.{option_and_then}
use Rattle.expr_token.specs.declared.token.Token.{Token}
use Rattle.expr_core.specs.Language.{Mark, mark, Language, spelled_by}
use Rattle.expr_core.specs.Outcome.{Reader}

-- a reader goes from one state to another over these marks
abbrev pub Goes : {A : Type 0} (R : Reader A) → R.State → List Mark → R.State → Type 0
Goes R s [] s' = s ≡ s'
Goes R s (m ∷ ms) s' = (u : R.State) × (R.step s m.token ≡ Some u) × (R.depth u ≡ m.depth) × Goes R u ms s'

pub join : {A : Type 0} (R : Reader A) (a b : List Mark) (s u v : R.State) → Goes R s a u → Goes R u b v → Goes R s (a ++ b) v
join R [] b s u v h k = subst (λ w. Goes R w b v) (sym h) k
join R (m ∷ a) b s u v h k = (h.0, h.1, h.2, join R a b h.0 u v h.3 k)

pub join_front : {A : Type 0} (R : Reader A) (a b c : List Mark) (s u v : R.State) → Goes R s a u → Goes R u (b ++ c) v → Goes R s ((a ++ b) ++ c) v
join_front R a b c s u v h k = subst (λ l. Goes R s l v) (sym (append_assoc a b c)) (join R a (b ++ c) s u v h k)

pub and_none : {A : Type 0} (R : Reader A) (a : List Mark) (s u : R.State) → Goes R s a u → Goes R s (a ++ []) u
and_none R a s u h = subst (λ l. Goes R s l u) (sym (append-nil a)) h

-- a reader over tokens
abbrev pub run : {A : Type 0} (R : Reader A) → R.State → List Token → Option R.State
run R s [] = Some s
run R s (t ∷ ts) = option_and_then (λ s'. run R s' ts) (R.step s t)

pub goes_runs : {A : Type 0} (R : Reader A) (ms : List Mark) (s u : R.State) → Goes R s ms u → run R s (spelled_by ms) ≡ Some u
goes_runs R [] s u h = ap (λ w. Some w) h
goes_runs R (m ∷ ms) s u h = ap (option_and_then (λ s'. run R s' (spelled_by ms))) h.1 ∙ goes_runs R ms h.0 u h.3

-- A lawful tree of which these are the first tokens.
pub record Completes (L : Language) (ms : List Mark) : Type 0 where
  pub tree : L.Tree
  pub more : List Mark
  pub lawful : L.Lawful tree
  pub same : L.marks tree ≡ ms ++ more

-- A lawful tree of these tokens with this meaning.
pub record Tells (L : Language) (ms : List Mark) (m : L.Meaning) : Type 0 where
  pub tree : L.Tree
  pub lawful : L.Lawful tree
  pub same : L.marks tree ≡ ms
  pub means : L.meaning tree ≡ m

-- The tokens of a tree lead the reader to its meaning.
pub record Leads (L : Language) (R : Reader L.Meaning) (t : L.Tree) : Type 0 where
  pub state : R.State
  pub goes : Goes R R.start (L.marks t) state
  pub finished : R.finished state ≡ Some (L.meaning t)

-- What a reader holds next stands for the tokens so far and one more.
pub record Taken (S Shape : Type 0) (seen : Shape → S) (Fine : Shape → Type 0) (told : Shape → List Mark) (deep : Shape → ℕ) (ms : List Mark) (tok : Token) (s : S) : Type 0 where
  pub shape : Shape
  pub is : seen shape ≡ s
  pub fine : Fine shape
  pub same : told shape ≡ ms ++ mark (deep shape) tok ∷ []

-- The states of a reader with trees in place of values, the tokens that each stands for, and the three facts: what the reader takes is
-- told by its state, each state can be completed, and the tokens of each tree lead to its meaning.
pub record Proof (L : Language) (R : Reader L.Meaning) : Type 1 where
  pub Shape : Type 0
  pub seen : Shape → R.State
  pub Fine : Shape → Type 0
  pub told : Shape → List Mark
  pub deep : Shape → ℕ
  pub first : Shape
  pub first_seen : seen first ≡ R.start
  pub first_fine : Fine first
  pub first_told : told first ≡ []
  pub same_depth : (s : Shape) → R.depth (seen s) ≡ deep s
  pub takes : (s : Shape) (tok : Token) (u : R.State) → Fine s → R.step (seen s) tok ≡ Some u → Taken R.State Shape seen Fine told deep (told s) tok u
  pub viable : (s : Shape) → Fine s → Completes L (told s)
  pub ends : (s : Shape) (m : L.Meaning) → Fine s → R.finished (seen s) ≡ Some m → Tells L (told s) m
  pub leads : (t : L.Tree) → L.Lawful t → Leads L R t
