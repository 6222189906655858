-- Languages of tokens, and what a list of tokens is answered with.
use Rattle.std.specs.Prelude.{◌≡◌, ℕ, ◌+◌, ◌<◌, ◌≤◌, List, [], ◌∷◌, ◌++◌, map, length, take, Some}
use Rattle.std.specs.List.{AllByRecursion, slice_get}
use Rattle.expr_token.specs.declared.token.Token.{Token}
use Rattle.expr_token.specs.declared.token.Token.TheVariants.{BadNumber}

-- A token, and how many levels deep it stands.
pub record Mark : Type 0 where
  pub token : Token
  pub depth : ℕ

abbrev pub mark : ℕ → Token → Mark
mark n t = record { token = t; depth = n }

-- A language is told by trees: those that are lawful, the tokens that each is written with, and what it means.
pub record Language : Type 1 where
  pub Tree : Type 0
  pub Lawful : Tree → Type 0
  pub marks : Tree → List Mark
  pub Meaning : Type 0
  pub meaning : Tree → Meaning

abbrev pub spelled_by : List Mark → List Token
spelled_by ms = map (λ m. m.token) ms

-- The tokens are read as this tree.
pub record Reads (L : Language) (ts : List Token) (t : L.Tree) : Type 0 where
  pub lawful : L.Lawful t
  pub spelled : spelled_by (L.marks t) ≡ ts

-- some text that begins with these tokens has a reading
abbrev pub Begins : (L : Language) → List Token → Type 0
Begins L ts = (more : List Token) × (t : L.Tree) × Reads L (ts ++ more) t

abbrev pub IsShallow : Mark → Type 0
IsShallow m = m.depth ≤ 64

abbrev pub AllShallow : List Mark → Type 0
AllShallow ms = AllByRecursion IsShallow ms

-- The tokens have a reading with this meaning, in which none stands more than 64 deep.
pub record Spells (L : Language) (ts : List Token) (m : L.Meaning) : Type 0 where
  pub tree : L.Tree
  pub reads : Reads L ts tree
  pub shallow : AllShallow (L.marks tree)
  pub means : L.meaning tree ≡ m

-- Some text that begins with these tokens has a reading, and they stand at most 64 deep in it.
pub record Begun (L : Language) (ts : List Token) : Type 0 where
  pub tree : L.Tree
  pub front : List Mark
  pub more : List Mark
  pub lawful : L.Lawful tree
  pub same : L.marks tree ≡ front ++ more
  pub spelled : spelled_by front ≡ ts
  pub shallow : AllShallow front

-- Some text that begins with these tokens has a reading, and the last of them stands more than 64 deep in it.
pub record IsDeep (L : Language) (ts : List Token) : Type 0 where
  pub tree : L.Tree
  pub front : List Mark
  pub last : Mark
  pub more : List Mark
  pub lawful : L.Lawful tree
  pub same : L.marks tree ≡ (front ++ last ∷ []) ++ more
  pub spelled : spelled_by (front ++ last ∷ []) ≡ ts
  pub deep : 64 < last.depth

-- The tokens before the n-th begin a text that has a reading, and those through it begin none.
pub record FaultAt (L : Language) (ts : List Token) (n : ℕ) : Type 0 where
  pub within : n < length ts
  pub begun : Begun L (take n ts)
  pub over : Begins L (take (n + 1) ts) → ⊥

pub record BadNumberAt (L : Language) (ts : List Token) (n : ℕ) : Type 0 where
  pub fault : FaultAt L ts n
  pub number : slice_get ts n ≡ Some BadNumber

pub record StrayAt (L : Language) (ts : List Token) (n : ℕ) : Type 0 where
  pub fault : FaultAt L ts n
  pub other : slice_get ts n ≡ Some BadNumber → ⊥

-- The tokens before the n-th begin a text that has a reading, and it is the first that stands too deep.
pub record DeepAt (L : Language) (ts : List Token) (n : ℕ) : Type 0 where
  pub within : n < length ts
  pub begun : Begun L (take n ts)
  pub deep : IsDeep L (take (n + 1) ts)

-- The tokens begin a text that has a reading, and have none themselves.
pub record Ended (L : Language) (ts : List Token) : Type 0 where
  pub begun : Begun L ts
  pub unread : (t : L.Tree) → Reads L ts t → ⊥
