-- What is answered for a text, and what holds of all tokens.
use Rattle.std.specs.Prelude.{◌≡◌, ℕ, ◌+◌, ◌-◌, ◌<◌, ◌≤◌, List, [], ◌∷◌, length, take, drop, Result, Ok, Err}
use Rattle.std.specs.List.{AllByRecursion}
use Rattle.std.specs.Str.{IsCharBoundary}
use Rattle.heex_token.specs.declared.token.Token.{Token}
use Rattle.heex_token.specs.declared.token.TokenForm.{TokenForm}
use Rattle.heex_token.specs.declared.token.TokenForm.TheVariants.{Text, Put, Block, Curly, StartTag, EndTag}
use Rattle.heex_token.specs.declared.token.RawAttribute.{RawAttribute}
use Rattle.heex_token.specs.declared.token.RawValue.{RawValue}
use Rattle.heex_token.specs.declared.token.RawValue.TheVariants.{Double, Single, Bare, Braces, Spread}
use Rattle.heex_token.specs.declared.token.TokenFault.{TokenFault}
use Rattle.heex_token.specs.declared.token.TokenFault.TheVariants as fault
use Rattle.heex_token.specs.Tokens.{Refusal}

-- a refusal, but that memory may be wanting
abbrev pub Refused : {A : Type 0} → TokenFault → Result A Refusal → Type 0
Refused (fault.Refused at k) r = r ≡ Err (record { place = at; kind = k })
Refused fault.OutOfMemory r = Unit {0}

-- an answer
abbrev pub Answered : Result (List Token) TokenFault → Result (List Token) Refusal → Type 0
Answered (Ok ts) r = r ≡ Ok ts
Answered (Err f) r = Refused f r

-- the tokens span the bytes from the first to the last, in order and without a gap, and none is empty
abbrev pub Spans : ℕ → ℕ → List Token → Type 0
Spans from to [] = from ≡ to
Spans from to (t ∷ ts) = (t.start ≡ from) × (from < t.end) × Spans t.end to ts

abbrev pub IsText : TokenForm → Type 0
IsText Text = Unit {0}
IsText form = ⊥

-- no two texts stand side by side
abbrev pub Apart : List Token → Type 0
Apart [] = Unit {0}
Apart (t ∷ []) = Unit {0}
Apart (t ∷ u ∷ us) = (IsText t.form → IsText u.form → ⊥) × Apart (u ∷ us)

-- these bytes stand in a text from this byte on
abbrev pub StandsAt : List ℕ → ℕ → List ℕ → Type 0
StandsAt text at bs = take (length bs) (drop at text) ≡ bs

abbrev pub value_text : RawValue → List ℕ
value_text (Double t) = t
value_text (Single t) = t
value_text Bare = []
value_text (Braces t) = t
value_text (Spread t) = t

-- the name and the value of an attribute stand where it says, an empty value too
pub record AttributeStands (text : List ℕ) (a : RawAttribute) : Type 0 where
  pub name : StandsAt text a.start a.name
  pub within : a.value_start ≤ length text
  pub value : StandsAt text a.value_start (value_text a.value)

-- the name of a tag stands behind its `<` or `</`
abbrev pub FormStands : List ℕ → ℕ → TokenForm → Type 0
FormStands text at (StartTag name as' end) = StandsAt text (at + 1) name × AllByRecursion (AttributeStands text) as'
FormStands text at (EndTag name) = StandsAt text (at + 2) name
FormStands text at form = Unit {0}

-- all names and values are slices of the text
abbrev pub Slices : List ℕ → List Token → Type 0
Slices text ts = AllByRecursion (λ (t : Token). FormStands text t.start t.form) ts

-- all tokens begin and end where the text may be cut
abbrev pub Cuts : List ℕ → List Token → Type 0
Cuts text ts = AllByRecursion (λ (t : Token). IsCharBoundary text t.start × IsCharBoundary text t.end) ts

-- whole characters stand between these bytes
pub record Between (text : List ℕ) (from to : ℕ) : Type 0 where
  pub ordered : from ≤ to
  pub front : IsCharBoundary text from
  pub back : IsCharBoundary text to

-- and between the delimiters of a token
abbrev pub FormCuts : List ℕ → ℕ → ℕ → TokenForm → Type 0
FormCuts text start end Put = Between text (start + 3) (end - 2)
FormCuts text start end Block = Between text (start + 2) (end - 2)
FormCuts text start end Curly = Between text (start + 1) (end - 1)
FormCuts text start end Text = Between text start end
FormCuts text start end form = Unit {0}

abbrev pub InnerCuts : List ℕ → List Token → Type 0
InnerCuts text ts = AllByRecursion (λ (t : Token). FormCuts text t.start t.end t.form) ts
