-- Which nodes a text is, or where and why it is refused.
use Rattle.std.specs.Prelude.{◌≡◌, ◌↔◌, ◌⊎◌, ℕ, ◌+◌, ◌-◌, List, map, take, drop, Result, Ok, Err}
use Rattle.ast_core.specs.Syntax.{Location, Nodes}
use Rattle.heex_token.specs.declared.token.Token.{Token}
use Rattle.heex_token.specs.declared.token.TokenForm.TheVariants as form
use Rattle.heex_token.specs.Tokens as tokens
use Rattle.heex_token.specs.Tokens.{tokens_of}
use Rattle.heex_reader.specs.declared.fault.TemplateKind.{TemplateKind}
use Rattle.heex_reader.specs.declared.fault.TemplateKind.TheVariants as kind
use Rattle.heex_reader.specs.Located.{Fault, location_at}
use Rattle.heex_reader.specs.Signs.{Sign, dropped, words, closes, Placed}
use Rattle.heex_reader.specs.Pieces.{value_sign, put_sign, block_tag_sign}
use Rattle.heex_reader.specs.Tags.{start_sign}
use Rattle.heex_reader.specs.Machine.{outcome}
use Rattle.heex_reader.specs.Answers as signs

-- the bytes from one to before another
abbrev pub between : ℕ → ℕ → List ℕ → List ℕ
between from to text = take (to - from) (drop from text)

-- what a token says
abbrev pub sign_of : List ℕ → Token → Sign
sign_of text t = elim t.form [
  | form.Dropped ↦ dropped
  | form.Text ↦ words (between t.start t.end text)
  | form.Put ↦ put_sign t.start (t.start + 3) (between (t.start + 3) (t.end - 2) text)
  | form.Block ↦ block_tag_sign t.start (t.start + 2) (between (t.start + 2) (t.end - 2) text)
  | form.Curly ↦ value_sign (t.start + 1) (between (t.start + 1) (t.end - 1) text)
  | form.StartTag name as' end ↦ start_sign name as' end
  | form.EndTag name ↦ closes name
]

abbrev pub placed_sign : List ℕ → Token → Placed
placed_sign text t = record { at = t.start; sign = sign_of text t }

abbrev pub signs_of : List ℕ → List Token → List Placed
signs_of text ts = map (placed_sign text) ts

-- Why a text is refused, and where.
pub record Refusal : Type 0 where
  pub place : Location
  pub kind : TemplateKind

abbrev pub refusal_of : List ℕ → Fault → Refusal
refusal_of text f = record { place = location_at text f.at; kind = f.kind }

-- The text spells these nodes: its tokens' signs are written so.
abbrev pub SpellsTemplate : List ℕ → Nodes → Type 0
SpellsTemplate text ns = (ts : List Token) × (tokens_of text ≡ Ok ts) × signs.Spells (location_at text) (signs_of text ts) ns

-- what is wrong with its tokens comes first
abbrev pub RefusesTokens : List ℕ → Fault → Type 0
RefusesTokens text f = (r : tokens.Refusal) × (tokens_of text ≡ Err r) × (f ≡ record { at = r.place; kind = kind.Token r.kind })

abbrev pub RefusesSigns : List ℕ → Fault → Type 0
RefusesSigns text f = (ts : List Token) × (tokens_of text ≡ Ok ts) × signs.Refuses (signs_of text ts) f

abbrev pub read_tokens : List ℕ → Result (List Token) tokens.Refusal → Result Nodes Fault
read_tokens text (Ok ts) = outcome (location_at text) (signs_of text ts)
read_tokens text (Err r) = Err (record { at = r.place; kind = kind.Token r.kind })

abbrev pub refused_at : {A : Type 0} → List ℕ → Result A Fault → Result A Refusal
refused_at text (Ok a) = Ok a
refused_at text (Err f) = Err (refusal_of text f)

-- the nodes that a text is, or its refusal
abbrev pub template_of : List ℕ → Result Nodes Refusal
template_of text = refused_at text (read_tokens text (tokens_of text))

-- The laws: exactly what is spelled is read, and exactly what is wrong is told.
abbrev pub TemplatesAreSpelled : Type 0
TemplatesAreSpelled = (text : List ℕ) (ns : Nodes) → (template_of text ≡ Ok ns) ↔ SpellsTemplate text ns

abbrev pub RefusalsAreRight : Type 0
RefusalsAreRight = (text : List ℕ) (f : Fault) → (read_tokens text (tokens_of text) ≡ Err f) ↔ (RefusesTokens text f ⊎ RefusesSigns text f)
