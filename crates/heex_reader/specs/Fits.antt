-- Where the bytes of a token stand in its file, and that of a place which is passed over the file.
use Rattle.std.specs.Prelude.{◌≡◌, ◌+◌, ◌-◌, ◌≤◌, ℕ, List, [], ◌∷◌, length}
use Rattle.ast_core.specs.NodeView.{location_of}
use Rattle.heex_token.specs.declared.token.Token.{Token}
use Rattle.heex_token.specs.declared.token.TokenForm.{TokenForm}
use Rattle.heex_token.specs.declared.token.TokenForm.TheVariants as form
use Rattle.heex_token.specs.declared.token.RawAttribute.{RawAttribute}
use Rattle.heex_token.specs.declared.token.RawValue.{RawValue}
use Rattle.heex_token.specs.declared.token.RawValue.TheVariants as raw
use Rattle.heex_token.specs.Answers.{Between}
use Rattle.heex_reader.specs.declared.cursor.Cursor.{Cursor}
use Rattle.heex_reader.specs.Located.{location_at}
use Rattle.heex_reader.specs.SeenSigns.{HasRoom}

-- an expression in an attribute has room
abbrev pub ValueFits : ℕ → RawValue → Type 0
ValueFits at (raw.Double s) = Unit {0}
ValueFits at (raw.Single s) = Unit {0}
ValueFits at raw.Bare = Unit {0}
ValueFits at (raw.Braces s) = HasRoom at s
ValueFits at (raw.Spread s) = HasRoom at s

abbrev pub AttributesFit : List RawAttribute → Type 0
AttributesFit [] = Unit {0}
AttributesFit (a ∷ as') = ValueFits a.value_start a.value × AttributesFit as'

abbrev pub FormFits : List ℕ → ℕ → ℕ → TokenForm → Type 0
FormFits text start end form.Dropped = Unit {0}
FormFits text start end form.Text = Between text start end
FormFits text start end form.Put = Between text (start + 3) (end - 2)
FormFits text start end form.Block = Between text (start + 2) (end - 2)
FormFits text start end form.Curly = Between text (start + 1) (end - 1)
FormFits text start end (form.StartTag name as' e) = AttributesFit as'
FormFits text start end (form.EndTag name) = Unit {0}

-- a token stands in this text, its delimiters with it
abbrev pub Fits : List ℕ → Token → Type 0
Fits text t = FormFits text t.start t.end t.form

-- a cursor stands in this text, and knows where
pub record Follows (text : List ℕ) (c : Cursor) : Type 0 where
  pub within : c.byte ≤ length text
  pub here : location_of c.location ≡ location_at text c.byte
