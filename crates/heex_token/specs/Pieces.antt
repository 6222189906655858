-- How far a text is read: interpolations, tags and pieces.
use Rattle.std.specs.Prelude.{◌≡◌, ℕ, ◌+◌, ◌-◌, ◌<◌, ◌≤◌, List, [], ◌∷◌, length, drop, take, codes, Bool, true, false, Option, Some, None, if◌then◌else◌}
use Rattle.std.specs.Str.{IsCharBoundary, bytes_eq}
use Rattle.heex_token.specs.declared.token.TokenForm.{TokenForm}
use Rattle.heex_token.specs.declared.token.TokenForm.TheVariants as form
use Rattle.heex_token.specs.declared.token.TokenKind.{TokenKind}
use Rattle.heex_token.specs.declared.token.RawAttribute.{RawAttribute}
use Rattle.heex_token.specs.declared.token.RawValue.{RawValue}
use Rattle.heex_token.specs.declared.token.RawValue.TheVariants as raw
use Rattle.heex_token.specs.declared.scan.Inner.{Inner}
use Rattle.heex_token.specs.declared.scan.Inner.TheVariants.{Brace, Quote, Part}
use Rattle.heex_token.specs.declared.scan.Before.{Before}
use Rattle.heex_token.specs.declared.scan.Before.TheVariants.{Other}
use Rattle.heex_token.specs.declared.value.Delimiter.{Delimiter}
use Rattle.heex_token.specs.declared.value.Delimiter.TheVariants as delimiter
use Rattle.heex_token.specs.declared.value.Cut.{Cut}
use Rattle.heex_token.specs.declared.tag.TagPart.{TagPart}
use Rattle.heex_token.specs.declared.tag.TagPart.TheVariants.{Space, Ends, Attribute, Bad, CutOff}
use Rattle.heex_token.specs.declared.reader.TagReader.{TagReader}
use Rattle.heex_token.specs.declared.reader.Stop.{Stop}
use Rattle.heex_token.specs.declared.reader.Stop.TheVariants as stop
use Rattle.heex_token.specs.declared.reader.Tag.{Tag}
use Rattle.heex_token.specs.declared.reader.Tag.TheVariants as read
use Rattle.heex_token.specs.declared.piece.Piece.{Piece}
use Rattle.heex_token.specs.declared.piece.Piece.TheVariants as found
use Rattle.heex_token.specs.declared.region.Inside.{Inside}
use Rattle.heex_token.specs.Tokens as spec

-- Interpolations.

-- whether the innermost is a text
abbrev pub in_quote : List Inner → Bool
in_quote [] = false
in_quote (Brace ∷ os) = false
in_quote (Quote ∷ os) = true
in_quote (Part ∷ os) = false

-- what is open behind a byte, and what the byte is to the next one
abbrev pub open_after : List Inner → Before → ℕ → List Inner
open_after os before b = if in_quote os then spec.open_in_text before b os else spec.open_in_code b os

abbrev pub before_after : List Inner → Before → ℕ → Before
before_after os before b = if in_quote os then spec.before_in_text before b else Other

-- Values.

-- how many bytes a value has, with what ends it
abbrev pub value_size : Delimiter → List ℕ → Option ℕ
value_size delimiter.Double rest = spec.through (codes "\"") rest
value_size delimiter.Single rest = spec.through (codes "'") rest
value_size delimiter.Braces rest = spec.to_brace rest

-- a value between these
abbrev pub raw_value : Delimiter → List ℕ → RawValue
raw_value delimiter.Double t = raw.Double t
raw_value delimiter.Single t = raw.Single t
raw_value delimiter.Braces t = raw.Braces t

-- a value without what ends it
abbrev pub cut_of : List ℕ → ℕ → Cut
cut_of rest n = record { text = take (n - 1) rest; size = n }

-- So many bytes from a place on, and at least one, end where the text may be cut.
abbrev pub Reaches : List ℕ → ℕ → ℕ → Type 0
Reaches text at n = (1 ≤ n) × IsCharBoundary text (at + n)

-- Tags.

-- a part of a tag at this byte ends within the text, and where it may be cut
abbrev pub PartWithin : List ℕ → ℕ → TagPart → Type 0
PartWithin text at Space = Reaches text at 1
PartWithin text at (Ends end) = at + spec.end_size end ≤ length text
PartWithin text at (Attribute a n) = Reaches text at n
PartWithin text at Bad = Unit {0}
PartWithin text at CutOff = Unit {0}

-- an attribute without a value, or one that the end of the text cuts off
abbrev pub bare_or_cut : ℕ → List ℕ → List ℕ → TagPart
bare_or_cut at name behind = if bytes_eq behind (codes "=") then CutOff else Attribute (record { start = at; name = name; value_start = at + length name; value = raw.Bare }) (length name)

-- attributes before what follows them in a tag
abbrev pub with_attributes : List RawAttribute → spec.Tag → spec.Tag
with_attributes [] t = t
with_attributes (a ∷ as') t = spec.with_attribute a (with_attributes as' t)

-- What is read of a tag and what follows it are the tag from this byte on.
pub record Going (text : List ℕ) (from : ℕ) (r : TagReader) : Type 0 where
  pub order : from ≤ r.at
  pub cut : IsCharBoundary text r.at
  pub same : spec.tag_from from 0 (drop from text) ≡ with_attributes r.attributes (spec.tag_from r.at 0 (drop r.at text))

-- a tag that stops at this byte
abbrev pub stopped : ℕ → Stop → spec.Tag
stopped at (stop.Ends end) = spec.tag [] end (at + spec.end_size end)
stopped at stop.Bad = spec.bad_at at
stopped at stop.CutOff = spec.unclosed

abbrev pub StopWithin : List ℕ → ℕ → Stop → Type 0
StopWithin text at (stop.Ends end) = at + spec.end_size end ≤ length text
StopWithin text at stop.Bad = Unit {0}
StopWithin text at stop.CutOff = Unit {0}

-- A tag stops at the next byte.
pub record Stops (text : List ℕ) (at : ℕ) (s : Stop) : Type 0 where
  pub within : StopWithin text at s
  pub same : spec.tag_from at 0 (drop at text) ≡ stopped at s

-- A step goes forth, and what was read as it should be stays so.
pub record Steps (text : List ℕ) (before after : TagReader) : Type 0 where
  pub forth : before.at < after.at
  pub going : (from : ℕ) → Going text from before → Going text from after

-- a step, or where the tag stops
abbrev pub Stepped : List ℕ → TagReader → TagReader → Option Stop → Type 0
Stepped text before after None = Steps text before after
Stepped text before after (Some s) = (after ≡ before) × Stops text before.at s

-- a tag as the definition has it
abbrev pub tag_view : Tag → spec.Tag
tag_view (read.Whole as' end behind) = spec.tag as' end behind
tag_view (read.BadAt at) = spec.bad_at at
tag_view read.Unclosed = spec.unclosed

-- a tag ends behind this byte, and not behind that one
abbrev pub TagWithin : ℕ → ℕ → Tag → Type 0
TagWithin from limit (read.Whole as' end behind) = (from < behind) × (behind ≤ limit)
TagWithin from limit (read.BadAt at) = Unit {0}
TagWithin from limit read.Unclosed = Unit {0}

-- Pieces.

-- a piece as the definition has it
abbrev pub piece_view : Piece → spec.Piece
piece_view (found.Piece t size inside) = spec.piece t size inside
piece_view (found.Faulty at kind) = spec.faulty at kind

-- a piece is not empty, and within the text
abbrev pub PieceWithin : List ℕ → ℕ → Piece → Type 0
PieceWithin text at (found.Piece t size inside) = (1 ≤ size) × (at + size ≤ length text)
PieceWithin text at (found.Faulty b kind) = Unit {0}

-- so many bytes of text, and a fault
abbrev pub text_of : ℕ → Inside → Piece
text_of size inside = found.Piece form.Text size inside

abbrev pub fault_of : ℕ → TokenKind → Piece
fault_of at kind = found.Faulty at kind

-- a piece with so many bytes, or the fault that it does not end
abbrev pub ended : TokenForm → ℕ → TokenKind → Inside → Option ℕ → spec.Piece
ended t at kind inside None = spec.faulty at kind
ended t at kind inside (Some n) = spec.piece t n inside
