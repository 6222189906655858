-- What the tags of a template say.
use Rattle.std.specs.Prelude.{ℕ, ◌+◌, List, [], ◌∷◌, drop, codes, Bool, true, false, ◌&&◌, ◌||◌, ◌==◌, Option, Some, None, Result, Ok, Err, if◌then◌else◌}
use Rattle.std.specs.Char.{is_ascii_uppercase}
use Rattle.std.specs.Str.{bytes_eq}
use Rattle.ast_core.specs.Syntax.{Expr, Pattern, Generator, Written, double_quoted, single_quoted, bare, Attributes, no_attributes, written, valued, spread_of, module_of}
use Rattle.ast_core.specs.Free.{one_of}
use Rattle.ast_core.specs.Places.{is_void}
use Rattle.expr_token.specs.Tokens as expr_token
use Rattle.heex_token.specs.declared.token.RawAttribute.{RawAttribute}
use Rattle.heex_token.specs.declared.token.RawValue.{RawValue}
use Rattle.heex_token.specs.declared.token.RawValue.TheVariants as raw
use Rattle.heex_token.specs.declared.token.TagEnd.{TagEnd}
use Rattle.heex_token.specs.declared.token.TagEnd.TheVariants as tag_end
use Rattle.heex_token.specs.Tokens.{first_is}
use Rattle.heex_reader.specs.declared.fault.TemplateKind.TheVariants as kind
use Rattle.heex_reader.specs.Located.{Fault, faulty}
use Rattle.heex_reader.specs.Signs.{Tag, Sign, whole, opens, broken, broken_opening}
use Rattle.heex_reader.specs.Contents.{TagKind, of_element, of_call, of_live_call, of_slot, kind_of_tag}
use Rattle.heex_reader.specs.Pieces.{then_do, expr_at, pattern_at, generator_at, trimmed}

-- what an attribute says
pub data Said : Type 0 where
  attribute_is : List ℕ → Written → Said
  value_is : List ℕ → Expr → Said
  spread_is : Expr → Said
  module_is : List ℕ → Said
  repeats : Generator → Said
  tests : Expr → Said
  binds_to : Pattern → Said

-- before what the attributes behind it say
abbrev pub said_on : Said → Tag → Tag
said_on (attribute_is n w) t = record t { attributes = written n w t.attributes }
said_on (value_is n e) t = record t { attributes = valued n e t.attributes }
said_on (spread_is e) t = record t { attributes = spread_of e t.attributes }
said_on (module_is m) t = record t { attributes = module_of m t.attributes }
said_on (repeats g) t = record t { generator = Some g }
said_on (tests e) t = record t { test = Some e }
said_on (binds_to p) t = record t { binds = Some p }

-- `:let` stands on calls and slot entries alone
abbrev pub may_bind : TagKind → Bool
may_bind of_element = false
may_bind k = true

abbrev pub is_special : List ℕ → Bool
is_special name = first_is (λ b. b == 58) name

-- an attribute whose name begins with a colon
abbrev pub special_by : TagKind → RawAttribute → List ℕ → Result Said Fault
special_by k a s =
    if bytes_eq a.name (codes ":if") then then_do (expr_at a.value_start s) (λ e. Ok (tests e))
    else if bytes_eq a.name (codes ":for") then then_do (generator_at a.value_start s) (λ g. Ok (repeats g))
    else if bytes_eq a.name (codes ":let") && may_bind k then then_do (pattern_at a.value_start s) (λ p. Ok (binds_to p))
    else faulty a.start kind.BadSpecial

-- it has braces, and stands once
abbrev pub special : TagKind → List (List ℕ) → RawAttribute → Result Said Fault
special k seen a = elim a.value [ raw.Braces s ↦ if one_of a.name seen then faulty a.start kind.BadSpecial else special_by k a s | v ↦ faulty a.start kind.BadSpecial ]

-- words that begin with upper-case letters, with dots between them
abbrev pub is_module : List ℕ → Bool
is_module s = first_is is_ascii_uppercase s && bytes_eq (expr_token.module_of s) s

abbrev pub is_live_call : TagKind → Bool
is_live_call of_live_call = true
is_live_call k = false

-- an attribute with braces; the module of a LiveComponent is no expression
abbrev pub in_braces : Bool → List ℕ → ℕ → List ℕ → Result Said Fault
in_braces live name at s =
    if live && (bytes_eq name (codes "module") && is_module (trimmed s)) then Ok (module_is (trimmed s)) else then_do (expr_at at s) (λ e. Ok (value_is name e))

abbrev pub value_said : Bool → List ℕ → ℕ → RawValue → Result Said Fault
value_said live name at (raw.Double s) = Ok (attribute_is name (double_quoted s))
value_said live name at (raw.Single s) = Ok (attribute_is name (single_quoted s))
value_said live name at raw.Bare = Ok (attribute_is name bare)
value_said live name at (raw.Braces s) = in_braces live name at s
value_said live name at (raw.Spread s) = then_do (expr_at at s) (λ e. Ok (spread_is e))

-- any other attribute, by whether it stands on a call of a LiveComponent
abbrev pub plain : Bool → RawAttribute → Result Said Fault
plain live a = value_said live a.name a.value_start a.value

-- what an attribute says behind those of these names
abbrev pub said_by : TagKind → List (List ℕ) → RawAttribute → Result Said Fault
said_by k seen a = if is_special a.name then special k seen a else plain (is_live_call k) a

-- what the attributes say, the first fault coming first
abbrev pub tag_of : TagKind → List ℕ → List (List ℕ) → List RawAttribute → Result Tag Fault
tag_of k name seen [] = Ok (record { name = name; attributes = no_attributes; generator = None; test = None; binds = None })
tag_of k name seen (a ∷ as') = then_do (said_by k seen a) (λ s. then_do (tag_of k name (a.name ∷ seen) as') (λ t. Ok (said_on s t)))

-- whether a start tag has no content
abbrev pub has_no_content : List ℕ → TagEnd → Bool
has_no_content name tag_end.SelfClosed = true
has_no_content name tag_end.Open = is_void name

abbrev pub tag_sign_by : Bool → Result Tag Fault → Sign
tag_sign_by true (Ok t) = whole t
tag_sign_by false (Ok t) = opens t
tag_sign_by true (Err f) = broken f.at f.kind
tag_sign_by false (Err f) = broken_opening f.at f.kind

-- a start tag
abbrev pub start_sign : List ℕ → List RawAttribute → TagEnd → Sign
start_sign name as' end = tag_sign_by (has_no_content name end) (tag_of (kind_of_tag name) name [] as')
