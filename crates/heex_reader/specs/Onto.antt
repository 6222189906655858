-- The attributes of a tag, read from left to right.
use Rattle.std.specs.Prelude.{ℕ, List, [], ◌∷◌, codes, Bool, false, Option, Some, None, Result, Ok, Err, if◌then◌else◌}
use Rattle.std.specs.Option.{is_some}
use Rattle.std.specs.Str.{bytes_eq}
use Rattle.ast_core.specs.ExprView.{expr_view}
use Rattle.ast_core.specs.PatternView.{pattern_view}
use Rattle.ast_core.specs.NodeView.{generator_view}
use Rattle.ast_core.specs.Syntax.{double_quoted, single_quoted, bare, Attributes, no_attributes, written, valued, spread_of, module_of}
use Rattle.ast_core.specs.declared.node.AttributeValue.{AttributeValue}
use Rattle.ast_core.specs.declared.node.AttributeValue.TheVariants as form
use Rattle.heex_token.specs.declared.token.RawAttribute.{RawAttribute}
use Rattle.heex_token.specs.declared.token.RawValue.TheVariants as raw
use Rattle.heex_reader.specs.declared.fault.TemplateKind.TheVariants as kind
use Rattle.heex_reader.specs.declared.said.Said.{Said}
use Rattle.heex_reader.specs.declared.said.Said.TheVariants as said
use Rattle.heex_reader.specs.Located.{Fault, faulty}
use Rattle.heex_reader.specs.Signs.{Tag}
use Rattle.heex_reader.specs.Contents.{TagKind, kind_of_tag}
use Rattle.heex_reader.specs.Pieces.{then_do}
use Rattle.heex_reader.specs.Tags as tags
use Rattle.heex_reader.specs.Tags.{attribute_is, value_is, spread_is, module_is, repeats, tests, binds_to, is_special, special_by, is_live_call, plain}

-- what an attribute with this name and value says
abbrev pub attribute_said : List ℕ → AttributeValue → tags.Said
attribute_said n (form.Double t) = attribute_is n (double_quoted t)
attribute_said n (form.Single t) = attribute_is n (single_quoted t)
attribute_said n form.Bare = attribute_is n bare
attribute_said n (form.Put e) = value_is n (expr_view e)
attribute_said n (form.Spread e) = spread_is (expr_view e)
attribute_said n (form.Module m) = module_is m

abbrev pub said_view : Said → tags.Said
said_view (said.Attribute a) = attribute_said a.name a.value
said_view (said.Repeats g) = repeats (generator_view g)
said_view (said.Tests e) = tests (expr_view e)
said_view (said.Binds p) = binds_to (pattern_view p)

-- attributes before others
abbrev pub attributes_before : Attributes → Attributes → Attributes
attributes_before no_attributes ys = ys
attributes_before (written n w xs) ys = written n w (attributes_before xs ys)
attributes_before (valued n e xs) ys = valued n e (attributes_before xs ys)
attributes_before (spread_of e xs) ys = spread_of e (attributes_before xs ys)
attributes_before (module_of m xs) ys = module_of m (attributes_before xs ys)

abbrev pub with_attribute : Attributes → Tag → Tag
with_attribute x t = record t { attributes = attributes_before t.attributes x }

-- a tag, and what one more attribute says
abbrev pub with_said : tags.Said → Tag → Tag
with_said (attribute_is n w) t = with_attribute (written n w no_attributes) t
with_said (value_is n e) t = with_attribute (valued n e no_attributes) t
with_said (spread_is e) t = with_attribute (spread_of e no_attributes) t
with_said (module_is m) t = with_attribute (module_of m no_attributes) t
with_said (repeats g) t = record t { generator = Some g }
with_said (tests e) t = record t { test = Some e }
with_said (binds_to p) t = record t { binds = Some p }

-- whether a tag has what the special attribute with this name says
abbrev pub has_said : List ℕ → Tag → Bool
has_said name t =
    if bytes_eq name (codes ":if") then is_some t.test else if bytes_eq name (codes ":for") then is_some t.generator
    else if bytes_eq name (codes ":let") then is_some t.binds else false

abbrev pub special_onto : TagKind → Tag → RawAttribute → Result tags.Said Fault
special_onto k t a = elim a.value [ raw.Braces s ↦ if has_said a.name t then faulty a.start kind.BadSpecial else special_by k a s | v ↦ faulty a.start kind.BadSpecial ]

-- what an attribute says behind those that made this tag
abbrev pub said_onto : TagKind → Tag → RawAttribute → Result tags.Said Fault
said_onto k t a = if is_special a.name then special_onto k t a else plain (is_live_call k) a

-- a tag with what one more attribute says
abbrev pub one_onto : TagKind → Tag → RawAttribute → Result Tag Fault
one_onto k t a = then_do (said_onto k t a) (λ s. Ok (with_said s t))

-- and with what more of them say
abbrev pub tag_onto : TagKind → Tag → List RawAttribute → Result Tag Fault
tag_onto k t [] = Ok t
tag_onto k t (a ∷ as') = then_do (said_onto k t a) (λ s. tag_onto k (with_said s t) as')

abbrev pub bare_tag : List ℕ → Tag
bare_tag name = record { name = name; attributes = no_attributes; generator = None; test = None; binds = None }
