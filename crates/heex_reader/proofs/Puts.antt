-- A tag with one more attribute.
use Rattle.std.proofs.Common.{◌≡◌, ℕ, List, [], ◌∷◌, ◌++◌, Result, Ok, Err, OnOk, refl, sym, ap, ◌∙◌}
use Rattle.ast_core.specs.declared.node.Attribute.{Attribute}
use Rattle.ast_core.specs.declared.node.AttributeValue.{AttributeValue}
use Rattle.ast_core.specs.declared.node.AttributeValue.TheVariants as form
use Rattle.ast_core.specs.ExprView.{expr_view}
use Rattle.ast_core.specs.NodeView.{attribute_on, attributes_view}
use Rattle.ast_core.specs.Syntax.{Attributes, no_attributes, double_quoted, single_quoted, bare, written, valued, spread_of, module_of}
use Rattle.heex_reader.specs.declared.sign.Tag.{Tag}
use Rattle.heex_reader.specs.declared.said.Said.{Said}
use Rattle.heex_reader.specs.declared.said.Said.TheVariants as said
use Rattle.heex_reader.specs.Signs as signs
use Rattle.heex_reader.specs.Onto.{attribute_said, said_view, attributes_before, with_attribute, with_said}
use Rattle.heex_reader.specs.SeenSigns.{tag_view}

seen_more : (xs : List Attribute) (a : Attribute) → attributes_view (xs ++ a ∷ []) ≡ attributes_before (attributes_view xs) (attribute_on a.name a.value no_attributes)
seen_more [] a = refl
seen_more (x ∷ xs) a = by x.value (seen_more xs a)
  where
    by : (v : AttributeValue) → attributes_view (xs ++ a ∷ []) ≡ attributes_before (attributes_view xs) (attribute_on a.name a.value no_attributes)
        → attribute_on x.name v (attributes_view (xs ++ a ∷ [])) ≡ attributes_before (attribute_on x.name v (attributes_view xs)) (attribute_on a.name a.value no_attributes)
    by (form.Double t) e = ap (written x.name (double_quoted t)) e
    by (form.Single t) e = ap (written x.name (single_quoted t)) e
    by form.Bare e = ap (written x.name bare) e
    by (form.Put y) e = ap (valued x.name (expr_view y)) e
    by (form.Spread y) e = ap (spread_of (expr_view y)) e
    by (form.Module m) e = ap (module_of m) e

said_one : (n : List ℕ) (v : AttributeValue) (t : signs.Tag) → with_attribute (attribute_on n v no_attributes) t ≡ with_said (attribute_said n v) t
said_one n (form.Double x) t = refl
said_one n (form.Single x) t = refl
said_one n form.Bare t = refl
said_one n (form.Put y) t = refl
said_one n (form.Spread y) t = refl
said_one n (form.Module m) t = refl

-- the attribute stands behind the others
put_said : (t : Tag) (xs : List Attribute) (a : Attribute) → xs ≡ t.attributes ++ a ∷ [] → tag_view (record t { attributes = xs }) ≡ with_said (said_view (said.Attribute a)) (tag_view t)
put_said t xs a h =
    ap (λ (ys : List Attribute). tag_view (record t { attributes = ys })) h
    ∙ ap (λ (ys : Attributes). record (tag_view t) { attributes = ys }) (seen_more t.attributes a)
    ∙ said_one a.name a.value (tag_view t)

-- and so where there is memory for it
pub put_answered : {A E : Type 0} (r : Result A E) (t : Tag) (s : Said) (xs : List Attribute) (a : Attribute) → s ≡ said.Attribute a → OnOk r (xs ≡ t.attributes ++ a ∷ [])
    → OnOk r (tag_view (record t { attributes = xs }) ≡ with_said (said_view s) (tag_view t))
put_answered (Ok u) t s xs a e h = put_said t xs a h ∙ ap (λ (x : Said). with_said (said_view x) (tag_view t)) (sym e)
put_answered (Err f) t s xs a e h = tt
