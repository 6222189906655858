-- Facts about the reading of tags.
use Rattle.std.proofs.Common.{◌≡◌, ℕ, zero, suc, ◌+◌, ◌-◌, ◌<◌, ◌≤◌, List, [], ◌∷◌, ◌++◌, length, drop, get_or, refl, sym, ap, ◌∙◌, subst, arith}
use Rattle.std.specs.List.{prefix_len}
use Rattle.std.specs.Prelude.{cond, nat_eq, take_while, codes, Bool, true, false, if◌then◌else◌}
use Rattle.std.specs.Str.{IsCharBoundary}
use Rattle.std.proofs.lemmas.List.{drop-drop, drop_all}
use Rattle.heex_token.specs.declared.token.TagEnd.{TagEnd}
use Rattle.heex_token.specs.declared.token.TagEnd.TheVariants.{Open}
use Rattle.heex_token.specs.declared.token.RawAttribute.{RawAttribute}
use Rattle.heex_token.specs.declared.value.Delimiter.{Delimiter}
use Rattle.heex_token.specs.declared.value.Delimiter.TheVariants as delimiter
use Rattle.heex_token.specs.declared.tag.TagPart.{TagPart}
use Rattle.heex_token.specs.declared.tag.TagPart.TheVariants.{Attribute}
use Rattle.heex_token.specs.declared.reader.TagReader.{TagReader}
use Rattle.heex_token.specs.declared.reader.Tag.{Tag as Tagged}
use Rattle.heex_token.specs.declared.reader.Tag.TheVariants as read
use Rattle.heex_token.specs.Tokens.{Tag, tag, bad_at, unclosed, with_attribute, tag_part, on_part, tag_from, is_white, in_name, begins, with_value, named, end_from}
use Rattle.heex_token.specs.Pieces.{Going, Steps, Reaches, with_attributes, value_size, raw_value, TagWithin}
use Rattle.heex_token.proofs.Scans.{head_of}

-- Attributes before a tag.

pub before_tag : (as' : List RawAttribute) (end : TagEnd) (behind : ℕ) → with_attributes as' (tag [] end behind) ≡ tag as' end behind
before_tag [] end behind = refl
before_tag (a ∷ as') end behind = ap (with_attribute a) (before_tag as' end behind)

pub before_bad : (as' : List RawAttribute) (at : ℕ) → with_attributes as' (bad_at at) ≡ bad_at at
before_bad [] at = refl
before_bad (a ∷ as') at = ap (with_attribute a) (before_bad as' at)

pub before_unclosed : (as' : List RawAttribute) → with_attributes as' unclosed ≡ unclosed
before_unclosed [] = refl
before_unclosed (a ∷ as') = ap (with_attribute a) (before_unclosed as')

one_more : (as' : List RawAttribute) (a : RawAttribute) (t : Tag) → with_attributes (as' ++ a ∷ []) t ≡ with_attributes as' (with_attribute a t)
one_more [] a t = refl
one_more (b ∷ as') a t = ap (with_attribute b) (one_more as' a t)

-- Steps.

-- the bytes of an attribute that are still to come are passed at once
pass : (n at : ℕ) (bs : List ℕ) → tag_from at n bs ≡ tag_from (at + n) 0 (drop n bs)
pass zero at bs = let e : at ≡ at + 0 = omega arith in ap (λ i. tag_from i 0 bs) e
pass (suc n) at [] = refl
pass (suc n) at (b ∷ bs) = let e : at + 1 + n ≡ at + suc n = omega arith in pass n (at + 1) bs ∙ ap (λ i. tag_from i 0 (drop n bs)) e

attribute_step : (text : List ℕ) (at n : ℕ) (a : RawAttribute) → at < length text → Attribute a n ≡ tag_part at (get_or text at 0) (drop (at + 1) text) → 1 ≤ n → tag_from at 0 (drop at text) ≡ with_attribute a (tag_from (at + n) 0 (drop (at + n) text))
attribute_step text at n a h e k =
    let i : at + 1 + (n - 1) ≡ at + n = omega (arith, k) in
    ap (tag_from at 0) (head_of text at 0 h)
    ∙ ap (λ (p : TagPart). on_part p at (λ m. tag_from (at + 1) m (drop (at + 1) text))) (sym e)
    ∙ ap (with_attribute a) (pass (n - 1) (at + 1) (drop (at + 1) text) ∙ ap (tag_from (at + 1 + (n - 1)) 0) (drop-drop (n - 1) (at + 1) text) ∙ ap (λ j. tag_from j 0 (drop j text)) i)

pub attribute_steps : (text : List ℕ) (before after : TagReader) (a : RawAttribute) (n : ℕ) → before.at < length text → Attribute a n ≡ tag_part before.at (get_or text before.at 0) (drop (before.at + 1) text) → Reaches text before.at n → after.attributes ≡ before.attributes ++ a ∷ [] → after.at ≡ before.at + n → Steps text before after
attribute_steps text before after a n h e r more to = record {
  forth = omega (arith, to, r.0);
  going = λ from g. record {
    order = omega (arith, g.order, to);
    cut = subst (IsCharBoundary text) (sym to) r.1;
    same = g.same
        ∙ ap (with_attributes before.attributes) (attribute_step text before.at n a h e r.0)
        ∙ sym (one_more before.attributes a (tag_from (before.at + n) 0 (drop (before.at + n) text)))
        ∙ ap (λ l. with_attributes l (tag_from (before.at + n) 0 (drop (before.at + n) text))) (sym more)
        ∙ ap (λ i. with_attributes after.attributes (tag_from i 0 (drop i text))) (sym to);
  };
}

-- behind the text a tag does not end
pub none_left : (text : List ℕ) (from : ℕ) (r : TagReader) → Going text from r → length text ≤ r.at → unclosed ≡ tag_from from 0 (drop from text)
none_left text from r g h = sym (g.same ∙ ap (λ l. with_attributes r.attributes (tag_from r.at 0 l)) (drop_all r.at text h) ∙ before_unclosed r.attributes)

-- End tags.

white_by : (at b : ℕ) (bs : List ℕ) (x : Bool) → is_white b ≡ x → end_from (at + 1) bs ≡ end_from (at + 1 + prefix_len is_white bs) (drop (prefix_len is_white bs) bs)
    → end_from at (b ∷ bs) ≡ end_from (at + cond x (1 + prefix_len is_white bs) 0) (drop (cond x (1 + prefix_len is_white bs) 0) (b ∷ bs))
white_by at b bs false h i = let e : at ≡ at + 0 = omega arith in ap (λ j. end_from j (b ∷ bs)) e
white_by at b bs true h i =
    let n = prefix_len is_white bs in
    let e : 1 + n ≡ suc n = omega arith in
    let p : at + 1 + n ≡ at + (1 + n) = omega arith in
    ap (λ (x : Bool). if x then end_from (at + 1) bs else if nat_eq b 62 then tag [] Open (at + 1) else bad_at at) h
    ∙ i ∙ ap (λ j. end_from j (drop n bs)) p ∙ ap (λ k. end_from (at + (1 + n)) (drop k (b ∷ bs))) (sym e)

pub white_run : (bs : List ℕ) (at : ℕ) → end_from at bs ≡ end_from (at + prefix_len is_white bs) (drop (prefix_len is_white bs) bs)
white_run [] at = refl
white_run (b ∷ bs) at = white_by at b bs (is_white b) refl (white_run bs (at + 1))

-- a tag that ends within narrower bounds
pub wider : (at limit from to : ℕ) (t : Tagged) → from ≤ at → limit ≤ to → TagWithin at limit t → TagWithin from to t
wider at limit from to (read.Whole as' end behind) h k w = (omega (arith, h, w.0), omega (arith, k, w.1))
wider at limit from to (read.BadAt b) h k w = tt
wider at limit from to read.Unclosed h k w = tt

-- Attributes with values.

-- what stands before a value tells what it stands between
abbrev pub Chosen : Delimiter → List ℕ → Type 0
Chosen delimiter.Double bs = begins (codes "=\"") bs ≡ true
Chosen delimiter.Single bs = (begins (codes "=\"") bs ≡ false) × (begins (codes "='") bs ≡ true)
Chosen delimiter.Braces bs = (begins (codes "=\"") bs ≡ false) × (begins (codes "='") bs ≡ false) × (begins (codes "={") bs ≡ true)

chosen : (d : Delimiter) (at : ℕ) (name bs : List ℕ) → Chosen d bs → with_value at name (raw_value d) (value_size d (drop 2 bs)) (drop 2 bs) ≡ named at name bs
chosen delimiter.Double at name bs h = rw h refl
chosen delimiter.Single at name bs h = rw (h.0, h.1) refl
chosen delimiter.Braces at name bs h = rw (h.0, h.1, h.2) refl

pub named_value : (d : Delimiter) (text : List ℕ) (at : ℕ) (name : List ℕ) → name ≡ take_while in_name (drop at text) → Chosen d (drop (at + length name) text)
    → with_value at name (raw_value d) (value_size d (drop (at + length name + 2) text)) (drop (at + length name + 2) text) ≡ named at (take_while in_name (drop at text)) (drop (length (take_while in_name (drop at text))) (drop at text))
named_value d text at name e h =
    ap (λ l. with_value at name (raw_value d) (value_size d l) l) (sym (drop-drop 2 (at + length name) text))
    ∙ chosen d at name (drop (at + length name) text) h
    ∙ ap (named at name) (sym (drop-drop (length name) at text))
    ∙ ap (λ n. named at n (drop (length n) (drop at text))) e

-- what a test of the bytes behind a name has told
pub found_behind : (word text bytes behind name : List ℕ) (at size : ℕ) (found x : Bool) → bytes ≡ text → size ≡ length name → behind ≡ drop (at + size) bytes → found ≡ begins word behind → found ≡ x → begins word (drop (at + length name) text) ≡ x
found_behind word text bytes behind name at size found x b s e f h =
    ap (begins word) (sym (e ∙ ap (λ n. drop (at + n) bytes) s ∙ ap (drop (at + length name)) b)) ∙ sym f ∙ h
