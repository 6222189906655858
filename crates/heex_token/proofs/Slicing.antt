-- The names and values of tokens are slices of the text.
use Rattle.std.proofs.Common.{◌≡◌, ℕ, zero, suc, ◌+◌, ◌-◌, ◌<◌, ◌≤◌, ◌==◌, List, [], ◌∷◌, length, take, drop, codes, Bool, true, false, Option, Some, None, Result, IfOk, refl, sym, ap, ◌∙◌, subst, arith, length-take, length-drop}
use Rattle.std.specs.Prelude.{if◌then◌else◌, take_while}
use Rattle.std.specs.List.{prefix_len, AllByRecursion}
use Rattle.std.specs.Str.{bytes_eq}
use Rattle.std.proofs.lemmas.List.{drop-drop}
use Rattle.heex_token.specs.declared.token.Token.{Token}
use Rattle.heex_token.specs.declared.token.TokenForm.{TokenForm}
use Rattle.heex_token.specs.declared.token.TokenForm.TheVariants.{Dropped, Text, Put, Block, Curly}
use Rattle.heex_token.specs.declared.token.TokenKind.{TokenKind}
use Rattle.heex_token.specs.declared.token.TokenKind.TheVariants.{UnclosedExpr, UnclosedComment, BadTagName}
use Rattle.heex_token.specs.declared.token.TokenFault.{TokenFault}
use Rattle.heex_token.specs.declared.token.TagEnd.TheVariants.{Open, SelfClosed}
use Rattle.heex_token.specs.declared.token.RawAttribute.{RawAttribute}
use Rattle.heex_token.specs.declared.token.RawValue.{RawValue}
use Rattle.heex_token.specs.declared.token.RawValue.TheVariants.{Double, Single, Braces}
use Rattle.heex_token.specs.declared.tag.TagPart.{TagPart}
use Rattle.heex_token.specs.declared.tag.TagPart.TheVariants.{Space, Ends, Attribute, Bad, CutOff}
use Rattle.heex_token.specs.declared.region.Inside.{Inside}
use Rattle.heex_token.specs.declared.region.Inside.TheVariants.{Markup, Comment, Doctype, Raw}
use Rattle.heex_token.specs.declared.region.Region.{Region}
use Rattle.heex_token.specs.Answers.{Answered, StandsAt, value_text, AttributeStands, FormStands, Slices}
use Rattle.heex_token.proofs.Keeping.{PieceKept, answer_kept}
use Rattle.heex_token.proofs.Scans.{begins_le}
use Rattle.heex_token.specs.Tokens.{is_white, in_name, begins, through, to_brace, with_value, named, spread, slash, tag_part, Tag, tag, bad_at, unclosed, with_attribute, on_part, tag_from, end_from, Piece, piece, faulty, ending, code_piece, start_by, end_by, start_tag, end_tag, tag_piece, markup_piece, ends_raw, piece_in, first_piece, tokens_of}

-- Slices.

front : (k : ℕ) (l : List ℕ) → take (length (take k l)) l ≡ take k l
front zero l = refl
front (suc k) [] = refl
front (suc k) (b ∷ l) = ap (λ x. b ∷ x) (front k l)

stands : (text : List ℕ) (at k : ℕ) (bs : List ℕ) → bs ≡ drop at text → StandsAt text at (take k bs)
stands text at k bs e = subst (λ x. StandsAt text at (take k x)) (sym e) (front k (drop at text))

behind : (text : List ℕ) (at k : ℕ) (bs : List ℕ) → bs ≡ drop at text → drop k bs ≡ drop (at + k) text
behind text at k bs e = ap (drop k) e ∙ drop-drop k at text

next : (text : List ℕ) (at b : ℕ) (bs : List ℕ) → b ∷ bs ≡ drop at text → bs ≡ drop (at + 1) text
next text at b bs e = behind text at 1 (b ∷ bs) e

-- Attributes.

abbrev PartStands : List ℕ → TagPart → Type 0
PartStands text (Attribute a n) = AttributeStands text a
PartStands text Space = Unit {0}
PartStands text (Ends end) = Unit {0}
PartStands text Bad = Unit {0}
PartStands text CutOff = Unit {0}

part_if : (text : List ℕ) (x : Bool) (p q : TagPart) → PartStands text p → PartStands text q → PartStands text (if x then p else q)
part_if text true p q h k = h
part_if text false p q h k = k

part_when : (text : List ℕ) (x : Bool) (p q : TagPart) → (x ≡ true → PartStands text p) → PartStands text q → PartStands text (if x then p else q)
part_when text true p q h k = h refl
part_when text false p q h k = k

-- a beginning of what stands behind a byte of a text stands in the text
inside : (text word rest : List ℕ) (at : ℕ) → rest ≡ drop at text → at ≤ length text → begins word rest ≡ true → at + length word ≤ length text
inside text word rest at e w h = omega (arith, w, begins_le word rest h, ap length e, length-drop at text)

value_stands : (text : List ℕ) (at : ℕ) (name : List ℕ) (form : List ℕ → RawValue) (n : Option ℕ) (rest : List ℕ) → StandsAt text at name → ((t : List ℕ) → value_text (form t) ≡ t) → rest ≡ drop (at + length name + 2) text → at + length name + 2 ≤ length text → PartStands text (with_value at name form n rest)
value_stands text at name form None rest h v e w = tt
value_stands text at name form (Some n) rest h v e w = record { name = h; within = w; value = subst (StandsAt text (at + length name + 2)) (sym (v (take (n - 1) rest))) (stands text (at + length name + 2) (n - 1) rest e) }

named_stands : (text : List ℕ) (at : ℕ) (name rest : List ℕ) → StandsAt text at name → rest ≡ drop (at + length name) text → at + length name ≤ length text → PartStands text (named at name rest)
named_stands text at name rest h e w =
    let v : drop 2 rest ≡ drop (at + length name + 2) text = behind text (at + length name) 2 rest e in
    let within : (q : ℕ) → begins (61 ∷ q ∷ []) rest ≡ true → at + length name + 2 ≤ length text = λ q b. inside text (61 ∷ q ∷ []) rest (at + length name) e w b in
    part_when text (begins (codes "=\"") rest) _ _ (λ b. value_stands text at name Double (through (codes "\"") (drop 2 rest)) (drop 2 rest) h (λ t. refl) v (within 34 b))
    (part_when text (begins (codes "='") rest) _ _ (λ b. value_stands text at name Single (through (codes "'") (drop 2 rest)) (drop 2 rest) h (λ t. refl) v (within 39 b))
    (part_when text (begins (codes "={") rest) _ _ (λ b. value_stands text at name Braces (to_brace (drop 2 rest)) (drop 2 rest) h (λ t. refl) v (within 123 b))
    (part_if text (bytes_eq rest (codes "=")) CutOff _ tt (record { name = h; within = w; value = refl }))))

spread_stands : (text : List ℕ) (at : ℕ) (n : Option ℕ) (rest : List ℕ) → rest ≡ drop (at + 1) text → at < length text → PartStands text (spread at n rest)
spread_stands text at None rest e w = tt
spread_stands text at (Some n) rest e w = record { name = refl; within = omega (arith, w); value = stands text (at + 1) (n - 1) rest e }

slash_stands : (text bs : List ℕ) → PartStands text (slash bs)
slash_stands text [] = tt
slash_stands text (b ∷ bs) = part_if text (b == 62) (Ends SelfClosed) Bad tt tt

part_stands : (text : List ℕ) (at b : ℕ) (bs : List ℕ) → b ∷ bs ≡ drop at text → PartStands text (tag_part at b bs)
part_stands text at b bs e =
    let here : at < length text = omega (arith, ap length e, length-drop at text) in
    let name : at + length (take_while in_name (b ∷ bs)) ≤ length text = omega (arith, here, ap length e, length-drop at text, length-take (prefix_len in_name (b ∷ bs)) (b ∷ bs)) in
    part_if text (is_white b) Space _ tt
    (part_if text (b == 62) (Ends Open) _ tt
    (part_if text (b == 47) (slash bs) _ (slash_stands text bs)
    (part_if text (b == 123) (spread at (to_brace bs) bs) _ (spread_stands text at (to_brace bs) bs (next text at b bs e) here)
    (part_if text (in_name b) _ Bad
    (named_stands text at (take_while in_name (b ∷ bs)) (drop (length (take_while in_name (b ∷ bs))) (b ∷ bs)) (stands text at (prefix_len in_name (b ∷ bs)) (b ∷ bs) e) (behind text at (length (take_while in_name (b ∷ bs))) (b ∷ bs) e) name) tt))))

-- Tags.

abbrev TagStands : List ℕ → Tag → Type 0
TagStands text (tag as' end at) = AllByRecursion (AttributeStands text) as'
TagStands text (bad_at at) = Unit {0}
TagStands text unclosed = Unit {0}

with_stands : (text : List ℕ) (a : RawAttribute) (t : Tag) → AttributeStands text a → TagStands text t → TagStands text (with_attribute a t)
with_stands text a (tag as' end at) h k = (h, k)
with_stands text a (bad_at at) h k = tt
with_stands text a unclosed h k = tt

on_part_stands : (text : List ℕ) (p : TagPart) (at : ℕ) (go : ℕ → Tag) → PartStands text p → ((n : ℕ) → TagStands text (go n)) → TagStands text (on_part p at go)
on_part_stands text Space at go h k = k 0
on_part_stands text (Ends end) at go h k = tt
on_part_stands text (Attribute a n) at go h k = with_stands text a (go (n - 1)) h (k (n - 1))
on_part_stands text Bad at go h k = tt
on_part_stands text CutOff at go h k = tt

tag_stands : (text : List ℕ) (at n : ℕ) (bs : List ℕ) → bs ≡ drop at text → TagStands text (tag_from at n bs)
tag_stands text at n [] e = tt
tag_stands text at (suc n) (b ∷ bs) e = tag_stands text (at + 1) n bs (next text at b bs e)
tag_stands text at zero (b ∷ bs) e = on_part_stands text (tag_part at b bs) at (λ n. tag_from (at + 1) n bs) (part_stands text at b bs e) (λ n. tag_stands text (at + 1) n bs (next text at b bs e))

-- Pieces.

abbrev PieceStands : List ℕ → ℕ → Piece → Type 0
PieceStands text at (piece form n inside) = FormStands text at form
PieceStands text at (faulty b kind) = Unit {0}

piece_if : (text : List ℕ) (at : ℕ) (x : Bool) (p q : Piece) → PieceStands text at p → PieceStands text at q → PieceStands text at (if x then p else q)
piece_if text at true p q h k = h
piece_if text at false p q h k = k

ending_stands : (text : List ℕ) (at : ℕ) (form : TokenForm) (n : ℕ) (kind : TokenKind) (inside : Inside) (m : Option ℕ) → FormStands text at form → PieceStands text at (ending form at n kind inside m)
ending_stands text at form n kind inside None h = tt
ending_stands text at form n kind inside (Some m) h = h

code_stands : (text : List ℕ) (at : ℕ) (inside : Inside) (bs : List ℕ) → PieceStands text at (code_piece at inside bs)
code_stands text at inside bs =
    piece_if text at (begins (codes "<%!--") bs) _ _ (ending_stands text at Dropped 5 UnclosedComment inside (through (codes "--%>") (drop 5 bs)) tt)
    (piece_if text at (begins (codes "<%=") bs) _ _ (ending_stands text at Put 3 UnclosedExpr inside (through (codes "%>") (drop 3 bs)) tt) (ending_stands text at Block 2 UnclosedExpr inside (through (codes "%>") (drop 2 bs)) tt))

start_by_stands : (text : List ℕ) (at : ℕ) (name : List ℕ) (t : Tag) → StandsAt text (at + 1) name → TagStands text t → PieceStands text at (start_by at name t)
start_by_stands text at name (tag as' end b) h k = (h, k)
start_by_stands text at name (bad_at b) h k = tt
start_by_stands text at name unclosed h k = tt

end_by_stands : (text : List ℕ) (at : ℕ) (name : List ℕ) (t : Tag) → StandsAt text (at + 2) name → PieceStands text at (end_by at name t)
end_by_stands text at name (tag as' end b) h = h
end_by_stands text at name (bad_at b) h = tt
end_by_stands text at name unclosed h = tt

start_stands : (text : List ℕ) (at : ℕ) (bs : List ℕ) → bs ≡ drop (at + 1) text → PieceStands text at (start_tag at bs)
start_stands text at bs e =
    let name : List ℕ = take_while in_name bs in
    let t : Tag = tag_from (at + 1 + length name) 0 (drop (length name) bs) in
    piece_if text at _ (start_by at name t) (faulty at BadTagName) (start_by_stands text at name t (stands text (at + 1) (prefix_len in_name bs) bs e) (tag_stands text (at + 1 + length name) 0 (drop (length name) bs) (behind text (at + 1) (length name) bs e))) tt

end_stands : (text : List ℕ) (at : ℕ) (bs : List ℕ) → bs ≡ drop (at + 2) text → PieceStands text at (end_tag at bs)
end_stands text at bs e =
    let name : List ℕ = take_while in_name bs in
    let t : Tag = end_from (at + 2 + length name) (drop (length name) bs) in
    piece_if text at _ (end_by at name t) (faulty at BadTagName) (end_by_stands text at name t (stands text (at + 2) (prefix_len in_name bs) bs e)) tt

tag_piece_stands : (text : List ℕ) (at : ℕ) (bs : List ℕ) → bs ≡ drop at text → PieceStands text at (tag_piece at bs)
tag_piece_stands text at bs e =
    piece_if text at (begins (codes "<!--") bs) (piece Text 4 (Comment at)) _ tt
    (piece_if text at (begins (codes "<!") bs) (piece Text 2 (Doctype at)) _ tt
    (piece_if text at (begins (codes "</") bs) (end_tag at (drop 2 bs)) (start_tag at (drop 1 bs)) (end_stands text at (drop 2 bs) (behind text at 2 bs e)) (start_stands text at (drop 1 bs) (behind text at 1 bs e))))

markup_stands : (text : List ℕ) (plain : Option ℕ) (at : ℕ) (bs : List ℕ) → bs ≡ drop at text → PieceStands text at (markup_piece plain at bs)
markup_stands text None at bs e =
    piece_if text at (begins (codes "<") bs) (tag_piece at bs) _ (tag_piece_stands text at bs e)
    (piece_if text at (begins (codes "{") bs) _ (piece Text 1 Markup) (ending_stands text at Curly 1 UnclosedExpr Markup (to_brace (drop 1 bs)) tt) tt)
markup_stands text (Some n) at bs e = piece_if text at (begins (codes "<") bs) (tag_piece at bs) (piece Text 1 Markup) (tag_piece_stands text at bs e) tt

inside_stands : (text : List ℕ) (inside : Inside) (plain : Option ℕ) (at : ℕ) (bs : List ℕ) → bs ≡ drop at text → PieceStands text at (piece_in inside plain at bs)
inside_stands text Markup plain at bs e = markup_stands text plain at bs e
inside_stands text (Comment from) plain at bs e = piece_if text at (begins (codes "-->") bs) (piece Text 3 Markup) (piece Text 1 (Comment from)) tt tt
inside_stands text (Doctype from) plain at bs e = piece_if text at (begins (codes ">") bs) (piece Text 1 Markup) (piece Text 1 (Doctype from)) tt tt
inside_stands text (Raw x) plain at bs e = piece_if text at (ends_raw x bs) (end_tag at (drop 2 bs)) (piece Text 1 (Raw x)) (end_stands text at (drop 2 bs) (behind text at 2 bs e)) tt

first_stands : (text : List ℕ) (r : Region) (at : ℕ) (bs : List ℕ) → bs ≡ drop at text → PieceStands text at (first_piece r at bs)
first_stands text r at bs e = piece_if text at (begins (codes "<%") bs) (code_piece at r.inside bs) (piece_in r.inside r.plain at bs) (code_stands text at r.inside bs) (inside_stands text r.inside r.plain at bs e)

-- Tokens.

first_kept : (text : List ℕ) (p : Piece) (at : ℕ) → PieceStands text at p → PieceKept (λ s e form. FormStands text s form) at p
first_kept text (piece form n inside) at h = h
first_kept text (faulty b kind) at h = tt

pub answer_slices : (text : List ℕ) (answer : Result (List Token) TokenFault) → Answered answer (tokens_of text) → IfOk answer (Slices text)
answer_slices text answer h = answer_kept (λ s e form. FormStands text s form) (λ s e. tt) text (λ r at bs e. first_kept text (first_piece r at bs) at (first_stands text r at bs e)) answer h
