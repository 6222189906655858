-- Tokens begin and end where the text may be cut: a token that is no text begins and ends with an ASCII character,
-- and so do the delimiters that stand around its inner text.
use Rattle.std.proofs.Common.{◌≡◌, ℕ, zero, suc, ◌+◌, ◌-◌, ◌<◌, ◌≤◌, ◌==◌, ◌&&◌, List, [], ◌∷◌, length, take, drop, get_or, codes, Bool, true, false, Option, Some, None, Result, Ok, Err, IfOk, IfSome, refl, sym, subst, arith}
use Rattle.std.specs.Prelude.{if◌then◌else◌, take_while, option_map}
use Rattle.std.specs.Str.{IsUtf8, IsCharBoundary, bytes_eq}
use Rattle.std.proofs.lemmas.Bool.{eqb-true}
use Rattle.std.proofs.lemmas.List.{length-take, get_or-take}
use Rattle.std.proofs.lemmas.Str.{IsCharBoundary-before_ascii, IsCharBoundary-after_ascii, IsCharBoundary-start, IsCharBoundary-end}
use Rattle.heex_token.specs.declared.token.Token.{Token}
use Rattle.heex_token.specs.declared.token.TokenForm.{TokenForm}
use Rattle.heex_token.specs.declared.token.TokenForm.TheVariants.{Dropped, Text, Put, Block, Curly}
use Rattle.heex_token.specs.declared.token.TokenKind.{TokenKind}
use Rattle.heex_token.specs.declared.token.TokenKind.TheVariants.{UnclosedExpr, UnclosedComment, BadTagName}
use Rattle.heex_token.specs.declared.token.TokenFault.{TokenFault}
use Rattle.heex_token.specs.declared.token.TagEnd.TheVariants.{Open, SelfClosed}
use Rattle.heex_token.specs.declared.token.RawAttribute.{RawAttribute}
use Rattle.heex_token.specs.declared.token.RawValue.{RawValue}
use Rattle.heex_token.specs.declared.token.RawValue.TheVariants.{Double, Single, Braces}
use Rattle.heex_token.specs.declared.tag.TagPart.{TagPart}
use Rattle.heex_token.specs.declared.tag.TagPart.TheVariants.{Space, Ends, Attribute, Bad, CutOff}
use Rattle.heex_token.specs.declared.region.RawElement.{RawElement}
use Rattle.heex_token.specs.declared.region.Inside.{Inside}
use Rattle.heex_token.specs.declared.region.Inside.TheVariants.{Markup, Comment, Doctype, Raw}
use Rattle.heex_token.specs.declared.region.Region.{Region}
use Rattle.heex_token.specs.Answers.{Answered, IsText, Spans, Apart, Cuts, Between, FormCuts, InnerCuts}
use Rattle.heex_token.specs.Tokens.{is_white, in_name, begins, through, to_brace, with_value, named, spread, slash, tag_part, Tag, tag, bad_at, unclosed, end_size, with_attribute, on_part, tag_from, end_from, Piece, piece, faulty, ending, code_piece, start_by, end_by, start_tag, end_tag, tag_piece, markup_piece, raw_name, ends_raw, piece_in, first_piece, tokens_of}
use Rattle.heex_token.proofs.Keeping.{Kept, PieceKept, answer_kept}
use Rattle.heex_token.proofs.Scans.{Ends as AsciiEnd, begins_take, through_ends, brace_ends}

-- Bytes of which the last is ASCII.

here : (b : ℕ) (bs : List ℕ) → b < 128 → AsciiEnd (b ∷ bs) 1
here b bs h = record { some = omega arith; within = grind arith; ascii = h }

on : (b : ℕ) (bs : List ℕ) (n : ℕ) → AsciiEnd bs n → AsciiEnd (b ∷ bs) (n + 1)
on b bs n h =
    let i : n + 1 - 1 ≡ suc (n - 1) = omega (arith, h.some) in
    record { some = omega arith; within = grind (arith, h.within); ascii = subst (λ j. get_or (b ∷ bs) j 0 < 128) (sym i) h.ascii }

past : (k : ℕ) (bs : List ℕ) (n : ℕ) → AsciiEnd (drop k bs) n → AsciiEnd bs (k + n)
past zero bs n h = let e : n ≡ 0 + n = omega arith in subst (AsciiEnd bs) e h
past (suc k) [] n h = let w : n ≤ 0 = h.within in absurd (omega (arith, h.some, w))
past (suc k) (b ∷ bs) n h = let e : k + n + 1 ≡ suc k + n = omega arith in subst (AsciiEnd (b ∷ bs)) e (on b bs (k + n) (past k bs n h))

-- Words.

taken : (k : ℕ) (bs : List ℕ) (n : ℕ) → AsciiEnd (take k bs) n → AsciiEnd bs n
taken k bs n h = record {
  some = h.some;
  within = omega (arith, h.within, length-take k bs);
  ascii = subst (λ (i : ℕ). i < 128) (get_or-take k bs (n - 1) 0 (omega (arith, h.some, h.within, length-take k bs))) h.ascii;
}

word_end : (word bs : List ℕ) (n : ℕ) → begins word bs ≡ true → AsciiEnd word n → AsciiEnd bs n
word_end word bs n h e = taken (length word) bs n (subst (λ l. AsciiEnd l n) (begins_take word bs h) e)

counted : (b : ℕ) (bs : List ℕ) (m : Option ℕ) → IfSome m (AsciiEnd bs) → IfSome (option_map (λ n. n + 1) m) (AsciiEnd (b ∷ bs))
counted b bs None h = tt
counted b bs (Some n) h = on b bs n h

through_end : (word : List ℕ) → AsciiEnd word (length word) → (bs : List ℕ) → IfSome (through word bs) (AsciiEnd bs)
through_end word w [] = tt
through_end word w (b ∷ bs) = by_test (begins word (b ∷ bs)) refl (through_end word w bs)
  where
    by_test : (x : Bool) → begins word (b ∷ bs) ≡ x → IfSome (through word bs) (AsciiEnd bs) → IfSome (if x then Some (length word) else option_map (λ n. n + 1) (through word bs)) (AsciiEnd (b ∷ bs))
    by_test true e h = word_end word (b ∷ bs) (length word) e w
    by_test false e h = counted b bs (through word bs) h

comment_end : (bs : List ℕ) → IfSome (through (codes "--%>") bs) (AsciiEnd bs)
comment_end bs = through_end (codes "--%>") (on 45 _ 3 (on 45 _ 2 (on 37 _ 1 (here 62 [] (omega arith))))) bs

block_end : (bs : List ℕ) → IfSome (through (codes "%>") bs) (AsciiEnd bs)
block_end bs = through_end (codes "%>") (on 37 _ 1 (here 62 [] (omega arith))) bs

-- Interpolations.

brace_end : (bs : List ℕ) → IfSome (to_brace bs) (AsciiEnd bs)
brace_end bs = by_size (to_brace bs) refl
  where
    by_size : (m : Option ℕ) → to_brace bs ≡ m → IfSome m (AsciiEnd bs)
    by_size None e = tt
    by_size (Some n) e = brace_ends bs n e

-- Tags.

abbrev PartEnds : List ℕ → TagPart → Type 0
PartEnds bs (Ends end) = AsciiEnd bs (end_size end)
PartEnds bs Space = Unit {0}
PartEnds bs (Attribute a n) = Unit {0}
PartEnds bs Bad = Unit {0}
PartEnds bs CutOff = Unit {0}

part_if : (bs : List ℕ) (x : Bool) (p q : TagPart) → PartEnds bs p → PartEnds bs q → PartEnds bs (if x then p else q)
part_if bs true p q h k = h
part_if bs false p q h k = k

part_if_sign : (bs : List ℕ) (b sign : ℕ) (p q : TagPart) → (b ≡ sign → PartEnds bs p) → PartEnds bs q → PartEnds bs (if b == sign then p else q)
part_if_sign bs b sign p q h k = by_test (b == sign) refl
  where
    by_test : (x : Bool) → (b == sign) ≡ x → PartEnds bs (if x then p else q)
    by_test true e = h (eqb-true b sign e)
    by_test false e = k

value_ends : (bs : List ℕ) (at : ℕ) (name : List ℕ) (form : List ℕ → RawValue) (n : Option ℕ) (rest : List ℕ) → PartEnds bs (with_value at name form n rest)
value_ends bs at name form None rest = tt
value_ends bs at name form (Some n) rest = tt

named_ends : (bs : List ℕ) (at : ℕ) (name rest : List ℕ) → PartEnds bs (named at name rest)
named_ends bs at name rest =
    part_if bs (begins (codes "=\"") rest) _ _ (value_ends bs at name Double (through (codes "\"") (drop 2 rest)) (drop 2 rest))
    (part_if bs (begins (codes "='") rest) _ _ (value_ends bs at name Single (through (codes "'") (drop 2 rest)) (drop 2 rest))
    (part_if bs (begins (codes "={") rest) _ _ (value_ends bs at name Braces (to_brace (drop 2 rest)) (drop 2 rest)) (part_if bs (bytes_eq rest (codes "=")) CutOff _ tt tt)))

spread_ends : (bs : List ℕ) (at : ℕ) (n : Option ℕ) (rest : List ℕ) → PartEnds bs (spread at n rest)
spread_ends bs at None rest = tt
spread_ends bs at (Some n) rest = tt

slash_ends : (b : ℕ) (bs : List ℕ) → PartEnds (b ∷ bs) (slash bs)
slash_ends b [] = tt
slash_ends b (c ∷ cs) = part_if_sign (b ∷ c ∷ cs) c 62 (Ends SelfClosed) Bad (λ e. on b (c ∷ cs) 1 (here c cs (omega arith))) tt

part_ends : (at b : ℕ) (bs : List ℕ) → PartEnds (b ∷ bs) (tag_part at b bs)
part_ends at b bs =
    part_if (b ∷ bs) (is_white b) Space _ tt
    (part_if_sign (b ∷ bs) b 62 (Ends Open) _ (λ e. here b bs (omega arith))
    (part_if (b ∷ bs) (b == 47) (slash bs) _ (slash_ends b bs)
    (part_if (b ∷ bs) (b == 123) (spread at (to_brace bs) bs) _ (spread_ends (b ∷ bs) at (to_brace bs) bs)
    (part_if (b ∷ bs) (in_name b) _ Bad (named_ends (b ∷ bs) at (take_while in_name (b ∷ bs)) (drop (length (take_while in_name (b ∷ bs))) (b ∷ bs))) tt))))

-- what is read from a byte on, and the bytes there
abbrev TagEnds : ℕ → List ℕ → Tag → Type 0
TagEnds at bs (tag as' end behind) = (at ≤ behind) × AsciiEnd bs (behind - at)
TagEnds at bs (bad_at b) = Unit {0}
TagEnds at bs unclosed = Unit {0}

earlier : (at b : ℕ) (bs : List ℕ) (t : Tag) → TagEnds (at + 1) bs t → TagEnds at (b ∷ bs) t
earlier at b bs (tag as' end behind) h = let e : behind - (at + 1) + 1 ≡ behind - at = omega (arith, h.0) in (omega (arith, h.0), subst (AsciiEnd (b ∷ bs)) e (on b bs (behind - (at + 1)) h.1))
earlier at b bs (bad_at c) h = tt
earlier at b bs unclosed h = tt

with_ends : (at : ℕ) (bs : List ℕ) (a : RawAttribute) (t : Tag) → TagEnds at bs t → TagEnds at bs (with_attribute a t)
with_ends at bs a (tag as' end behind) h = h
with_ends at bs a (bad_at b) h = tt
with_ends at bs a unclosed h = tt

on_part_ends : (at : ℕ) (bs : List ℕ) (p : TagPart) (go : ℕ → Tag) → PartEnds bs p → ((n : ℕ) → TagEnds at bs (go n)) → TagEnds at bs (on_part p at go)
on_part_ends at bs Space go h k = k 0
on_part_ends at bs (Ends end) go h k = let e : end_size end ≡ at + end_size end - at = omega arith in (omega arith, subst (AsciiEnd bs) e h)
on_part_ends at bs (Attribute a n) go h k = with_ends at bs a (go (n - 1)) (k (n - 1))
on_part_ends at bs Bad go h k = tt
on_part_ends at bs CutOff go h k = tt

tag_ends : (at n : ℕ) (bs : List ℕ) → TagEnds at bs (tag_from at n bs)
tag_ends at n [] = tt
tag_ends at (suc n) (b ∷ bs) = earlier at b bs (tag_from (at + 1) n bs) (tag_ends (at + 1) n bs)
tag_ends at zero (b ∷ bs) = on_part_ends at (b ∷ bs) (tag_part at b bs) (λ n. tag_from (at + 1) n bs) (part_ends at b bs) (λ n. earlier at b bs (tag_from (at + 1) n bs) (tag_ends (at + 1) n bs))

end_tag_ends : (at : ℕ) (bs : List ℕ) → TagEnds at bs (end_from at bs)
end_tag_ends at [] = tt
end_tag_ends at (b ∷ bs) = by_test (is_white b) (b == 62) refl (end_tag_ends (at + 1) bs)
  where
    by_test : (x y : Bool) → (b == 62) ≡ y → TagEnds (at + 1) bs (end_from (at + 1) bs) → TagEnds at (b ∷ bs) (if x then end_from (at + 1) bs else if y then tag [] Open (at + 1) else bad_at at)
    by_test true y e h = earlier at b bs (end_from (at + 1) bs) h
    by_test false true e h =
        let i : b ≡ 62 = eqb-true b 62 e in
        let k : 1 ≡ at + 1 - at = omega arith in
        (omega arith, subst (AsciiEnd (b ∷ bs)) k (here b bs (omega arith)))
    by_test false false e h = tt

-- Pieces.

abbrev UnlessText : TokenForm → Type 0 → Type 0
UnlessText Text A = Unit {0}
UnlessText form A = A

unless : (form : TokenForm) (A : Type 0) → A → UnlessText form A
unless Text A h = tt
unless _ A h = h

-- from behind an ASCII character up to one
record Enclosed (bs : List ℕ) (from to : ℕ) : Type 0 where
  ordered : from ≤ to
  front : AsciiEnd bs from
  back : AsciiEnd bs (to + 1)

abbrev FormEncloses : List ℕ → ℕ → TokenForm → Type 0
FormEncloses bs n Put = Enclosed bs 3 (n - 2)
FormEncloses bs n Block = Enclosed bs 2 (n - 2)
FormEncloses bs n Curly = Enclosed bs 1 (n - 1)
FormEncloses bs n form = Unit {0}

abbrev Delimited : List ℕ → ℕ → TokenForm → Type 0
Delimited bs n form = AsciiEnd bs 1 × AsciiEnd bs n × FormEncloses bs n form

abbrev PieceEnds : List ℕ → Piece → Type 0
PieceEnds bs (piece form n inside) = UnlessText form (Delimited bs n form)
PieceEnds bs (faulty b kind) = Unit {0}

piece_if : (bs : List ℕ) (x : Bool) (p q : Piece) → PieceEnds bs p → PieceEnds bs q → PieceEnds bs (if x then p else q)
piece_if bs true p q h k = h
piece_if bs false p q h k = k

piece_if_true : (bs : List ℕ) (x : Bool) (p q : Piece) → (x ≡ true → PieceEnds bs p) → PieceEnds bs q → PieceEnds bs (if x then p else q)
piece_if_true bs true p q h k = h refl
piece_if_true bs false p q h k = k

ending_ends : (bs : List ℕ) (form : TokenForm) (at k : ℕ) (kind : TokenKind) (inside : Inside) (m : Option ℕ) → AsciiEnd bs 1 → IfSome m (AsciiEnd (drop k bs)) → ((n : ℕ) → m ≡ Some n → FormEncloses bs (k + n) form) → PieceEnds bs (ending form at k kind inside m)
ending_ends bs form at k kind inside None h e f = tt
ending_ends bs form at k kind inside (Some n) h e f = unless form (Delimited bs (k + n) form) (h, past k bs n e, f n refl)

-- a first `%>` begins with an ASCII character
block_encloses : (bs : List ℕ) (k n : ℕ) → AsciiEnd bs k → through (codes "%>") (drop k bs) ≡ Some n → Enclosed bs k (k + n - 2)
block_encloses bs k n h e =
    let t = through_ends (codes "%>") (drop k bs) n e in
    let two : length (codes "%>") ≡ 2 = refl in
    let sign : AsciiEnd (drop t.before (drop k bs)) 1 = word_end (codes "%>") (drop t.before (drop k bs)) 1 t.here (here 37 _ (omega arith)) in
    let i : k + (t.before + 1) ≡ k + n - 2 + 1 = omega (arith, t.whole, two) in
    record {
      ordered = omega (arith, t.whole, two);
      front = h;
      back = subst (AsciiEnd bs) i (past k bs (t.before + 1) (past t.before (drop k bs) 1 sign));
    }

brace_encloses : (bs : List ℕ) (n : ℕ) → AsciiEnd bs 1 → to_brace (drop 1 bs) ≡ Some n → Enclosed bs 1 (1 + n - 1)
brace_encloses bs n h e =
    let b = brace_ends (drop 1 bs) n e in
    let i : 1 + n ≡ 1 + n - 1 + 1 = omega (arith, b.some) in
    record { ordered = omega (arith, b.some); front = h; back = subst (AsciiEnd bs) i (past 1 bs n b) }

less_first : (word bs : List ℕ) → begins (60 ∷ word) bs ≡ true → AsciiEnd bs 1
less_first word bs h = word_end (60 ∷ word) bs 1 h (here 60 word (omega arith))

put_front : (bs : List ℕ) → begins (codes "<%=") bs ≡ true → AsciiEnd bs 3
put_front bs h = word_end (codes "<%=") bs 3 h (on 60 _ 2 (on 37 _ 1 (here 61 [] (omega arith))))

block_front : (bs : List ℕ) → begins (codes "<%") bs ≡ true → AsciiEnd bs 2
block_front bs h = word_end (codes "<%") bs 2 h (on 60 _ 1 (here 37 [] (omega arith)))

code_ends : (at : ℕ) (inside : Inside) (bs : List ℕ) → begins (codes "<%") bs ≡ true → PieceEnds bs (code_piece at inside bs)
code_ends at inside bs w =
    let h : AsciiEnd bs 1 = less_first (codes "%") bs w in
    piece_if bs (begins (codes "<%!--") bs) _ _ (ending_ends bs Dropped at 5 UnclosedComment inside (through (codes "--%>") (drop 5 bs)) h (comment_end (drop 5 bs)) (λ n e. tt))
    (piece_if_true bs (begins (codes "<%=") bs) _ _ (λ p. ending_ends bs Put at 3 UnclosedExpr inside (through (codes "%>") (drop 3 bs)) h (block_end (drop 3 bs)) (λ n e. block_encloses bs 3 n (put_front bs p) e))
    (ending_ends bs Block at 2 UnclosedExpr inside (through (codes "%>") (drop 2 bs)) h (block_end (drop 2 bs)) (λ n e. block_encloses bs 2 n (block_front bs w) e)))

start_by_ends : (bs : List ℕ) (at : ℕ) (name : List ℕ) (t : Tag) → AsciiEnd bs 1 → TagEnds (at + 1 + length name) (drop (length name) (drop 1 bs)) t → PieceEnds bs (start_by at name t)
start_by_ends bs at name (tag as' end behind) h k =
    let n : ℕ = behind - (at + 1 + length name) in
    let e : 1 + (length name + n) ≡ behind - at = omega (arith, k.0) in
    (h, subst (AsciiEnd bs) e (past 1 bs (length name + n) (past (length name) (drop 1 bs) n k.1)), tt)
start_by_ends bs at name (bad_at b) h k = tt
start_by_ends bs at name unclosed h k = tt

end_by_ends : (bs : List ℕ) (at : ℕ) (name : List ℕ) (t : Tag) → AsciiEnd bs 1 → TagEnds (at + 2 + length name) (drop (length name) (drop 2 bs)) t → PieceEnds bs (end_by at name t)
end_by_ends bs at name (tag as' end behind) h k =
    let n : ℕ = behind - (at + 2 + length name) in
    let e : 2 + (length name + n) ≡ behind - at = omega (arith, k.0) in
    (h, subst (AsciiEnd bs) e (past 2 bs (length name + n) (past (length name) (drop 2 bs) n k.1)), tt)
end_by_ends bs at name (bad_at b) h k = tt
end_by_ends bs at name unclosed h k = tt

start_ends : (at : ℕ) (bs : List ℕ) → AsciiEnd bs 1 → PieceEnds bs (start_tag at (drop 1 bs))
start_ends at bs h =
    let name : List ℕ = take_while in_name (drop 1 bs) in
    let t : Tag = tag_from (at + 1 + length name) 0 (drop (length name) (drop 1 bs)) in
    piece_if bs _ (start_by at name t) (faulty at BadTagName) (start_by_ends bs at name t h (tag_ends (at + 1 + length name) 0 (drop (length name) (drop 1 bs)))) tt

end_ends : (at : ℕ) (bs : List ℕ) → AsciiEnd bs 1 → PieceEnds bs (end_tag at (drop 2 bs))
end_ends at bs h =
    let name : List ℕ = take_while in_name (drop 2 bs) in
    let t : Tag = end_from (at + 2 + length name) (drop (length name) (drop 2 bs)) in
    piece_if bs _ (end_by at name t) (faulty at BadTagName) (end_by_ends bs at name t h (end_tag_ends (at + 2 + length name) (drop (length name) (drop 2 bs)))) tt

tag_piece_ends : (at : ℕ) (bs : List ℕ) → AsciiEnd bs 1 → PieceEnds bs (tag_piece at bs)
tag_piece_ends at bs h =
    piece_if bs (begins (codes "<!--") bs) (piece Text 4 (Comment at)) _ tt
    (piece_if bs (begins (codes "<!") bs) (piece Text 2 (Doctype at)) _ tt
    (piece_if bs (begins (codes "</") bs) (end_tag at (drop 2 bs)) (start_tag at (drop 1 bs)) (end_ends at bs h) (start_ends at bs h)))

curly_ends : (at : ℕ) (bs : List ℕ) → AsciiEnd bs 1 → PieceEnds bs (ending Curly at 1 UnclosedExpr Markup (to_brace (drop 1 bs)))
curly_ends at bs h = ending_ends bs Curly at 1 UnclosedExpr Markup (to_brace (drop 1 bs)) h (brace_end (drop 1 bs)) (λ n e. brace_encloses bs n h e)

markup_ends : (plain : Option ℕ) (at : ℕ) (bs : List ℕ) → PieceEnds bs (markup_piece plain at bs)
markup_ends None at bs =
    piece_if_true bs (begins (codes "<") bs) (tag_piece at bs) _ (λ e. tag_piece_ends at bs (less_first [] bs e))
    (piece_if_true bs (begins (codes "{") bs) _ (piece Text 1 Markup) (λ e. curly_ends at bs (word_end (codes "{") bs 1 e (here 123 [] (omega arith)))) tt)
markup_ends (Some n) at bs = piece_if_true bs (begins (codes "<") bs) (tag_piece at bs) (piece Text 1 Markup) (λ e. tag_piece_ends at bs (less_first [] bs e)) tt

raw_first : (x : RawElement) (bs : List ℕ) → ends_raw x bs ≡ true → AsciiEnd bs 1
raw_first x bs h = less_first (47 ∷ raw_name x) bs (first_of_two (begins (60 ∷ 47 ∷ raw_name x) bs) _ h)
  where
    first_of_two : (y z : Bool) → (y && z) ≡ true → y ≡ true
    first_of_two true z h = refl
    first_of_two false z h = cc

inside_ends : (inside : Inside) (plain : Option ℕ) (at : ℕ) (bs : List ℕ) → PieceEnds bs (piece_in inside plain at bs)
inside_ends Markup plain at bs = markup_ends plain at bs
inside_ends (Comment from) plain at bs = piece_if bs (begins (codes "-->") bs) (piece Text 3 Markup) (piece Text 1 (Comment from)) tt tt
inside_ends (Doctype from) plain at bs = piece_if bs (begins (codes ">") bs) (piece Text 1 Markup) (piece Text 1 (Doctype from)) tt tt
inside_ends (Raw x) plain at bs = piece_if_true bs (ends_raw x bs) (end_tag at (drop 2 bs)) (piece Text 1 (Raw x)) (λ e. end_ends at bs (raw_first x bs e)) tt

first_ends : (r : Region) (at : ℕ) (bs : List ℕ) → PieceEnds bs (first_piece r at bs)
first_ends r at bs = piece_if_true bs (begins (codes "<%") bs) (code_piece at r.inside bs) (piece_in r.inside r.plain at bs) (λ e. code_ends at r.inside bs e) (inside_ends r.inside r.plain at bs)

-- Cuts.

cut_before : (text : List ℕ) (at : ℕ) → AsciiEnd text (at + 1) → IsCharBoundary text at
cut_before text at h = let e : at + 1 - 1 ≡ at = omega arith in IsCharBoundary-before_ascii text at (omega (arith, h.within)) (subst (λ i. get_or text i 0 < 128) e h.ascii)

cut_behind : (text : List ℕ) (n : ℕ) → IsUtf8 text → AsciiEnd text n → IsCharBoundary text n
cut_behind text n u h = let e : n - 1 + 1 ≡ n = omega (arith, h.some) in subst (IsCharBoundary text) e (IsCharBoundary-after_ascii text (n - 1) u (omega (arith, h.some, h.within)) h.ascii)

between : (text : List ℕ) (at from to end : ℕ) → IsUtf8 text → at + to ≡ end → Enclosed (drop at text) from to → Between text (at + from) end
between text at from to end u e h =
    let i : at + (to + 1) ≡ end + 1 = omega (arith, e) in
    record {
      ordered = omega (arith, e, h.ordered);
      front = cut_behind text (at + from) u (past at text from h.front);
      back = cut_before text end (subst (AsciiEnd text) i (past at text (to + 1) h.back));
    }

inner_cut : (text : List ℕ) (at n : ℕ) (form : TokenForm) → IsUtf8 text → FormEncloses (drop at text) n form → UnlessText form (FormCuts text at (at + n) form)
inner_cut text at n Put u h = between text at 3 (n - 2) (at + n - 2) u (omega (arith, h.ordered)) h
inner_cut text at n Block u h = between text at 2 (n - 2) (at + n - 2) u (omega (arith, h.ordered)) h
inner_cut text at n Curly u h = between text at 1 (n - 1) (at + n - 1) u (omega (arith, h.ordered)) h
inner_cut text at n _ u h = tt

-- a token that is no text may be cut off, and what stands between its delimiters too
abbrev CutOut : List ℕ → ℕ → ℕ → TokenForm → Type 0
CutOut text s e form = UnlessText form (IsCharBoundary text s × IsCharBoundary text e × FormCuts text s e form)

form_cut : (text : List ℕ) (at n : ℕ) (form : TokenForm) → IsUtf8 text → UnlessText form (Delimited (drop at text) n form) → CutOut text at (at + n) form
form_cut text at n Text u h = tt
form_cut text at n form u h = (cut_before text at (past at text 1 h.0), cut_behind text (at + n) u (past at text n h.1), inner_cut text at n form u h.2)

piece_cut : (text : List ℕ) (at : ℕ) (p : Piece) → IsUtf8 text → PieceEnds (drop at text) p → PieceKept (CutOut text) at p
piece_cut text at (piece form n inside) u h = form_cut text at n form u h
piece_cut text at (faulty b kind) u h = tt

first_cut : (text : List ℕ) → IsUtf8 text → (r : Region) (at : ℕ) (bs : List ℕ) → bs ≡ drop at text → PieceKept (CutOut text) at (first_piece r at bs)
first_cut text u r at bs e = subst (λ l. PieceKept (CutOut text) at (first_piece r at l)) (sym e) (piece_cut text at (first_piece r at (drop at text)) u (first_ends r at (drop at text)))

-- a text ends where what follows begins
end_cut : (text : List ℕ) (s e : ℕ) (f : TokenForm) (t : Token) → t.start ≡ e → CutOut text s e f → CutOut text t.start t.end t.form → (IsText f → IsText t.form → ⊥) → IsCharBoundary text e
end_cut text s e Text t i h k n = subst (IsCharBoundary text) i (by_form t.start t.end t.form k (n tt))
  where
    by_form : (c d : ℕ) (g : TokenForm) → CutOut text c d g → (IsText g → ⊥) → IsCharBoundary text c
    by_form c d Text k n = absurd (n tt)
    by_form c d _ k n = k.0
end_cut text s e _ t i h k n = h.1

cuts_from : (text : List ℕ) (a : ℕ) (ts : List Token) → IsCharBoundary text a → Spans a (length text) ts → Apart ts → Kept (CutOut text) ts → Cuts text ts
cuts_from text a [] c s n k = tt
cuts_from text a (t ∷ []) c s n k = ((subst (IsCharBoundary text) (sym s.0) c, subst (IsCharBoundary text) (sym s.2) (IsCharBoundary-end text)), tt)
cuts_from text a (t ∷ u ∷ us) c s n k =
    let e : IsCharBoundary text t.end = end_cut text t.start t.end t.form u s.2.0 k.0 k.1.0 n.0 in
    ((subst (IsCharBoundary text) (sym s.0) c, e), cuts_from text t.end (u ∷ us) e s.2 n.1 k.1)

pub answer_cuts : (text : List ℕ) (answer : Result (List Token) TokenFault) → IsUtf8 text → Answered answer (tokens_of text) → IfOk answer (Spans 0 (length text)) → IfOk answer Apart → IfOk answer (Cuts text)
answer_cuts text answer u h s n = by_answer answer s n (answer_kept (CutOut text) (λ s e. tt) text (first_cut text u) answer h)
  where
    by_answer : (answer : Result (List Token) TokenFault) → IfOk answer (Spans 0 (length text)) → IfOk answer Apart → IfOk answer (Kept (CutOut text)) → IfOk answer (Cuts text)
    by_answer (Ok ts) s n k = cuts_from text 0 ts (IsCharBoundary-start text u) s n k
    by_answer (Err f) s n k = tt

-- Between delimiters.

form_inner : (text : List ℕ) (s e : ℕ) (form : TokenForm) → s ≤ e → IsCharBoundary text s → IsCharBoundary text e → CutOut text s e form → FormCuts text s e form
form_inner text s e Text o a b k = record { ordered = o; front = a; back = b }
form_inner text s e _ o a b k = k.2

inner_from : (text : List ℕ) (a : ℕ) (ts : List Token) → Spans a (length text) ts → Cuts text ts → Kept (CutOut text) ts → InnerCuts text ts
inner_from text a [] s c k = tt
inner_from text a (t ∷ ts) s c k = (form_inner text t.start t.end t.form (omega (arith, s.0, s.1)) c.0.0 c.0.1 k.0, inner_from text t.end ts s.2 c.1 k.1)

pub answer_inner : (text : List ℕ) (answer : Result (List Token) TokenFault) → IsUtf8 text → Answered answer (tokens_of text) → IfOk answer (Spans 0 (length text)) → IfOk answer Apart → IfOk answer (InnerCuts text)
answer_inner text answer u h s n = by_answer answer s (answer_cuts text answer u h s n) (answer_kept (CutOut text) (λ s e. tt) text (first_cut text u) answer h)
  where
    by_answer : (answer : Result (List Token) TokenFault) → IfOk answer (Spans 0 (length text)) → IfOk answer (Cuts text) → IfOk answer (Kept (CutOut text)) → IfOk answer (InnerCuts text)
    by_answer (Ok ts) s c k = inner_from text 0 ts s c k
    by_answer (Err f) s c k = tt
