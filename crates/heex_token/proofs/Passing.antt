-- A text is read by pieces in place of bytes.
use Rattle.std.proofs.Common.{◌≡◌, ℕ, zero, suc, ◌+◌, ◌-◌, ◌<◌, ◌≤◌, List, [], ◌∷◌, length, drop, get_or, Bool, true, false, Option, Some, None, Result, Ok, Err, IfOk, refl, sym, ap, ◌∙◌, subst, arith, add-one}
use Rattle.std.specs.Prelude.{if◌then◌else◌}
use Rattle.std.proofs.lemmas.List.{drop-drop, drop_all}
use Rattle.std.proofs.Math.Seq.{drop-cons}
use Rattle.ast_core.specs.Places.{is_void}
use Rattle.heex_token.specs.declared.token.Token.{Token}
use Rattle.heex_token.specs.declared.token.TokenForm.{TokenForm}
use Rattle.heex_token.specs.declared.token.TokenForm.TheVariants.{StartTag, EndTag}
use Rattle.heex_token.specs.declared.token.TagEnd.TheVariants.{Open}
use Rattle.heex_token.specs.declared.token.RawAttribute.{RawAttribute}
use Rattle.heex_token.specs.declared.token.TokenFault.{TokenFault}
use Rattle.heex_token.specs.declared.token.TokenKind.{TokenKind}
use Rattle.heex_token.specs.declared.region.Inside.{Inside}
use Rattle.heex_token.specs.declared.region.Inside.TheVariants.{Markup, Comment, Doctype, Raw}
use Rattle.heex_token.specs.declared.region.Region.{Region}
use Rattle.heex_token.specs.declared.lexer.Lexer.{Lexer}
use Rattle.heex_token.specs.declared.piece.Piece as declared
use Rattle.heex_token.specs.declared.piece.Piece.TheVariants as found
use Rattle.heex_token.specs.Answers.{Answered, Spans, Apart}
use Rattle.heex_token.specs.Pieces.{piece_view, PieceWithin}
use Rattle.heex_token.specs.Lexing.{added, joined_on, Counted, Going}
use Rattle.heex_token.specs.Tokens.{Piece, piece, faulty, first_piece, has_plain_braces, plain_opened, plain_closed, plain_behind, Refusal, refused_in, at_end, token_before, result_map, on_piece, tokens_from, outside, tokens_of}
use Rattle.heex_token.proofs.Joining.{joined_added, spans_added, apart_added, joined_none}

-- Counts.

either : (x : Bool) (p q : Option ℕ) (b : ℕ) → Counted p b → Counted q b → Counted (if x then p else q) b
either true p q b h k = h
either false p q b h k = k

opened : (name : List ℕ) (as' : List RawAttribute) (plain : Option ℕ) (a b : ℕ) → a < b → Counted plain a → Counted (plain_opened name as' plain) b
opened name as' (Some n) a b h k = omega arith
opened name as' None a b h k = either (has_plain_braces name as') (Some 0) None b (omega arith) tt

closed : (plain : Option ℕ) (a b : ℕ) → a < b → Counted plain a → Counted (plain_closed plain) b
closed (Some (suc n)) a b h k = omega arith
closed (Some zero) a b h k = tt
closed None a b h k = tt

later : (plain : Option ℕ) (a b : ℕ) → a < b → Counted plain a → Counted plain b
later (Some n) a b h k = omega arith
later None a b h k = tt

counted_behind : (form : TokenForm) (plain : Option ℕ) (a b : ℕ) → a < b → Counted plain a → Counted (plain_behind form plain) b
counted_behind (StartTag name as' Open) plain a b h k = either (is_void name) plain (plain_opened name as' plain) b (later plain a b h k) (opened name as' plain a b h k)
counted_behind (EndTag name) plain a b h k = either (is_void name) plain (plain_closed plain) b (later plain a b h k) (closed plain a b h k)
counted_behind _ plain a b h k = later plain a b h k

-- Steps.

mapped : {E : Type 0} (f g h : List Token → List Token) → ((us : List Token) → h us ≡ f (g us)) → (r : Result (List Token) E) → result_map f (result_map g r) ≡ result_map h r
mapped f g h e (Ok us) = ap Ok (sym (e us))
mapped f g h e (Err x) = refl

-- the bytes of a piece that are still to come are passed at once
passed : (n at : ℕ) (r : Region) (bs : List ℕ) → tokens_from at r n bs ≡ tokens_from (at + n) r 0 (drop n bs)
passed zero at r bs = let e : at ≡ at + 0 = omega arith in ap (λ i. tokens_from i r 0 bs) e
passed (suc n) at r [] = refl
passed (suc n) at r (b ∷ bs) = let e : at + 1 + n ≡ at + suc n = omega arith in passed n (at + 1) r bs ∙ ap (λ i. tokens_from i r 0 (drop n bs)) e

begun : (at : ℕ) (r : Region) (l : List ℕ) (b : ℕ) (bs : List ℕ) → l ≡ b ∷ bs → tokens_from at r 0 l ≡ on_piece (first_piece r at l) r at (λ q n. tokens_from (at + 1) q n bs)
begun at r l b bs e = subst (λ x. tokens_from at r 0 x ≡ on_piece (first_piece r at x) r at (λ q n. tokens_from (at + 1) q n bs)) (sym e) refl

head_of : (l : List ℕ) (j : ℕ) → j < length l → drop j l ≡ get_or l j 0 ∷ drop (j + 1) l
head_of l j h = drop-cons l j 0 h ∙ ap (λ i. get_or l j 0 ∷ drop i l) (sym (add-one j))

advance : (text : List ℕ) (at : ℕ) (r : Region) (p : Piece) → at < length text → p ≡ first_piece r at (drop at text)
    → tokens_from at r 0 (drop at text) ≡ on_piece p r at (λ q n. tokens_from (at + 1) q n (drop (at + 1) text))
advance text at r p h e = begun at r (drop at text) (get_or text at 0) (drop (at + 1) text) (head_of text at h)
    ∙ ap (λ x. on_piece x r at (λ q n. tokens_from (at + 1) q n (drop (at + 1) text))) (sym e)

from_end : (text : List ℕ) (at to n : ℕ) (r : Region) → 1 ≤ n → to ≡ at + n → tokens_from (at + 1) r (n - 1) (drop (at + 1) text) ≡ tokens_from to r 0 (drop to text)
from_end text at to n r h e =
    let k : at + 1 + (n - 1) ≡ to = omega arith in
    passed (n - 1) (at + 1) r (drop (at + 1) text) ∙ ap (tokens_from (at + 1 + (n - 1)) r 0) (drop-drop (n - 1) (at + 1) text) ∙ ap (λ i. tokens_from i r 0 (drop i text)) k

pub stepped : (text : List ℕ) (l m : Lexer) (p : declared.Piece) (form : TokenForm) (n : ℕ) (inside : Inside) → l.at < length text → p ≡ found.Piece form n inside → piece_view p ≡ first_piece l.region l.at (drop l.at text) → PieceWithin text l.at p
    → m.list ≡ added l.list (record { start = l.at; end = l.at + n; form = form }) → m.region ≡ record { inside = inside; plain = plain_behind form l.region.plain } → m.at ≡ l.at + n → Going text l → Going text m
stepped text l m p form n inside h is value within list region at g =
    let t : Token = record { start = l.at; end = l.at + n; form = form } in
    let q : Region = record { inside = inside; plain = plain_behind form l.region.plain } in
    let e : piece form n inside ≡ first_piece l.region l.at (drop l.at text) = ap piece_view (sym is) ∙ value in
    let fits : PieceWithin text l.at (found.Piece form n inside) = subst (PieceWithin text l.at) is within in
    record {
      within = omega arith;
      counted = subst (λ (r : Region). Counted r.plain m.at) (sym region) (counted_behind form l.region.plain l.at m.at (omega arith) g.counted);
      same = g.same ∙ ap (result_map (joined_on l.list)) (advance text l.at l.region (piece form n inside) h e)
          ∙ ap (λ x. result_map (joined_on l.list) (result_map (token_before t) x)) (from_end text l.at m.at n q fits.0 at)
          ∙ mapped (joined_on l.list) (token_before t) (joined_on (added l.list t)) (joined_added l.list t) (tokens_from m.at q 0 (drop m.at text))
          ∙ ap (λ x. result_map (joined_on x) (tokens_from m.at q 0 (drop m.at text))) (sym list)
          ∙ ap (λ x. result_map (joined_on m.list) (tokens_from m.at x 0 (drop m.at text))) (sym region);
      spans = subst (λ i. Spans 0 i m.list) (sym at) (subst (Spans 0 (l.at + n)) (sym list) (spans_added l.list t 0 l.at g.spans refl (omega arith)));
      apart = subst Apart (sym list) (apart_added l.list t g.apart);
    }

pub faulted : (text : List ℕ) (l : Lexer) (b : ℕ) (kind : TokenKind) → l.at < length text → faulty b kind ≡ first_piece l.region l.at (drop l.at text) → Going text l → tokens_of text ≡ Err (refused_in l.region.inside b kind)
faulted text l b kind h e g = g.same ∙ ap (result_map (joined_on l.list)) (advance text l.at l.region (faulty b kind) h e)

-- The beginning and the end.

pub started : (text : List ℕ) (list : List Token) → list ≡ [] → Going text (record { list = list; region = outside; at = 0 })
started text list h = record {
  within = omega arith;
  counted = tt;
  same = sym (same_map (tokens_of text)) ∙ ap (λ l. result_map (joined_on l) (tokens_of text)) (sym h);
  spans = subst (Spans 0 0) (sym h) refl;
  apart = subst Apart (sym h) tt;
}
  where
    same_map : (r : Result (List Token) Refusal) → result_map (joined_on []) r ≡ r
    same_map (Ok ts) = refl
    same_map (Err e) = refl

finished : (inside : Inside) (list : List Token) → Apart list → result_map (joined_on list) (at_end inside) ≡ result_map (λ (ts : List Token). list) (at_end inside)
finished (Comment from) list h = refl
finished (Doctype from) list h = refl
finished Markup list h = ap Ok (joined_none list h)
finished (Raw e) list h = ap Ok (joined_none list h)

pub all_read : (text : List ℕ) (l : Lexer) → Going text l → length text ≤ l.at → tokens_of text ≡ result_map (λ (ts : List Token). l.list) (at_end l.region.inside)
all_read text l g h = g.same ∙ ap (λ bs. result_map (joined_on l.list) (tokens_from l.at l.region 0 bs)) (drop_all l.at text h) ∙ finished l.region.inside l.list g.apart

-- what holds of the tokens so far holds of all
pub of_all : (P : List Token → Type 0) (answer : Result (List Token) TokenFault) (inside : Inside) (list : List Token) → Answered answer (result_map (λ (ts : List Token). list) (at_end inside)) → P list → IfOk answer P
of_all P (Ok ts) Markup list h p = let e : list ≡ ts = cc in subst P e p
of_all P (Ok ts) (Raw x) list h p = let e : list ≡ ts = cc in subst P e p
of_all P (Ok ts) (Comment from) list h p = cc
of_all P (Ok ts) (Doctype from) list h p = cc
of_all P (Err f) inside list h p = tt
