-- What holds of each piece of a text, and of all texts, holds of each token.
use Rattle.std.proofs.Common.{◌≡◌, ℕ, zero, suc, ◌+◌, ◌-◌, List, [], ◌∷◌, drop, Result, Ok, Err, IfOk, refl, ap, ◌∙◌, subst}
use Rattle.std.specs.List.{AllByRecursion}
use Rattle.std.proofs.lemmas.List.{drop-drop}
use Rattle.heex_token.specs.declared.token.Token.{Token}
use Rattle.heex_token.specs.declared.token.TokenForm.{TokenForm}
use Rattle.heex_token.specs.declared.token.TokenForm.TheVariants.{Text}
use Rattle.heex_token.specs.declared.token.TokenFault.{TokenFault}
use Rattle.heex_token.specs.declared.region.Inside.{Inside}
use Rattle.heex_token.specs.declared.region.Inside.TheVariants.{Markup, Comment, Doctype, Raw}
use Rattle.heex_token.specs.declared.region.Region.{Region}
use Rattle.heex_token.specs.Answers.{Answered}
use Rattle.heex_token.specs.Tokens.{Piece, piece, faulty, first_piece, Refusal, at_end, text_before, token_before, result_map, on_piece, tokens_from, outside, tokens_of}

-- what is said of a first byte, the one behind the last, and a form, said of each token
abbrev pub Kept : (ℕ → ℕ → TokenForm → Type 0) → List Token → Type 0
Kept P ts = AllByRecursion (λ (t : Token). P t.start t.end t.form) ts

-- and of a piece at this byte
abbrev pub PieceKept : (ℕ → ℕ → TokenForm → Type 0) → ℕ → Piece → Type 0
PieceKept P at (piece form n inside) = P at (at + n) form
PieceKept P at (faulty b kind) = Unit {0}

-- and of all texts
abbrev pub OfTexts : (ℕ → ℕ → TokenForm → Type 0) → Type 0
OfTexts P = (s e : ℕ) → P s e Text

abbrev pub OfPieces : (ℕ → ℕ → TokenForm → Type 0) → List ℕ → Type 0
OfPieces P text = (r : Region) (at : ℕ) (bs : List ℕ) → bs ≡ drop at text → PieceKept P at (first_piece r at bs)

text_kept : (P : ℕ → ℕ → TokenForm → Type 0) → OfTexts P → (s e c d : ℕ) (f : TokenForm) (us : List Token) → P c d f → Kept P us → Kept P (text_before (record { start = s; end = e; form = Text }) (record { start = c; end = d; form = f } ∷ us))
text_kept P texts s e c d Text us h k = (texts s d, k)
text_kept P texts s e c d _ us h k = (texts s e, (h, k))

before_kept : (P : ℕ → ℕ → TokenForm → Type 0) → OfTexts P → (s e : ℕ) (f : TokenForm) (us : List Token) → P s e f → Kept P us → Kept P (token_before (record { start = s; end = e; form = f }) us)
before_kept P texts s e Text [] h k = (h, tt)
before_kept P texts s e Text (u ∷ us) h k = text_kept P texts s e u.start u.end u.form us k.0 k.1
before_kept P texts s e _ us h k = (h, k)

mapped_kept : (P : ℕ → ℕ → TokenForm → Type 0) → OfTexts P → (s e : ℕ) (f : TokenForm) (r : Result (List Token) Refusal) → P s e f → IfOk r (Kept P) → IfOk (result_map (token_before (record { start = s; end = e; form = f })) r) (Kept P)
mapped_kept P texts s e f (Ok us) h k = before_kept P texts s e f us h k
mapped_kept P texts s e f (Err x) h k = tt

on_piece_kept : (P : ℕ → ℕ → TokenForm → Type 0) → OfTexts P → (p : Piece) (r : Region) (at : ℕ) (go : Region → ℕ → Result (List Token) Refusal) → PieceKept P at p → ((q : Region) (n : ℕ) → IfOk (go q n) (Kept P)) → IfOk (on_piece p r at go) (Kept P)
on_piece_kept P texts (faulty b kind) r at go h k = tt
on_piece_kept P texts (piece form n inside) r at go h k = mapped_kept P texts at (at + n) form (go _ (n - 1)) h (k _ (n - 1))

end_kept : (P : ℕ → ℕ → TokenForm → Type 0) (inside : Inside) → IfOk (at_end inside) (Kept P)
end_kept P Markup = tt
end_kept P (Comment from) = tt
end_kept P (Doctype from) = tt
end_kept P (Raw e) = tt

next : (text : List ℕ) (at b : ℕ) (bs : List ℕ) → b ∷ bs ≡ drop at text → bs ≡ drop (at + 1) text
next text at b bs e = ap (drop 1) e ∙ drop-drop 1 at text

from_kept : (P : ℕ → ℕ → TokenForm → Type 0) → OfTexts P → (text : List ℕ) → OfPieces P text → (at : ℕ) (r : Region) (n : ℕ) (bs : List ℕ) → bs ≡ drop at text → IfOk (tokens_from at r n bs) (Kept P)
from_kept P texts text pieces at r n [] e = end_kept P r.inside
from_kept P texts text pieces at r (suc n) (b ∷ bs) e = from_kept P texts text pieces (at + 1) r n bs (next text at b bs e)
from_kept P texts text pieces at r zero (b ∷ bs) e =
    on_piece_kept P texts (first_piece r at (b ∷ bs)) r at (λ q n. tokens_from (at + 1) q n bs) (pieces r at (b ∷ bs) e) (λ q n. from_kept P texts text pieces (at + 1) q n bs (next text at b bs e))

pub answer_kept : (P : ℕ → ℕ → TokenForm → Type 0) → OfTexts P → (text : List ℕ) → OfPieces P text → (answer : Result (List Token) TokenFault) → Answered answer (tokens_of text) → IfOk answer (Kept P)
answer_kept P texts text pieces (Ok ts) h = subst (λ (r : Result (List Token) Refusal). IfOk r (Kept P)) h (from_kept P texts text pieces 0 outside 0 text refl)
answer_kept P texts text pieces (Err f) h = tt
