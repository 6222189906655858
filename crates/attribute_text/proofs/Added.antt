-- What is added behind a list, piece by piece.
use Rattle.std.proofs.Common.{◌≡◌, ℕ, ◌+◌, ◌<◌, List, [], ◌∷◌, ◌++◌, length, get_or, drop, codes, Ok, Err, refl, sym, ap, ◌∙◌, append_assoc, append-nil}
use Rattle.text_core.specs.Escape.{escape_text}
use Rattle.text_core.proofs.Escapes.{escape-append}
use Rattle.value_core.proofs.Order.{cons_at}
use Rattle.doc_model.specs.Evaluation.{Res, both}
use Rattle.doc_model.specs.Printing.{with_spaces, equals}
use Rattle.attribute_text.specs.Prints.{behind, with_space_each}

pub behind_none : {A : Type 0} (r : Res (List A)) → behind [] r ≡ r
behind_none (Ok xs) = refl
behind_none (Err e) = refl

-- one piece more
pub one_more : {A : Type 0} (before after : List A) (r rest : Res (List A)) → behind before r ≡ Ok after
    → behind before (both (λ a b. a ++ b) r rest) ≡ behind after rest
one_more before after (Ok xs) (Ok ys) h =
    let e : (before ++ xs) ++ ys ≡ before ++ (xs ++ ys) = append_assoc before xs ys in
    cc
one_more before after (Ok xs) (Err e) h = refl
one_more before after (Err e) rest h = cc

-- a name, and behind it a value between quotes
pub quoted : (out name t begun valued ended : List ℕ) → begun ≡ out ++ 32 ∷ (name ++ codes "=\"") → valued ≡ begun ++ escape_text t → ended ≡ valued ++ codes "\""
    → out ++ equals name t ≡ ended
quoted out name t begun valued ended begun_is valued_is ended_is =
    let regrouped : ((out ++ 32 ∷ (name ++ codes "=\"")) ++ escape_text t) ++ codes "\"" ≡ out ++ equals name t = simp append_assoc in
    sym (ended_is ∙ ap (λ l. l ++ codes "\"") (valued_is ∙ ap (λ l. l ++ escape_text t) begun_is) ∙ regrouped)

-- ---- texts with spaces

-- the first text, and each of the others with a space before it
pub spaces_first : (t : List ℕ) (ts : List (List ℕ)) → with_spaces (t ∷ ts) ≡ t ++ with_space_each ts
spaces_first t [] = sym (append-nil t)
spaces_first t (u ∷ ts) = ap (λ l. t ++ (32 ∷ l)) (spaces_first u ts)

-- one text more
pub text_on : (whole out t : List ℕ) (ts : List (List ℕ)) (i : ℕ) → i < length ts → t ≡ get_or ts i t
    → whole ≡ out ++ escape_text (with_space_each (drop i ts)) → whole ≡ ((out ++ 32 ∷ []) ++ escape_text t) ++ escape_text (with_space_each (drop (i + 1) ts))
text_on whole out t ts i h is so_far =
    let rest : List ℕ = with_space_each (drop (i + 1) ts) in
    so_far ∙ ap (λ l. out ++ escape_text (with_space_each l)) (cons_at ts i t h is)
    ∙ ap (λ l. out ++ (32 ∷ l)) (escape-append t rest)
    ∙ sym (append_assoc out (32 ∷ []) (escape_text t ++ escape_text rest))
    ∙ sym (append_assoc (out ++ 32 ∷ []) (escape_text t) (escape_text rest))
