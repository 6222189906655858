-- A text is escaped stretch by stretch.
use Rattle.std.proofs.Common.{◌≡◌, ℕ, ◌+◌, ◌-◌, ◌<◌, ◌≤◌, List, [], ◌∷◌, ◌++◌, length, get_or, take, drop, Some, None, unwrap_or, refl, sym, ap, ◌∙◌, arith, append_assoc, append-nil, length-drop}
use Rattle.std.specs.List.{slice_range}
use Rattle.std.proofs.lemmas.List.{take_more, drop_more, get_or-drop, take_all}
use Rattle.std.proofs.lemmas.List.Folds.{drop_split}
use Rattle.std.proofs.lemmas.Bool.Decides.{nat_tests}
use Rattle.text_core.specs.Escape.{entity_of, escape_text}

pub escape-append : (a b : List ℕ) → escape_text (a ++ b) ≡ escape_text a ++ escape_text b
escape-append [] b = refl
escape-append (c ∷ a) b =
    ap (λ t. unwrap_or (entity_of c) (c ∷ []) ++ t) (escape-append a b) ∙ sym (append_assoc (unwrap_or (entity_of c) (c ∷ [])) (escape_text a) (escape_text b))

-- one of the five characters, behind a stretch without any
pub entity_step : (text escaped e : List ℕ) (start i : ℕ) → start ≤ i → i < length text → entity_of (get_or text i 0) ≡ Some e
    → escape_text text ≡ escaped ++ escape_text (drop start text) → escape_text (slice_range text start i) ≡ slice_range text start i
    → escape_text text ≡ ((escaped ++ slice_range text start i) ++ e) ++ escape_text (drop (i + 1) text)
entity_step text escaped e start i h small is so_far plain =
    let rest = escape_text (drop (i + 1) text) in
    so_far ∙ ap (λ t. escaped ++ escape_text t) (drop_split text start i h ∙ ap (λ t. slice_range text start i ++ t) (drop_more text i 0 small))
    ∙ ap (λ t. escaped ++ t) (escape-append (slice_range text start i) (get_or text i 0 ∷ drop (i + 1) text) ∙ ap (λ t. t ++ (unwrap_or (entity_of (get_or text i 0)) (get_or text i 0 ∷ []) ++ rest)) plain
    ∙ ap (λ o. slice_range text start i ++ (unwrap_or o (get_or text i 0 ∷ []) ++ rest)) is)
    ∙ sym (append_assoc escaped (slice_range text start i) (e ++ rest)) ∙ sym (append_assoc (escaped ++ slice_range text start i) e rest)

-- one more character that stays as it is
pub plain_step : (text : List ℕ) (start i : ℕ) → start ≤ i → i < length text → entity_of (get_or text i 0) ≡ None
    → escape_text (slice_range text start i) ≡ slice_range text start i → escape_text (slice_range text start (i + 1)) ≡ slice_range text start (i + 1)
plain_step text start i h small is plain =
    let n : (i + 1) - start ≡ (i - start) + 1 = omega arith in
    let k : i - start < length (drop start text) = omega (arith, length-drop start text) in
    let at : get_or (drop start text) (i - start) 0 ≡ get_or text i 0 = get_or-drop start text (i - start) 0 ∙ ap (λ j. get_or text j 0) (omega arith) in
    let more : slice_range text start (i + 1) ≡ slice_range text start i ++ get_or text i 0 ∷ []
    = ap (λ j. take j (drop start text)) n ∙ take_more (drop start text) (i - start) 0 k ∙ ap (λ c. slice_range text start i ++ c ∷ []) at in
    let one : escape_text (get_or text i 0 ∷ []) ≡ get_or text i 0 ∷ [] = ap (λ o. unwrap_or o (get_or text i 0 ∷ []) ++ []) is ∙ append-nil (get_or text i 0 ∷ []) in
    ap escape_text more ∙ escape-append (slice_range text start i) (get_or text i 0 ∷ []) ∙ ap (λ t. t ++ escape_text (get_or text i 0 ∷ [])) plain ∙ ap (λ t. slice_range text start i ++ t) one ∙ sym more

-- the last stretch
pub escape_end : (text escaped : List ℕ) (start : ℕ) → start ≤ length text → escape_text text ≡ escaped ++ escape_text (drop start text)
    → escape_text (slice_range text start (length text)) ≡ slice_range text start (length text) → escaped ++ drop start text ≡ escape_text text
escape_end text escaped start h so_far plain =
    let all : slice_range text start (length text) ≡ drop start text = take_all (length text - start) (drop start text) (omega (arith, length-drop start text)) in
    sym (so_far ∙ ap (λ t. escaped ++ t) (ap escape_text (sym all) ∙ plain ∙ all))

-- a stretch without characters
pub nothing_yet_from : (text : List ℕ) (i : ℕ) → escape_text (slice_range text i i) ≡ slice_range text i i
nothing_yet_from text i = let none : i - i ≡ 0 = omega arith in rw none refl

-- the five characters are ASCII
pub entity_is_ascii : (c : ℕ) (e : List ℕ) → entity_of c ≡ Some e → c < 128
entity_is_ascii c e h = grind (arith, nat_tests)
