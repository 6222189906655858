-- Statics and values by turns, one after the other.
use Rattle.std.proofs.Common.{◌≡◌, ℕ, zero, suc, ◌+◌, ◌<◌, ◌≤◌, List, [], ◌∷◌, ◌++◌, length, get_or, drop, refl, sym, ap, ◌∙◌, arith, append_assoc, append-nil, Result, Ok, Err, OnOk}
use Rattle.std.proofs.Math.ListN.{drop_of_length-le}
use Rattle.diff_tree.specs.Tree.{weave, flat}
use Rattle.diff_tree.proofs.Order.{cons_at}
use Rattle.client_merge.specs.Held.{held_tree, held_trees, held_rows, page_of, pages_of, row_pages}
use Rattle.client_merge.specs.declared.held.HeldNode.{HeldNode}
use Rattle.client_merge.specs.declared.held.HeldRow.{HeldRow, out-HeldRow}
use Rattle.client_merge.proofs.Views.{row-is}

-- what is still to be shown from a place on
abbrev pub left : ℕ → List (List ℕ) → List HeldNode → List ℕ
left zero ss hs = weave ss (pages_of (held_trees hs))
left (suc n) ss [] = []
left (suc n) [] (h ∷ hs) = left n [] hs
left (suc n) (s ∷ ss) (h ∷ hs) = left n ss hs

weave_one : (ss : List (List ℕ)) (h : HeldNode) (hs : List HeldNode) → left zero ss (h ∷ hs) ≡ get_or ss zero [] ++ (page_of (held_tree h) ++ left (suc zero) ss (h ∷ hs))
weave_one [] h hs = refl
weave_one (s ∷ ss) h hs = refl

pub left_on : (n : ℕ) (ss : List (List ℕ)) (hs : List HeldNode) (h : HeldNode) → n < length hs → h ≡ get_or hs n h → left n ss hs ≡ get_or ss n [] ++ (page_of (held_tree h) ++ left (suc n) ss hs)
left_on n ss [] h small is = absurd (omega arith)
left_on zero ss (g ∷ hs) h small is = weave_one ss g hs ∙ ap (λ x. get_or ss zero [] ++ (page_of (held_tree x) ++ left (suc zero) ss (g ∷ hs))) (sym is)
left_on (suc n) [] (g ∷ hs) h small is = left_on n [] hs h (omega arith) is ∙ ap (λ l. l ++ (page_of (held_tree h) ++ left (suc n) [] hs)) (none n)
  where
    none : (n : ℕ) → get_or {A = List ℕ} [] n [] ≡ []
    none zero = refl
    none (suc n) = refl
left_on (suc n) (s ∷ ss) (g ∷ hs) h small is = left_on n ss hs h (omega arith) is

pub left_last : (ss : List (List ℕ)) (hs : List HeldNode) → left (length hs) ss hs ≡ get_or ss (length hs) []
left_last [] [] = refl
left_last (s ∷ ss) [] = refl
left_last [] (h ∷ hs) = left_last [] hs ∙ none (length hs)
  where
    none : (n : ℕ) → get_or {A = List ℕ} [] n [] ≡ []
    none zero = refl
    none (suc n) = refl
left_last (s ∷ ss) (h ∷ hs) = left_last ss hs

-- one place more was shown
pub shows_on : (n : ℕ) (ss : List (List ℕ)) (hs : List HeldNode) (h : HeldNode) (page page' page'' : List ℕ) → n < length hs → h ≡ get_or hs n h → page' ≡ page ++ get_or ss n [] → page'' ≡ page' ++ page_of (held_tree h)
    → page'' ++ left (n + 1) ss hs ≡ page ++ left n ss hs
shows_on n ss hs h page page' page'' small is one two =
    let more : n + 1 ≡ suc n = omega arith in
    let s : List ℕ = get_or ss n [] in
    let p : List ℕ = page_of (held_tree h) in
    let l : List ℕ = left (suc n) ss hs in
    ap (λ m. page'' ++ left m ss hs) more
    ∙ ap (λ x. x ++ l) (two ∙ ap (λ x. x ++ p) one)
    ∙ append_assoc (page ++ s) p l ∙ append_assoc page s (p ++ l)
    ∙ ap (λ x. page ++ x) (sym (left_on n ss hs h small is))

pub shows_all : (n : ℕ) (ss : List (List ℕ)) (hs gs : List HeldNode) (old page page' : List ℕ) → n ≡ length hs → hs ≡ gs → page ++ left n ss hs ≡ old ++ left 0 ss hs → page' ≡ page ++ get_or ss (length hs) []
    → page' ≡ old ++ weave ss (pages_of (held_trees gs))
shows_all n ss hs gs old page page' end same kept last =
    last ∙ ap (λ x. page ++ x) (sym (left_last ss hs) ∙ ap (λ m. left m ss hs) (sym end)) ∙ kept ∙ ap (λ l. old ++ weave ss (pages_of (held_trees l))) same

pub on_ok : {T E A B : Type 0} (r : Result T E) → (A → B) → OnOk r A → OnOk r B
on_ok (Ok x) f h = f h
on_ok (Err e) f h = tt

-- one row more was shown
pub rows_on : (i : ℕ) (st : List (List ℕ)) (rs : List HeldRow) (r : HeldRow) (page page' old : List ℕ) → i < length rs → r ≡ get_or rs i r → page' ≡ page ++ weave st (pages_of (held_trees (out-HeldRow r).values))
    → page ++ flat (row_pages st (held_rows (drop i rs))) ≡ old → page' ++ flat (row_pages st (held_rows (drop (i + 1) rs))) ≡ old
rows_on i st rs r page page' old small is one kept =
    let w : List ℕ = weave st (pages_of (held_trees (out-HeldRow r).values)) in
    let rest : List ℕ = flat (row_pages st (held_rows (drop (i + 1) rs))) in
    ap (λ p. p ++ rest) one ∙ append_assoc page w rest
    ∙ ap (λ ts. page ++ (weave st (pages_of ts) ++ rest)) (sym (row-is r))
    ∙ ap (λ l. page ++ flat (row_pages st (held_rows l))) (sym (cons_at rs i r small is)) ∙ kept

pub rows_shown : (i : ℕ) (st : List (List ℕ)) (rs : List HeldRow) (page old : List ℕ) → length rs ≤ i → page ++ flat (row_pages st (held_rows (drop i rs))) ≡ old → page ≡ old
rows_shown i st rs page old past kept =
    sym (append-nil page) ∙ ap (λ l. page ++ flat (row_pages st (held_rows l))) (sym (drop_of_length-le rs past)) ∙ kept
