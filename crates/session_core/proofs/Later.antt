-- The frames of a journal but for the first ones, and the length of frames.
use Rattle.std.proofs.Common.{◌≡◌, ℕ, zero, suc, ◌+◌, ◌-◌, ◌<◌, ◌≤◌, List, [], ◌∷◌, ◌++◌, length, drop, get_or, refl, ap, sym, ◌∙◌, arith}
use Rattle.std.proofs.lemmas.List.{drop_more}
use Rattle.doc_model.specs.Journal.{total_length}
use Rattle.session_core.specs.declared.entry.Entry.{Entry}
use Rattle.session_core.specs.Machine.{frames_in, journal_frames}

pub drop_past : {A : Type 0} (n : ℕ) (xs ys : List A) → length xs ≤ n → drop n (xs ++ ys) ≡ drop (n - length xs) ys
drop_past n [] ys h = let e : n - 0 ≡ n = omega arith in rw e refl
drop_past zero (x ∷ xs) ys h = absurd (omega (arith, h))
drop_past (suc n) (x ∷ xs) ys h = drop_past n xs ys (omega (arith, h)) ∙ ap (λ k. drop k ys) (omega arith)

-- an entry all of whose frames are skipped
pub skips : (es : List (ℕ × Entry)) (i : ℕ) (e : ℕ × Entry) (found all : List (List ℕ)) (skipped : ℕ) → i < length es → e ≡ get_or es i e → length (frames_in e.1) ≤ skipped
    → all ≡ found ++ drop skipped (journal_frames (drop i es)) → all ≡ found ++ drop (skipped - length (frames_in e.1)) (journal_frames (drop (i + 1) es))
skips es i e found all skipped h is most so_far =
    so_far ∙ ap (λ d. found ++ drop skipped (journal_frames d)) (drop_more es i e h ∙ ap (λ x. x ∷ drop (i + 1) es) (sym is))
    ∙ ap (λ fs. found ++ fs) (drop_past skipped (frames_in e.1) (journal_frames (drop (i + 1) es)) most)

-- the length of the texts from one on
pub length_from : (ts : List (List ℕ)) (i : ℕ) (t : List ℕ) → i < length ts → t ≡ get_or ts i t → total_length (drop i ts) ≡ length t + total_length (drop (i + 1) ts)
length_from ts i t h is = ap total_length (drop_more ts i t h ∙ ap (λ x. x ∷ drop (i + 1) ts) (sym is))
