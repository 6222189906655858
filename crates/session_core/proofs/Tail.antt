-- The last frames of a journal, found from its end.
use Rattle.std.proofs.Common.{◌≡◌, ℕ, ◌+◌, ◌-◌, ◌<◌, ◌≤◌, ◌⊎◌, min, List, [], ◌∷◌, ◌++◌, length, take, drop, get_or, ap, sym, ◌∙◌, arith, inl, inr}
use Rattle.std.proofs.lemmas.Bool.{cases_lt}
use Rattle.std.proofs.lemmas.List.{drop_more, drop_all, take-append-drop, length-append, append-nil}
use Rattle.std.proofs.lemmas.Grind.{flat_map-append}
use Rattle.session_core.specs.declared.entry.Entry.{Entry}
use Rattle.session_core.specs.Machine.{frames_in, journal_frames}
use Rattle.session_core.proofs.Later.{drop_past}

abbrev Numbered : Type 0
Numbered = ℕ × Entry

-- the frames before a place, and those from it on
parted : (es : List Numbered) (i : ℕ) → journal_frames es ≡ journal_frames (take i es) ++ journal_frames (drop i es)
parted es i = ap journal_frames (sym (take-append-drop i es)) ∙ flat_map-append (λ e. frames_in e.1) (take i es) (drop i es)

from_place : (es : List Numbered) (i : ℕ) (e : Numbered) → i < length es → e ≡ get_or es i e → journal_frames (drop i es) ≡ frames_in e.1 ++ journal_frames (drop (i + 1) es)
from_place es i e h is = ap journal_frames (drop_more es i e h ∙ ap (λ x. x ∷ drop (i + 1) es) (sym is))

count_from : (es : List Numbered) (i : ℕ) (e : Numbered) → i < length es → e ≡ get_or es i e → length (journal_frames (drop i es)) ≡ length (frames_in e.1) + length (journal_frames (drop (i + 1) es))
count_from es i e h is = ap length (from_place es i e h is) ∙ length-append (frames_in e.1) (journal_frames (drop (i + 1) es))

-- the entry where the last frames begin
pub begins : (es : List Numbered) (i : ℕ) (e : Numbered) (missing wanted : ℕ) → i < length es → e ≡ get_or es i e → length (journal_frames (drop (i + 1) es)) + missing ≡ wanted → missing ≤ length (frames_in e.1)
    → drop (length (frames_in e.1) - missing) (journal_frames (drop i es)) ≡ drop (length (journal_frames es) - wanted) (journal_frames es)
begins es i e missing wanted h is so_far enough =
    let front = journal_frames (take i es) in
    let tail = journal_frames (drop i es) in
    let n : length (journal_frames es) ≡ length front + length tail = ap length (parted es i) ∙ length-append front tail in
    let m = count_from es i e h is in
    let past : length front ≤ length (journal_frames es) - wanted = omega (arith, n, m, so_far, enough) in
    let rest : (length (journal_frames es) - wanted) - length front ≡ length (frames_in e.1) - missing = omega (arith, n, m, so_far, enough) in
    sym (ap (λ fs. drop (length (journal_frames es) - wanted) fs) (parted es i) ∙ drop_past (length (journal_frames es) - wanted) front tail past ∙ ap (λ k. drop k tail) rest)

-- an entry that is among the last frames as a whole
pub goes_back : (es : List Numbered) (i : ℕ) (e : Numbered) (missing wanted : ℕ) → i < length es → e ≡ get_or es i e → length (journal_frames (drop (i + 1) es)) + missing ≡ wanted → length (frames_in e.1) < missing
    → length (journal_frames (drop i es)) + (missing - length (frames_in e.1)) ≡ wanted
goes_back es i e missing wanted h is so_far few = let m = count_from es i e h is in omega (arith, m, so_far, few)

-- fewer frames than that
pub all_of : (es : List Numbered) (missing wanted : ℕ) → length (journal_frames es) + missing ≡ wanted → journal_frames es ≡ drop (length (journal_frames es) - wanted) (journal_frames es)
all_of es missing wanted h = let none : length (journal_frames es) - wanted ≡ 0 = omega (arith, h) in ap (λ k. drop k (journal_frames es)) (sym none)

-- the frames from a number on, as so many from the end
pub from_end : (fs : List (List ℕ)) (from count : ℕ) → count ≡ min (length fs) 18446744073709551615 → count < 18446744073709551615 → drop (length fs - (count - from)) fs ≡ drop from fs
from_end fs from count is few = by_case (cases_lt (length fs) from)
  where
    by_case : (length fs < from) ⊎ (from ≤ length fs) → drop (length fs - (count - from)) fs ≡ drop from fs
    by_case (inl past) = let n : length fs - (count - from) ≡ length fs = omega (arith, is, few, past) in ap (λ k. drop k fs) n ∙ drop_all (length fs) fs (omega arith) ∙ sym (drop_all from fs (omega (arith, past)))
    by_case (inr within) = let n : length fs - (count - from) ≡ from = omega (arith, is, few, within) in ap (λ k. drop k fs) n

-- how many frames there are with one entry more
pub frames_more : (es : List Numbered) (by : ℕ) (e : Entry) → length (journal_frames (es ++ (by, e) ∷ [])) ≡ length (journal_frames es) + length (frames_in e)
frames_more es by e =
    ap length (flat_map-append (λ x. frames_in x.1) es ((by, e) ∷ [])) ∙ length-append (journal_frames es) (frames_in e ++ []) ∙ ap (λ fs. length (journal_frames es) + length fs) (append-nil (frames_in e))

pub counted : (es : List Numbered) (by : ℕ) (e : Entry) (count : ℕ) → count ≡ min (length (journal_frames es)) 18446744073709551615 → min (count + length (frames_in e)) 18446744073709551615 ≡ min (length (journal_frames (es ++ (by, e) ∷ []))) 18446744073709551615
counted es by e count is = let n = frames_more es by e in omega (arith, n, is)

-- an entry without frames
pub counted_none : (es : List Numbered) (by : ℕ) (e : Entry) (count : ℕ) → frames_in e ≡ [] → count ≡ min (length (journal_frames es)) 18446744073709551615 → count ≡ min (length (journal_frames (es ++ (by, e) ∷ []))) 18446744073709551615
counted_none es by e count none is = let n = frames_more es by e in let z : length (frames_in e) ≡ 0 = ap length none in omega (arith, n, z, is)
