-- Frames that are read one after the other.
use Rattle.std.proofs.Common.{◌≡◌, ℕ, ◌+◌, ◌<◌, ◌≤◌, List, [], ◌++◌, take, drop, length, get_or, Option, Some, None, Result, Ok, Err, OnErr, sym, ap, ◌∙◌, append-nil}
use Rattle.std.proofs.lemmas.List.{take-append-drop, take_all}
use Rattle.diff_tree.specs.Tree.{Tree}
use Rattle.diff_tree.specs.Client.{and_then}
use Rattle.diff_tree.proofs.Order.{cons_at}
use Rattle.client_merge.specs.Frames.{client_reads, client_reads_all, ReadsFront}

-- the frames in front of a place were read
abbrev pub SoFar : Option Tree → List (List ℕ) → ℕ → Option Tree → Type 0
SoFar old fs i now = (rest : List (List ℕ)) → client_reads_all old (take i fs ++ rest) ≡ client_reads_all now rest

-- one that is bad makes all bad
pub stops : (old now : Option Tree) (fs : List (List ℕ)) (i : ℕ) (f : List ℕ) → i < length fs → f ≡ get_or fs i f → SoFar old fs i now → client_reads now f ≡ None → client_reads_all old fs ≡ None
stops old now fs i f small is so_far bad =
    ap (client_reads_all old) (sym (take-append-drop i fs)) ∙ so_far (drop i fs) ∙ ap (client_reads_all now) (cons_at fs i f small is)
    ∙ ap (λ o. and_then o (λ h. client_reads_all h (drop (i + 1) fs))) bad

pub front : (old now : Option Tree) (fs : List (List ℕ)) (i : ℕ) → SoFar old fs i now → ReadsFront old fs now
front old now fs i so_far = (take i fs, drop i fs, sym (take-append-drop i fs), ap (client_reads_all old) (sym (append-nil (take i fs))) ∙ so_far [])

pub all_read : (old now : Option Tree) (fs : List (List ℕ)) (i : ℕ) → length fs ≤ i → SoFar old fs i now → client_reads_all old fs ≡ Some now
all_read old now fs i end so_far = ap (client_reads_all old) (sym (append-nil fs)) ∙ ap (λ l. client_reads_all old (l ++ [])) (sym (take_all i fs end)) ∙ so_far []

pub on_err : {T E : Type 0} (A : Type 0) (r : Result T E) → A → OnErr r A
on_err A (Ok x) a = tt
on_err A (Err e) a = a
