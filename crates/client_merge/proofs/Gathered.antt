-- Changes gathered place by place.
use Rattle.std.proofs.Common.{◌≡◌, ℕ, suc, ◌+◌, ◌≤◌, List, [], ◌∷◌, length, Option, Some, None, option_map, Bool, true, false, if◌then◌else◌, refl, sym, ap, ◌∙◌, subst, arith, is_some}
use Rattle.diff_tree.specs.Tree.{Tree, Trees, count, Change, Changes, merge_change, merge_changes}
use Rattle.diff_tree.specs.Client.{and_then}
use Rattle.client_merge.specs.Reading.{is_free, put_change, trees_of, written}
use Rattle.client_merge.specs.Laws.{reach}
use Rattle.client_merge.specs.Planned.{Placed, gathered, merged_all}
use Rattle.client_merge.proofs.Changes.{tree_at, tree_set, merge_at, at_out, at_is, at_none, merge_put, Holds, holds, count_kept, at_kept, writes, writes_put, reach_put, all_written, no_more_written, not_written, trees_whole}

pub next_free : (n : ℕ) (c : Change) (cs : Changes) (ps : List Placed) → is_free n cs ≡ true → gathered ((n, Some c) ∷ ps) cs ≡ gathered ps (put_change n c cs)
next_free n c cs ps h = ap (λ (b : Bool). and_then (if b then Some (put_change n c cs) else None) (gathered ps)) h

pub next_held : (n : ℕ) (c : Change) (cs : Changes) (ps : List Placed) → is_free n cs ≡ false → gathered ((n, Some c) ∷ ps) cs ≡ None
next_held n c cs ps h = ap (λ (b : Bool). and_then (if b then Some (put_change n c cs) else None) (gathered ps)) h

-- ---- merged

-- what does not merge does not with more
pub dead : (ts : Trees) (ps : List Placed) (cs : Changes) → merge_changes ts cs ≡ None → merged_all ts (gathered ps cs) ≡ None
dead ts [] cs h = h
dead ts ((n, None) ∷ ps) cs h = refl
dead ts ((n, Some c) ∷ ps) cs h = by (is_free n cs) refl (dead ts ps (put_change n c cs))
  where
    by : (b : Bool) → is_free n cs ≡ b → (merge_changes ts (put_change n c cs) ≡ None → merged_all ts (gathered ps (put_change n c cs)) ≡ None) → merged_all ts (gathered ((n, Some c) ∷ ps) cs) ≡ None
    by true free rest = ap (merged_all ts) (next_free n c cs ps free) ∙ rest (merge_put n c cs ts free ∙ ap (λ (o : Option Trees). and_then o (merge_at n c)) h)
    by false free rest = ap (merged_all ts) (next_held n c cs ps free)

-- a change that meets nothing it fits
pub dead_at : (ts us : Trees) (n : ℕ) (o : Option Change) (ps : List Placed) (cs : Changes) → merge_changes ts cs ≡ Some us
    → ((c : Change) → o ≡ Some c → is_free n cs ≡ true → merge_at n c us ≡ None) → merged_all ts (gathered ((n, o) ∷ ps) cs) ≡ None
dead_at ts us n None ps cs here bad = refl
dead_at ts us n (Some c) ps cs here bad = by (is_free n cs) refl
  where
    by : (b : Bool) → is_free n cs ≡ b → merged_all ts (gathered ((n, Some c) ∷ ps) cs) ≡ None
    by true free =
        ap (merged_all ts) (next_free n c cs ps free)
        ∙ dead ts ps (put_change n c cs) (merge_put n c cs ts free ∙ ap (λ (o : Option Trees). and_then o (merge_at n c)) here ∙ bad c refl free)
    by false free = ap (merged_all ts) (next_held n c cs ps free)

-- one change is merged
pub record Step (ts us : Trees) (n : ℕ) (o : Option Change) (ps : List Placed) (cs : Changes) : Type 0 where
  pub one : Change
  pub old : Tree
  pub new : Tree
  pub is : o ≡ Some one
  pub at : tree_at n us ≡ Some old
  pub merges : merge_change old one ≡ Some new
  pub rest : gathered ((n, o) ∷ ps) cs ≡ gathered ps (put_change n one cs)
  pub here : merge_changes ts (put_change n one cs) ≡ Some (tree_set n new us)

pub fits_here : (ts us : Trees) (n : ℕ) (c : Change) (cs : Changes) (t u : Tree) → is_free n cs ≡ true → merge_changes ts cs ≡ Some us → tree_at n us ≡ Some t → merge_change t c ≡ Some u
    → merge_changes ts (put_change n c cs) ≡ Some (tree_set n u us)
fits_here ts us n c cs t u free here at fits =
    merge_put n c cs ts free ∙ ap (λ (o : Option Trees). and_then o (merge_at n c)) here ∙ at_is n c us t at ∙ ap (option_map (λ u. tree_set n u us)) fits

not_none : {A : Type 0} (o : Option A) → is_some o ≡ true → o ≡ None → ⊥
not_none o h e = let f : is_some o ≡ false = ap is_some e in cc

pub apply_step : (ts us : Trees) (n : ℕ) (o : Option Change) (ps : List Placed) (cs : Changes) → merge_changes ts cs ≡ Some us → is_some (merged_all ts (gathered ((n, o) ∷ ps) cs)) ≡ true → Step ts us n o ps cs
apply_step ts us n None ps cs here some = cc
apply_step ts us n (Some c) ps cs here some = by (is_free n cs) refl
  where
    with_both : (t u : Tree) → is_free n cs ≡ true → tree_at n us ≡ Some t → merge_change t c ≡ Some u → Step ts us n (Some c) ps cs
    with_both t u free at fits = record { one = c; old = t; new = u; is = refl; at = at; merges = fits; rest = next_free n c cs ps free; here = fits_here ts us n c cs t u free here at fits }

    with_old : (t : Tree) (q : Option Tree) → is_free n cs ≡ true → tree_at n us ≡ Some t → merge_change t c ≡ q → Step ts us n (Some c) ps cs
    with_old t (Some u) free at fits = with_both t u free at fits
    with_old t None free at fits = absurd (not_none _ some (dead_at ts us n (Some c) ps cs here (λ d is g.
        let same : c ≡ d = cc in
        ap (λ e. merge_at n e us) (sym same) ∙ at_is n c us t at ∙ ap (option_map (λ u. tree_set n u us)) fits)))

    with_place : (q : Option Tree) → is_free n cs ≡ true → tree_at n us ≡ q → Step ts us n (Some c) ps cs
    with_place (Some t) free at = with_old t (merge_change t c) free at refl
    with_place None free at = absurd (not_none _ some (dead_at ts us n (Some c) ps cs here (λ d is g. at_none n d us at)))

    by : (b : Bool) → is_free n cs ≡ b → Step ts us n (Some c) ps cs
    by true free = with_place (tree_at n us) free refl
    by false free = absurd (not_none _ some (ap (merged_all ts) (next_held n c cs ps free)))

-- a place that was not reached yet is as it was first
pub still : (ts us : Trees) (n : ℕ) (cs : Changes) (t : Tree) → is_free n cs ≡ true → merge_changes ts cs ≡ Some us → tree_at n ts ≡ Some t → tree_at n us ≡ Some t
still ts us n cs t free here at = holds (merge_changes ts cs) (λ us. tree_at n us ≡ tree_at n ts) us (at_kept n cs ts free) here ∙ at

pub plan_step : (ts us : Trees) (n : ℕ) (o : Option Change) (ps : List Placed) (cs : Changes) (t : Tree) → is_free n cs ≡ true → merge_changes ts cs ≡ Some us → tree_at n ts ≡ Some t
    → is_some (and_then o (merge_change t)) ≡ true → Step ts us n o ps cs
plan_step ts us n None ps cs t free here at some = cc
plan_step ts us n (Some c) ps cs t free here at some = by (merge_change t c) refl some
  where
    by : (q : Option Tree) → merge_change t c ≡ q → is_some q ≡ true → Step ts us n (Some c) ps cs
    by None fits s = cc
    by (Some u) fits s =
        let now = still ts us n cs t free here at in
        record { one = c; old = t; new = u; is = refl; at = now; merges = fits; rest = next_free n c cs ps free; here = fits_here ts us n c cs t u free here now fits }

pub plan_bad : (ts us : Trees) (n : ℕ) (o : Option Change) (ps : List Placed) (cs : Changes) (t : Tree) → merge_changes ts cs ≡ Some us → tree_at n ts ≡ Some t
    → and_then o (merge_change t) ≡ None → merged_all ts (gathered ((n, o) ∷ ps) cs) ≡ None
plan_bad ts us n o ps cs t here at none = dead_at ts us n o ps cs here (λ c is free.
    at_is n c us t (still ts us n cs t free here at)
    ∙ ap (option_map (λ u. tree_set n u us)) (ap (λ (q : Option Change). and_then q (merge_change t)) (sym is) ∙ none))

pub plan_out : (ts us : Trees) (n : ℕ) (o : Option Change) (ps : List Placed) (cs : Changes) → merge_changes ts cs ≡ Some us → count ts ≤ n → merged_all ts (gathered ((n, o) ∷ ps) cs) ≡ None
plan_out ts us n o ps cs here out = dead_at ts us n o ps cs here (λ c is free.
    let same = holds (merge_changes ts cs) (λ us. count us ≡ count ts) us (count_kept cs ts) here in
    at_out n c us (omega arith))

-- ---- written

gathered_writes : (ps : List Placed) (cs : Changes) → Holds (gathered ps cs) (λ ds. (writes ds ≡ writes cs + length ps) × (reach cs ≤ reach ds))
gathered_writes [] cs = (omega arith, omega arith)
gathered_writes ((n, None) ∷ ps) cs = tt
gathered_writes ((n, Some c) ∷ ps) cs = by (is_free n cs) refl (gathered_writes ps (put_change n c cs))
  where
    over : (q : Option Changes) → is_free n cs ≡ true → Holds q (λ ds. (writes ds ≡ writes (put_change n c cs) + length ps) × (reach (put_change n c cs) ≤ reach ds))
        → Holds q (λ ds. (writes ds ≡ writes cs + suc (length ps)) × (reach cs ≤ reach ds))
    over None free h = tt
    over (Some ds) free h =
        let w = writes_put n c cs free in
        let r = reach_put n c cs in
        (omega (arith, h.0), omega (arith, h.1, r.0))

    by : (b : Bool) → is_free n cs ≡ b → Holds (gathered ps (put_change n c cs)) (λ ds. (writes ds ≡ writes (put_change n c cs) + length ps) × (reach (put_change n c cs) ≤ reach ds))
        → Holds (gathered ((n, Some c) ∷ ps) cs) (λ ds. (writes ds ≡ writes cs + suc (length ps)) × (reach cs ≤ reach ds))
    by true free h = subst (λ q. Holds q (λ ds. (writes ds ≡ writes cs + suc (length ps)) × (reach cs ≤ reach ds))) (sym (next_free n c cs ps free)) (over (gathered ps (put_change n c cs)) free h)
    by false free h = subst (λ q. Holds q (λ ds. (writes ds ≡ writes cs + suc (length ps)) × (reach cs ≤ reach ds))) (sym (next_held n c cs ps free)) tt

-- a place beyond so many leaves a gap
pub take_far : (n : ℕ) (o : Option Change) (ps : List Placed) (cs : Changes) → writes cs + suc (length ps) ≤ n → and_then (gathered ((n, o) ∷ ps) cs) trees_of ≡ None
take_far n None ps cs far = refl
take_far n (Some c) ps cs far = by (is_free n cs) refl
  where
    gap : (ds : Changes) (q : Option Trees) → is_free n cs ≡ true → (writes ds ≡ writes (put_change n c cs) + length ps) × (reach (put_change n c cs) ≤ reach ds) → trees_of ds ≡ q
        → Holds q (λ ts. (writes ds ≡ reach ds) × (all_written ds ≡ true)) → q ≡ None
    gap ds None free h is g = refl
    gap ds (Some ts) free h is g =
        let w = writes_put n c cs free in
        let r = reach_put n c cs in
        absurd (omega (arith, h.0, h.1, r.1, g.0))

    over : (q : Option Changes) → is_free n cs ≡ true → Holds q (λ ds. (writes ds ≡ writes (put_change n c cs) + length ps) × (reach (put_change n c cs) ≤ reach ds)) → and_then q trees_of ≡ None
    over None free h = refl
    over (Some ds) free h = gap ds (trees_of ds) free h refl (trees_whole ds)

    by : (b : Bool) → is_free n cs ≡ b → and_then (gathered ((n, Some c) ∷ ps) cs) trees_of ≡ None
    by true free = ap (λ (q : Option Changes). and_then q trees_of) (next_free n c cs ps free) ∙ over (gathered ps (put_change n c cs)) free (gathered_writes ps (put_change n c cs))
    by false free = ap (λ (q : Option Changes). and_then q trees_of) (next_held n c cs ps free)

unwritten : (ps : List Placed) (cs : Changes) → all_written cs ≡ false → and_then (gathered ps cs) trees_of ≡ None
unwritten [] cs h = by (trees_of cs) (trees_whole cs)
  where
    by : (q : Option Trees) → Holds q (λ ts. (writes cs ≡ reach cs) × (all_written cs ≡ true)) → q ≡ None
    by None g = refl
    by (Some ts) g = let f = g.1 in cc
unwritten ((n, None) ∷ ps) cs h = refl
unwritten ((n, Some c) ∷ ps) cs h = by (is_free n cs) refl (unwritten ps (put_change n c cs))
  where
    by : (b : Bool) → is_free n cs ≡ b → (all_written (put_change n c cs) ≡ false → and_then (gathered ps (put_change n c cs)) trees_of ≡ None) → and_then (gathered ((n, Some c) ∷ ps) cs) trees_of ≡ None
    by true free rest = ap (λ (q : Option Changes). and_then q trees_of) (next_free n c cs ps free) ∙ rest (no_more_written n c cs free h)
    by false free rest = ap (λ (q : Option Changes). and_then q trees_of) (next_held n c cs ps free)

-- a value that is no tree
pub take_bad : (n : ℕ) (o : Option Change) (ps : List Placed) (cs : Changes) → and_then o written ≡ None → and_then (gathered ((n, o) ∷ ps) cs) trees_of ≡ None
take_bad n None ps cs h = refl
take_bad n (Some c) ps cs h = by (is_free n cs) refl
  where
    by : (b : Bool) → is_free n cs ≡ b → and_then (gathered ((n, Some c) ∷ ps) cs) trees_of ≡ None
    by true free = ap (λ (q : Option Changes). and_then q trees_of) (next_free n c cs ps free) ∙ unwritten ps (put_change n c cs) (not_written n c cs free h)
    by false free = ap (λ (q : Option Changes). and_then q trees_of) (next_held n c cs ps free)
