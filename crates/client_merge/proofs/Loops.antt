-- What the loops over places keep.
use Rattle.std.proofs.Common.{◌≡◌, ℕ, suc, ◌+◌, ◌<◌, ◌≤◌, ◌^◌, List, [], ◌∷◌, ◌++◌, length, map, Option, Some, None, Bool, true, false, if◌then◌else◌, refl, sym, ap, ◌∙◌, arith, is_some, codes}
use Rattle.std.specs.Str.{bytes_eq}
use Rattle.std.proofs.lemmas.List.{map-append}
use Rattle.text_core.specs.declared.by_key.KeyValue.{KeyValue}
use Rattle.text_core.specs.Keyed.{is_before, ascend, keys}
use Rattle.text_core.proofs.Keyed.{both_of}
use Rattle.diff_tree.specs.Tree.{Tree, Trees, count, Change, write, inner, rows, batch, Changes, no_changes, merge_change, merge_changes, opened}
use Rattle.diff_tree.specs.Client.{and_then}
use Rattle.diff_tree.specs.Grammar.{is_place}
use Rattle.diff_tree.specs.Parts.{place_data}
use Rattle.diff_tree.specs.declared.part.PlaceValue.{PlaceValue}
use Rattle.client_merge.specs.Reading.{number_of, is_free, put_change, with_change, trees_of, change_of, written, tree_of}
use Rattle.client_merge.specs.Held.{held_tree, blank_trees}
use Rattle.client_merge.specs.Planned.{Placed, added, gathered, placed, planned_all, merged_all}
use Rattle.client_merge.specs.declared.held.HeldNode.{HeldNode}
use Rattle.client_merge.specs.declared.plan.PlaceChange.{PlaceChange}
use Rattle.client_merge.proofs.Changes.{tree_at, tree_set, at_some, merge_none, holds, count_kept, writes, writes_put, AllOpen, open_put, fill, count_blank}
use Rattle.client_merge.proofs.Gathered.{Step, next_free, apply_step, plan_step, plan_bad, plan_out, take_far, take_bad, fits_here}
use Rattle.client_merge.proofs.Members.{AllFree, free_first, free_on, reading, readings, unstatic}
use Rattle.client_merge.proofs.Views.{open_held}

-- ---- changes that are applied

pub record Applied (ts : Trees) (all : Option Changes) (rest : List PlaceChange) (now : Trees) : Type 0 where
  pub done : Changes
  pub whole : gathered (map placed rest) done ≡ all
  pub here : merge_changes ts done ≡ Some now

pub applied_first : (ts : Trees) (ps : List PlaceChange) → Applied ts (planned_all ps) ps ts
applied_first ts ps = record { done = no_changes; whole = refl; here = merge_none ts }

pub applied_step : (ts : Trees) (all : Option Changes) (p : PlaceChange) (rest : List PlaceChange) (now : Trees) (a : Applied ts all (p ∷ rest) now) → is_some (merged_all ts all) ≡ true
    → Step ts now (placed p).0 (placed p).1 (map placed rest) a.done
applied_step ts all p rest now a some = apply_step ts now (placed p).0 (placed p).1 (map placed rest) a.done a.here (ap (λ (o : Option Changes). is_some (merged_all ts o)) a.whole ∙ some)

pub applied_on : (ts : Trees) (all : Option Changes) (p : PlaceChange) (rest : List PlaceChange) (now : Trees) (a : Applied ts all (p ∷ rest) now) (s : Step ts now (placed p).0 (placed p).1 (map placed rest) a.done)
    → Applied ts all rest (tree_set (placed p).0 s.new now)
applied_on ts all p rest now a s = record { done = put_change (placed p).0 s.one a.done; whole = sym s.rest ∙ a.whole; here = s.here }

pub applied_last : (ts : Trees) (all : Option Changes) (now : Trees) → Applied ts all [] now → merged_all ts all ≡ Some now
applied_last ts all now a = ap (merged_all ts) (sym a.whole) ∙ a.here

-- ---- changes that are planned

gathered-snoc : (ps : List Placed) (p : Placed) (cs : Changes) → gathered (ps ++ p ∷ []) cs ≡ and_then (gathered ps cs) (added p)
gathered-snoc [] p cs = by (added p cs)
  where
    by : (o : Option Changes) → and_then o (gathered []) ≡ o
    by None = refl
    by (Some ds) = refl
gathered-snoc (q ∷ ps) p cs = by (added q cs) (gathered-snoc ps p)
  where
    by : (o : Option Changes) → ((ds : Changes) → gathered (ps ++ p ∷ []) ds ≡ and_then (gathered ps ds) (added p)) → and_then o (gathered (ps ++ p ∷ [])) ≡ and_then (and_then o (gathered ps)) (added p)
    by None h = refl
    by (Some ds) h = h ds

pub record Planning (ts : Trees) (all : Option Changes) (rest : List (KeyValue PlaceValue)) (made : List PlaceChange) : Type 0 where
  pub done : Changes
  pub now : Trees
  pub whole : gathered (readings rest) done ≡ all
  pub so_far : planned_all made ≡ Some done
  pub here : merge_changes ts done ≡ Some now
  pub free : AllFree rest done
  pub up : ascend (keys rest) ≡ true

pub planning_first : (ts : Trees) (es : List (KeyValue PlaceValue)) → ascend (keys es) ≡ true → Planning ts (gathered (readings es) no_changes) es []
planning_first ts es up = record { done = no_changes; now = ts; whole = refl; so_far = refl; here = merge_none ts; free = free_first es; up = up }

is_read : (e : KeyValue PlaceValue) → is_place e.key ≡ true → (reading e).1 ≡ change_of (place_data e.value)
is_read e is = ap (λ (b : Bool). if b then change_of (place_data e.value) else None) is

-- a key that is no place's
pub plan_none : (ts : Trees) (all : Option Changes) (e : KeyValue PlaceValue) (rest : List (KeyValue PlaceValue)) (made : List PlaceChange) → Planning ts all (e ∷ rest) made
    → (is_place e.key ≡ true → count ts ≤ number_of e.key) → merged_all ts all ≡ None
plan_none ts all e rest made p out = ap (merged_all ts) (sym p.whole) ∙ by (is_place e.key) refl
  where
    by : (b : Bool) → is_place e.key ≡ b → merged_all ts (gathered (readings (e ∷ rest)) p.done) ≡ None
    by true is = plan_out ts p.now (number_of e.key) (reading e).1 (readings rest) p.done p.here (out is)
    by false is = ap (λ (b : Bool). merged_all ts (and_then (and_then (if b then change_of (place_data e.value) else None) (with_change (number_of e.key) p.done)) (gathered (readings rest)))) is

-- a change that does not fit
pub plan_unfit : (ts : Trees) (all : Option Changes) (e : KeyValue PlaceValue) (rest : List (KeyValue PlaceValue)) (made : List PlaceChange) (t : Tree) → Planning ts all (e ∷ rest) made
    → is_place e.key ≡ true → tree_at (number_of e.key) ts ≡ Some t → and_then (change_of (place_data e.value)) (merge_change t) ≡ None → merged_all ts all ≡ None
plan_unfit ts all e rest made t p is at bad =
    ap (merged_all ts) (sym p.whole)
    ∙ plan_bad ts p.now (number_of e.key) (reading e).1 (readings rest) p.done t p.here at (ap (λ (o : Option Change). and_then o (merge_change t)) (is_read e is) ∙ bad)

pub plan_on : (ts : Trees) (all : Option Changes) (e : KeyValue PlaceValue) (rest : List (KeyValue PlaceValue)) (made : List PlaceChange) (t : Tree) (c : PlaceChange) → Planning ts all (e ∷ rest) made
    → is_place e.key ≡ true → number_of e.key < 2 ^ 64 → tree_at (number_of e.key) ts ≡ Some t → placed c ≡ (number_of e.key, change_of (place_data e.value)) → is_some (and_then (change_of (place_data e.value)) (merge_change t)) ≡ true
    → Planning ts all rest (made ++ c ∷ [])
plan_on ts all e rest made t c p is small at same some =
    let n = number_of e.key in
    let free : is_free n p.done ≡ true = p.free.0 is small in
    let s : Step ts p.now n (reading e).1 (readings rest) p.done
    = plan_step ts p.now n (reading e).1 (readings rest) p.done t free p.here at (ap (λ (o : Option Change). is_some (and_then o (merge_change t))) (is_read e is) ∙ some) in
    let q = both_of (is_before e.key (keys rest)) (ascend (keys rest)) p.up in
    let one : change_of (place_data e.value) ≡ Some s.one = sym (is_read e is) ∙ s.is in
    record {
      done = put_change n s.one p.done;
      now = tree_set n s.new p.now;
      whole = sym s.rest ∙ p.whole;
      so_far = ap (λ l. gathered l no_changes) (map-append placed made (c ∷ []))
          ∙ gathered-snoc (map placed made) (placed c) no_changes
          ∙ ap (λ (o : Option Changes). and_then o (added (placed c))) p.so_far
          ∙ ap (λ (x : Placed). added x p.done) same
          ∙ ap (λ (o : Option Change). and_then o (with_change n p.done)) one
          ∙ ap (λ (b : Bool). if b then Some (put_change n s.one p.done) else None) free;
      here = s.here;
      free = free_on e.key s.one p.done rest is small q.0 q.1 p.free.1;
      up = q.1;
    }

pub plan_last : (ts : Trees) (all : Option Changes) (made : List PlaceChange) → Planning ts all [] made → (planned_all made ≡ all) × (is_some (merged_all ts (planned_all made)) ≡ true)
plan_last ts all made p = (p.so_far ∙ p.whole, ap (λ (o : Option Changes). is_some (merged_all ts o)) p.so_far ∙ ap is_some p.here)

-- ---- trees that are taken

pub record Taking (n : ℕ) (all : Option Changes) (rest : List (KeyValue PlaceValue)) (now : Trees) : Type 0 where
  pub done : Changes
  pub whole : gathered (readings (unstatic rest)) done ≡ all
  pub here : merge_changes (blank_trees n) done ≡ Some now
  pub opens : AllOpen done
  pub counted : writes done + length (unstatic rest) ≡ n
  pub free : AllFree rest done
  pub up : ascend (keys rest) ≡ true

pub taking_first : (n : ℕ) (es : List (KeyValue PlaceValue)) → ascend (keys es) ≡ true → length (unstatic es) ≡ n → Taking n (gathered (readings (unstatic es)) no_changes) es (blank_trees n)
taking_first n es up counted = record { done = no_changes; whole = refl; here = merge_none (blank_trees n); opens = tt; counted = omega arith; free = free_first es; up = up }

skipped : (e : KeyValue PlaceValue) (rest : List (KeyValue PlaceValue)) → bytes_eq e.key (codes "s") ≡ true → unstatic (e ∷ rest) ≡ unstatic rest
skipped e rest is = ap (λ (b : Bool). if b then unstatic rest else e ∷ unstatic rest) is

named : (e : KeyValue PlaceValue) (rest : List (KeyValue PlaceValue)) → bytes_eq e.key (codes "s") ≡ false → unstatic (e ∷ rest) ≡ e ∷ unstatic rest
named e rest is = ap (λ (b : Bool). if b then unstatic rest else e ∷ unstatic rest) is

pub take_skip : (n : ℕ) (all : Option Changes) (e : KeyValue PlaceValue) (rest : List (KeyValue PlaceValue)) (now : Trees) → bytes_eq e.key (codes "s") ≡ true → Taking n all (e ∷ rest) now → Taking n all rest now
take_skip n all e rest now is p =
    let q = both_of (is_before e.key (keys rest)) (ascend (keys rest)) p.up in
    record {
      done = p.done;
      whole = sym (ap (λ l. gathered (readings l) p.done) (skipped e rest is)) ∙ p.whole;
      here = p.here;
      opens = p.opens;
      counted = sym (ap (λ l. writes p.done + length l) (skipped e rest is)) ∙ p.counted;
      free = p.free.1;
      up = q.1;
    }

length-readings : (es : List (KeyValue PlaceValue)) → length (readings es) ≡ length es
length-readings [] = refl
length-readings (e ∷ es) = ap suc (length-readings es)

pub take_none : (n : ℕ) (all : Option Changes) (e : KeyValue PlaceValue) (rest : List (KeyValue PlaceValue)) (now : Trees) → bytes_eq e.key (codes "s") ≡ false → Taking n all (e ∷ rest) now
    → (is_place e.key ≡ true → n ≤ number_of e.key) → and_then all trees_of ≡ None
take_none n all e rest now other p out =
    ap (λ (o : Option Changes). and_then o trees_of) (sym p.whole) ∙ ap (λ l. and_then (gathered (readings l) p.done) trees_of) (named e rest other) ∙ by (is_place e.key) refl
  where
    by : (b : Bool) → is_place e.key ≡ b → and_then (gathered (readings (e ∷ unstatic rest)) p.done) trees_of ≡ None
    by true is =
        let far = out is in
        let all_of = length-readings (unstatic rest) in
        let counted : writes p.done + suc (length (unstatic rest)) ≡ n = sym (ap (λ l. writes p.done + length l) (named e rest other)) ∙ p.counted in
        take_far (number_of e.key) (reading e).1 (readings (unstatic rest)) p.done (omega arith)
    by false is = ap (λ (b : Bool). and_then (and_then (and_then (if b then change_of (place_data e.value) else None) (with_change (number_of e.key) p.done)) (gathered (readings (unstatic rest)))) trees_of) is

pub take_unfit : (n : ℕ) (all : Option Changes) (e : KeyValue PlaceValue) (rest : List (KeyValue PlaceValue)) (now : Trees) → bytes_eq e.key (codes "s") ≡ false → Taking n all (e ∷ rest) now
    → is_place e.key ≡ true → tree_of (place_data e.value) ≡ None → and_then all trees_of ≡ None
take_unfit n all e rest now other p is bad =
    ap (λ (o : Option Changes). and_then o trees_of) (sym p.whole) ∙ ap (λ l. and_then (gathered (readings l) p.done) trees_of) (named e rest other)
    ∙ take_bad (number_of e.key) (reading e).1 (readings (unstatic rest)) p.done (ap (λ (o : Option Change). and_then o written) (is_read e is) ∙ bad)

pub writes_it : (o : Option Change) (u : Tree) → and_then o written ≡ Some u → o ≡ Some (write u)
writes_it None u h = cc
writes_it (Some (write v)) u h = let e : v ≡ u = cc in ap (λ x. Some (write x)) e
writes_it (Some (inner ds)) u h = cc
writes_it (Some (rows rs)) u h = cc
writes_it (Some (batch name b rs)) u h = cc

pub take_on : (n : ℕ) (all : Option Changes) (e : KeyValue PlaceValue) (rest : List (KeyValue PlaceValue)) (now : Trees) (h : HeldNode) → bytes_eq e.key (codes "s") ≡ false → Taking n all (e ∷ rest) now
    → is_place e.key ≡ true → number_of e.key < 2 ^ 64 → number_of e.key < n → tree_of (place_data e.value) ≡ Some (held_tree h)
    → Taking n all rest (tree_set (number_of e.key) (held_tree h) now)
take_on n all e rest now h other p is small below taken =
    let k = number_of e.key in
    let free : is_free k p.done ≡ true = p.free.0 is small in
    let q = both_of (is_before e.key (keys rest)) (ascend (keys rest)) p.up in
    let one : (reading e).1 ≡ Some (write (held_tree h)) = is_read e is ∙ writes_it (change_of (place_data e.value)) (held_tree h) taken in
    let opens : opened (held_tree h) ≡ held_tree h = open_held h in
    let w = writes_put k (write (held_tree h)) p.done free in
    let counted : writes p.done + suc (length (unstatic rest)) ≡ n = sym (ap (λ l. writes p.done + length l) (named e rest other)) ∙ p.counted in
    let kept : count now ≡ count (blank_trees n) = holds (merge_changes (blank_trees n) p.done) (λ us. count us ≡ count (blank_trees n)) now (count_kept p.done (blank_trees n)) p.here in
    let blank = count_blank n in
    record {
      done = put_change k (write (held_tree h)) p.done;
      whole = sym (next_free k (write (held_tree h)) p.done (readings (unstatic rest)) free)
          ∙ sym (ap (λ (o : Option Change). gathered ((k, o) ∷ readings (unstatic rest)) p.done) one)
          ∙ sym (ap (λ l. gathered (readings l) p.done) (named e rest other)) ∙ p.whole;
      here = set_there (tree_at k now) refl (at_some k now (omega arith)) free opens;
      opens = open_put k (write (held_tree h)) p.done opens p.opens;
      counted = omega arith;
      free = free_on e.key (write (held_tree h)) p.done rest is small q.0 q.1 p.free.1;
      up = q.1;
    }
  where
    set_there : (o : Option Tree) → tree_at (number_of e.key) now ≡ o → is_some o ≡ true → is_free (number_of e.key) p.done ≡ true → opened (held_tree h) ≡ held_tree h
        → merge_changes (blank_trees n) (put_change (number_of e.key) (write (held_tree h)) p.done) ≡ Some (tree_set (number_of e.key) (held_tree h) now)
    set_there None at some free opens = cc
    set_there (Some t) at some free opens = fits_here (blank_trees n) now (number_of e.key) (write (held_tree h)) p.done t (held_tree h) free p.here at (ap Some opens)

pub take_last : (n : ℕ) (all : Option Changes) (now : Trees) → Taking n all [] now → and_then all trees_of ≡ Some now
take_last n all now p =
    let counted : writes p.done ≡ n = (let c = p.counted in omega arith) in
    ap (λ (o : Option Changes). and_then o trees_of) (sym p.whole)
    ∙ holds (merge_changes (blank_trees n) p.done) (λ ts. trees_of p.done ≡ Some ts) now (fill n p.done p.opens counted) p.here

pub taking_count : (n : ℕ) (all : Option Changes) (rest : List (KeyValue PlaceValue)) (now : Trees) → Taking n all rest now → count now ≡ n
taking_count n all rest now p = holds (merge_changes (blank_trees n) p.done) (λ us. count us ≡ count (blank_trees n)) now (count_kept p.done (blank_trees n)) p.here ∙ count_blank n
