-- The JSON of trees and of changes, read back.
use Rattle.std.proofs.Common.{◌≡◌, ◌⊎◌, inl, inr, ℕ, zero, suc, ◌+◌, ◌<◌, ◌≤◌, ◌^◌, ◌==◌, List, [], ◌∷◌, length, get_or, Option, Some, None, option_map, Bool, true, false, if◌then◌else◌, refl, sym, ap, ◌∙◌, subst, arith, codes, true≢false, Ordering, Less, Equal, Greater}
use Rattle.std.specs.Ordering.{match_ordering}
use Rattle.std.specs.List.{list_all}
use Rattle.std.specs.Char.{is_ascii_digit}
use Rattle.std.specs.Str.{bytes_eq}
use Rattle.std.specs.Fmt.{decimal}
use Rattle.std.proofs.lemmas.Map.Lookups.{exact_bytes}
use Rattle.std.proofs.lemmas.Fmt.{digits_value-decimal, digits_decimal, decimal_digit, first_decimal, decimal_injective}
use Rattle.std.proofs.lemmas.Bool.Decides.{eqb_tells}
use Rattle.serde_json.specs.Data.{Data, array, Members, no_members, member, put}
use Rattle.serde_json.specs.Find.{get_member}
use Rattle.serde_json.proofs.Views.{get_member-put_other}
use Rattle.text_core.proofs.Keyed.{order}
use Rattle.text_core.proofs.Decimals.{own}
use Rattle.diff_tree.specs.Tree.{Tree, text, number, node, list, stream, held, Trees, no_trees, tree, count, Rows, no_rows, row, all_fit, Change, write, inner, rows, batch, Changes, no_changes, skip, change, merge_change, merge_changes, option_both}
use Rattle.diff_tree.specs.Client.{and_then}
use Rattle.diff_tree.specs.Grammar.{is_place}
use Rattle.diff_tree.specs.Spelling.{texts_json, tree_json, trees_json, row_json, rows_json, change_json, changes_json}
use Rattle.client_merge.specs.Reading.{number_of, is_free, put_change, with_change, trees_of, node_change, fitting, list_change, written, change_of, changes_in, listed_rows, listed_row}
use Rattle.client_merge.specs.Laws.{IsSmall, AreSmall, RowsAreSmall, ChangeIsSmall, ChangesAreSmall, reach}
use Rattle.client_merge.proofs.Changes.{free_none, free_put, free_same, put_swap, merge_none, Holds}
use Rattle.client_merge.proofs.Members.{s_key, is_s, then_ext, then_none, d_key, under_statics, texts_back, Rowless, rowless_put, by_places}

-- ---- keys

is_place_from : (k : List ℕ) → list_all is_ascii_digit k ≡ true → 48 < get_or k 0 0 → is_place k ≡ true
is_place_from [] h lead = absurd (omega arith)
is_place_from (c ∷ cs) h lead = by (eqb_tells c 48)
  where
    by : (((c == 48) ≡ true) × (c ≡ 48)) ⊎ (((c == 48) ≡ false) × (c ≡ 48 → ⊥)) → is_place (c ∷ cs) ≡ true
    by (inl e) = absurd (let z = e.1 in omega arith)
    by (inr e) = ap (λ (b : Bool). if b then length cs == 0 else list_all is_ascii_digit (c ∷ cs)) e.0 ∙ h

pub decimal_is_place : (n : ℕ) → n < 2 ^ 64 → is_place (decimal n) ≡ true
decimal_is_place zero h = ap is_place (decimal_digit 0 (omega arith))
decimal_is_place (suc n) h = is_place_from (decimal (suc n)) (digits_decimal own (suc n) h) (first_decimal (suc n) (omega arith) h)

not_s : (k : List ℕ) → is_place k ≡ true → (s_key ≡ k → ⊥)
not_s k h same = let f : is_place k ≡ false = ap is_place (sym same) in true≢false (sym h ∙ f)

place_not_s : (k : List ℕ) → is_place k ≡ true → bytes_eq k (codes "s") ≡ false
place_not_s k h = by (order s_key k) refl
  where
    by : (o : Ordering) → order s_key k ≡ o → bytes_eq k (codes "s") ≡ false
    by Less is = is_s k Less is
    by Equal is = absurd (not_s k h (exact_bytes s_key k is))
    by Greater is = is_s k Greater is

abbrev pub Absent : List ℕ → Members → Type 0
Absent k no_members = Unit {0}
Absent k (member l d ms) = (order k l ≡ Equal → ⊥) × Absent k ms

pub absent_put : (k l : List ℕ) (d : Data) (ms : Members) → (order k l ≡ Equal → ⊥) → Absent k ms → Absent k (put l d ms)
absent_put k l d no_members h a = (h, tt)
absent_put k l d (member m e ms) h a = by (order l m) (absent_put k l d ms h a.1)
  where
    by : (o : Ordering) → Absent k (put l d ms) → Absent k (match_ordering o (member l d (member m e ms)) (member m d ms) (member m e (put l d ms)))
    by Less r = (h, a)
    by Equal r = a
    by Greater r = (a.0, r)

other_key : (n m : ℕ) → n < 2 ^ 64 → m < 2 ^ 64 → n < m → order (decimal n) (decimal m) ≡ Equal → ⊥
other_key n m p q below is = let same = decimal_injective n m p q (exact_bytes (decimal n) (decimal m) is) in omega arith

pub absent_trees : (n m : ℕ) (ts : Trees) → n < m → m + count ts ≤ 2 ^ 64 → Absent (decimal n) (trees_json m ts)
absent_trees n m no_trees below fits = tt
absent_trees n m (tree t ts) below fits =
    absent_put (decimal n) (decimal m) (tree_json t) (trees_json (suc m) ts) (other_key n m (omega arith) (omega arith) below) (absent_trees n (suc m) ts (omega arith) (omega arith))

absent_changes : (n m : ℕ) (cs : Changes) → n < m → m + reach cs ≤ 2 ^ 64 → Absent (decimal n) (changes_json m cs)
absent_changes n m no_changes below fits = tt
absent_changes n m (skip cs) below fits = absent_changes n (suc m) cs (omega arith) (omega arith)
absent_changes n m (change c cs) below fits =
    absent_put (decimal n) (decimal m) (change_json c) (changes_json (suc m) cs) (other_key n m (omega arith) (omega arith) below) (absent_changes n (suc m) cs (omega arith) (omega arith))

-- ---- the order of members does not matter

then_then : {A B C : Type 0} (o : Option A) (f : A → Option B) (g : B → Option C) → and_then (and_then o f) g ≡ and_then o (λ x. and_then (f x) g)
then_then None f g = refl
then_then (Some x) f g = refl

then_some : {A : Type 0} (o : Option A) → and_then o (λ x. Some x) ≡ o
then_some None = refl
then_some (Some x) = refl

abbrev pub step : List ℕ → Data → Changes → Option Changes
step l e cs = if bytes_eq l (codes "s") then Some cs else if is_place l then and_then (change_of e) (with_change (number_of l) cs) else None

first_member : (l : List ℕ) (e : Data) (ms : Members) (cs : Changes) → changes_in (member l e ms) cs ≡ and_then (step l e cs) (changes_in ms)
first_member l e ms cs = by (bytes_eq l (codes "s")) (is_place l)
  where
    by : (b p : Bool) → (if b then changes_in ms cs else if p then and_then (and_then (change_of e) (with_change (number_of l) cs)) (changes_in ms) else None)
        ≡ and_then (if b then Some cs else if p then and_then (change_of e) (with_change (number_of l) cs) else None) (changes_in ms)
    by true p = refl
    by false true = refl
    by false false = refl

with_swap : (n m : ℕ) (c d : Change) (cs : Changes) → and_then (with_change n cs c) (λ x. with_change m x d) ≡ and_then (with_change m cs d) (λ x. with_change n x c)
with_swap n m c d cs = by (eqb_tells n m)
  where
    differ : (a b : Bool) → (n ≡ m → ⊥) → is_free n cs ≡ a → is_free m cs ≡ b
        → and_then (if a then Some (put_change n c cs) else None) (λ x. with_change m x d) ≡ and_then (if b then Some (put_change m d cs) else None) (λ x. with_change n x c)
    differ false false h p q = refl
    differ false true h p q = sym (ap (λ (b : Bool). if b then Some (put_change n c (put_change m d cs)) else None) (free_put n m d cs h ∙ p))
    differ true false h p q = ap (λ (b : Bool). if b then Some (put_change m d (put_change n c cs)) else None) (free_put m n c cs (λ e. h (sym e)) ∙ q)
    differ true true h p q =
        ap (λ (b : Bool). if b then Some (put_change m d (put_change n c cs)) else None) (free_put m n c cs (λ e. h (sym e)) ∙ q)
        ∙ ap Some (sym (put_swap n m c d cs h))
        ∙ sym (ap (λ (b : Bool). if b then Some (put_change n c (put_change m d cs)) else None) (free_put n m d cs h ∙ p))

    twice : (a : Bool) → and_then (if a then Some (put_change n c cs) else None) (λ x. with_change n x d) ≡ None
    twice true = ap (λ (b : Bool). if b then Some (put_change n d (put_change n c cs)) else None) (free_same n c cs)
    twice false = refl

    other : (a : Bool) → and_then (if a then Some (put_change n d cs) else None) (λ x. with_change n x c) ≡ None
    other true = ap (λ (b : Bool). if b then Some (put_change n c (put_change n d cs)) else None) (free_same n d cs)
    other false = refl

    by : (((n == m) ≡ true) × (n ≡ m)) ⊎ (((n == m) ≡ false) × (n ≡ m → ⊥)) → and_then (with_change n cs c) (λ x. with_change m x d) ≡ and_then (with_change m cs d) (λ x. with_change n x c)
    by (inl e) = subst (λ k. and_then (with_change n cs c) (λ x. with_change k x d) ≡ and_then (with_change k cs d) (λ x. with_change n x c)) e.1 (twice (is_free n cs) ∙ sym (other (is_free n cs)))
    by (inr e) = differ (is_free n cs) (is_free m cs) e.1 refl refl

step_swap : (n : ℕ) (c : Change) (l : List ℕ) (e : Data) (cs : Changes) → and_then (with_change n cs c) (step l e) ≡ and_then (step l e cs) (λ x. with_change n x c)
step_swap n c l e cs = by (bytes_eq l (codes "s")) (is_place l) (change_of e)
  where
    by : (b p : Bool) (o : Option Change)
        → and_then (with_change n cs c) (λ x. if b then Some x else if p then and_then o (with_change (number_of l) x) else None)
        ≡ and_then (if b then Some cs else if p then and_then o (with_change (number_of l) cs) else None) (λ x. with_change n x c)
    by true p o = then_some (with_change n cs c)
    by false false o = then_none (with_change n cs c) (λ x. None) (λ x. refl)
    by false true None = then_none (with_change n cs c) (λ x. None) (λ x. refl)
    by false true (Some d) = with_swap n (number_of l) c d cs

late : (n : ℕ) (c : Change) (ms : Members) (cs : Changes) → and_then (with_change n cs c) (changes_in ms) ≡ and_then (changes_in ms cs) (λ x. with_change n x c)
late n c no_members cs = then_some (with_change n cs c)
late n c (member l e ms) cs =
    then_ext (with_change n cs c) (changes_in (member l e ms)) (λ x. and_then (step l e x) (changes_in ms)) (first_member l e ms)
    ∙ sym (then_then (with_change n cs c) (step l e) (changes_in ms))
    ∙ ap (λ (o : Option Changes). and_then o (changes_in ms)) (step_swap n c l e cs)
    ∙ then_then (step l e cs) (λ x. with_change n x c) (changes_in ms)
    ∙ then_ext (step l e cs) (λ x. and_then (with_change n x c) (changes_in ms)) (λ x. and_then (changes_in ms x) (λ y. with_change n y c)) (late n c ms)
    ∙ sym (then_then (step l e cs) (changes_in ms) (λ y. with_change n y c))
    ∙ sym (ap (λ (o : Option Changes). and_then o (λ y. with_change n y c)) (first_member l e ms cs))

-- a place more is read as one change more
module _ (k : List ℕ) (n : ℕ) (d : Data) (c : Change) (is : is_place k ≡ true) (named : number_of k ≡ n) (reads : change_of d ≡ Some c) where
  step_here : (cs : Changes) → step k d cs ≡ with_change n cs c
  step_here cs =
      ap (λ (b : Bool). if b then Some cs else if is_place k then and_then (change_of d) (with_change (number_of k) cs) else None) (place_not_s k is)
      ∙ ap (λ (b : Bool). if b then and_then (change_of d) (with_change (number_of k) cs) else None) is
      ∙ ap (λ (o : Option Change). and_then o (with_change (number_of k) cs)) reads
      ∙ ap (λ m. with_change m cs c) named

  member_here : (ms : Members) (cs : Changes) → changes_in (member k d ms) cs ≡ and_then (changes_in ms cs) (λ x. with_change n x c)
  member_here ms cs = first_member k d ms cs ∙ ap (λ (o : Option Changes). and_then o (changes_in ms)) (step_here cs) ∙ late n c ms cs

  pub put_here : (ms : Members) (cs : Changes) → Absent k ms → changes_in (put k d ms) cs ≡ and_then (changes_in ms cs) (λ x. with_change n x c)
  put_here no_members cs a = member_here no_members cs
  put_here (member l e ms) cs a = by (order k l) refl (λ x. put_here ms x a.1)
    where
      by : (o : Ordering) → order k l ≡ o → ((x : Changes) → changes_in (put k d ms) x ≡ and_then (changes_in ms x) (λ y. with_change n y c))
          → changes_in (match_ordering o (member k d (member l e ms)) (member l d ms) (member l e (put k d ms))) cs ≡ and_then (changes_in (member l e ms) cs) (λ x. with_change n x c)
      by Less h rest = member_here (member l e ms) cs
      by Equal h rest = absurd (a.0 h)
      by Greater h rest =
          first_member l e (put k d ms) cs
          ∙ then_ext (step l e cs) (changes_in (put k d ms)) (λ x. and_then (changes_in ms x) (λ y. with_change n y c)) rest
          ∙ sym (then_then (step l e cs) (changes_in ms) (λ y. with_change n y c))
          ∙ sym (ap (λ (o : Option Changes). and_then o (λ y. with_change n y c)) (first_member l e ms cs))

-- ---- changes without skips at their end

abbrev skips : ℕ → Changes → Changes
skips zero cs = cs
skips (suc n) cs = skip (skips n cs)

abbrev pub shifted : ℕ → Changes → Changes
shifted n no_changes = no_changes
shifted n (skip cs) = skips n (skip cs)
shifted n (change c cs) = skips n (change c cs)

abbrev mutual
  pub trimmed : Changes → Changes
  trimmed no_changes = no_changes
  trimmed (skip cs) = shifted 1 (trimmed cs)
  trimmed (change c cs) = change (trimmed_change c) (trimmed cs)

  pub trimmed_change : Change → Change
  trimmed_change (write t) = write t
  trimmed_change (inner cs) = inner (trimmed cs)
  trimmed_change (rows rs) = rows rs
  trimmed_change (batch name b rs) = batch name b rs

skips_skip : (n : ℕ) (cs : Changes) → skips n (skip cs) ≡ skip (skips n cs)
skips_skip zero cs = refl
skips_skip (suc n) cs = ap skip (skips_skip n cs)

shifted_more : (n : ℕ) (cs : Changes) → shifted n (shifted 1 cs) ≡ shifted (suc n) cs
shifted_more n no_changes = refl
shifted_more n (skip cs) = skips_skip n (skip cs)
shifted_more n (change c cs) = skips_skip n (change c cs)

shifted_zero : (cs : Changes) → shifted 0 cs ≡ cs
shifted_zero no_changes = refl
shifted_zero (skip cs) = refl
shifted_zero (change c cs) = refl

put_none : (n : ℕ) (c : Change) → put_change n c no_changes ≡ skips n (change c no_changes)
put_none zero c = refl
put_none (suc n) c = ap skip (put_none n c)

free_skips : (n : ℕ) (cs : Changes) → is_free n (skips (suc n) cs) ≡ true
free_skips zero cs = refl
free_skips (suc n) cs = free_skips n cs

put_skips : (n : ℕ) (c : Change) (cs : Changes) → put_change n c (skips (suc n) cs) ≡ skips n (change c cs)
put_skips zero c cs = refl
put_skips (suc n) c cs = ap skip (put_skips n c cs)

with_skips : (n : ℕ) (c : Change) (cs : Changes) → with_change n (skips (suc n) cs) c ≡ Some (skips n (change c cs))
with_skips n c cs = ap (λ (b : Bool). if b then Some (put_change n c (skips (suc n) cs)) else None) (free_skips n cs) ∙ ap Some (put_skips n c cs)

put_shifted : (n : ℕ) (c : Change) (cs : Changes) → with_change n (shifted (suc n) cs) c ≡ Some (shifted n (change c cs))
put_shifted n c no_changes = ap (λ (b : Bool). if b then Some (put_change n c no_changes) else None) (free_none n) ∙ ap Some (put_none n c)
put_shifted n c (skip cs) = with_skips n c (skip cs)
put_shifted n c (change d cs) = with_skips n c (change d cs)

abbrev writes_from : Trees → Changes
writes_from no_trees = no_changes
writes_from (tree t ts) = change (write t) (writes_from ts)

trees_back : (ts : Trees) → trees_of (writes_from ts) ≡ Some ts
trees_back no_trees = refl
trees_back (tree t ts) = ap (option_map (tree t)) (trees_back ts)

pub no_s_json : (n : ℕ) (cs : Changes) → n + reach cs ≤ 2 ^ 64 → get_member s_key (changes_json n cs) ≡ None
no_s_json n no_changes fits = refl
no_s_json n (skip cs) fits = no_s_json (suc n) cs (omega arith)
no_s_json n (change c cs) fits =
    get_member-put_other s_key (decimal n) (change_json c) (changes_json (suc n) cs) (not_s (decimal n) (decimal_is_place n (omega arith)))
    ∙ no_s_json (suc n) cs (omega arith)

not_d : (k : List ℕ) → is_place k ≡ true → (d_key ≡ k → ⊥)
not_d k h same = let f : is_place k ≡ false = ap is_place (sym same) in true≢false (sym h ∙ f)

rowless_trees : (n : ℕ) (ts : Trees) → n + count ts ≤ 2 ^ 64 → Rowless (trees_json n ts)
rowless_trees n no_trees fits = tt
rowless_trees n (tree t ts) fits =
    rowless_put (decimal n) (tree_json t) (trees_json (suc n) ts) (λ same. absurd (not_d (decimal n) (decimal_is_place n (omega arith)) same)) (rowless_trees (suc n) ts (omega arith))

rowless_changes : (n : ℕ) (cs : Changes) → n + reach cs ≤ 2 ^ 64 → Rowless (changes_json n cs)
rowless_changes n no_changes fits = tt
rowless_changes n (skip cs) fits = rowless_changes (suc n) cs (omega arith)
rowless_changes n (change c cs) fits =
    rowless_put (decimal n) (change_json c) (changes_json (suc n) cs) (λ same. absurd (not_d (decimal n) (decimal_is_place n (omega arith)) same)) (rowless_changes (suc n) cs (omega arith))

-- ---- lists

both_are : {A B C : Type 0} (f : A → B → C) (a : Option A) (b : Option B) (x : A) (y : B) → a ≡ Some x → b ≡ Some y → option_both f a b ≡ Some (f x y)
both_are f a b x y h g = ap (λ o. option_both f o b) h ∙ ap (option_both f (Some x)) g

list_reads : (st : List (List ℕ)) (rs : Rows) → all_fit (length st) rs ≡ true → listed_rows (rows_json rs) ≡ Some rs → change_of (tree_json (list st rs)) ≡ Some (write (list st rs))
list_reads st rs fits reads =
    ap (λ (o : Option Rows). and_then (and_then o (λ q. Some q)) (list_change (Some (array (texts_json st))))) reads
    ∙ ap (λ (o : Option (List (List ℕ))). and_then o (λ ts. option_map (λ q. write (list ts q)) (fitting (length ts) rs))) (texts_back st)
    ∙ ap (λ (b : Bool). option_map (λ q. write (list st q)) (if b then Some rs else None)) fits

rows_reads : (rs : Rows) → listed_rows (rows_json rs) ≡ Some rs → change_of (change_json (rows rs)) ≡ Some (rows rs)
rows_reads rs reads = ap (λ (o : Option Rows). and_then (and_then o (λ q. Some q)) (list_change None)) reads

-- ---- read back

mutual
  pub tree_reads : (t : Tree) → IsSmall t → change_of (tree_json t) ≡ Some (write t)
  tree_reads (text t) h = refl
  tree_reads (number n) h = absurd h
  tree_reads (node st ts) h =
      under_statics st (trees_json 0 ts) (rowless_trees 0 ts (omega (arith, h.0)))
      ∙ ap (λ (o : Option Changes). option_map (λ ts. write (node st ts)) (and_then o trees_of)) (trees_read 0 ts (omega (arith, h.0)) h.1)
      ∙ ap (λ cs. option_map (λ ts. write (node st ts)) (trees_of cs)) (shifted_zero (writes_from ts))
      ∙ ap (option_map (λ ts. write (node st ts))) (trees_back ts)
  tree_reads (list st rs) h = list_reads st rs h.0 (rows_read rs h.1)
  tree_reads (stream name b st rs) h = absurd h
  tree_reads (held name st hs) h = absurd h

  trees_read : (n : ℕ) (ts : Trees) → n + count ts ≤ 2 ^ 64 → AreSmall ts → changes_in (trees_json n ts) no_changes ≡ Some (shifted n (writes_from ts))
  trees_read n no_trees fits h = refl
  trees_read n (tree t ts) fits h =
      put_here (decimal n) n (tree_json t) (write t) (decimal_is_place n (omega arith)) (digits_value-decimal own n (omega arith)) (tree_reads t h.0) (trees_json (suc n) ts) no_changes
      (absent_trees n (suc n) ts (omega arith) (omega arith))
      ∙ ap (λ (o : Option Changes). and_then o (λ x. with_change n x (write t))) (trees_read (suc n) ts (omega arith) h.1)
      ∙ put_shifted n (write t) (writes_from ts)

  rows_read : (rs : Rows) → RowsAreSmall rs → listed_rows (rows_json rs) ≡ Some rs
  rows_read no_rows h = refl
  rows_read (row ts rs) h = both_are row (listed_row (row_json ts)) (listed_rows (rows_json rs)) ts rs (row_reads ts h.0) (rows_read rs h.1)

  row_reads : (ts : Trees) → AreSmall ts → listed_row (row_json ts) ≡ Some ts
  row_reads no_trees h = refl
  row_reads (tree t ts) h =
      both_are tree (and_then (change_of (tree_json t)) written) (listed_row (row_json ts)) t ts
      (ap (λ (o : Option Change). and_then o written) (tree_reads t h.0)) (row_reads ts h.1)

mutual
  pub change_reads : (c : Change) → ChangeIsSmall c → change_of (change_json c) ≡ Some (trimmed_change c)
  change_reads (write t) h = tree_reads t h
  change_reads (inner cs) h =
      by_places (changes_json 0 cs) (rowless_changes 0 cs (omega (arith, h.0)))
      ∙ ap (λ (o : Option Data). and_then (changes_in (changes_json 0 cs) no_changes) (node_change o)) (no_s_json 0 cs (omega (arith, h.0)))
      ∙ ap (λ (o : Option Changes). and_then o (node_change None)) (changes_read 0 cs (omega (arith, h.0)) h.1)
      ∙ ap (λ ds. Some (inner ds)) (shifted_zero (trimmed cs))
  change_reads (rows rs) h = rows_reads rs (rows_read rs h)
  change_reads (batch name b rs) h = absurd h

  changes_read : (n : ℕ) (cs : Changes) → n + reach cs ≤ 2 ^ 64 → ChangesAreSmall cs → changes_in (changes_json n cs) no_changes ≡ Some (shifted n (trimmed cs))
  changes_read n no_changes fits h = refl
  changes_read n (skip cs) fits h = changes_read (suc n) cs (omega arith) h ∙ ap Some (sym (shifted_more n (trimmed cs)))
  changes_read n (change c cs) fits h =
      put_here (decimal n) n (change_json c) (trimmed_change c) (decimal_is_place n (omega arith)) (digits_value-decimal own n (omega arith)) (change_reads c h.0) (changes_json (suc n) cs) no_changes
      (absent_changes n (suc n) cs (omega arith) (omega arith))
      ∙ ap (λ (o : Option Changes). and_then o (λ x. with_change n x (trimmed_change c))) (changes_read (suc n) cs (omega arith) h.1)
      ∙ put_shifted n (trimmed_change c) (trimmed cs)

-- ---- and merged

merge_shifted : (t : Tree) (ts us : Trees) (cs : Changes) → merge_changes ts cs ≡ Some us → merge_changes (tree t ts) (shifted 1 cs) ≡ Some (tree t us)
merge_shifted t ts us no_changes h = ap (option_map (tree t)) (sym (merge_none ts) ∙ h)
merge_shifted t ts us (skip cs) h = ap (option_map (tree t)) h
merge_shifted t ts us (change c cs) h = ap (option_map (tree t)) h

itself : {A : Type 0} (o : Option A) → Holds o (λ x. o ≡ Some x)
itself None = tt
itself (Some x) = refl

mutual
  pub trim_merges : (cs : Changes) (ts : Trees) → Holds (merge_changes ts cs) (λ us. merge_changes ts (trimmed cs) ≡ Some us)
  trim_merges no_changes no_trees = refl
  trim_merges no_changes (tree t ts) = refl
  trim_merges (skip cs) no_trees = tt
  trim_merges (skip cs) (tree t ts) = by (merge_changes ts cs) (trim_merges cs ts)
    where
      by : (o : Option Trees) → Holds o (λ us. merge_changes ts (trimmed cs) ≡ Some us) → Holds (option_map (tree t) o) (λ us. merge_changes (tree t ts) (shifted 1 (trimmed cs)) ≡ Some us)
      by None h = tt
      by (Some us) h = merge_shifted t ts us (trimmed cs) h
  trim_merges (change c cs) no_trees = tt
  trim_merges (change c cs) (tree t ts) = by (merge_change t c) (merge_changes ts cs) (trim_merge c t) (trim_merges cs ts)
    where
      by : (a : Option Tree) (o : Option Trees) → Holds a (λ u. merge_change t (trimmed_change c) ≡ Some u) → Holds o (λ us. merge_changes ts (trimmed cs) ≡ Some us)
          → Holds (option_both tree a o) (λ us. option_both tree (merge_change t (trimmed_change c)) (merge_changes ts (trimmed cs)) ≡ Some us)
      by None None g h = tt
      by None (Some us) g h = tt
      by (Some u) None g h = tt
      by (Some u) (Some us) g h = ap (λ a. option_both tree a (merge_changes ts (trimmed cs))) g ∙ ap (option_both tree (Some u)) h

  pub trim_merge : (c : Change) (t : Tree) → Holds (merge_change t c) (λ u. merge_change t (trimmed_change c) ≡ Some u)
  trim_merge (write v) t = refl
  trim_merge (inner cs) (text t) = tt
  trim_merge (inner cs) (number n) = tt
  trim_merge (inner cs) (node st ts) = by (merge_changes ts cs) (trim_merges cs ts)
    where
      by : (o : Option Trees) → Holds o (λ us. merge_changes ts (trimmed cs) ≡ Some us) → Holds (option_map (node st) o) (λ u. option_map (node st) (merge_changes ts (trimmed cs)) ≡ Some u)
      by None h = tt
      by (Some us) h = ap (option_map (node st)) h
  trim_merge (inner cs) (list st rs) = tt
  trim_merge (inner cs) (stream name b st rs) = tt
  trim_merge (inner cs) (held name st hs) = tt
  trim_merge (rows rs) t = itself (merge_change t (rows rs))
  trim_merge (batch name b rs) t = itself (merge_change t (batch name b rs))
