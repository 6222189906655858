-- The JSON of such trees and changes is that of trees and diffs.
use Rattle.std.proofs.Common.{◌≡◌, ◌⊎◌, inl, inr, ℕ, zero, suc, ◌+◌, ◌-◌, ◌<◌, ◌≤◌, ◌^◌, ◌==◌, ◌&&◌, ◌||◌, List, [], ◌∷◌, length, Option, Some, None, is_some, Bool, true, false, if◌then◌else◌, refl, sym, ap, ◌∙◌, subst, arith, codes, true≢false, Ordering, Less, Equal, Greater}
use Rattle.std.specs.Ordering.{match_ordering}
use Rattle.std.specs.Str.{bytes_eq}
use Rattle.std.specs.Fmt.{decimal}
use Rattle.std.proofs.lemmas.Map.Lookups.{exact_bytes}
use Rattle.std.proofs.lemmas.Fmt.{decimal_injective}
use Rattle.std.proofs.lemmas.Bool.Decides.{eqb_tells}
use Rattle.serde_json.specs.Data.{Data, array, object, Members, no_members, member, put}
use Rattle.serde_json.specs.Events.{items_len, members_len}
use Rattle.serde_json.specs.Find.{get_member}
use Rattle.serde_json.specs.Written.{has_float, items_have_float, members_have_float}
use Rattle.serde_json.proofs.Views.{get_member-put, get_member-put_other}
use Rattle.text_core.proofs.Keyed.{order}
use Rattle.diff_tree.specs.Tree.{Tree, text, number, node, list, stream, held, Trees, no_trees, tree, count, Rows, no_rows, row, Change, write, inner, rows, batch, Changes, no_changes, skip, change}
use Rattle.diff_tree.specs.Grammar.{is_place, is_value, are_places, are_texts, are_statics, statics_fit, surround, has_places, have_length, are_listed, list_fits, are_rows, are_values}
use Rattle.diff_tree.specs.Spelling.{texts_json, tree_json, trees_json, row_json, rows_json, change_json, changes_json}
use Rattle.wire_v2.specs.FrameGrammar.{is_whole_node, are_whole, items_are_whole}
use Rattle.client_merge.specs.Laws.{reach}
use Rattle.client_merge.proofs.JsonBack.{Absent, absent_put, absent_trees, decimal_is_place, no_s_json}
use Rattle.client_page.proofs.Trees.{IsFit, AreFit, RowsFit, ChangeFits, ChangesFit, both_to, same_number}

abbrev s_key : List ℕ
s_key = codes "s"

abbrev d_key : List ℕ
d_key = codes "d"

right_of : (a b : Bool) → b ≡ true → (a || b) ≡ true
right_of true b h = refl
right_of false b h = h

both_of : (a b : Bool) → (a && b) ≡ true → (a ≡ true) × (b ≡ true)
both_of true b h = (refl, h)
both_of false b h = cc

-- ---- what is put

pub none_found : (k : List ℕ) (ms : Members) → Absent k ms → get_member k ms ≡ None
none_found k no_members h = refl
none_found k (member l d ms) h = by (order k l) h.0 (none_found k ms h.1)
  where
    by : (o : Ordering) → (o ≡ Equal → ⊥) → get_member k ms ≡ None → match_ordering o (get_member k ms) (Some d) (get_member k ms) ≡ None
    by Less n rest = rest
    by Equal n rest = absurd (n refl)
    by Greater n rest = rest

one_more : (k : List ℕ) (d : Data) (ms : Members) → Absent k ms → members_len (put k d ms) ≡ suc (members_len ms)
one_more k d no_members h = refl
one_more k d (member l e ms) h = by (order k l) h.0 (one_more k d ms h.1)
  where
    by : (o : Ordering) → (o ≡ Equal → ⊥) → members_len (put k d ms) ≡ suc (members_len ms)
        → members_len (match_ordering o (member k d (member l e ms)) (member l d ms) (member l e (put k d ms))) ≡ suc (suc (members_len ms))
    by Less n rest = refl
    by Equal n rest = absurd (n refl)
    by Greater n rest = ap suc rest

-- a key with what may stand there
abbrev Stands : List ℕ → Data → Bool
Stands k d = bytes_eq k (codes "s") || (is_place k && is_value d)

places_put : (k : List ℕ) (d : Data) (ms : Members) → Stands k d ≡ true → are_places ms ≡ true → are_places (put k d ms) ≡ true
places_put k d no_members h g = both_to _ _ h refl
places_put k d (member l e ms) h g = by (order k l) refl (places_put k d ms h p.1)
  where
    p : (Stands l e ≡ true) × (are_places ms ≡ true)
    p = both_of (Stands l e) (are_places ms) g

    by : (o : Ordering) → order k l ≡ o → are_places (put k d ms) ≡ true
        → are_places (match_ordering o (member k d (member l e ms)) (member l d ms) (member l e (put k d ms))) ≡ true
    by Less is rest = both_to (Stands k d) (are_places (member l e ms)) h g
    by Equal is rest = both_to (Stands l d) (are_places ms) (subst (λ q. Stands q d ≡ true) (exact_bytes k l is) h) p.1
    by Greater is rest = both_to (Stands l e) (are_places (put k d ms)) p.0 rest

pub wholes_put : (k : List ℕ) (d : Data) (ms : Members) → is_whole_node d ≡ true → are_whole ms ≡ true → are_whole (put k d ms) ≡ true
wholes_put k d no_members h g = both_to _ _ h refl
wholes_put k d (member l e ms) h g = by (order k l) (wholes_put k d ms h p.1)
  where
    p : (is_whole_node e ≡ true) × (are_whole ms ≡ true)
    p = both_of (is_whole_node e) (are_whole ms) g

    by : (o : Ordering) → are_whole (put k d ms) ≡ true → are_whole (match_ordering o (member k d (member l e ms)) (member l d ms) (member l e (put k d ms))) ≡ true
    by Less rest = both_to (is_whole_node d) (are_whole (member l e ms)) h g
    by Equal rest = both_to (is_whole_node d) (are_whole ms) h p.1
    by Greater rest = both_to (is_whole_node e) (are_whole (put k d ms)) p.0 rest

or_false : (a b : Bool) → a ≡ false → b ≡ false → (a || b) ≡ false
or_false a b h k = rw (h, k) refl

neither : (a b : Bool) → (a || b) ≡ false → (a ≡ false) × (b ≡ false)
neither true b h = cc
neither false b h = (refl, h)

pub no_float_put : (k : List ℕ) (d : Data) (ms : Members) → has_float d ≡ false → members_have_float ms ≡ false → members_have_float (put k d ms) ≡ false
no_float_put k d no_members h g = or_false _ _ h refl
no_float_put k d (member l e ms) h g = by (order k l) (no_float_put k d ms h p.1)
  where
    p : (has_float e ≡ false) × (members_have_float ms ≡ false)
    p = neither (has_float e) (members_have_float ms) g

    by : (o : Ordering) → members_have_float (put k d ms) ≡ false → members_have_float (match_ordering o (member k d (member l e ms)) (member l d ms) (member l e (put k d ms))) ≡ false
    by Less rest = or_false (has_float d) (members_have_float (member l e ms)) h g
    by Equal rest = or_false (has_float d) (members_have_float ms) h p.1
    by Greater rest = or_false (has_float e) (members_have_float (put k d ms)) p.0 rest

-- ---- keys

text_stands : (n : ℕ) (d : Data) → n < 2 ^ 64 → is_value d ≡ true → Stands (decimal n) d ≡ true
text_stands n d small value = right_of (bytes_eq (decimal n) (codes "s")) (is_place (decimal n) && is_value d) (both_to _ _ (decimal_is_place n small) value)

-- a word is not the number of a place
not_number : (k : List ℕ) (n : ℕ) → is_place k ≡ false → n < 2 ^ 64 → decimal n ≡ k → ⊥
not_number k n word small same = true≢false (sym (decimal_is_place n small) ∙ ap is_place same ∙ word)

pub trees_without : (k : List ℕ) (n : ℕ) (ts : Trees) → is_place k ≡ false → n + count ts ≤ 2 ^ 64 → Absent k (trees_json n ts)
trees_without k n no_trees word fits = tt
trees_without k n (tree t ts) word fits =
    absent_put k (decimal n) (tree_json t) (trees_json (suc n) ts) (λ is. not_number k n word (omega arith) (sym (exact_bytes k (decimal n) is))) (trees_without k (suc n) ts word (omega arith))

pub changes_without : (k : List ℕ) (n : ℕ) (cs : Changes) → is_place k ≡ false → n + reach cs ≤ 2 ^ 64 → Absent k (changes_json n cs)
changes_without k n no_changes word fits = tt
changes_without k n (skip cs) word fits = changes_without k (suc n) cs word (omega arith)
changes_without k n (change c cs) word fits =
    absent_put k (decimal n) (change_json c) (changes_json (suc n) cs) (λ is. not_number k n word (omega arith) (sym (exact_bytes k (decimal n) is))) (changes_without k (suc n) cs word (omega arith))

-- ---- how many, and where

trees_len : (n : ℕ) (ts : Trees) → n + count ts ≤ 2 ^ 64 → members_len (trees_json n ts) ≡ count ts
trees_len n no_trees fits = refl
trees_len n (tree t ts) fits =
    one_more (decimal n) (tree_json t) (trees_json (suc n) ts) (absent_trees n (suc n) ts (omega arith) (omega arith)) ∙ ap suc (trees_len (suc n) ts (omega arith))

found_at : (m n : ℕ) (ts : Trees) → n ≤ m → m < n + count ts → n + count ts ≤ 2 ^ 64 → is_some (get_member (decimal m) (trees_json n ts)) ≡ true
found_at m n no_trees low high fits = absurd (omega arith)
found_at m n (tree t ts) low high fits = by (eqb_tells m n) (λ later. found_at m (suc n) ts later (omega arith) (omega arith))
  where
    apart : (m n : ℕ) → n ≤ m → (m ≡ n → ⊥) → suc n ≤ m
    apart m n low other = grind arith

    by : (((m == n) ≡ true) × (m ≡ n)) ⊎ (((m == n) ≡ false) × (m ≡ n → ⊥)) → (suc n ≤ m → is_some (get_member (decimal m) (trees_json (suc n) ts)) ≡ true)
        → is_some (get_member (decimal m) (put (decimal n) (tree_json t) (trees_json (suc n) ts))) ≡ true
    by (inl e) rest =
        ap (λ q. is_some (get_member (decimal q) (put (decimal n) (tree_json t) (trees_json (suc n) ts)))) e.1
        ∙ ap is_some (get_member-put (decimal n) (tree_json t) (trees_json (suc n) ts))
    by (inr e) rest =
        ap is_some (get_member-put_other (decimal m) (decimal n) (tree_json t) (trees_json (suc n) ts) (λ same. e.1 (decimal_injective m n (omega arith) (omega arith) same)))
        ∙ rest (apart m n low e.1)

texts_len : (ts : List (List ℕ)) → items_len (texts_json ts) ≡ length ts
texts_len [] = refl
texts_len (t ∷ ts) = ap suc (texts_len ts)

all_texts : (ts : List (List ℕ)) → are_texts (texts_json ts) ≡ true
all_texts [] = refl
all_texts (t ∷ ts) = all_texts ts

texts_whole : (ts : List (List ℕ)) → items_are_whole (texts_json ts) ≡ true
texts_whole [] = refl
texts_whole (t ∷ ts) = texts_whole ts

texts_no_float : (ts : List (List ℕ)) → items_have_float (texts_json ts) ≡ false
texts_no_float [] = refl
texts_no_float (t ∷ ts) = texts_no_float ts

row_len : (ts : Trees) → items_len (row_json ts) ≡ count ts
row_len no_trees = refl
row_len (tree t ts) = ap suc (row_len ts)

-- ---- the places of a node

abbrev pub node_members : List (List ℕ) → Trees → Members
node_members st ts = put s_key (array (texts_json st)) (trees_json 0 ts)

module _ (st : List (List ℕ)) (ts : Trees) (fits : count ts < 2 ^ 64) (around : length st ≡ suc (count ts)) where
  each_place : (n : ℕ) → n ≤ count ts → has_places n (object (node_members st ts)) ≡ true
  each_place zero h = refl
  each_place (suc n) h =
      both_to (is_some (get_member (decimal n) (node_members st ts))) (has_places n (object (node_members st ts)))
      (ap is_some (get_member-put_other (decimal n) s_key (array (texts_json st)) (trees_json 0 ts) (not_number s_key n refl (omega (arith, fits)))) ∙ found_at n 0 ts (omega arith) (omega arith) (omega (arith, fits)))
      (each_place n (omega arith))

  members_counted : members_len (node_members st ts) ≡ suc (count ts)
  members_counted = one_more s_key (array (texts_json st)) (trees_json 0 ts) (trees_without s_key 0 ts refl (omega (arith, fits))) ∙ ap suc (trees_len 0 ts (omega (arith, fits)))

  statics_surround : surround (items_len (texts_json st)) (object (node_members st ts)) ≡ true
  statics_surround =
      let many : items_len (texts_json st) ≡ suc (count ts) = texts_len st ∙ around in
      let less : suc (count ts) - 1 ≡ count ts = omega arith in
      ap (λ n. surround n (object (node_members st ts))) many
      ∙ both_to (members_len (node_members st ts) == suc (count ts)) (has_places (suc (count ts) - 1) (object (node_members st ts)))
      (same_number (members_len (node_members st ts)) (suc (count ts)) members_counted)
      (ap (λ n. has_places n (object (node_members st ts))) less ∙ each_place (count ts) (omega arith))

  node_statics : statics_fit (object (node_members st ts)) ≡ true
  node_statics =
      ap (λ o. are_statics o (object (node_members st ts))) (get_member-put s_key (array (texts_json st)) (trees_json 0 ts))
      ∙ both_to (are_texts (texts_json st)) (surround (items_len (texts_json st)) (object (node_members st ts))) (all_texts st) statics_surround

  no_list : get_member d_key (node_members st ts) ≡ None
  no_list =
      get_member-put_other d_key s_key (array (texts_json st)) (trees_json 0 ts) (λ same. true≢false (sym (ap (λ k. bytes_eq k s_key) same)))
      ∙ none_found d_key (trees_json 0 ts) (trees_without d_key 0 ts refl (omega (arith, fits)))

  node_value : are_places (trees_json 0 ts) ≡ true → is_value (object (node_members st ts)) ≡ true
  node_value places =
      let ms : Members = node_members st ts in
      ap (λ (o : Option Data). if is_some o then are_listed ms && list_fits (object ms) else statics_fit (object ms) && are_places ms) no_list
      ∙ both_to (statics_fit (object ms)) (are_places ms) node_statics (places_put s_key (array (texts_json st)) (trees_json 0 ts) refl places)

-- ---- the rows of a list

rows_long : (n : ℕ) (rs : Rows) → RowsFit (suc n) rs → have_length n (rows_json rs) ≡ true
rows_long n no_rows h = refl
rows_long n (row ts rs) h =
    let long : suc n ≡ suc (count ts) = h.0 in
    let same : count ts ≡ n = omega arith in
    both_to (items_len (row_json ts) == n) (have_length n (rows_json rs)) (same_number (items_len (row_json ts)) n (row_len ts ∙ same)) (rows_long n rs h.2)

list_value : (st : List (List ℕ)) (ts : Trees) (rs : Rows) → RowsFit (length st) (row ts rs) → are_rows (rows_json (row ts rs)) ≡ true → is_value (tree_json (list st (row ts rs))) ≡ true
list_value [] ts rs h values = let no = h.0 in cc
list_value (s ∷ st) ts rs h values =
    both_to _ _ (both_to (are_rows (rows_json (row ts rs))) true values refl)
    (both_to _ _ (both_to (are_texts (texts_json (s ∷ st))) (have_length (items_len (texts_json st)) (rows_json (row ts rs))) (all_texts (s ∷ st))
    (ap (λ n. have_length n (rows_json (row ts rs))) (texts_len st) ∙ rows_long (length st) (row ts rs) h)) refl)

bare_value : (ts : Trees) (rs : Rows) → RowsFit (suc (count ts)) (row ts rs) → are_rows (rows_json (row ts rs)) ≡ true → is_value (change_json (rows (row ts rs))) ≡ true
bare_value ts rs h values =
    both_to _ _ (both_to (are_rows (rows_json (row ts rs))) true values refl)
    (both_to (have_length (items_len (row_json ts)) (rows_json rs)) true (ap (λ n. have_length n (rows_json rs)) (row_len ts) ∙ rows_long (count ts) rs h.2) refl)

-- ---- values

mutual
  value_fits : (t : Tree) → IsFit t → is_value (tree_json t) ≡ true
  value_fits (text t) h = refl
  value_fits (number n) h = absurd h
  value_fits (node st ts) h = node_value st ts h.0 h.1 (places_fit 0 ts (omega (arith, h.0)) h.2)
  value_fits (list st no_rows) h = absurd h
  value_fits (list st (row ts rs)) h = list_value st ts rs h (rows_are (length st) (row ts rs) h)
  value_fits (stream name b st rs) h = absurd h
  value_fits (held name st hs) h = absurd h

  places_fit : (n : ℕ) (ts : Trees) → n + count ts ≤ 2 ^ 64 → AreFit ts → are_places (trees_json n ts) ≡ true
  places_fit n no_trees fits h = refl
  places_fit n (tree t ts) fits h =
      places_put (decimal n) (tree_json t) (trees_json (suc n) ts) (text_stands n (tree_json t) (omega arith) (value_fits t h.0)) (places_fit (suc n) ts (omega arith) h.1)

  row_is : (ts : Trees) → AreFit ts → are_values (row_json ts) ≡ true
  row_is no_trees h = refl
  row_is (tree t ts) h = both_to (is_value (tree_json t)) (are_values (row_json ts)) (value_fits t h.0) (row_is ts h.1)

  rows_are : (n : ℕ) (rs : Rows) → RowsFit n rs → are_rows (rows_json rs) ≡ true
  rows_are n no_rows h = refl
  rows_are n (row ts rs) h = both_to (are_values (row_json ts)) (are_rows (rows_json rs)) (row_is ts h.1) (rows_are n rs h.2)

-- an object without rows and statics
inner_value : (cs : Changes) → reach cs < 2 ^ 64 → are_places (changes_json 0 cs) ≡ true → is_value (object (changes_json 0 cs)) ≡ true
inner_value cs fits places =
    let ms : Members = changes_json 0 cs in
    ap (λ (o : Option Data). if is_some o then are_listed ms && list_fits (object ms) else statics_fit (object ms) && are_places ms)
    (none_found d_key ms (changes_without d_key 0 cs refl (omega (arith, fits))))
    ∙ both_to (statics_fit (object ms)) (are_places ms) (ap (λ o. are_statics o (object ms)) (no_s_json 0 cs (omega (arith, fits)))) places

mutual
  change_value : (c : Change) → ChangeFits c → is_value (change_json c) ≡ true
  change_value (write t) h = value_fits t h
  change_value (inner cs) h = inner_value cs h.0 (changes_places 0 cs (omega (arith, h.0)) h.1)
  change_value (rows no_rows) h = absurd h
  change_value (rows (row ts rs)) h = bare_value ts rs h (rows_are (suc (count ts)) (row ts rs) h)
  change_value (batch name b rs) h = absurd h

  changes_places : (n : ℕ) (cs : Changes) → n + reach cs ≤ 2 ^ 64 → ChangesFit cs → are_places (changes_json n cs) ≡ true
  changes_places n no_changes fits h = refl
  changes_places n (skip cs) fits h = changes_places (suc n) cs (omega arith) h
  changes_places n (change c cs) fits h =
      places_put (decimal n) (change_json c) (changes_json (suc n) cs) (text_stands n (change_json c) (omega arith) (change_value c h.0)) (changes_places (suc n) cs (omega arith) h.1)

pub node_fits : (st : List (List ℕ)) (ts : Trees) → IsFit (node st ts) → is_value (object (node_members st ts)) ≡ true
node_fits st ts h = value_fits (node st ts) h

pub changes_fit : (cs : Changes) → reach cs < 2 ^ 64 → ChangesFit cs → is_value (object (changes_json 0 cs)) ≡ true
changes_fit cs few h = change_value (inner cs) (few, h)

-- ---- statics everywhere

mutual
  tree_whole : (t : Tree) → IsFit t → is_whole_node (tree_json t) ≡ true
  tree_whole (text t) h = refl
  tree_whole (number n) h = absurd h
  tree_whole (node st ts) h =
      both_to (is_some (get_member s_key (node_members st ts))) (are_whole (node_members st ts)) (ap is_some (get_member-put s_key (array (texts_json st)) (trees_json 0 ts)))
      (wholes_put s_key (array (texts_json st)) (trees_json 0 ts) (texts_whole st) (trees_whole 0 ts h.2))
  tree_whole (list st no_rows) h = absurd h
  tree_whole (list st (row ts rs)) h = both_to (items_are_whole (rows_json (row ts rs))) _ (rows_whole (length st) (row ts rs) h) (both_to (items_are_whole (texts_json st)) true (texts_whole st) refl)
  tree_whole (stream name b st rs) h = absurd h
  tree_whole (held name st hs) h = absurd h

  pub trees_whole : (n : ℕ) (ts : Trees) → AreFit ts → are_whole (trees_json n ts) ≡ true
  trees_whole n no_trees h = refl
  trees_whole n (tree t ts) h = wholes_put (decimal n) (tree_json t) (trees_json (suc n) ts) (tree_whole t h.0) (trees_whole (suc n) ts h.1)

  row_whole : (ts : Trees) → AreFit ts → items_are_whole (row_json ts) ≡ true
  row_whole no_trees h = refl
  row_whole (tree t ts) h = both_to (is_whole_node (tree_json t)) (items_are_whole (row_json ts)) (tree_whole t h.0) (row_whole ts h.1)

  rows_whole : (n : ℕ) (rs : Rows) → RowsFit n rs → items_are_whole (rows_json rs) ≡ true
  rows_whole n no_rows h = refl
  rows_whole n (row ts rs) h = both_to (items_are_whole (row_json ts)) (items_are_whole (rows_json rs)) (row_whole ts h.1) (rows_whole n rs h.2)

pub node_whole : (st : List (List ℕ)) (ts : Trees) → AreFit ts → are_whole (node_members st ts) ≡ true
node_whole st ts h = wholes_put s_key (array (texts_json st)) (trees_json 0 ts) (texts_whole st) (trees_whole 0 ts h)

-- ---- no fractions

mutual
  tree_no_float : (t : Tree) → IsFit t → has_float (tree_json t) ≡ false
  tree_no_float (text t) h = refl
  tree_no_float (number n) h = absurd h
  tree_no_float (node st ts) h = no_float_put s_key (array (texts_json st)) (trees_json 0 ts) (texts_no_float st) (trees_no_float 0 ts h.2)
  tree_no_float (list st no_rows) h = absurd h
  tree_no_float (list st (row ts rs)) h =
      or_false (items_have_float (rows_json (row ts rs))) _ (rows_no_float (length st) (row ts rs) h) (or_false (items_have_float (texts_json st)) false (texts_no_float st) refl)
  tree_no_float (stream name b st rs) h = absurd h
  tree_no_float (held name st hs) h = absurd h

  trees_no_float : (n : ℕ) (ts : Trees) → AreFit ts → members_have_float (trees_json n ts) ≡ false
  trees_no_float n no_trees h = refl
  trees_no_float n (tree t ts) h = no_float_put (decimal n) (tree_json t) (trees_json (suc n) ts) (tree_no_float t h.0) (trees_no_float (suc n) ts h.1)

  row_no_float : (ts : Trees) → AreFit ts → items_have_float (row_json ts) ≡ false
  row_no_float no_trees h = refl
  row_no_float (tree t ts) h = or_false (has_float (tree_json t)) (items_have_float (row_json ts)) (tree_no_float t h.0) (row_no_float ts h.1)

  rows_no_float : (n : ℕ) (rs : Rows) → RowsFit n rs → items_have_float (rows_json rs) ≡ false
  rows_no_float n no_rows h = refl
  rows_no_float n (row ts rs) h = or_false (items_have_float (row_json ts)) (items_have_float (rows_json rs)) (row_no_float ts h.1) (rows_no_float n rs h.2)

pub node_no_float : (st : List (List ℕ)) (ts : Trees) → AreFit ts → members_have_float (node_members st ts) ≡ false
node_no_float st ts h = no_float_put s_key (array (texts_json st)) (trees_json 0 ts) (texts_no_float st) (trees_no_float 0 ts h)

mutual
  change_no_float : (c : Change) → ChangeFits c → has_float (change_json c) ≡ false
  change_no_float (write t) h = tree_no_float t h
  change_no_float (inner cs) h = changes_no_float 0 cs h.1
  change_no_float (rows no_rows) h = absurd h
  change_no_float (rows (row ts rs)) h = or_false (items_have_float (rows_json (row ts rs))) false (rows_no_float (suc (count ts)) (row ts rs) h) refl
  change_no_float (batch name b rs) h = absurd h

  pub changes_no_float : (n : ℕ) (cs : Changes) → ChangesFit cs → members_have_float (changes_json n cs) ≡ false
  changes_no_float n no_changes h = refl
  changes_no_float n (skip cs) h = changes_no_float (suc n) cs h
  changes_no_float n (change c cs) h = no_float_put (decimal n) (change_json c) (changes_json (suc n) cs) (change_no_float c h.0) (changes_no_float (suc n) cs h.1)
