-- Trees and diffs beside pushed events: without `e` they are what they were.
use Rattle.std.proofs.Common.{◌≡◌, ℕ, suc, ◌+◌, ◌≤◌, ◌^◌, List, [], ◌∷◌, true, false, if◌then◌else◌, refl, sym, ap, ◌∙◌, arith, codes, true≢false, Ordering, Less, Equal, Greater}
use Rattle.std.specs.Ordering.{is_eq, match_ordering}
use Rattle.std.specs.Str.{bytes_eq}
use Rattle.std.specs.Fmt.{decimal}
use Rattle.std.proofs.lemmas.Map.Lookups.{exact_bytes}
use Rattle.serde_json.specs.Data.{Data, array, Members, no_members, member, put}
use Rattle.text_core.proofs.Keyed.{order}
use Rattle.diff_tree.specs.Tree.{Trees, no_trees, tree, count, Changes, no_changes, skip, change}
use Rattle.diff_tree.specs.Spelling.{Pushed, events_json, with_events, tree_json, trees_json, change_json, changes_json}
use Rattle.diff_tree.specs.Grammar.{is_place, without}
use Rattle.diff_tree.proofs.Members.{keeps_if, drops_if}
use Rattle.client_merge.specs.Laws.{reach}
use Rattle.client_merge.proofs.Members.{key_is}
use Rattle.client_merge.proofs.JsonBack.{Absent, absent_put, decimal_is_place}

abbrev pub e_key : List ℕ
e_key = codes "e"

pub is_e : (l : List ℕ) (o : Ordering) → order e_key l ≡ o → bytes_eq l e_key ≡ is_eq o
is_e l o is = key_is e_key l o is

apart : (k l : List ℕ) → (order k l ≡ Equal → ⊥) → bytes_eq l k ≡ false
apart k l h = by (order k l) refl
  where
    by : (o : Ordering) → order k l ≡ o → bytes_eq l k ≡ false
    by Less is = key_is k l Less is
    by Equal is = absurd (h is)
    by Greater is = key_is k l Greater is

-- where a key is not there nothing goes
pub plain_same : (k : List ℕ) (ms : Members) → Absent k ms → without k ms ≡ ms
plain_same k no_members h = refl
plain_same k (member l d ms) h = keeps_if (bytes_eq l k) k l d ms ms (apart k l h.0) (plain_same k ms h.1)

gone_put : (d : Data) (ms : Members) → without e_key (put e_key d ms) ≡ without e_key ms
gone_put d no_members = refl
gone_put d (member l x ms) = by (order e_key l) refl (gone_put d ms)
  where
    by : (o : Ordering) → order e_key l ≡ o → without e_key (put e_key d ms) ≡ without e_key ms
        → without e_key (match_ordering o (member e_key d (member l x ms)) (member l d ms) (member l x (put e_key d ms))) ≡ without e_key (member l x ms)
    by Less is rest = refl
    by Equal is rest = drops_if (bytes_eq l e_key) e_key l d ms (is_e l Equal is) ∙ sym (drops_if (bytes_eq l e_key) e_key l x ms (is_e l Equal is))
    by Greater is rest = ap (λ ns. if bytes_eq l e_key then ns else member l x ns) rest

-- events go
pub events_gone : (es : List Pushed) (ms : Members) → without e_key (with_events es ms) ≡ without e_key ms
events_gone [] ms = refl
events_gone (e ∷ es) ms = gone_put (array (events_json (e ∷ es))) ms

-- and the other members stay
pub events_out : (es : List Pushed) (ms : Members) → Absent e_key ms → without e_key (with_events es ms) ≡ ms
events_out es ms h = events_gone es ms ∙ plain_same e_key ms h

-- ---- no key of the JSON of trees and of changes is `e`

decimal_not_e : (n : ℕ) → n + 1 ≤ 2 ^ 64 → order e_key (decimal n) ≡ Equal → ⊥
decimal_not_e n fits is =
    let same : e_key ≡ decimal n = exact_bytes e_key (decimal n) is in
    let no : false ≡ true = ap is_place same ∙ decimal_is_place n (omega arith) in
    true≢false (sym no)

pub trees_absent : (n : ℕ) (ts : Trees) → n + count ts ≤ 2 ^ 64 → Absent e_key (trees_json n ts)
trees_absent n no_trees fits = tt
trees_absent n (tree t ts) fits = absent_put e_key (decimal n) (tree_json t) (trees_json (suc n) ts) (decimal_not_e n (omega arith)) (trees_absent (suc n) ts (omega arith))

pub changes_absent : (n : ℕ) (cs : Changes) → n + reach cs ≤ 2 ^ 64 → Absent e_key (changes_json n cs)
changes_absent n no_changes fits = tt
changes_absent n (skip cs) fits = changes_absent (suc n) cs (omega arith)
changes_absent n (change c cs) fits = absent_put e_key (decimal n) (change_json c) (changes_json (suc n) cs) (decimal_not_e n (omega arith)) (changes_absent (suc n) cs (omega arith))

pub statics_absent : (d : Data) (ms : Members) → Absent e_key ms → Absent e_key (put (codes "s") d ms)
statics_absent d ms h = absent_put e_key (codes "s") d ms (λ is. cc) h
