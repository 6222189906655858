-- Trees and diffs beside pushed events, as they are sent.
use Rattle.std.proofs.Common.{◌≡◌, ◌<◌, ◌^◌, ◌&&◌, ◌||◌, ℕ, List, [], ◌∷◌, is_some, Bool, true, false, if◌then◌else◌, refl, sym, ap, ◌∙◌, subst, arith, codes, true≢false, Ordering, Less, Equal, Greater}
use Rattle.std.specs.Ordering.{match_ordering}
use Rattle.std.specs.Str.{bytes_eq}
use Rattle.std.proofs.lemmas.Map.Lookups.{exact_bytes}
use Rattle.serde_json.specs.Data.{Data, null, boolean, number, string, array, object, Members, no_members, member, put}
use Rattle.serde_json.specs.Find.{get_member}
use Rattle.serde_json.specs.Written.{has_float, items_have_float, members_have_float}
use Rattle.serde_json.proofs.Views.{get_member-put, get_member-put_other}
use Rattle.text_core.proofs.Keyed.{order}
use Rattle.diff_tree.specs.Tree.{node, Trees, count, Changes}
use Rattle.diff_tree.specs.Plain.{names, is_plain, items_are_plain, members_are_plain}
use Rattle.text_core.specs.Keyed.{ascend}
use Rattle.diff_tree.specs.Grammar.{is_value, is_node, is_diff, are_events, events_fit, components_fit, without, root_in}
use Rattle.diff_tree.specs.Spelling.{Pushed, events_json, with_events, texts_json, trees_json, changes_json}
use Rattle.wire_v2.specs.FrameGrammar.{is_whole_node, are_whole, components_are_whole, is_whole_at, all_whole, is_whole, is_tree}
use Rattle.client_merge.specs.Laws.{reach}
use Rattle.client_merge.proofs.JsonBack.{Absent, absent_put}
use Rattle.client_merge.proofs.Events.{e_key, events_out, plain_same}
use Rattle.client_page.proofs.Trees.{IsFit, AreFit, ChangesFit, both_to}
use Rattle.client_page.proofs.Fit.{node_members, none_found, trees_without, changes_without, node_fits, changes_fit, node_whole, node_no_float, changes_no_float, no_float_put}

abbrev c_key : List ℕ
c_key = codes "c"

abbrev s_key : List ℕ
s_key = codes "s"

both_of : (a b : Bool) → (a && b) ≡ true → (a ≡ true) × (b ≡ true)
both_of true b h = (refl, h)
both_of false b h = cc

-- ---- events

-- what is pushed has whole numbers alone
abbrev pub AreWhole : List Pushed → Type 0
AreWhole [] = Unit {0}
AreWhole (e ∷ es) = (has_float e.1 ≡ false) × AreWhole es

or_false : (a b : Bool) → a ≡ false → b ≡ false → (a || b) ≡ false
or_false a b h k = rw (h, k) refl

events_no_float : (es : List Pushed) → AreWhole es → items_have_float (events_json es) ≡ false
events_no_float [] h = refl
events_no_float (e ∷ es) h = or_false (has_float e.1 || false) (items_have_float (events_json es)) (or_false (has_float e.1) false h.0 refl) (events_no_float es h.1)

beside_no_float : (es : List Pushed) (ms : Members) → AreWhole es → members_have_float ms ≡ false → members_have_float (with_events es ms) ≡ false
beside_no_float [] ms h g = g
beside_no_float (e ∷ es) ms h g = no_float_put e_key (array (events_json (e ∷ es))) ms (events_no_float (e ∷ es) h) g

plain_put : (k : List ℕ) (d : Data) (ms : Members) → members_are_plain (put k d ms) ≡ true → is_plain d ≡ true
plain_put k d no_members h = (both_of (is_plain d) true h).0
plain_put k d (member l e ms) h = by (order k l) h (plain_put k d ms)
  where
    by : (o : Ordering) → members_are_plain (match_ordering o (member k d (member l e ms)) (member l d ms) (member l e (put k d ms))) ≡ true
        → (members_are_plain (put k d ms) ≡ true → is_plain d ≡ true) → is_plain d ≡ true
    by Less g rest = (both_of (is_plain d) (members_are_plain (member l e ms)) g).0
    by Equal g rest = (both_of (is_plain d) (members_are_plain ms) g).0
    by Greater g rest = rest (both_of (is_plain e) (members_are_plain (put k d ms)) g).1

events_are : (es : List Pushed) → items_are_plain (events_json es) ≡ true → are_events (events_json es) ≡ true
events_are [] h = refl
events_are (e ∷ es) h =
    let p = both_of (is_plain e.1 && true) (items_are_plain (events_json es)) h in
    both_to (is_plain e.1) (are_events (events_json es)) (both_of (is_plain e.1) true p.0).0 (events_are es p.1)

events_stand : (es : List Pushed) (ms : Members) → Absent e_key ms → members_are_plain (with_events es ms) ≡ true → events_fit (get_member e_key (with_events es ms)) ≡ true
events_stand [] ms a h = ap events_fit (none_found e_key ms a)
events_stand (e ∷ es) ms a h =
    ap events_fit (get_member-put e_key (array (events_json (e ∷ es))) ms) ∙ events_are (e ∷ es) (plain_put e_key (array (events_json (e ∷ es))) ms h)

-- another key than that of events
beside_other : (k : List ℕ) (es : List Pushed) (ms : Members) → bytes_eq k e_key ≡ false → get_member k (with_events es ms) ≡ get_member k ms
beside_other k [] ms h = refl
beside_other k (e ∷ es) ms h = get_member-put_other k e_key (array (events_json (e ∷ es))) ms (λ same. true≢false (sym (ap (λ l. bytes_eq l e_key) same) ∙ h))

-- ---- diffs

is_diff_beside : (es : List Pushed) (ms : Members) → Absent e_key ms → Absent c_key ms → is_value (object ms) ≡ true → is_plain (object (with_events es ms)) ≡ true → is_diff (object (with_events es ms)) ≡ true
is_diff_beside es ms e c value plain =
    let w : Data = object (with_events es ms) in
    let members : members_are_plain (with_events es ms) ≡ true = (both_of (ascend (names (with_events es ms))) (members_are_plain (with_events es ms)) plain).1 in
    let stand : (is_plain w && events_fit (get_member e_key (with_events es ms))) ≡ true = both_to (is_plain w) (events_fit (get_member e_key (with_events es ms))) plain (events_stand es ms e members) in
    let none : components_fit (get_member c_key (with_events es ms)) ≡ true = ap components_fit (beside_other c_key es ms refl ∙ none_found c_key ms c) in
    both_to (is_plain w && events_fit (get_member e_key (with_events es ms)) && components_fit (get_member c_key (with_events es ms))) (is_node (root_in w))
    (both_to (is_plain w && events_fit (get_member e_key (with_events es ms))) (components_fit (get_member c_key (with_events es ms))) stand none)
    (ap (λ l. is_node (object (without c_key l))) (events_out es ms e) ∙ ap (λ l. is_node (object l)) (plain_same c_key ms c) ∙ value)

pub changes_diff : (es : List Pushed) (cs : Changes) → reach cs < 2 ^ 64 → ChangesFit cs → is_plain (object (with_events es (changes_json 0 cs))) ≡ true → is_diff (object (with_events es (changes_json 0 cs))) ≡ true
changes_diff es cs few h plain =
    is_diff_beside es (changes_json 0 cs) (changes_without e_key 0 cs refl (omega (arith, few))) (changes_without c_key 0 cs refl (omega (arith, few))) (changes_fit cs few h) plain

pub changes_whole_numbers : (es : List Pushed) (cs : Changes) → ChangesFit cs → AreWhole es → has_float (object (with_events es (changes_json 0 cs))) ≡ false
changes_whole_numbers es cs h whole = beside_no_float es (changes_json 0 cs) whole (changes_no_float 0 cs h)

-- ---- trees

whole_at : (k : List ℕ) (d : Data) → is_whole_node d ≡ true → is_whole_at k d ≡ true
whole_at k d h = by (bytes_eq k (codes "e")) (bytes_eq k (codes "c"))
  where
    components : (x : Data) → is_whole_node x ≡ true → components_are_whole x ≡ true
    components null g = refl
    components (boolean b) g = refl
    components (number n) g = refl
    components (string s) g = refl
    components (array ds) g = refl
    components (object ms) g = (both_of (is_some (get_member s_key ms)) (are_whole ms) g).1

    by : (a b : Bool) → (if a then true else if b then components_are_whole d else is_whole_node d) ≡ true
    by true b = refl
    by false true = components d h
    by false false = h

all_whole_from : (ms : Members) → are_whole ms ≡ true → all_whole ms ≡ true
all_whole_from no_members h = refl
all_whole_from (member k d ms) h =
    let p = both_of (is_whole_node d) (are_whole ms) h in
    both_to (is_whole_at k d) (all_whole ms) (whole_at k d p.0) (all_whole_from ms p.1)

-- under the key of events nothing is asked
events_whole : (d : Data) (ms : Members) → all_whole ms ≡ true → all_whole (put e_key d ms) ≡ true
events_whole d no_members h = refl
events_whole d (member l e ms) h = by (order e_key l) refl (events_whole d ms p.1)
  where
    p : (is_whole_at l e ≡ true) × (all_whole ms ≡ true)
    p = both_of (is_whole_at l e) (all_whole ms) h

    by : (o : Ordering) → order e_key l ≡ o → all_whole (put e_key d ms) ≡ true → all_whole (match_ordering o (member e_key d (member l e ms)) (member l d ms) (member l e (put e_key d ms))) ≡ true
    by Less is rest = h
    by Equal is rest = subst (λ k. all_whole (member k d ms) ≡ true) (exact_bytes e_key l is) p.1
    by Greater is rest = both_to (is_whole_at l e) (all_whole (put e_key d ms)) p.0 rest

beside_whole : (es : List Pushed) (ms : Members) → all_whole ms ≡ true → all_whole (with_events es ms) ≡ true
beside_whole [] ms h = h
beside_whole (e ∷ es) ms h = events_whole (array (events_json (e ∷ es))) ms h

node_absent : (k : List ℕ) (st : List (List ℕ)) (ts : Trees) → count ts < 2 ^ 64 → (order k s_key ≡ Equal → ⊥) → Absent k (trees_json 0 ts) → Absent k (node_members st ts)
node_absent k st ts few other h = absent_put k s_key (array (texts_json st)) (trees_json 0 ts) other h

pub node_tree : (es : List Pushed) (st : List (List ℕ)) (ts : Trees) → IsFit (node st ts) → is_plain (object (with_events es (node_members st ts))) ≡ true → is_tree (object (with_events es (node_members st ts))) ≡ true
node_tree es st ts h plain =
    let ms : Members = node_members st ts in
    let few = h.0 in
    both_to (is_whole (object (with_events es ms))) (is_diff (object (with_events es ms)))
    (both_to (is_some (get_member s_key (with_events es ms))) (all_whole (with_events es ms))
    (ap is_some (beside_other s_key es ms refl ∙ get_member-put s_key (array (texts_json st)) (trees_json 0 ts)))
    (beside_whole es ms (all_whole_from ms (node_whole st ts h.2))))
    (is_diff_beside es ms (node_absent e_key st ts h.0 (λ is. cc) (trees_without e_key 0 ts refl (omega (arith, few)))) (node_absent c_key st ts h.0 (λ is. cc) (trees_without c_key 0 ts refl (omega (arith, few))))
    (node_fits st ts h) plain)

pub node_whole_numbers : (es : List Pushed) (st : List (List ℕ)) (ts : Trees) → AreFit ts → AreWhole es → has_float (object (with_events es (node_members st ts))) ≡ false
node_whole_numbers es st ts h whole = beside_no_float es (node_members st ts) whole (node_no_float st ts h)
