-- The root of a diff, and the diff as JSON.
use Rattle.std.proofs.Common.{◌≡◌, ◌⊎◌, inl, inr, ℕ, List, [], ◌∷◌, length, arith, map, Option, None, is_some, Bool, true, false, if◌then◌else◌, refl, sym, ap, ◌∙◌, subst, codes, Ordering, Less, Equal, Greater}
use Rattle.std.specs.Ordering.{match_ordering}
use Rattle.std.specs.Str.{bytes_eq}
use Rattle.std.proofs.lemmas.Map.Lookups.{exact_bytes}
use Rattle.serde_json.specs.Data.{Data, object, Members, no_members, member, put}
use Rattle.serde_json.specs.Find.{get_member}
use Rattle.text_core.proofs.Keyed.{order}
use Rattle.diff_tree.specs.Tree.{Rows, no_rows, Changes, no_changes}
use Rattle.diff_tree.specs.Client.{and_then}
use Rattle.diff_tree.specs.Spelling.{Pushed, with_events, with_components, members_of}
use Rattle.diff_tree.specs.Grammar.{is_place, without}
use Rattle.diff_tree.specs.Parts.{part_data, body_members, with_statics, components_data, pushed_of, diff_data, statics_of, body_of, root_of, components_of, events_of}
use Rattle.diff_tree.specs.declared.diff.ComponentPart.{ComponentPart}
use Rattle.diff_tree.specs.declared.diff.Diff.{Diff}
use Rattle.diff_tree.proofs.Written.{components_stand}
use Rattle.client_merge.specs.Reading.{number_of, with_change, node_change, list_change, change_of, changes_in, rows_in, rows_of}
use Rattle.client_merge.specs.Frames.{without_events}
use Rattle.client_merge.specs.Bodies.{alone, root_sent}
use Rattle.client_merge.proofs.Members.{s_key, d_key, then_none, part_is}
use Rattle.client_merge.proofs.Events.{e_key, is_e, events_gone}

abbrev c_key : List ℕ
c_key = codes "c"

-- ---- components beside the members of a node make it bad

-- some member is that of components
abbrev Has : Members → Type 0
Has no_members = ⊥
Has (member k d ms) = (c_key ≡ k) ⊎ Has ms

has_put : (d : Data) (ms : Members) → Has (put c_key d ms)
has_put d no_members = inl refl
has_put d (member l e ms) = by (order c_key l) refl (has_put d ms)
  where
    by : (o : Ordering) → order c_key l ≡ o → Has (put c_key d ms) → Has (match_ordering o (member c_key d (member l e ms)) (member l d ms) (member l e (put c_key d ms)))
    by Less is rest = inl refl
    by Equal is rest = inl (exact_bytes c_key l is)
    by Greater is rest = inr rest

-- it is not that of events
has_without : (ms : Members) → Has ms → Has (without e_key ms)
has_without no_members h = h
has_without (member l e ms) h = by (order e_key l) refl h (has_without ms)
  where
    kept : (b : Bool) → b ≡ false → (c_key ≡ l) ⊎ Has ms → (Has ms → Has (without e_key ms)) → Has (if b then without e_key ms else member l e (without e_key ms))
    kept true is g rest = cc
    kept false is (inl same) rest = inl same
    kept false is (inr g) rest = inr (rest g)

    gone : (b : Bool) → b ≡ true → Has ms → (Has ms → Has (without e_key ms)) → Has (if b then without e_key ms else member l e (without e_key ms))
    gone true is g rest = rest g
    gone false is g rest = cc

    by : (o : Ordering) → order e_key l ≡ o → (c_key ≡ l) ⊎ Has ms → (Has ms → Has (without e_key ms)) → Has (without e_key (member l e ms))
    by Less is g rest = kept (bytes_eq l e_key) (is_e l Less is) g rest
    by Equal is (inl same) rest = let no : order e_key c_key ≡ Equal = ap (order e_key) same ∙ is in cc
    by Equal is (inr g) rest = gone (bytes_eq l e_key) (is_e l Equal is) g rest
    by Greater is g rest = kept (bytes_eq l e_key) (is_e l Greater is) g rest

changes_c : (ms : Members) → Has ms → (cs : Changes) → changes_in ms cs ≡ None
changes_c no_members h cs = absurd h
changes_c (member l e ms) (inl same) cs = subst (λ k. changes_in (member k e ms) cs ≡ None) same refl
changes_c (member l e ms) (inr h) cs = on (bytes_eq l s_key) (is_place l) (changes_c ms h)
  where
    on : (b p : Bool) → ((ds : Changes) → changes_in ms ds ≡ None)
        → (if b then changes_in ms cs else if p then and_then (and_then (change_of e) (with_change (number_of l) cs)) (changes_in ms) else None) ≡ None
    on true p rest = rest cs
    on false true rest = then_none (and_then (change_of e) (with_change (number_of l) cs)) (changes_in ms) rest
    on false false rest = refl

rows_c : (ms : Members) → Has ms → (rs : Rows) → rows_in ms rs ≡ None
rows_c no_members h rs = absurd h
rows_c (member l e ms) (inl same) rs = subst (λ k. rows_in (member k e ms) rs ≡ None) same refl
rows_c (member l e ms) (inr h) rs = on (bytes_eq l s_key) (bytes_eq l d_key) (rows_c ms h)
  where
    on : (b p : Bool) → ((qs : Rows) → rows_in ms qs ≡ None)
        → (if b then rows_in ms rs else if p then and_then (rows_of e) (rows_in ms) else None) ≡ None
    on true p rest = rest rs
    on false true rest = then_none (rows_of e) (rows_in ms) rest
    on false false rest = refl

component_bad : (ms : Members) → Has ms → change_of (object ms) ≡ None
component_bad ms h = by (is_some (get_member d_key ms))
  where
    s : Option Data
    s = get_member s_key ms

    by : (b : Bool) → (if b then and_then (rows_in ms no_rows) (list_change s) else and_then (changes_in ms no_changes) (node_change s)) ≡ None
    by true = ap (λ o. and_then o (list_change s)) (rows_c ms h no_rows)
    by false = ap (λ o. and_then o (node_change s)) (changes_c ms h no_changes)

-- ---- a diff without its events is its root without them

root_read : (es : List Pushed) (cs : List ComponentPart) (ms : Members)
    → change_of (object (without e_key (with_events es (with_components (components_data cs) ms)))) ≡ and_then (alone cs (object (without e_key ms))) change_of
root_read es [] ms = ap (λ l. change_of (object l)) (events_gone es ms)
root_read es (c ∷ cs) ms =
    let x : Data = object (components_data (c ∷ cs)) in
    ap (λ l. change_of (object (without e_key (with_events es l)))) (components_stand (c ∷ cs) ms (λ is. let long : length (c ∷ cs) ≡ 0 = ap length is in omega arith))
    ∙ ap (λ l. change_of (object l)) (events_gone es (put c_key x ms))
    ∙ component_bad (without e_key (put c_key x ms)) (has_without (put c_key x ms) (has_put x ms))

pub diff_read : (d : Diff) → change_of (without_events (diff_data d)) ≡ and_then (root_sent d) change_of
diff_read d =
    let ms : Members = with_statics (statics_of (root_of d)) (body_members (body_of (root_of d))) in
    let root : part_data (root_of d) ≡ object ms = part_is (root_of d) in
    ap (λ x. change_of (without_events (object (with_events (map pushed_of (events_of d)) (with_components (components_data (components_of d)) (members_of x)))))) root
    ∙ root_read (map pushed_of (events_of d)) (components_of d) ms
    ∙ ap (λ x. and_then (alone (components_of d) (without_events x)) change_of) (sym root)
