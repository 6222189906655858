use Rattle.std.proofs.Common.{rules, ◌≡◌, ◌<◌, ◌≤◌, ◌^◌, ◌∷◌, [], ◌∙◌, List, get_or, sym, ap, subst, refl, arith, true, Option, Some, None, option_map, is_some, IfOk}
use Rattle.std.specs.Vec.Iter.{into_iter_items, into_iter_len}
use Rattle.text_core.specs.declared.by_key.KeyValue.{KeyValue}
use Rattle.text_core.specs.Keyed.{keys, ascend}
use Rattle.diff_tree.specs.Tree.{text, node, list, inner, Changes, no_changes, count, merge_change}
use Rattle.diff_tree.specs.Client.{and_then}
use Rattle.diff_tree.specs.Grammar.{is_place}
use Rattle.diff_tree.specs.Parts.{part_data, place_data, node_data}
use Rattle.diff_tree.specs.declared.part.PlaceValue.{PlaceValue}
use Rattle.client_merge.specs.Reading.{number_of, change_of, merge_data}
use Rattle.client_merge.specs.Held.{held_tree, held_trees, held_rows, sent_node}
use Rattle.client_merge.specs.Planned.{gathered, planned, planned_all, merged, merged_all, placed}
use Rattle.client_merge.specs.declared.plan.HeldChange.TheViews as change_views
use Rattle.client_merge.specs.declared.plan.PlaceChange.{PlaceChange}
use Rattle.client_merge.proofs.Changes.{tree_at}
use Rattle.client_merge.proofs.Members.{readings, inner_is, inner_only, part_of}
use Rattle.client_merge.proofs.Sent.{unwritten_sent}
use Rattle.client_merge.proofs.Views.{held-Text, held-Node, held-List, held_at, count_held, planned-Write, planned-Inner, placed-is}
use Rattle.client_merge.proofs.Loops.{Planning, planning_first, plan_none, plan_unfit, plan_on, plan_last, writes_it}
use Rattle.client_merge.proofs.Applies.{counted_on, none_left, node_merges, some_node}
use Rattle.client_merge.proofs.plan.+plan.Goals as goal

pub plan_node-returns-in_err-take_node-in-Some-clause-bad : goal.plan_node-returns-in_err-take_node-in-Some-clause-bad
plan_node-returns-in_err-take_node-in-Some-clause-bad t c = λ bad.
    let b = c.into_parts-statics.result.1 in
    let sent : part_data c.args.part ≡ sent_node (Some c.in-Some.statics) b = part_of c.args.part (Some c.in-Some.statics) b (sym c.in-Some.is ∙ c.into_parts-statics.ensures.statics) c.into_parts-statics.ensures.body in
    ap (λ d. merge_data (held_tree c.args.held.now) d) sent
    ∙ ap (merged (held_tree c.args.held.now)) (unwritten_sent c.in-Some.statics b (c.in_err-take_node-in-Some.ensures.bad (search rules)))

pub plan_node-returns-in_ok-take_node-in-Some-clause-ok : goal.plan_node-returns-in_ok-take_node-in-Some-clause-ok
plan_node-returns-in_ok-take_node-in-Some-clause-ok t c =
    let b = c.into_parts-statics.result.1 in
    let st = c.in-Some.statics in
    let h = c.in_ok-take_node-in-Some.field-0 in
    let sent : part_data c.args.part ≡ sent_node (Some st) b = part_of c.args.part (Some st) b (sym c.in-Some.is ∙ c.into_parts-statics.ensures.statics) c.into_parts-statics.ensures.body in
    (planned-Write h ∙ sym (ap change_of sent ∙ writes_it (change_of (sent_node (Some st) b)) (held_tree h) c.in_ok-take_node-in-Some.ensures.ok), ap (λ o. is_some (merged (held_tree c.args.held.now) o)) (planned-Write h))

pub plan_node-returns-in-None-clause-ok : goal.plan_node-returns-in-None-clause-ok
plan_node-returns-in-None-clause-ok t c =
    let b = c.into_parts-statics.result.1 in
    let sent : part_data c.args.part ≡ sent_node None b = part_of c.args.part None b (sym c.in-None.is ∙ c.into_parts-statics.ensures.statics) c.into_parts-statics.ensures.body in
    subst (λ d. IfOk c.plan_body.result (λ x. (planned x ≡ change_of d) × (is_some (merged (held_tree c.args.held.now) (planned x)) ≡ true))) (sym sent) c.plan_body.ensures.ok

pub plan_node-returns-in-None-clause-bad : goal.plan_node-returns-in-None-clause-bad
plan_node-returns-in-None-clause-bad t c = λ bad.
    let b = c.into_parts-statics.result.1 in
    let sent : part_data c.args.part ≡ sent_node None b = part_of c.args.part None b (sym c.in-None.is ∙ c.into_parts-statics.ensures.statics) c.into_parts-statics.ensures.body in
    ap (λ d. merge_data (held_tree c.args.held.now) d) sent ∙ c.plan_body.ensures.bad bad

pub plan_inner-returns-in_err-plan_places-in-Node-clause-bad : goal.plan_inner-returns-in_err-plan_places-in-Node-clause-bad
plan_inner-returns-in_err-plan_places-in-Node-clause-bad t c = λ bad.
    let es = c.args.places in
    let tree_is : held_tree c.args.held.now ≡ node c.in-Node.statics (held_trees c.in-Node.held) = ap held_tree c.in-Node.is ∙ held-Node c.in-Node.statics c.in-Node.held in
    ap (λ u. merge_data u (node_data None es)) tree_is
    ∙ c.in_err-plan_places-in-Node.ensures.bad (search rules) c.in-Node.statics

pub plan_inner-returns-in-Text-clause-bad : goal.plan_inner-returns-in-Text-clause-bad
plan_inner-returns-in-Text-clause-bad t c = λ bad.
    let es = c.args.places in
    let tree_is : held_tree c.args.held.now ≡ text c.in-Text.field-0 = ap held_tree c.in-Text.is ∙ held-Text c.in-Text.field-0 in
    ap (λ u. merge_data u (node_data None es)) tree_is
    ∙ inner_only es (merge_change (text c.in-Text.field-0)) (λ cs. refl)

pub plan_inner-returns-in-List-clause-bad : goal.plan_inner-returns-in-List-clause-bad
plan_inner-returns-in-List-clause-bad t c = λ bad.
    let es = c.args.places in
    let tree_is : held_tree c.args.held.now ≡ list c.in-List.statics (held_rows c.in-List.rows) = ap held_tree c.in-List.is ∙ held-List c.in-List.statics c.in-List.rows in
    ap (λ u. merge_data u (node_data None es)) tree_is
    ∙ inner_only es (merge_change (list c.in-List.statics (held_rows c.in-List.rows))) (λ cs. refl)

pub plan_inner-returns-in_ok-plan_places-in-Node-clause-ok : goal.plan_inner-returns-in_ok-plan_places-in-Node-clause-ok
plan_inner-returns-in_ok-plan_places-in-Node-clause-ok t c =
    let tree_is : held_tree c.args.held.now ≡ node c.in-Node.statics (held_trees c.in-Node.held) = ap held_tree c.in-Node.is ∙ held-Node c.in-Node.statics c.in-Node.held in
    let ps = c.in_ok-plan_places-in-Node.field-0 in
    let made = c.in_ok-plan_places-in-Node.ensures.ok in (
      planned-Inner ps ∙ made.0,
      ap (λ u. is_some (merged u (planned (change_views.Inner ps)))) tree_is
          ∙ ap (λ o. is_some (merged (node c.in-Node.statics (held_trees c.in-Node.held)) o)) (planned-Inner ps)
          ∙ ap is_some (node_merges c.in-Node.statics (held_trees c.in-Node.held) (planned_all ps))
          ∙ some_node c.in-Node.statics (merged_all (held_trees c.in-Node.held) (planned_all ps)) made.1,
    )

pub plan_places-places-init : goal.plan_places-places-init
plan_places-places-init t c =
    let es = into_iter_items c.into_iter-key-iterator.result in
    let ts = held_trees c.args.held.now in
    let gives : es ≡ c.args.places = c.into_iter-key-iterator.ensures.into_iter_gives.0 ∙ c.into_vec-key-items.ensures.value in
    let up : ascend (keys es) ≡ true = ap (λ l. ascend (keys l)) gives ∙ c.into_vec-key-items.ensures.ascending in
    let all : Option Changes = gathered (readings es) no_changes in
    let read : change_of (node_data None c.args.places) ≡ option_map inner all = sym (ap (λ l. change_of (node_data None l)) gives) ∙ inner_is es up in
    record {
      kept = subst (Planning ts all es) (sym c.new-changes.ensures) (planning_first ts es up);
      counted = search rules;
    }

pub plan_places-returns-in_err-place-clause-bad : goal.plan_places-returns-in_err-place-clause-bad
plan_places-returns-in_err-place-clause-bad t c = λ bad st.
    let es = into_iter_items c.into_iter-key-iterator.result in
    let ts = held_trees c.args.held.now in
    let gives : es ≡ c.args.places = c.into_iter-key-iterator.ensures.into_iter_gives.0 ∙ c.into_vec-key-items.ensures.value in
    let up : ascend (keys es) ≡ true = ap (λ l. ascend (keys l)) gives ∙ c.into_vec-key-items.ensures.ascending in
    let all : Option Changes = gathered (readings es) no_changes in
    let read : change_of (node_data None c.args.places) ≡ option_map inner all = sym (ap (λ l. change_of (node_data None l)) gives) ∙ inner_is es up in
    let e : KeyValue PlaceValue = c.in-Some.field-0 in
    let rest = into_iter_items c.next.new.self in
    let steps = c.in-Some.ensures.steps in
    let made = c.places.changes in
    let kept : Planning ts all (e ∷ rest) made = subst (λ (l : List (KeyValue PlaceValue)). Planning ts all l made) steps.0 c.places.invariant.kept in
    let named : c.as_str.result.now ≡ e.key = c.as_str.ensures in
    let long : c.len.result ≡ count ts = c.len.ensures ∙ sym (count_held c.args.held.now) in
    ap (λ o. merged (node st ts) o) read ∙ node_merges st ts all ∙ ap (option_map (node st)) (plan_none ts all e rest made kept
    (subst (λ m. is_place e.key ≡ true → m ≤ number_of e.key) long (subst (λ k. is_place k ≡ true → c.len.result ≤ number_of k) named c.in_err-place.ensures.bad)))

pub plan_places-returns-in_err-change-clause-bad : goal.plan_places-returns-in_err-change-clause-bad
plan_places-returns-in_err-change-clause-bad t c = λ bad st.
    let es = into_iter_items c.into_iter-key-iterator.result in
    let ts = held_trees c.args.held.now in
    let gives : es ≡ c.args.places = c.into_iter-key-iterator.ensures.into_iter_gives.0 ∙ c.into_vec-key-items.ensures.value in
    let up : ascend (keys es) ≡ true = ap (λ l. ascend (keys l)) gives ∙ c.into_vec-key-items.ensures.ascending in
    let all : Option Changes = gathered (readings es) no_changes in
    let read : change_of (node_data None c.args.places) ≡ option_map inner all = sym (ap (λ l. change_of (node_data None l)) gives) ∙ inner_is es up in
    let e : KeyValue PlaceValue = c.in-Some.field-0 in
    let rest = into_iter_items c.next.new.self in
    let steps = c.in-Some.ensures.steps in
    let made = c.places.changes in
    let kept : Planning ts all (e ∷ rest) made = subst (λ (l : List (KeyValue PlaceValue)). Planning ts all l made) steps.0 c.places.invariant.kept in
    let named : c.as_str.result.now ≡ e.key = c.as_str.ensures in
    let long : c.len.result ≡ count ts = c.len.ensures ∙ sym (count_held c.args.held.now) in
    let number : c.in_ok-place.place ≡ number_of e.key = c.in_ok-place.ensures.ok.0 ∙ ap number_of named in
    let is : is_place e.key ≡ true = sym (ap is_place named) ∙ c.in_ok-place.ensures.ok.1 in
    let h = c.index-as_slice-place.result in
    let at : tree_at (number_of e.key) ts ≡ Some (held_tree h) = sym (ap (λ n. tree_at n ts) number)
    ∙ held_at c.args.held.now c.in_ok-place.place h (subst (λ m. c.in_ok-place.place < m) c.len.ensures c.in_ok-place.ensures.ok.2) (c.index-as_slice-place.is ∙ ap (λ l. get_or l c.in_ok-place.place h) c.as_slice.ensures) in
    ap (λ o. merged (node st ts) o) read ∙ node_merges st ts all ∙ ap (option_map (node st)) (plan_unfit ts all e rest made (held_tree h) kept is at (c.in_err-change.ensures.bad (search rules)))

pub plan_places-places-preserved : goal.plan_places-places-preserved
plan_places-places-preserved t c =
    let es = into_iter_items c.into_iter-key-iterator.result in
    let ts = held_trees c.args.held.now in
    let gives : es ≡ c.args.places = c.into_iter-key-iterator.ensures.into_iter_gives.0 ∙ c.into_vec-key-items.ensures.value in
    let up : ascend (keys es) ≡ true = ap (λ l. ascend (keys l)) gives ∙ c.into_vec-key-items.ensures.ascending in
    let all : Option Changes = gathered (readings es) no_changes in
    let read : change_of (node_data None c.args.places) ≡ option_map inner all = sym (ap (λ l. change_of (node_data None l)) gives) ∙ inner_is es up in
    let e : KeyValue PlaceValue = c.in-Some.field-0 in
    let rest = into_iter_items c.next.new.self in
    let steps = c.in-Some.ensures.steps in
    let made = c.places.changes in
    let kept : Planning ts all (e ∷ rest) made = subst (λ (l : List (KeyValue PlaceValue)). Planning ts all l made) steps.0 c.places.invariant.kept in
    let named : c.as_str.result.now ≡ e.key = c.as_str.ensures in
    let long : c.len.result ≡ count ts = c.len.ensures ∙ sym (count_held c.args.held.now) in
    let number : c.in_ok-place.place ≡ number_of e.key = c.in_ok-place.ensures.ok.0 ∙ ap number_of named in
    let is : is_place e.key ≡ true = sym (ap is_place named) ∙ c.in_ok-place.ensures.ok.1 in
    let h = c.index-as_slice-place.result in
    let at : tree_at (number_of e.key) ts ≡ Some (held_tree h) = sym (ap (λ n. tree_at n ts) number)
    ∙ held_at c.args.held.now c.in_ok-place.place h (subst (λ m. c.in_ok-place.place < m) c.len.ensures c.in_ok-place.ensures.ok.2) (c.index-as_slice-place.is ∙ ap (λ l. get_or l c.in_ok-place.place h) c.as_slice.ensures) in
    let below : c.in_ok-place.place < c.len.result = c.in_ok-place.ensures.ok.2 in
    let small : number_of e.key < 2 ^ 64 = subst (λ m. m < 2 ^ 64) number (let fits = c.len.type_inv in omega arith) in
    let one : PlaceChange = record { place = c.in_ok-place.place; change = c.in_ok-change.change } in
    let planned_is : planned c.in_ok-change.change ≡ change_of (place_data e.value) = c.in_ok-change.ensures.ok.0 in
    let same : placed one ≡ (number_of e.key, change_of (place_data e.value)) = placed-is one ∙ ap (λ n. (n, planned c.in_ok-change.change)) number ∙ ap (λ o. (number_of e.key, o)) planned_is in
    let some : is_some (and_then (change_of (place_data e.value)) (merge_change (held_tree h))) ≡ true = sym (ap (λ o. is_some (merged (held_tree h) o)) planned_is) ∙ c.in_ok-change.ensures.ok.1 in
    record {
      kept = subst (Planning ts all rest) (sym c.in_ok-push.ensures.ok) (plan_on ts all e rest made (held_tree h) one kept is small at same some);
      counted = counted_on (into_iter_len c.places.key-iterator) (into_iter_len c.next.new.self) (into_iter_items c.places.key-iterator) e rest c.places.invariant.counted steps.0 steps.1;
    }

pub plan_places-returns-clause-ok : goal.plan_places-returns-clause-ok
plan_places-returns-clause-ok t c =
    let es = into_iter_items c.into_iter-key-iterator.result in
    let ts = held_trees c.args.held.now in
    let gives : es ≡ c.args.places = c.into_iter-key-iterator.ensures.into_iter_gives.0 ∙ c.into_vec-key-items.ensures.value in
    let up : ascend (keys es) ≡ true = ap (λ l. ascend (keys l)) gives ∙ c.into_vec-key-items.ensures.ascending in
    let all : Option Changes = gathered (readings es) no_changes in
    let read : change_of (node_data None c.args.places) ≡ option_map inner all = sym (ap (λ l. change_of (node_data None l)) gives) ∙ inner_is es up in
    let none : into_iter_items c.places.key-iterator ≡ [] = none_left (into_iter_len c.places.key-iterator) (into_iter_items c.places.key-iterator) c.places.invariant.counted c.in-None.ensures.steps.0 in
    let last = plan_last ts all c.places.changes (subst (λ (l : List (KeyValue PlaceValue)). Planning ts all l c.places.changes) none c.places.invariant.kept) in
    (ap (option_map inner) last.0 ∙ sym read, last.1)
