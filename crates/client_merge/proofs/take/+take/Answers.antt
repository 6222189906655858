use Rattle.std.proofs.Common.{rules, ◌≡◌, ◌<◌, ◌≤◌, ◌^◌, ◌==◌, suc, ◌∷◌, [], ◌∙◌, List, length, sym, ap, subst, arith, true, false, Option, Some, option_map, codes}
use Rattle.std.specs.Vec.Iter.{into_iter_items, into_iter_len}
use Rattle.std.specs.Str.{bytes_eq}
use Rattle.text_core.specs.declared.by_key.KeyValue.{KeyValue}
use Rattle.text_core.specs.Keyed.{keys, ascend, without_key}
use Rattle.diff_tree.specs.Tree.{node, list, Change, Changes, no_changes}
use Rattle.diff_tree.specs.Client.{and_then}
use Rattle.diff_tree.specs.Grammar.{is_place}
use Rattle.diff_tree.specs.declared.part.PlaceValue.{PlaceValue}
use Rattle.diff_tree.specs.declared.part.Row.{Row}
use Rattle.diff_tree.specs.Parts.{list_data}
use Rattle.client_merge.specs.Reading.{number_of, trees_of, tree_of, written}
use Rattle.client_merge.specs.Held.{held_tree, held_trees, trees_in, rows_sent}
use Rattle.client_merge.specs.Planned.{gathered}
use Rattle.client_merge.proofs.Members.{readings, unstatic, node_trees, without_s, trees_are}
use Rattle.client_merge.specs.declared.held.HeldRow.{HeldRow}
use Rattle.client_merge.proofs.Sent.{inner_unwritten}
use Rattle.client_merge.proofs.Rows.{list_tree, streamed, each, each_is, joined, row_on, row_bad, rows_first, rows_last, row_is, values_sent, ahead, value_on, value_bad, values_first, values_last}
use Rattle.client_merge.proofs.Changes.{tree_set}
use Rattle.client_merge.proofs.Views.{held-Node, held-List, row-is, trees_set, count_held}
use Rattle.client_merge.proofs.Loops.{Taking, taking_first, take_none, take_unfit, take_on, take_last, taking_count}
use Rattle.client_merge.proofs.Applies.{counted_on, none_left}
use Rattle.client_merge.proofs.take.+take.Goals as goal

pub take_place_node-returns-in_err-places-clause-bad : goal.take_place_node-returns-in_err-places-clause-bad
take_place_node-returns-in_err-places-clause-bad t c = λ bad.
    node_trees c.args.statics c.args.places ∙ ap (option_map (node c.args.statics)) (c.in_err-places.ensures.bad (search rules))

pub take_place_node-returns-clause-ok : goal.take_place_node-returns-clause-ok
take_place_node-returns-clause-ok t c =
    node_trees c.args.statics c.args.places ∙ ap (option_map (node c.args.statics)) c.in_ok-places.ensures.ok ∙ ap Some (sym (held-Node c.args.statics c.in_ok-places.places))

pub take_part-returns-in-None-clause-bad : goal.take_part-returns-in-None-clause-bad
take_part-returns-in-None-clause-bad t c = λ bad.
    inner_unwritten c.args.part (sym c.in-None.is ∙ c.into_parts-statics.ensures.statics)

pub take_places-places-init : goal.take_places-places-init
take_places-places-init t c =
    let es = into_iter_items c.into_iter-key-iterator.result in
    let n = c.count_places-count.result in
    let gives : es ≡ c.args.places = c.into_iter-key-iterator.ensures.into_iter_gives.0 ∙ c.into_vec-key-items.ensures.value in
    let up : ascend (keys es) ≡ true = ap (λ l. ascend (keys l)) gives ∙ c.into_vec-key-items.ensures.ascending in
    let all : Option Changes = gathered (readings (unstatic es)) no_changes in
    let counted : length (unstatic es) ≡ n = ap length (without_s es up) ∙ ap (λ l. length (without_key (codes "s") l)) gives ∙ sym c.count_places-count.ensures in
    record {
      kept = subst (Taking n all es) (sym c.in_ok-nodes.ensures) (taking_first n es up counted);
      counted = search rules;
    }

pub take_places-returns-in_err-place-clause-bad : goal.take_places-returns-in_err-place-clause-bad
take_places-returns-in_err-place-clause-bad t c = λ bad.
    let es = into_iter_items c.into_iter-key-iterator.result in
    let n = c.count_places-count.result in
    let gives : es ≡ c.args.places = c.into_iter-key-iterator.ensures.into_iter_gives.0 ∙ c.into_vec-key-items.ensures.value in
    let up : ascend (keys es) ≡ true = ap (λ l. ascend (keys l)) gives ∙ c.into_vec-key-items.ensures.ascending in
    let all : Option Changes = gathered (readings (unstatic es)) no_changes in
    let whole : trees_in c.args.places ≡ and_then all trees_of = sym (ap trees_in gives) ∙ trees_are es up in
    let e : KeyValue PlaceValue = c.in-Some.field-0 in
    let rest = into_iter_items c.next.new.self in
    let steps = c.in-Some.ensures.steps in
    let kept : Taking n all (e ∷ rest) (held_trees c.places.nodes) = subst (λ (l : List (KeyValue PlaceValue)). Taking n all l (held_trees c.places.nodes)) steps.0 c.places.invariant.kept in
    let other : bytes_eq e.key (codes "s") ≡ false = ap (λ k. bytes_eq k (codes "s")) (sym c.as_str.ensures) ∙ sym c.if-eq.ensures in
    let named : c.as_str-in-places.result.now ≡ e.key = c.as_str-in-places.ensures in
    whole ∙ take_none n all e rest (held_trees c.places.nodes) other kept (subst (λ k. is_place k ≡ true → n ≤ number_of k) named c.in_err-place.ensures.bad)

pub take_places-returns-in_err-take_value-clause-bad : goal.take_places-returns-in_err-take_value-clause-bad
take_places-returns-in_err-take_value-clause-bad t c = λ bad.
    let es = into_iter_items c.into_iter-key-iterator.result in
    let n = c.count_places-count.result in
    let gives : es ≡ c.args.places = c.into_iter-key-iterator.ensures.into_iter_gives.0 ∙ c.into_vec-key-items.ensures.value in
    let up : ascend (keys es) ≡ true = ap (λ l. ascend (keys l)) gives ∙ c.into_vec-key-items.ensures.ascending in
    let all : Option Changes = gathered (readings (unstatic es)) no_changes in
    let whole : trees_in c.args.places ≡ and_then all trees_of = sym (ap trees_in gives) ∙ trees_are es up in
    let e : KeyValue PlaceValue = c.in-Some.field-0 in
    let rest = into_iter_items c.next.new.self in
    let steps = c.in-Some.ensures.steps in
    let kept : Taking n all (e ∷ rest) (held_trees c.places.nodes) = subst (λ (l : List (KeyValue PlaceValue)). Taking n all l (held_trees c.places.nodes)) steps.0 c.places.invariant.kept in
    let other : bytes_eq e.key (codes "s") ≡ false = ap (λ k. bytes_eq k (codes "s")) (sym c.as_str.ensures) ∙ sym c.if-eq.ensures in
    let named : c.as_str-in-places.result.now ≡ e.key = c.as_str-in-places.ensures in
    let number : c.in_ok-place.place ≡ number_of e.key = c.in_ok-place.ensures.ok.0 ∙ ap number_of named in
    let is : is_place e.key ≡ true = sym (ap is_place named) ∙ c.in_ok-place.ensures.ok.1 in
    whole ∙ take_unfit n all e rest (held_trees c.places.nodes) other kept is (c.in_err-take_value.ensures.bad (search rules))

pub take_places-set-requires : goal.take_places-set-requires
take_places-set-requires t c =
    let es = into_iter_items c.into_iter-key-iterator.result in
    let n = c.count_places-count.result in
    let gives : es ≡ c.args.places = c.into_iter-key-iterator.ensures.into_iter_gives.0 ∙ c.into_vec-key-items.ensures.value in
    let up : ascend (keys es) ≡ true = ap (λ l. ascend (keys l)) gives ∙ c.into_vec-key-items.ensures.ascending in
    let all : Option Changes = gathered (readings (unstatic es)) no_changes in
    let counted = taking_count n all (into_iter_items c.places.key-iterator) (held_trees c.places.nodes) c.places.invariant.kept in
    let long = count_held c.places.nodes in
    let below = c.in_ok-place.ensures.ok.2 in
    omega arith

pub take_places-places-preserved : goal.take_places-places-preserved
take_places-places-preserved t c =
    let es = into_iter_items c.into_iter-key-iterator.result in
    let n = c.count_places-count.result in
    let gives : es ≡ c.args.places = c.into_iter-key-iterator.ensures.into_iter_gives.0 ∙ c.into_vec-key-items.ensures.value in
    let up : ascend (keys es) ≡ true = ap (λ l. ascend (keys l)) gives ∙ c.into_vec-key-items.ensures.ascending in
    let all : Option Changes = gathered (readings (unstatic es)) no_changes in
    let e : KeyValue PlaceValue = c.in-Some.field-0 in
    let rest = into_iter_items c.next.new.self in
    let steps = c.in-Some.ensures.steps in
    let kept : Taking n all (e ∷ rest) (held_trees c.places.nodes) = subst (λ (l : List (KeyValue PlaceValue)). Taking n all l (held_trees c.places.nodes)) steps.0 c.places.invariant.kept in
    let other : bytes_eq e.key (codes "s") ≡ false = ap (λ k. bytes_eq k (codes "s")) (sym c.as_str.ensures) ∙ sym c.if-eq.ensures in
    let named : c.as_str-in-places.result.now ≡ e.key = c.as_str-in-places.ensures in
    let number : c.in_ok-place.place ≡ number_of e.key = c.in_ok-place.ensures.ok.0 ∙ ap number_of named in
    let is : is_place e.key ≡ true = sym (ap is_place named) ∙ c.in_ok-place.ensures.ok.1 in
    let below : number_of e.key < n = subst (λ m. m < n) number c.in_ok-place.ensures.ok.2 in
    let small : n < 2 ^ 64 = c.count_places-count.type_inv in
    let set : held_trees c.set.new.self ≡ tree_set (number_of e.key) (held_tree c.in_ok-take_value.field-0) (held_trees c.places.nodes)
    = ap held_trees c.set.ensures ∙ trees_set c.places.nodes c.in_ok-place.place c.in_ok-take_value.field-0 ∙ ap (λ m. tree_set m (held_tree c.in_ok-take_value.field-0) (held_trees c.places.nodes)) number in
    record {
      kept = subst (Taking n all rest) (sym set)
          (take_on n all e rest (held_trees c.places.nodes) c.in_ok-take_value.field-0 other kept is (omega arith) below c.in_ok-take_value.ensures.ok);
      counted = counted_on (into_iter_len c.places.key-iterator) (into_iter_len c.next.new.self) (into_iter_items c.places.key-iterator) e rest c.places.invariant.counted steps.0 steps.1;
    }

pub take_places-returns-clause-ok : goal.take_places-returns-clause-ok
take_places-returns-clause-ok t c =
    let es = into_iter_items c.into_iter-key-iterator.result in
    let n = c.count_places-count.result in
    let gives : es ≡ c.args.places = c.into_iter-key-iterator.ensures.into_iter_gives.0 ∙ c.into_vec-key-items.ensures.value in
    let up : ascend (keys es) ≡ true = ap (λ l. ascend (keys l)) gives ∙ c.into_vec-key-items.ensures.ascending in
    let all : Option Changes = gathered (readings (unstatic es)) no_changes in
    let whole : trees_in c.args.places ≡ and_then all trees_of = sym (ap trees_in gives) ∙ trees_are es up in
    let none : into_iter_items c.places.key-iterator ≡ [] = none_left (into_iter_len c.places.key-iterator) (into_iter_items c.places.key-iterator) c.places.invariant.counted c.in-None.ensures.steps.0 in
    whole ∙ take_last n all (held_trees c.places.nodes) (subst (λ (l : List (KeyValue PlaceValue)). Taking n all l (held_trees c.places.nodes)) none c.places.invariant.kept)

pub take_list-returns-in_err-refuse_stream-clause-bad : goal.take_list-returns-in_err-refuse_stream-clause-bad
take_list-returns-in_err-refuse_stream-clause-bad t c = λ bad.
    ap (λ (o : Option Change). and_then o written) (streamed (Some c.args.statics) c.args.rows c.args.stream c.in_err-refuse_stream.ensures.bad)

pub take_list-returns-in_err-rows-clause-bad : goal.take_list-returns-in_err-rows-clause-bad
take_list-returns-in_err-rows-clause-bad t c = λ bad.
    let st = c.args.statics in
    ap (λ s. tree_of (list_data (Some st) c.args.rows s)) c.in_ok-refuse_stream.ensures.ok
    ∙ list_tree st c.args.rows
    ∙ ap (λ n. option_map (list st) (rows_sent n c.args.rows)) (sym c.len.ensures)
    ∙ ap (option_map (list st)) (c.in_err-rows.ensures.bad (search rules))

pub take_list-returns-clause-ok : goal.take_list-returns-clause-ok
take_list-returns-clause-ok t c =
    let st = c.args.statics in
    ap (λ s. tree_of (list_data (Some st) c.args.rows s)) c.in_ok-refuse_stream.ensures.ok
    ∙ list_tree st c.args.rows
    ∙ ap (λ n. option_map (list st) (rows_sent n c.args.rows)) (sym c.len.ensures)
    ∙ ap (option_map (list st)) c.in_ok-rows.ensures.ok
    ∙ ap Some (sym (held-List st c.in_ok-rows.rows))

pub take_rows-rows-init : goal.take_rows-rows-init
take_rows-rows-init t c =
    let n = c.args.statics in
    let rs = into_iter_items c.into_iter-row-iterator.result in
    record {
      kept = subst (λ hs. option_map (joined hs) (each n rs) ≡ each n rs) (sym c.new-taken.ensures) (rows_first (each n rs));
      counted = search rules;
    }

pub take_rows-returns-in_err-take_row-clause-bad : goal.take_rows-returns-in_err-take_row-clause-bad
take_rows-returns-in_err-take_row-clause-bad t c = λ bad.
    let n = c.args.statics in
    let rs = into_iter_items c.into_iter-row-iterator.result in
    let gives : rs ≡ c.args.rows = c.into_iter-row-iterator.ensures.into_iter_gives.0 ∙ c.into_vec-row-items.ensures in
    let r : Row = c.in-Some.row in
    let rest : List Row = into_iter_items c.next.new.self in
    let steps = c.in-Some.ensures.steps in
    let kept : option_map (joined c.rows.taken) (each n (r ∷ rest)) ≡ each n rs = subst (λ (l : List Row). option_map (joined c.rows.taken) (each n l) ≡ each n rs) steps.0 c.rows.invariant.kept in
    sym (ap (rows_sent n) gives) ∙ each_is n rs ∙ row_bad n c.rows.taken r rest (each n rs) (c.in_err-take_row.ensures.bad (search rules)) kept

pub take_rows-rows-preserved : goal.take_rows-rows-preserved
take_rows-rows-preserved t c =
    let n = c.args.statics in
    let rs = into_iter_items c.into_iter-row-iterator.result in
    let r : Row = c.in-Some.row in
    let rest : List Row = into_iter_items c.next.new.self in
    let steps = c.in-Some.ensures.steps in
    let h = c.in_ok-take_row.field-0 in
    let kept : option_map (joined c.rows.taken) (each n (r ∷ rest)) ≡ each n rs = subst (λ (l : List Row). option_map (joined c.rows.taken) (each n l) ≡ each n rs) steps.0 c.rows.invariant.kept in
    record {
      kept = subst (λ hs. option_map (joined hs) (each n rest) ≡ each n rs) (sym c.in_ok-push.ensures.ok) (row_on n c.rows.taken h r rest (each n rs) c.in_ok-take_row.ensures.ok kept);
      counted = counted_on (into_iter_len c.rows.row-iterator) (into_iter_len c.next.new.self) (into_iter_items c.rows.row-iterator) r rest c.rows.invariant.counted steps.0 steps.1;
    }

pub take_rows-returns-clause-ok : goal.take_rows-returns-clause-ok
take_rows-returns-clause-ok t c =
    let n = c.args.statics in
    let rs = into_iter_items c.into_iter-row-iterator.result in
    let gives : rs ≡ c.args.rows = c.into_iter-row-iterator.ensures.into_iter_gives.0 ∙ c.into_vec-row-items.ensures in
    let none : into_iter_items c.rows.row-iterator ≡ [] = none_left (into_iter_len c.rows.row-iterator) (into_iter_items c.rows.row-iterator) c.rows.invariant.counted c.in-None.ensures.steps.0 in
    sym (ap (rows_sent n) gives) ∙ each_is n rs
    ∙ rows_last n c.rows.taken (each n rs) (subst (λ (l : List Row). option_map (joined c.rows.taken) (each n l) ≡ each n rs) none c.rows.invariant.kept)

pub take_values-values-init : goal.take_values-values-init
take_values-values-init t c =
    let vs = into_iter_items c.into_iter-value-iterator.result in
    record {
      kept = subst (λ hs. option_map (ahead hs) (values_sent vs) ≡ values_sent vs) (sym c.new-nodes.ensures) (values_first (values_sent vs));
      counted = search rules;
    }

pub take_values-returns-in_err-take_value-clause-bad : goal.take_values-returns-in_err-take_value-clause-bad
take_values-returns-in_err-take_value-clause-bad t c = λ bad.
    let vs = into_iter_items c.into_iter-value-iterator.result in
    let gives : vs ≡ c.args.values = c.into_iter-value-iterator.ensures.into_iter_gives.0 ∙ c.into_vec-value-items.ensures in
    let v : PlaceValue = c.in-Some.value in
    let rest : List PlaceValue = into_iter_items c.next.new.self in
    let steps = c.in-Some.ensures.steps in
    let kept : option_map (ahead c.values.nodes) (values_sent (v ∷ rest)) ≡ values_sent vs = subst (λ (l : List PlaceValue). option_map (ahead c.values.nodes) (values_sent l) ≡ values_sent vs) steps.0 c.values.invariant.kept in
    sym (ap values_sent gives) ∙ value_bad c.values.nodes v rest (values_sent vs) (c.in_err-take_value.ensures.bad (search rules)) kept

pub take_values-values-preserved : goal.take_values-values-preserved
take_values-values-preserved t c =
    let vs = into_iter_items c.into_iter-value-iterator.result in
    let v : PlaceValue = c.in-Some.value in
    let rest : List PlaceValue = into_iter_items c.next.new.self in
    let steps = c.in-Some.ensures.steps in
    let h = c.in_ok-take_value.field-0 in
    let kept : option_map (ahead c.values.nodes) (values_sent (v ∷ rest)) ≡ values_sent vs = subst (λ (l : List PlaceValue). option_map (ahead c.values.nodes) (values_sent l) ≡ values_sent vs) steps.0 c.values.invariant.kept in
    record {
      kept = subst (λ hs. option_map (ahead hs) (values_sent rest) ≡ values_sent vs) (sym c.in_ok-push.ensures.ok) (value_on c.values.nodes h v rest (values_sent vs) c.in_ok-take_value.ensures.ok kept);
      counted = counted_on (into_iter_len c.values.value-iterator) (into_iter_len c.next.new.self) (into_iter_items c.values.value-iterator) v rest c.values.invariant.counted steps.0 steps.1;
    }

pub take_values-returns-clause-ok : goal.take_values-returns-clause-ok
take_values-returns-clause-ok t c =
    let vs = into_iter_items c.into_iter-value-iterator.result in
    let gives : vs ≡ c.args.values = c.into_iter-value-iterator.ensures.into_iter_gives.0 ∙ c.into_vec-value-items.ensures in
    let none : into_iter_items c.values.value-iterator ≡ [] = none_left (into_iter_len c.values.value-iterator) (into_iter_items c.values.value-iterator) c.values.invariant.counted c.in-None.ensures.steps.0 in
    sym (ap values_sent gives)
    ∙ values_last c.values.nodes (values_sent vs) (subst (λ (l : List PlaceValue). option_map (ahead c.values.nodes) (values_sent l) ≡ values_sent vs) none c.values.invariant.kept)

pub take_row-returns-then-not-stand_between-clause-bad : goal.take_row-returns-then-not-stand_between-clause-bad
take_row-returns-then-not-stand_between-clause-bad t c = λ bad.
    let hs = c.in_ok-values.values in
    let no : (suc (length hs) == c.args.statics) ≡ false = search (rules, c.stand_between.ensures, c.if-not-stand_between.true) in
    row_is c.args.statics c.args.row c.into_values.result hs false c.into_values.ensures c.in_ok-values.ensures.ok no

pub take_row-returns-clause-ok : goal.take_row-returns-clause-ok
take_row-returns-clause-ok t c =
    let hs = c.in_ok-values.values in
    let made : HeldRow = record { values = hs } in
    let fits : (suc (length hs) == c.args.statics) ≡ true = search (rules, c.stand_between.ensures, c.if-not-stand_between.false) in
    row_is c.args.statics c.args.row c.into_values.result hs true c.into_values.ensures c.in_ok-values.ensures.ok fits ∙ ap Some (sym (row-is made))
