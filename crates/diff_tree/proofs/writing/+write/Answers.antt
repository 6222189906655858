use Rattle.std.proofs.Common.{◌≡◌, ◌≤◌, ◌++◌, ◌+◌, drop, length, map, ◌∙◌, ap, arith}
use Rattle.std.proofs.lemmas.List.{take_all}
use Rattle.serde_json.specs.Data.{Members, put}
use Rattle.serde_json.specs.View.{view, members_view, items_of}
use Rattle.text_core.specs.Keyed.{keys, ascend}
use Rattle.diff_tree.specs.Plain.{names}
use Rattle.diff_tree.specs.Parts.{places_json, seen}
use Rattle.diff_tree.proofs.Order.{join, chain}
use Rattle.diff_tree.proofs.Written.{puts_on, puts_all, row_array, rows-map}
use Rattle.diff_tree.proofs.writing.+write.Goals as goal

pub places_value-places-preserved : goal.places_value-places-preserved
places_value-places-preserved t c =
    let before : Members = members_view c.places.members.entries in
    let rest = drop (c.places.entry-index + 1) c.as_slice-entry-items.result.now in
    let placed : members_view c.put.new.map.entries ≡ put c.entry-item.result.key (view c.in_ok-value.value) before
    = c.in_ok-put.ensures.ok ∙ ap (λ k. put k (view c.in_ok-value.value) before) c.as_str.ensures in
    let both = puts_on c.as_slice-entry-items.result.now c.places.entry-index c.entry-item.result before (view c.in_ok-value.value) _
    c.places-test.true c.entry-item.is c.in_ok-value.ensures c.places.invariant.in_order c.places.invariant.so_far in
    record {
      so_far = ap (λ ms. join ms (chain (seen rest))) placed ∙ both.0;
      in_order = ap (λ ms. ascend (names ms ++ keys rest)) placed ∙ both.1;
    }

pub places_value-returns : goal.places_value-returns
places_value-returns t c =
    let past : length c.as_slice-entry-items.result.now ≤ c.places.entry-index = omega arith in
    puts_all c.as_slice-entry-items.result.now c.places.entry-index (members_view c.places.members.entries) past
    (ap (λ es. ascend (keys es)) c.as_slice-entry-items.ensures.value ∙ c.as_slice-entry-items.ensures.ascending) c.places.invariant.so_far
    ∙ ap (λ es. places_json (seen es)) c.as_slice-entry-items.ensures.value

pub rows_value-returns : goal.rows_value-returns
rows_value-returns t c =
    let past : length c.as_slice-row-items.result.now ≤ c.rows.row-index = omega arith in
    ap items_of (c.rows.invariant ∙ ap (map row_array) (take_all c.rows.row-index c.as_slice-row-items.result.now past ∙ c.as_slice-row-items.ensures)) ∙ rows-map c.args.rows.now
