use Rattle.std.proofs.Common.{◌≤◌, ◌∙◌, sym, ap, arith, length, map}
use Rattle.std.proofs.Math.ListN.{drop_of_length-le}
use Rattle.std.proofs.lemmas.List.{take_all}
use Rattle.serde_json.specs.View.{view, items_of, items_view}
use Rattle.diff_tree.specs.Grammar.{are_inserts}
use Rattle.diff_tree.proofs.Written.{inserts_data-map}
use Rattle.diff_tree.proofs.stream_reading.inserts_of_items.Goals as goal

pub returns-clause-ok : goal.returns-clause-ok
returns-clause-ok c =
    let js = c.args.items.now in
    let past : length js ≤ c.items.item-index = omega arith in (
      sym c.items.invariant.are ∙ ap (λ l. are_inserts (items_view l)) (drop_of_length-le js past),
      sym (inserts_data-map c.items.inserts) ∙ ap items_of (c.items.invariant.taken ∙ ap (map view) (take_all c.items.item-index js past)),
    )
