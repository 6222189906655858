use Rattle.std.proofs.Common.{◌≤◌, ◌+◌, ◌++◌, ◌∷◌, [], ◌∙◌, ap, arith, length, drop}
use Rattle.serde_json.specs.View.{items_view}
use Rattle.diff_tree.specs.Spelling.{texts_json}
use Rattle.diff_tree.proofs.Taken.{join_items, texts_on, are_on, texts_all, are_all}
use Rattle.diff_tree.proofs.node_reading.read_texts.Goals as goal

pub items-preserved : goal.items-preserved
items-preserved c =
    let js = c.args.items.now in
    record {
      so_far = ap (λ ts. join_items (texts_json ts) (items_view (drop (c.items.item-index + 1) js))) c.in_ok-push.ensures.ok
          ∙ ap (λ t. join_items (texts_json (c.items.texts ++ t ∷ [])) (items_view (drop (c.items.item-index + 1) js))) c.in_ok-copy_of.ensures
          ∙ texts_on js c.items.item-index c.item-item.result c.items.texts c.in-Some.text.now (items_view js) c.items-test.true c.item-item.is c.in-Some.ensures c.items.invariant.so_far;
      are = are_on js c.items.item-index c.item-item.result c.in-Some.text.now _ c.items-test.true c.item-item.is c.in-Some.ensures c.items.invariant.are;
    }

pub returns-clause-ok : goal.returns-clause-ok
returns-clause-ok c =
    let js = c.args.items.now in
    let past : length js ≤ c.items.item-index = omega arith in
    (are_all js c.items.item-index past c.items.invariant.are, texts_all js c.items.item-index c.items.texts past c.items.invariant.so_far)
