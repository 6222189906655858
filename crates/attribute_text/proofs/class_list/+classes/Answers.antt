use Rattle.std.proofs.Common.{◌+◌, drop, ap, ◌∙◌}
use Rattle.value_core.specs.View.{view, values_view}
use Rattle.value_core.proofs.Order.{cons_at}
use Rattle.doc_model.specs.Printing.{class_item, class_items}
use Rattle.attribute_text.specs.Prints.{behind}
use Rattle.attribute_text.proofs.Added.{one_more}
use Rattle.attribute_text.proofs.class_list.+classes.Goals as goal

pub add_classes-items-preserved : goal.add_classes-items-preserved
add_classes-items-preserved t c =
    let all = c.as_slice-item-items.result.now in
    let i = c.items.item-index in
    let item = c.item-item.result in
    c.items.invariant ∙ ap (λ l. behind c.items.classes (class_items (values_view l))) (cons_at all i item c.items-test.true c.item-item.is)
    ∙ one_more c.items.classes c.add_class.new.classes (class_item (view item)) (class_items (values_view (drop (i + 1) all))) c.in_ok-add_class.ensures
