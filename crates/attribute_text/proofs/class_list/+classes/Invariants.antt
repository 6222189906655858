use Rattle.std.proofs.Common.{◌≡◌, drop}
use Rattle.value_core.specs.View.{values_view}
use Rattle.doc_model.specs.Printing.{class_items}
use Rattle.attribute_text.specs.Prints.{behind}
use Rattle.attribute_text.proofs.class_list.+classes.Given as goal

-- the texts of the items passed are added, and then those of the rest
abbrev pub invariant-add_classes-items : goal.invariant-add_classes-items
invariant-add_classes-items l =
    behind l.fn.classes (class_items (values_view l.item-items)) ≡ behind l.classes (class_items (values_view (drop l.item-index l.item-items)))
