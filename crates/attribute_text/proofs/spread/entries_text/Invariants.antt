use Rattle.std.proofs.Common.{◌≡◌, drop}
use Rattle.value_core.specs.View.{assigns_view}
use Rattle.doc_model.specs.Printing.{entry_texts}
use Rattle.attribute_text.specs.Prints.{behind}
use Rattle.attribute_text.proofs.spread.entries_text.Given as goal

-- the text of the entries passed, and then that of the rest
abbrev pub invariant-entries : goal.invariant-entries
invariant-entries l = entry_texts (assigns_view l.entry-items) ≡ behind l.out (entry_texts (assigns_view (drop l.entry-index l.entry-items)))
