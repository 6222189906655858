use Rattle.std.proofs.Common.{◌≡◌, ◌++◌, drop}
use Rattle.text_core.specs.Escape.{escape_text}
use Rattle.attribute_text.specs.Prints.{with_space_each}
use Rattle.attribute_text.proofs.class_list.add_with_space_each.Given as goal

-- the texts passed are added, and then the rest
abbrev pub invariant-texts : goal.invariant-texts
invariant-texts l = l.fn.out ++ escape_text (with_space_each l.texts) ≡ l.out ++ escape_text (with_space_each (drop l.text-index l.texts))
