use Rattle.std.proofs.Common.{◌≡◌, Some, sym, ap, ◌∙◌}
use Rattle.value_core.specs.View.{view}
use Rattle.params_core.specs.Form.{items_at}
use Rattle.params_core.proofs.Places.{items_of_list}
use Rattle.params_core.proofs.putting.items_of.Goals as goal

pub returns-in-List : goal.returns-in-List
returns-in-List c = sym (ap (λ v. items_at (Some (view v))) c.in-List.is ∙ items_of_list c.in-List.items)
