use Rattle.std.proofs.Common.{◌≡◌, Some, sym, ap, ◌∙◌}
use Rattle.value_core.specs.View.{view}
use Rattle.params_core.specs.Form.{entries_at}
use Rattle.params_core.proofs.Places.{entries_of_map}
use Rattle.params_core.proofs.putting.entries_of.Goals as goal

pub returns-in-Map : goal.returns-in-Map
returns-in-Map c = sym (ap (λ v. entries_at (Some (view v))) c.in-Map.is ∙ entries_of_map c.in-Map.entries)
