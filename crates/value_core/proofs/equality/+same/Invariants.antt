use Rattle.std.proofs.Common.{◌≡◌, drop}
use Rattle.value_core.specs.Value.{same_values, same_assigns}
use Rattle.value_core.specs.View.{values_view, assigns_view}
use Rattle.value_core.proofs.equality.+same.Given as goal

abbrev pub invariant-same_entries-loop-i : goal.invariant-same_entries-loop-i
invariant-same_entries-loop-i l = same_assigns (assigns_view l.a) (assigns_view l.b) ≡ same_assigns (assigns_view (drop l.i l.a)) (assigns_view (drop l.i l.b))

abbrev pub invariant-same_items-loop-i : goal.invariant-same_items-loop-i
invariant-same_items-loop-i l = same_values (values_view l.a) (values_view l.b) ≡ same_values (values_view (drop l.i l.a)) (values_view (drop l.i l.b))
