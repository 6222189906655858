-- Values that are owned, or stand in scope.
use Rattle.std.specs.Prelude.{List, map}
use Rattle.value_core.specs.Value as model
use Rattle.value_core.specs.Value.{Values}
use Rattle.value_core.specs.View.{view, values_of}
use Rattle.expr_eval.specs.declared.held.Held.{Held}
use Rattle.expr_eval.specs.declared.held.Held.TheVariants.{Owned, Borrowed}

-- the value, wherever it is
abbrev pub held_view : Held → model.Value
held_view (Owned v) = view v
held_view (Borrowed v) = view v.now

abbrev pub held_values : List Held → Values
held_values hs = values_of (map held_view hs)
