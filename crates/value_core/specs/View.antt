-- What the program's values stand for.
use Rattle.std.specs.Prelude.{ℕ, List, [], ◌∷◌, map}
use Rattle.text_core.specs.declared.by_key.KeyValue.{KeyValue}
use Rattle.text_core.specs.Keyed.{on_value}
use Rattle.value_core.specs.Value as model
use Rattle.value_core.specs.Value.{Values, no_values, value, Assigns, no_assigns, assign}
use Rattle.value_core.specs.declared.value.Value.{Value}
use Rattle.value_core.specs.declared.value.Value.TheOpen.{Value-F, SlotValue-F}
use Rattle.value_core.specs.declared.value.Value.TheFolds.{fold-Value}

abbrev pub values_of : List model.Value → Values
values_of [] = no_values
values_of (v ∷ vs) = value v (values_of vs)

abbrev pub assigns_of : List (KeyValue model.Value) → Assigns
assigns_of [] = no_assigns
assigns_of (e ∷ es) = assign e.key e.value (assigns_of es)

abbrev pub slot_step : SlotValue-F model.Value model.Value → model.Value
slot_step s = model.slot s.body (assigns_of s.names) (assigns_of s.variables)

-- one level, with what is inside already seen
abbrev pub view_step : Value-F model.Value model.Value → model.Value
view_step Value-F.Nil = model.nil
view_step (Value-F.Bool b) = model.boolean b
view_step (Value-F.Int n) = model.whole_number n
view_step (Value-F.Text t) = model.text t
view_step (Value-F.Atom t) = model.atom t
view_step (Value-F.List vs) = model.list (values_of vs)
view_step (Value-F.Tuple vs) = model.tuple (values_of vs)
view_step (Value-F.Map es) = model.map_of (assigns_of es)
view_step (Value-F.Slot s) = s

abbrev pub view : Value → model.Value
view = fold-Value model.Value model.Value view_step slot_step

abbrev pub values_view : List Value → Values
values_view vs = values_of (map view vs)

abbrev pub assigns_view : List (KeyValue Value) → Assigns
assigns_view es = assigns_of (map (on_value view) es)
