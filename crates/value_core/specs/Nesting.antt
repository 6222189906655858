-- How deep a value nests: each list, tuple and map is one level, and a slot adds none, whatever it captured.
use Rattle.std.specs.Prelude.{ℕ, suc, max}
use Rattle.value_core.specs.Value.{Value, nil, boolean, whole_number, text, atom, list, tuple, map_of, Values, no_values, value, Assigns, no_assigns, assign}

abbrev mutual
  pub depth_of : Value → ℕ
  depth_of (list vs) = suc (values_depth vs)
  depth_of (tuple vs) = suc (values_depth vs)
  depth_of (map_of as') = suc (assigns_depth as')
  depth_of _ = 0

  pub values_depth : Values → ℕ
  values_depth no_values = 0
  values_depth (value v vs) = max (depth_of v) (values_depth vs)

  pub assigns_depth : Assigns → ℕ
  assigns_depth no_assigns = 0
  assigns_depth (assign k v as') = max (depth_of v) (assigns_depth as')
