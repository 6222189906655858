-- What is written for a value has no float.
use Rattle.std.proofs.Common.{◌≡◌, ℕ, List, ℤ, pos, negsuc, ◌||◌, Bool, true, false, Option, Some, None, option_map, option_and_then, Ok, Err, if◌then◌else◌, refl, nat_lt}
use Rattle.serde_json.specs.Data.{Data, array, object, Items, item, Members, member, number}
use Rattle.serde_json.specs.Find.{of_integer}
use Rattle.serde_json.specs.Written.{has_float, items_have_float, members_have_float}
use Rattle.value_core.specs.Value.{Value, nil, boolean, whole_number, text, atom, list, tuple, map_of, slot, Values, no_values, value, Assigns, no_assigns, assign}
use Rattle.value_core.specs.declared.raise.Raise.TheVariants.{BadArgument, Deep}
use Rattle.value_core.specs.Json.{json_of_value, json_of_values, json_of_assigns}
use Rattle.doc_model.specs.Evaluation.{then_do, or_raise}
use Rattle.value_core.specs.Nesting.{depth_of}
use Rattle.doc_model.specs.Effects.{sendable}

-- whether a float is written, where anything is
abbrev floats : Option Data → Bool
floats None = false
floats (Some d) = has_float d

abbrev item_floats : Option Items → Bool
item_floats None = false
item_floats (Some ds) = items_have_float ds

abbrev member_floats : Option Members → Bool
member_floats None = false
member_floats (Some ms) = members_have_float ms

of_array : (o : Option Items) → item_floats o ≡ false → floats (option_map array o) ≡ false
of_array None h = refl
of_array (Some ds) h = h

of_object : (o : Option Members) → member_floats o ≡ false → floats (option_map object o) ≡ false
of_object None h = refl
of_object (Some ms) h = h

of_number : (n : ℤ) → has_float (number (of_integer n)) ≡ false
of_number (pos n) = refl
of_number (negsuc n) = refl

neither : (a b : Bool) → a ≡ false → b ≡ false → (a || b) ≡ false
neither true b h k = cc
neither false b h k = k

first_item : (o : Option Data) (r : Option Items) → floats o ≡ false → item_floats r ≡ false → item_floats (option_and_then (λ d. option_map (item d) r) o) ≡ false
first_item None r h k = refl
first_item (Some d) None h k = refl
first_item (Some d) (Some ds) h k = neither (has_float d) (items_have_float ds) h k

first_member : (l : List ℕ) (o : Option Data) (r : Option Members) → floats o ≡ false → member_floats r ≡ false → member_floats (option_and_then (λ d. option_map (member l d) r) o) ≡ false
first_member l None r h k = refl
first_member l (Some d) None h k = refl
first_member l (Some d) (Some ms) h k = neither (has_float d) (members_have_float ms) h k

mutual
  value_none : (v : Value) → floats (json_of_value v) ≡ false
  value_none nil = refl
  value_none (boolean b) = refl
  value_none (whole_number n) = of_number n
  value_none (text t) = refl
  value_none (atom t) = refl
  value_none (list vs) = of_array (json_of_values vs) (values_none vs)
  value_none (tuple vs) = refl
  value_none (map_of as') = of_object (json_of_assigns as') (assigns_none as')
  value_none (slot b as' vs) = refl

  values_none : (vs : Values) → item_floats (json_of_values vs) ≡ false
  values_none no_values = refl
  values_none (value v vs) = first_item (json_of_value v) (json_of_values vs) (value_none v) (values_none vs)

  assigns_none : (as' : Assigns) → member_floats (json_of_assigns as') ≡ false
  assigns_none no_assigns = refl
  assigns_none (assign k v as') = first_member k (json_of_value v) (json_of_assigns as') (value_none v) (assigns_none as')

of_sendable : (o : Option Data) (b : Bool) (d : Data) → floats o ≡ false → then_do (or_raise o BadArgument) (λ c. if b then Err Deep else Ok c) ≡ Ok d → has_float d ≡ false
of_sendable None b d h e = cc
of_sendable (Some c) true d h e = cc
of_sendable (Some c) false d h e = cc

-- what may be sent has none
pub sendable_no_float : (v : Value) (d : Data) → sendable v ≡ Ok d → has_float d ≡ false
sendable_no_float v d e = of_sendable (json_of_value v) (nat_lt 100 (depth_of v)) d (value_none v) e
