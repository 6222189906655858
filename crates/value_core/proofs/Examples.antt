-- Values, worked out.
use Rattle.std.proofs.Common.{◌≡◌, [], ◌∷◌, ◌++◌, true, false, Some, None, refl, pos, negsuc}
use Rattle.std.specs.Prelude.{codes}
use Rattle.serde_json.specs.Data.{Data, null, boolean as json_boolean, number, string, array, object, unsigned, negative, no_items, item, no_members, member}
use Rattle.value_core.specs.Value.{Value, nil, boolean, whole_number, text, atom, list, tuple, map_of, slot, no_values, value, no_assigns, assign, same}
use Rattle.value_core.specs.Nesting.{depth_of}
use Rattle.value_core.specs.Print.{text_of_value}
use Rattle.value_core.specs.Json.{value_of_json, json_of_value}

abbrev pair_of_numbers : Value
pair_of_numbers = list (value (whole_number (pos 1)) (value (whole_number (negsuc 1)) no_values))

abbrev nested : Value
nested = map_of (assign (codes "a") pair_of_numbers (assign (codes "b") nil no_assigns))

-- a text is no atom, and a list no tuple
text_and_atom : same (text (codes "ok")) (atom (codes "ok")) ≡ false
text_and_atom = refl

list_and_tuple : same (list no_values) (tuple no_values) ≡ false
list_and_tuple = refl

same_nested : same nested nested ≡ true
same_nested = refl

-- an empty list is one level, and a slot none
empty_list : depth_of (list no_values) ≡ 1
empty_list = refl

two_levels : depth_of nested ≡ 2
two_levels = refl

slot_of_nested : depth_of (slot 7 (assign (codes "a") nested no_assigns) no_assigns) ≡ 0
slot_of_nested = refl

text_of_true : text_of_value (boolean true) ≡ Some (codes "true")
text_of_true = refl

no_text_of_list : text_of_value pair_of_numbers ≡ None
no_text_of_list = refl

-- JSON both ways
json_of_nested : json_of_value nested
    ≡ Some (object (member (codes "a") (array (item (number (unsigned 1)) (item (number (negative (negsuc 1))) no_items))) (member (codes "b") null no_members)))
json_of_nested = refl

value_of_nested : value_of_json (object (member (codes "a") (array (item (number (unsigned 1)) (item (number (negative (negsuc 1))) no_items))) (member (codes "b") null no_members)))
    ≡ Some nested
value_of_nested = refl

no_json_of_tuple : json_of_value (list (value (tuple no_values) no_values)) ≡ None
no_json_of_tuple = refl

-- the greatest whole number of 64 bits signed is a value, and the next is none
greatest : value_of_json (number (unsigned 9223372036854775807)) ≡ Some (whole_number (pos 9223372036854775807))
greatest = refl

too_great : value_of_json (array (item (number (unsigned 9223372036854775808)) no_items)) ≡ None
too_great = refl
