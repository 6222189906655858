-- JSON values whose numbers are whole and have 64 bits, with the keys of each object in byte order, none twice.
use Rattle.std.specs.Prelude.{ℕ, ◌^◌, pos, negsuc, List, [], ◌∷◌, Bool, true, false, ◌&&◌, nat_lt}
use Rattle.serde_json.specs.Data.{Num, unsigned, negative, float, Data, null, boolean, number, string, array, object, Items, no_items, item, Members, no_members, member}
use Rattle.text_core.specs.Keyed.{ascend}

-- the keys of members
abbrev pub names : Members → List (List ℕ)
names no_members = []
names (member k d ms) = k ∷ names ms

-- a whole number of 64 bits
abbrev pub is_whole_number : Num → Bool
is_whole_number (unsigned n) = nat_lt n (2 ^ 64)
is_whole_number (negative (pos n)) = false
is_whole_number (negative (negsuc n)) = nat_lt n (2 ^ 63)
is_whole_number (float x) = false

abbrev mutual
  pub is_plain : Data → Bool
  is_plain null = true
  is_plain (boolean b) = true
  is_plain (number n) = is_whole_number n
  is_plain (string s) = true
  is_plain (array ds) = items_are_plain ds
  is_plain (object ms) = ascend (names ms) && members_are_plain ms

  pub items_are_plain : Items → Bool
  items_are_plain no_items = true
  items_are_plain (item d ds) = is_plain d && items_are_plain ds

  pub members_are_plain : Members → Bool
  members_are_plain no_members = true
  members_are_plain (member k d ms) = is_plain d && members_are_plain ms
