-- Which JSON values are diffs, and how a diff is spelled.
use Rattle.std.specs.Prelude.{◌≡◌, ◌≤◌, ◌-◌, ◌==◌, ◌&&◌, ◌||◌, ◌^◌, ℕ, zero, suc, negsuc, List, [], ◌∷◌, length, Bool, true, false, if◌then◌else◌, nat_lt, Option, Some, None, is_some, option_and_then, codes}
use Rattle.std.specs.Fmt.{decimal}
use Rattle.std.specs.List.{list_all}
use Rattle.std.specs.Char.{is_ascii_digit}
use Rattle.std.specs.Str.{bytes_eq}
use Rattle.std.specs.Str.Parse.{digits_value}
use Rattle.serde_json.specs.Data.{Num, unsigned, negative, Data, null, boolean, number, string, array, object, Items, no_items, item, Members, no_members, member, put, depth}
use Rattle.serde_json.specs.Events.{items_len, members_len}
use Rattle.serde_json.specs.Find.{get, get_member, as_array}
use Rattle.serde_json.specs.Written.{compact_text}
use Rattle.diff_tree.specs.declared.diff.Diff.{Diff}
use Rattle.diff_tree.specs.Plain.{is_plain}
use Rattle.diff_tree.specs.Parts.{diff_data}

-- ---- keys

-- a decimal with no zero in front
abbrev pub is_place : List ℕ → Bool
is_place [] = false
is_place (c ∷ cs) = if c == 48 then length cs == 0 else list_all is_ascii_digit (c ∷ cs)

-- one above 0, of 64 bits
abbrev pub is_component : List ℕ → Bool
is_component k = is_place k && nat_lt 0 (digits_value 10 k) && nat_lt (digits_value 10 k) (2 ^ 64)

-- ---- statics around places

abbrev pub is_text : Data → Bool
is_text (string t) = true
is_text _ = false

abbrev pub are_texts : Items → Bool
are_texts no_items = true
are_texts (item (string t) ds) = are_texts ds
are_texts (item _ ds) = false

-- how many members an object has
abbrev pub count_of : Data → ℕ
count_of (object ms) = members_len ms
count_of _ = 0

-- each number below this one is a key
abbrev pub has_places : ℕ → Data → Bool
has_places zero d = true
has_places (suc n) d = is_some (get (decimal n) d) && has_places n d

-- so many statics stand around the places from 0 on, and there is no other member
abbrev pub surround : ℕ → Data → Bool
surround n d = count_of d == n && has_places (n - 1) d

-- these statics of an object, if any, are texts around its places
abbrev pub are_statics : Option Data → Data → Bool
are_statics None d = true
are_statics (Some (array ts)) d = are_texts ts && surround (items_len ts) d
are_statics (Some _) d = false

abbrev pub statics_fit : Data → Bool
statics_fit d = are_statics (get (codes "s") d) d

-- ---- rows

-- each row has so many values
abbrev pub have_length : ℕ → Items → Bool
have_length n no_items = true
have_length n (item (array vs) rs) = items_len vs == n && have_length n rs
have_length n (item _ rs) = false

-- all rows have as many values as the first
abbrev pub have_one_length : Items → Bool
have_one_length no_items = true
have_one_length (item (array vs) rs) = have_length (items_len vs) rs
have_one_length (item _ rs) = false

-- these statics of a list, if any, are texts around the places of each row
abbrev pub row_statics : Option Data → Items → Bool
row_statics None rs = have_one_length rs
row_statics (Some (array (item t ts))) rs = are_texts (item t ts) && have_length (items_len ts) rs
row_statics (Some _) rs = false

-- -1 for the end, or a place
abbrev pub is_position : Data → Bool
is_position (number (unsigned n)) = nat_lt n (2 ^ 63)
is_position (number (negative (negsuc n))) = n == 0
is_position _ = false

-- no limit, or one that is not 0
abbrev pub is_limit : Data → Bool
is_limit null = true
is_limit (number (unsigned n)) = nat_lt 0 n && nat_lt n (2 ^ 63)
is_limit (number (negative (negsuc n))) = nat_lt n (2 ^ 63)
is_limit _ = false

-- a dom id, a position and a limit
abbrev pub is_insert : Data → Bool
is_insert (array (item id (item at (item limit no_items)))) = is_text id && is_position at && is_limit limit
is_insert _ = false

abbrev pub are_inserts : Items → Bool
are_inserts no_items = true
are_inserts (item d ds) = is_insert d && are_inserts ds

abbrev pub is_true : Data → Bool
is_true (boolean b) = b
is_true _ = false

-- `true` after a reset
abbrev pub is_reset : Items → Bool
is_reset no_items = true
is_reset (item d no_items) = is_true d
is_reset (item d ds) = false

-- so many inserts
abbrev pub inserts_fit : ℕ → Data → Bool
inserts_fit n (array is) = are_inserts is && items_len is == n
inserts_fit n _ = false

-- the dom ids that are deleted
abbrev pub is_text_list : Data → Bool
is_text_list (array ks) = are_texts ks
is_text_list _ = false

-- a name, an insert for each of so many rows, deletes, and `true` after a reset
abbrev pub is_stream : ℕ → Data → Bool
is_stream n (array (item name (item is (item ks reset)))) = is_text name && inserts_fit n is && is_text_list ks && is_reset reset
is_stream n _ = false

-- a list without a stream has rows
abbrev pub stream_fits : Option Data → Items → Bool
stream_fits None no_items = false
stream_fits None (item r rs) = true
stream_fits (Some d) rs = is_stream (items_len rs) d

-- the rows under `d`
abbrev pub rows_in : Data → Items
rows_in d = elim (option_and_then as_array (get (codes "d") d)) [ None ↦ no_items | Some rs ↦ rs ]

-- the statics and the stream of a list go with its rows
abbrev pub fit_rows : Data → Items → Bool
fit_rows d rs = row_statics (get (codes "s") d) rs && stream_fits (get (codes "stream") d) rs

abbrev pub list_fits : Data → Bool
list_fits d = fit_rows d (rows_in d)

-- ---- nodes

-- a number of a component
abbrev pub is_number : Num → Bool
is_number (unsigned n) = nat_lt 0 n && nat_lt n (2 ^ 64)
is_number _ = false

-- the value of a place is a text, a component's number or a node; a node that has no rows under `d` has the values of places
abbrev mutual
  pub is_value : Data → Bool
  is_value (string t) = true
  is_value (number n) = is_number n
  is_value (object ms) = if is_some (get_member (codes "d") ms) then are_listed ms && list_fits (object ms) else statics_fit (object ms) && are_places ms
  is_value _ = false

  pub are_places : Members → Bool
  are_places no_members = true
  are_places (member k d ms) = (bytes_eq k (codes "s") || (is_place k && is_value d)) && are_places ms

  pub are_listed : Members → Bool
  are_listed no_members = true
  are_listed (member k d ms) = (bytes_eq k (codes "s") || bytes_eq k (codes "stream") || (bytes_eq k (codes "d") && is_rows d)) && are_listed ms

  pub is_rows : Data → Bool
  is_rows (array rs) = are_rows rs
  is_rows _ = false

  pub are_rows : Items → Bool
  are_rows no_items = true
  are_rows (item d rs) = is_row d && are_rows rs

  -- a row is the list of its places' values
  pub is_row : Data → Bool
  is_row (array vs) = are_values vs
  is_row _ = false

  pub are_values : Items → Bool
  are_values no_items = true
  are_values (item d ds) = is_value d && are_values ds

abbrev pub is_node : Data → Bool
is_node (object ms) = is_value (object ms)
is_node _ = false

-- ---- pages

-- a name and a payload
abbrev pub is_event : Data → Bool
is_event (array (item name (item payload no_items))) = is_text name && is_plain payload
is_event _ = false

abbrev pub are_events : Items → Bool
are_events no_items = true
are_events (item d ds) = is_event d && are_events ds

-- `e` has events where it stands
abbrev pub events_fit : Option Data → Bool
events_fit None = true
events_fit (Some (array (item d ds))) = are_events (item d ds)
events_fit (Some _) = false

abbrev pub are_components : Members → Bool
are_components no_members = true
are_components (member k d ms) = (is_component k && is_node d) && are_components ms

-- `c` has components where it stands
abbrev pub components_fit : Option Data → Bool
components_fit None = true
components_fit (Some (object (member k d ms))) = are_components (member k d ms)
components_fit (Some _) = false

-- the members but that of a key
abbrev pub without : List ℕ → Members → Members
without k no_members = no_members
without k (member l d ms) = if bytes_eq l k then without k ms else member l d (without k ms)

-- the members with that of a key, where there is one
abbrev pub with_member : List ℕ → Option Data → Members → Members
with_member k None ms = ms
with_member k (Some d) ms = put k d ms

-- what is left of a diff without its components and its events
abbrev pub root_in : Data → Data
root_in (object ms) = object (without (codes "c") (without (codes "e") ms))
root_in d = d

-- a node that may also have `c` and `e`, whose numbers are whole
abbrev pub is_diff : Data → Bool
is_diff d = is_plain d && events_fit (get (codes "e") d) && components_fit (get (codes "c") d) && is_node (root_in d)

-- the text is the compact text of a diff
abbrev pub SpellsDiff : List ℕ → Diff → Type 0
SpellsDiff text d = (is_diff (diff_data d) ≡ true) × (text ≡ compact_text (diff_data d))

-- a text spells one diff
abbrev pub SpellOne : Type 0
SpellOne = (text : List ℕ) (a b : Diff) → depth (diff_data a) ≤ 127 → depth (diff_data b) ≤ 127 → SpellsDiff text a → SpellsDiff text b → diff_data a ≡ diff_data b
