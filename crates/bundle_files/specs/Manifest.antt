-- What a manifest says: `{"version":1,"views":[{"path":"/","template":T,"mount":[STEP,..],"events":{N:[STEP,..],..}}]}`
-- and no other members; `events` may be absent. Of members with equal names the last holds.
use Rattle.std.specs.Prelude.{ℕ, ◌+◌, List, [], ◌∷◌, codes, Bool, false, not, ◌&&◌, ◌||◌, ◌==◌, nat_le, if◌then◌else◌, Option, Some, None, option_map, option_and_then, is_none}
use Rattle.std.specs.Option.{option_map_or}
use Rattle.std.specs.List.{list_all}
use Rattle.std.specs.Char.{is_ascii_digit}
use Rattle.std.specs.Str.{is_utf8}
use Rattle.serde_json.specs.Data.{Data, Members, no_members, member}
use Rattle.serde_json.specs.Read.{read}
use Rattle.serde_json.specs.Find.{get, at, as_str, as_object, as_number, as_u64}
use Rattle.text_core.specs.declared.by_key.KeyValue.{KeyValue}
use Rattle.text_core.specs.Keyed.{entry}
use Rattle.bundle_files.specs.Steps.{Steps}
use Rattle.bundle_files.specs.StepReading.{is_text, steps_at}

-- a small letter, a digit or `_`
abbrev pub goes_on_template : ℕ → Bool
goes_on_template b = (nat_le 97 b && nat_le b 122) || is_ascii_digit b || b == 95

-- the name of a template: `[a-z_][a-z0-9_]*`
abbrev pub is_template_name : List ℕ → Bool
is_template_name [] = false
is_template_name (b ∷ bs) = not (is_ascii_digit b) && goes_on_template b && list_all goes_on_template bs

-- the text of a member
abbrev pub text_of : List ℕ → Data → Option (List ℕ)
text_of name d = option_and_then as_str (get name d)

abbrev pub members_count : Members → ℕ
members_count no_members = 0
members_count (member k d ms) = members_count ms + 1

-- how many members an object has
abbrev pub count_of : Data → ℕ
count_of d = option_map_or members_count (as_object d) 0

abbrev pub is_one : Option ℕ → Bool
is_one None = false
is_one (Some n) = n == 1

-- the item of a list of one
abbrev pub only_item : Data → Option Data
only_item d = if is_none (at 1 d) then at 0 d else None

-- the one view
abbrev pub view_in : Data → Option Data
view_in d = if (count_of d == 2) && is_one (option_and_then as_u64 (option_and_then as_number (get (codes "version") d))) then option_and_then only_item (get (codes "views") d) else None

abbrev pub template_in : Data → Option (List ℕ)
template_in d = option_and_then (λ t. if is_template_name t then Some t else None) (text_of (codes "template") d)

-- the steps of each event, by its name
abbrev pub events_in : Members → Option (List (KeyValue Steps))
events_in no_members = Some []
events_in (member name d ms) = option_and_then (λ steps. option_map (λ more. entry name steps ∷ more) (events_in ms)) (steps_at d)

-- no events where the member is absent
abbrev pub events_at : Option Data → Option (List (KeyValue Steps))
events_at None = Some []
events_at (Some d) = option_and_then events_in (as_object d)

-- how many members a view with that member `events` has
abbrev pub view_members : Option Data → ℕ
view_members None = 3
view_members (Some d) = 4

-- what a manifest says of its one view
pub record Manifest : Type 0 where
  pub template : List ℕ
  pub mount : Steps
  pub events : List (KeyValue Steps)

abbrev pub manifest_from : List ℕ → Option Steps → Option (List (KeyValue Steps)) → Option Manifest
manifest_from t None es = None
manifest_from t (Some s) None = None
manifest_from t (Some s) (Some es) = Some (record { template = t; mount = s; events = es })

-- the manifest of a template, with the handlers that a view has
abbrev pub handlers_in : List ℕ → Data → Option Manifest
handlers_in t d = manifest_from t (option_and_then steps_at (get (codes "mount") d)) (events_at (get (codes "events") d))

-- what a view says
abbrev pub entry_in : Data → Option Manifest
entry_in d = if (count_of d == view_members (get (codes "events") d)) && is_text (codes "/") (text_of (codes "path") d) then option_and_then (λ t. handlers_in t d) (template_in d) else None

abbrev pub manifest_of : Data → Option Manifest
manifest_of d = option_and_then entry_in (view_in d)

abbrev pub manifest_in : List ℕ → Option Manifest
manifest_in bytes = if is_utf8 bytes then option_and_then manifest_of (read bytes) else None
