-- The messages of a browser, and the bytes that spell them.
use Rattle.std.specs.Prelude.{◌≡◌, ℕ, ◌^◌, List, take, length, Option, Some, None, option_map, option_and_then, Bool, true, false, ◌&&◌, nat_lt, if◌then◌else◌, codes}
use Rattle.std.specs.Str.{bytes_eq, is_utf8}
use Rattle.serde_json.specs.Data.{Data, null, number, string, array, object, unsigned, negative, Items, no_items, item}
use Rattle.serde_json.specs.Find.{get, as_str}
use Rattle.serde_json.specs.Read.{read}
use Rattle.value_core.specs.Value.{Value, map_of, no_assigns}
use Rattle.value_core.specs.Json.{value_of_json}

-- join reference, reference and topic
pub record MessageHead : Type 0 where
  pub join_reference : Option (List ℕ)
  pub reference : Option (List ℕ)
  pub topic : List ℕ

-- the value of an event: a value, or the text of a form
pub data EventValue : Type 0 where
  plain_value : Value → EventValue
  form_text : List ℕ → EventValue

-- what a browser says
pub data Message : Type 0 where
  beat : MessageHead → Message
  join : MessageHead → List ℕ → Message
  leave : MessageHead → Message
  -- the event's name, its value, and the number of the component that it is for, if it names one
  event : MessageHead → List ℕ → EventValue → Option ℕ → Message
  patch : MessageHead → List ℕ → Message
  will_destroy : MessageHead → Message
  destroyed : MessageHead → Message

-- a text or null
abbrev pub as_reference : Data → Option (Option (List ℕ))
as_reference null = Some None
as_reference (string t) = Some (Some t)
as_reference _ = None

-- an object
abbrev pub as_payload : Data → Option Data
as_payload (object ms) = Some (object ms)
as_payload _ = None

-- a text under a name of the payload
abbrev pub text_at : List ℕ → Data → Option (List ℕ)
text_at k payload = option_and_then as_str (get k payload)

-- the first, else the second
abbrev pub or_first : {A : Type 0} → Option A → Option A → Option A
or_first None o = o
or_first (Some x) o = Some x

-- `url`, else `redirect`
abbrev pub url_of : Data → Option (List ℕ)
url_of payload = or_first (text_at (codes "url") payload) (text_at (codes "redirect") payload)

-- the text of a form
abbrev pub form_value : Option Data → Option EventValue
form_value o = option_map form_text (option_and_then as_str o)

-- an absent value is the empty map
abbrev pub value_or_empty : Option Data → Option EventValue
value_or_empty None = Some (plain_value (map_of no_assigns))
value_or_empty (Some d) = option_map plain_value (value_of_json d)

-- the value of an event of this type
abbrev pub event_value : List ℕ → Data → Option EventValue
event_value type payload = if bytes_eq type (codes "form") then form_value (get (codes "value") payload) else value_or_empty (get (codes "value") payload)

-- absent, null, or a whole number of at most 63 bits
abbrev pub component_number : Option Data → Option (Option ℕ)
component_number None = Some None
component_number (Some null) = Some None
component_number (Some (number (unsigned n))) = if nat_lt n (2 ^ 63) then Some (Some n) else None
component_number (Some _) = None

-- an event
abbrev pub event_message : MessageHead → Data → Option Message
event_message h payload =
    option_and_then (λ type. option_and_then (λ name. option_and_then (λ v. option_map (event h name v) (component_number (get (codes "cid") payload)))
    (event_value type payload)) (text_at (codes "event") payload)) (text_at (codes "type") payload)

-- a whole number
abbrev pub is_whole : Data → Bool
is_whole (number (unsigned n)) = true
is_whole (number (negative z)) = true
is_whole _ = false

-- whole numbers
abbrev pub all_whole : Items → Bool
all_whole no_items = true
all_whole (item d ds) = is_whole d && all_whole ds

-- `cids` is a list of whole numbers
abbrev pub has_numbers : Option Data → Bool
has_numbers (Some (array ds)) = all_whole ds
has_numbers _ = false

-- where `cids` is as it must be
abbrev pub if_numbers : Message → Data → Option Message
if_numbers m payload = if has_numbers (get (codes "cids") payload) then Some m else None

-- a topic of a page: `lv:` and more
abbrev pub is_live_topic : List ℕ → Bool
is_live_topic t = nat_lt 3 (length t) && bytes_eq (take 3 t) (codes "lv:")

-- the message of a page, by its event
abbrev pub live_message : MessageHead → List ℕ → Data → Option Message
live_message h name payload =
    if bytes_eq name (codes "phx_join") then option_map (join h) (url_of payload)
    else if bytes_eq name (codes "phx_leave") then Some (leave h)
    else if bytes_eq name (codes "event") then event_message h payload
    else if bytes_eq name (codes "live_patch") then option_map (patch h) (text_at (codes "url") payload)
    else if bytes_eq name (codes "cids_will_destroy") then if_numbers (will_destroy h) payload
    else if bytes_eq name (codes "cids_destroyed") then if_numbers (destroyed h) payload
    else None

-- the message, by topic and event
abbrev pub message_by_topic : MessageHead → List ℕ → Data → Option Message
message_by_topic h name payload =
    if bytes_eq h.topic (codes "phoenix") && bytes_eq name (codes "heartbeat") then Some (beat h)
    else if is_live_topic h.topic then live_message h name payload else None

-- the first three items
abbrev pub head_of : Data → Data → Data → Option MessageHead
head_of j r t =
    option_and_then (λ jr. option_and_then (λ rr. option_map (λ topic. record { join_reference = jr; reference = rr; topic = topic })
    (as_str t)) (as_reference r)) (as_reference j)

-- the five items; members of the payload that are not named are not looked at
abbrev pub message_from : Data → Data → Data → Data → Data → Option Message
message_from j r t name payload =
    option_and_then (λ n. option_and_then (λ p. option_and_then (λ h. message_by_topic h n p) (head_of j r t)) (as_payload payload)) (as_str name)

-- an array of join reference, reference, topic, event and payload
abbrev pub message_of_json : Data → Option Message
message_of_json (array (item j (item r (item t (item name (item payload no_items)))))) = message_from j r t name payload
message_of_json _ = None

-- the message that bytes spell; bytes that are no text in UTF-8, or spell none, are malformed
abbrev pub message_of : List ℕ → Option Message
message_of bytes = if is_utf8 bytes then option_and_then message_of_json (read bytes) else None

-- these bytes spell this message
abbrev pub SpellsMessage : List ℕ → Message → Type 0
SpellsMessage bytes m = message_of bytes ≡ Some m
