-- The messages that a browser of a script sends.
use Rattle.std.specs.Prelude.{ℕ, List, ◌++◌, codes, Option, Some, None}
use Rattle.serde_json.specs.Data.{Data, null, string, array, object, no_items, item, no_members, member}
use Rattle.serde_json.specs.Read.{read}
use Rattle.serde_json.specs.Written.{compact_text}
use Rattle.value_core.specs.Value.{Value}
use Rattle.value_core.specs.Json.{value_of_json, json_of_value}

-- a reference as JSON: a text or null
abbrev pub reference_data : Option (List ℕ) → Data
reference_data None = null
reference_data (Some t) = string t

-- JSON, or null where there is none
abbrev pub or_null : Option Data → Data
or_null None = null
or_null (Some d) = d

-- the JSON of a value, and that of the value which JSON stands for
abbrev pub written : Option Value → Data
written None = null
written (Some v) = or_null (json_of_value v)

abbrev pub said : Option Data → Data
said None = null
said (Some d) = written (value_of_json d)

-- the JSON that an event carries: that of the value which the text spells, or null where it spells none
unfoldable pub event_data : List ℕ → Data
event_data text = said (read text)

-- the topic of a browser
abbrev pub topic_of : List ℕ → List ℕ
topic_of name = codes "lv:" ++ name

-- the five items of a message
abbrev pub message_data : Option (List ℕ) → List ℕ → List ℕ → List ℕ → Data → Data
message_data join_reference reference topic event payload =
    array (item (reference_data join_reference) (item (string reference) (item (string topic) (item (string event) (item payload no_items)))))

-- what a join and an event carry
abbrev pub join_payload : List ℕ → Data
join_payload url = object (member (codes "url") (string url) no_members)

abbrev pub event_payload : List ℕ → List ℕ → Data → Data
event_payload kind event value = object (member (codes "event") (string event) (member (codes "type") (string kind) (member (codes "value") value no_members)))

-- the message by which a browser joins a page: its reference is the join's
abbrev pub join_text : List ℕ → List ℕ → List ℕ → List ℕ
join_text name reference url = compact_text (message_data (Some reference) reference (topic_of name) (codes "phx_join") (join_payload url))

-- the message by which a browser tells an event
abbrev pub event_text : List ℕ → Option (List ℕ) → List ℕ → List ℕ → List ℕ → List ℕ → List ℕ
event_text name join_reference reference kind event value =
    compact_text (message_data join_reference reference (topic_of name) (codes "event") (event_payload kind event (event_data value)))
