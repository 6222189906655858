-- Worked examples: the messages of a browser as they are spelled.
use Rattle.std.proofs.Common.{◌≡◌, ℕ, List, Some, None, codes, refl}
use Rattle.std.specs.Float.Numeral.{scan_numeral}
use Rattle.json.specs.Json.{items, members, value}
use Rattle.json.specs.Lex.{lex, punctuate}
use Rattle.json.specs.Text.{content}
use Rattle.json.specs.Word.{after_number, word}
use Rattle.serde_json.specs.Read.{number_of}
use Rattle.value_core.specs.Value.{map_of, no_assigns}
use Rattle.wire_v2.specs.Message.{plain_value, beat, join, leave, event, message_of}
use Rattle.doc_model.proofs.ExampleWorlds.{head, head_with, utf8}

abbrev pub join_bytes : List ℕ
join_bytes = codes "[\"1\",\"1\",\"lv:A\",\"phx_join\",{\"url\":\"/\"}]"

abbrev pub event_bytes : List ℕ
event_bytes = codes "[\"1\",\"2\",\"lv:A\",\"event\",{\"event\":\"inc\",\"type\":\"click\",\"value\":{}}]"

-- what the examples say as messages is spelled so
example_spelled_join : message_of join_bytes ≡ Some (join (head (codes "1")) (codes "/"))
unfolding items members value lex punctuate content after_number word number_of scan_numeral
example_spelled_join = rw (utf8 join_bytes refl) refl

example_spelled_event : message_of event_bytes ≡ Some (event (head (codes "2")) (codes "inc") (plain_value (map_of no_assigns)) None)
unfolding items members value lex punctuate content after_number word number_of scan_numeral
example_spelled_event = rw (utf8 event_bytes refl) refl

example_spelled_component_event : message_of (codes "[\"1\",\"2\",\"lv:A\",\"event\",{\"cid\":2,\"event\":\"inc\",\"type\":\"click\",\"value\":{}}]") ≡ Some (event (head (codes "2")) (codes "inc") (plain_value (map_of no_assigns)) (Some 2))
unfolding items members value lex punctuate content after_number word number_of scan_numeral
example_spelled_component_event = rw (utf8 (codes "[\"1\",\"2\",\"lv:A\",\"event\",{\"cid\":2,\"event\":\"inc\",\"type\":\"click\",\"value\":{}}]") refl) refl

example_spelled_beat : message_of (codes "[\"1\",\"2\",\"phoenix\",\"heartbeat\",{}]") ≡ Some (beat (head_with (Some (codes "1")) (Some (codes "2")) (codes "phoenix")))
unfolding items members value lex punctuate content after_number word number_of scan_numeral
example_spelled_beat = rw (utf8 (codes "[\"1\",\"2\",\"phoenix\",\"heartbeat\",{}]") refl) refl

example_spelled_leave : message_of (codes "[\"1\",\"3\",\"lv:A\",\"phx_leave\",{}]") ≡ Some (leave (head (codes "3")))
unfolding items members value lex punctuate content after_number word number_of scan_numeral
example_spelled_leave = rw (utf8 (codes "[\"1\",\"3\",\"lv:A\",\"phx_leave\",{}]") refl) refl
