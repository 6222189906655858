-- Worked examples: malformed and stale messages, from their bytes on.
use Rattle.std.proofs.Common.{◌≡◌, ℕ, List, [], ◌∷◌, ◌++◌, map, Option, Some, None, codes, refl}
use Rattle.std.specs.Float.Numeral.{scan_numeral}
use Rattle.std.specs.Fmt.{digits}
use Rattle.json.specs.Json.{items, members, value}
use Rattle.json.specs.Lex.{lex, punctuate}
use Rattle.json.specs.Text.{content}
use Rattle.json.specs.Word.{after_number, word}
use Rattle.json.specs.Print.{escape_byte}
use Rattle.serde_json.specs.Read.{number_of}
use Rattle.value_core.specs.Value.{map_of, no_assigns}
use Rattle.doc_model.specs.Effects.{heard}
use Rattle.wire_v2.specs.Message.{plain_value, event, message_of}
use Rattle.doc_model.specs.Process.{Stepped, unchanged, step_waiting}
use Rattle.doc_model.proofs.ExamplesPages.{counting, start}
use Rattle.doc_model.proofs.ExampleWorlds.{frames_text, client_page, head_with, utf8}

-- a text that comes after the join of `<p>{@n}</p>`
abbrev hears : List ℕ → Stepped
hears t = step_waiting counting start.state [] (heard t)

-- the page that the client shows after it
abbrev page_after : List ℕ → Option (Option (List ℕ))
page_after t = client_page counting (start.frames ++ (hears t).frames)

abbrev first_page : Option (Option (List ℕ))
first_page = Some (Some (codes "<p>0</p>"))

abbrev no_json : List ℕ
no_json = codes "x"

abbrev four_items : List ℕ
four_items = codes "[\"1\",\"2\",\"lv:A\",\"event\"]"

abbrev unknown_event : List ℕ
unknown_event = codes "[\"1\",\"2\",\"lv:A\",\"nope\",{}]"

abbrev of_another_join : List ℕ
of_another_join = codes "[\"0\",\"2\",\"lv:A\",\"event\",{\"event\":\"inc\",\"type\":\"click\",\"value\":{}}]"

abbrev name_is_no_text : List ℕ
name_is_no_text = codes "[\"1\",\"2\",\"lv:A\",\"event\",{\"event\":5,\"type\":\"click\",\"value\":{}}]"

abbrev no_component : List ℕ
no_component = codes "[\"1\",\"2\",\"lv:A\",\"event\",{\"cid\":99,\"event\":\"inc\",\"type\":\"click\",\"value\":{}}]"

-- four texts spell no message
example_malformed_and_stale_no_json : message_of no_json ≡ None
unfolding items members value lex punctuate content after_number word number_of scan_numeral
example_malformed_and_stale_no_json = rw (utf8 no_json refl) refl

example_malformed_and_stale_four_items : message_of four_items ≡ None
unfolding items members value lex punctuate content after_number word number_of scan_numeral
example_malformed_and_stale_four_items = rw (utf8 four_items refl) refl

example_malformed_and_stale_unknown_event : message_of unknown_event ≡ None
unfolding items members value lex punctuate content after_number word number_of scan_numeral
example_malformed_and_stale_unknown_event = rw (utf8 unknown_event refl) refl

example_malformed_and_stale_name_is_no_text : message_of name_is_no_text ≡ None
unfolding items members value lex punctuate content after_number word number_of scan_numeral
example_malformed_and_stale_name_is_no_text = rw (utf8 name_is_no_text refl) refl

-- one spells a message of another join
example_malformed_and_stale_of_another_join : message_of of_another_join ≡ Some (event (head_with (Some (codes "0")) (Some (codes "2")) (codes "lv:A")) (codes "inc") (plain_value (map_of no_assigns)) None)
unfolding items members value lex punctuate content after_number word number_of scan_numeral
example_malformed_and_stale_of_another_join = rw (utf8 of_another_join refl) refl

-- and one a message to a component that does not live
example_malformed_and_stale_no_component : message_of no_component ≡ Some (event (head_with (Some (codes "1")) (Some (codes "2")) (codes "lv:A")) (codes "inc") (plain_value (map_of no_assigns)) (Some 99))
unfolding items members value lex punctuate content after_number word number_of scan_numeral
example_malformed_and_stale_no_component = rw (utf8 no_component refl) refl

-- nothing changes, and the first five are not answered
example_malformed_and_stale_no_json_step : hears no_json ≡ unchanged start.state [] []
unfolding digits items members value lex punctuate content after_number word number_of scan_numeral
example_malformed_and_stale_no_json_step = rw (utf8 no_json refl) refl

example_malformed_and_stale_four_items_step : hears four_items ≡ unchanged start.state [] []
unfolding digits items members value lex punctuate content after_number word number_of scan_numeral
example_malformed_and_stale_four_items_step = rw (utf8 four_items refl) refl

example_malformed_and_stale_unknown_event_step : hears unknown_event ≡ unchanged start.state [] []
unfolding digits items members value lex punctuate content after_number word number_of scan_numeral
example_malformed_and_stale_unknown_event_step = rw (utf8 unknown_event refl) refl

example_malformed_and_stale_of_another_join_step : hears of_another_join ≡ unchanged start.state [] []
unfolding digits items members value lex punctuate content after_number word number_of scan_numeral
example_malformed_and_stale_of_another_join_step = rw (utf8 of_another_join refl) refl

example_malformed_and_stale_name_is_no_text_step : hears name_is_no_text ≡ unchanged start.state [] []
unfolding digits items members value lex punctuate content after_number word number_of scan_numeral
example_malformed_and_stale_name_is_no_text_step = rw (utf8 name_is_no_text refl) refl

example_malformed_and_stale_no_component_state : (hears no_component).state ≡ start.state
unfolding digits items members value lex punctuate content after_number word number_of scan_numeral
example_malformed_and_stale_no_component_state = rw (utf8 no_component refl) refl

-- the last is answered by nothing
example_malformed_and_stale_frames : frames_text (hears no_component) ≡ codes "[\"1\",\"2\",\"lv:A\",\"phx_reply\",{\"response\":{},\"status\":\"ok\"}]" ∷ []
unfolding digits items members value lex punctuate content after_number word number_of scan_numeral escape_byte
example_malformed_and_stale_frames = rw (utf8 no_component refl) refl

-- each leaves the page
example_malformed_and_stale_pages : map page_after (no_json ∷ four_items ∷ unknown_event ∷ of_another_join ∷ name_is_no_text ∷ no_component ∷ [])
    ≡ first_page ∷ first_page ∷ first_page ∷ first_page ∷ first_page ∷ first_page ∷ []
unfolding digits items members value lex punctuate content after_number word number_of scan_numeral
example_malformed_and_stale_pages = rw (utf8 no_json refl, utf8 four_items refl, utf8 unknown_event refl, utf8 of_another_join refl, utf8 name_is_no_text refl, utf8 no_component refl) refl
