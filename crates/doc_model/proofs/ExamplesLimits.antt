-- Worked examples: keys in byte order, escapes in a frame, a frame that does not fit, and limits of nesting.
use Rattle.std.proofs.Common.{◌≡◌, ℕ, zero, suc, List, [], ◌∷◌, ◌++◌, map, replicate, Some, None, Ok, Err, true, codes, refl}
use Rattle.std.specs.Float.Numeral.{scan_numeral}
use Rattle.std.specs.Fmt.{digits}
use Rattle.json.specs.Json.{items, members, value}
use Rattle.json.specs.Lex.{lex, punctuate}
use Rattle.json.specs.Text.{content}
use Rattle.json.specs.Word.{after_number, word}
use Rattle.json.specs.Print.{escape_byte}
use Rattle.serde_json.specs.Read.{number_of}
use Rattle.value_core.specs.declared.raise.Raise.TheVariants.{Deep}
use Rattle.value_core.specs.Value.{no_assigns}
use Rattle.ast_core.specs.Syntax.{boolean_of, no_attributes, if_place, Nodes, no_nodes}
use Rattle.diff_tree.specs.Tree as tr
use Rattle.diff_tree.specs.Tree.{no_changes, skip, change, write}
use Rattle.diff_tree.specs.Frame.{Frame, push}
use Rattle.doc_model.specs.Bundle.{site_of}
use Rattle.doc_model.specs.Effects.{heard}
use Rattle.doc_model.specs.FullRendering.{full_render}
use Rattle.wire_v2.specs.Message.{message_of}
use Rattle.doc_model.specs.Process.{World, frame_of, step_waiting}
use Rattle.doc_model.proofs.ExampleParts.{tag, place, words, one, all_nodes, put_assign, quote, int, scope}
use Rattle.doc_model.proofs.ExamplesPages.{counting, start}
use Rattle.doc_model.proofs.ExampleWorlds.{assign_step, page_alone, home_alone, joined, event_after, frames_text, carried_text, client_page, full_page, utf8}

-- the names `a` to `k`
abbrev names : List (List ℕ)
names = map (λ c. c ∷ []) (codes "abcdefghijk")

-- `{@a}{@b}{@c}{@d}{@e}{@f}{@g}{@h}{@i}{@j}{@k}`, all 0
abbrev eleven : World
eleven = page_alone (all_nodes (map put_assign names)) (map (λ k. assign_step k (int 0)) names)
    ((codes "two", assign_step (codes "c") (int 1) ∷ assign_step (codes "k") (int 2) ∷ []) ∷ [])

-- eleven places: keys stand in the order of their bytes
example_eleven_places_diff : carried_text (event_after eleven (joined eleven) (codes "2") (codes "two")) ≡ codes "{\"10\":\"2\",\"2\":\"1\"}" ∷ []
unfolding digits escape_byte
example_eleven_places_diff = refl

-- `<p>{@t}</p>` with a line feed and a backslash
abbrev escaping : World
escaping = page_alone (one (tag (codes "p") no_attributes (one (put_assign (codes "t"))))) (assign_step (codes "t") (quote (codes "a\nb\\")) ∷ []) []

example_json_text_escapes_tree : carried_text (joined escaping) ≡ codes "{\"0\":\"a\\nb\\\\\",\"s\":[\"<p>\",\"</p>\"]}" ∷ []
unfolding digits escape_byte
example_json_text_escapes_tree = refl

-- a diff of place 7, for a page of one place
abbrev seventh : Frame
seventh = frame_of (Some (codes "1")) None (codes "lv:A")
    (push (record { root = skip (skip (skip (skip (skip (skip (skip (change (write (tr.text (codes "x"))) no_changes))))))); components = [] }) [])

example_bad_frame : client_page counting (start.frames ++ seventh ∷ []) ≡ None
unfolding digits
example_bad_frame = refl

-- `<%= if true do %>` so many times around `x`
abbrev nested : ℕ → Nodes
nested zero = one (words (codes "x"))
nested (suc k) = one (place (if_place (boolean_of true) (nested k) no_nodes))

-- forty branches are rendered, and one more raises
example_level_limit_shown : client_page (page_alone (nested 40) [] []) (joined (page_alone (nested 40) [] [])).frames ≡ Some (Some (codes "x"))
example_level_limit_shown = refl

example_level_limit_rendered : full_page (page_alone (nested 40) [] []) (joined (page_alone (nested 40) [] [])) ≡ Some (Ok (codes "x"))
example_level_limit_rendered = refl

example_level_limit_raise : full_render (site_of home_alone) 41 (scope no_assigns) (nested 41) ≡ Err Deep
example_level_limit_raise = refl

example_level_limit_frames : frames_text (joined (page_alone (nested 41) [] []))
    ≡ codes "[\"1\",\"1\",\"lv:A\",\"phx_reply\",{\"response\":{\"reason\":\"join crashed\"},\"status\":\"error\"}]" ∷ []
unfolding escape_byte
example_level_limit_frames = refl

-- an event whose value is so many nested lists
abbrev deep_event : ℕ → List ℕ
deep_event n = codes "[\"1\",\"2\",\"lv:A\",\"event\",{\"event\":\"inc\",\"type\":\"click\",\"value\":" ++ (replicate n 91 ++ (replicate n 93 ++ codes "}]"))

example_deep_message_value_frames : frames_text (step_waiting counting start.state [] (heard (deep_event 100)))
    ≡ codes "[\"1\",\"2\",\"lv:A\",\"phx_reply\",{\"response\":{\"diff\":{\"0\":\"1\"}},\"status\":\"ok\"}]" ∷ []
unfolding digits items members value lex punctuate content after_number word number_of scan_numeral escape_byte
example_deep_message_value_frames = rw (utf8 (deep_event 100) refl) refl

example_deep_message_value_malformed : message_of (deep_event 101) ≡ None
unfolding items members value lex punctuate content after_number word number_of scan_numeral
example_deep_message_value_malformed = rw (utf8 (deep_event 101) refl) refl
