-- Worked examples: two LiveComponents of one module.
use Rattle.std.proofs.Common.{◌≡◌, [], ◌∷◌, ◌++◌, true, false, Some, Ok, codes, refl}
use Rattle.std.specs.Fmt.{digits}
use Rattle.json.specs.Print.{escape_byte}
use Rattle.ast_core.specs.Syntax.{boolean_of, if_place, no_nodes}
use Rattle.doc_model.specs.Process.{World, Stepped}
use Rattle.doc_model.proofs.ExampleParts.{place, all_nodes, one, assigned}
use Rattle.doc_model.proofs.ExampleCounter.{counter_world, live_named}
use Rattle.doc_model.proofs.ExampleWorlds.{assign_step, joined, event_to, event_after, frames_text, carried_text, client_page, full_page}

-- `<%= if @a do %><.live_component module={Counter} id="x" /><% end %><.live_component module={Counter} id="y" />`
abbrev counters : World
counters = counter_world (all_nodes (place (if_place (assigned (codes "a")) (one (live_named (codes "x"))) no_nodes) ∷ live_named (codes "y") ∷ []))
    (assign_step (codes "a") (boolean_of true) ∷ [])
    ((codes "hide", assign_step (codes "a") (boolean_of false) ∷ []) ∷ (codes "show", assign_step (codes "a") (boolean_of true) ∷ []) ∷ [])

abbrev both : Stepped
both = joined counters

-- `inc` of component 2
abbrev counted : Stepped
counted = event_to counters both (codes "2") 2 (codes "inc")

abbrev hidden : Stepped
hidden = event_after counters counted (codes "3") (codes "hide")

abbrev shown : Stepped
shown = event_after counters hidden (codes "4") (codes "show")

-- two counters: each has a number, and its mark on its first tag
example_two_counters_tree : carried_text both
    ≡ codes "{\"0\":{\"0\":1,\"s\":[\"\",\"\"]},\"1\":2,\"c\":{\"1\":{\"0\":\"x\",\"1\":\"0\",\"s\":[\"<p>\",\":\",\"</p>\"]},\"2\":{\"0\":\"y\",\"1\":\"0\",\"s\":[\"<p>\",\":\",\"</p>\"]}},\"s\":[\"\",\"\",\"\"]}" ∷ []
unfolding digits escape_byte
example_two_counters_tree = refl

example_two_counters_first_frames : frames_text both
    ≡ codes "[\"1\",\"1\",\"lv:A\",\"phx_reply\",{\"response\":{\"rendered\":{\"0\":{\"0\":1,\"s\":[\"\",\"\"]},\"1\":2,\"c\":{\"1\":{\"0\":\"x\",\"1\":\"0\",\"s\":[\"<p>\",\":\",\"</p>\"]},\"2\":{\"0\":\"y\",\"1\":\"0\",\"s\":[\"<p>\",\":\",\"</p>\"]}},\"s\":[\"\",\"\",\"\"]}},\"status\":\"ok\"}]" ∷ []
unfolding digits escape_byte
example_two_counters_first_frames = refl

example_two_counters_shown : client_page counters both.frames ≡ Some (Some (codes "<p data-phx-component=\"1\">x:0</p><p data-phx-component=\"2\">y:0</p>"))
unfolding digits
example_two_counters_shown = refl

example_two_counters_rendered : full_page counters both ≡ Some (Ok (codes "<p data-phx-component=\"1\">x:0</p><p data-phx-component=\"2\">y:0</p>"))
unfolding digits
example_two_counters_rendered = refl

-- an event of one component sends its changed place
example_two_counters_counted_diff : carried_text counted ≡ codes "{\"c\":{\"2\":{\"1\":\"1\"}}}" ∷ []
unfolding digits escape_byte
example_two_counters_counted_diff = refl

example_two_counters_counted_frames : frames_text counted ≡ codes "[\"1\",\"2\",\"lv:A\",\"phx_reply\",{\"response\":{\"diff\":{\"c\":{\"2\":{\"1\":\"1\"}}}},\"status\":\"ok\"}]" ∷ []
unfolding digits escape_byte
example_two_counters_counted_frames = refl

example_two_counters_counted_shown : client_page counters (both.frames ++ counted.frames) ≡ Some (Some (codes "<p data-phx-component=\"1\">x:0</p><p data-phx-component=\"2\">y:1</p>"))
unfolding digits
example_two_counters_counted_shown = refl

-- a component that is no longer called is gone
example_two_counters_hidden_diff : carried_text hidden ≡ codes "{\"0\":\"\"}" ∷ []
unfolding digits escape_byte
example_two_counters_hidden_diff = refl

example_two_counters_hidden_frames : frames_text hidden ≡ codes "[\"1\",\"3\",\"lv:A\",\"phx_reply\",{\"response\":{\"diff\":{\"0\":\"\"}},\"status\":\"ok\"}]" ∷ []
unfolding digits escape_byte
example_two_counters_hidden_frames = refl

example_two_counters_hidden_shown : client_page counters (both.frames ++ (counted.frames ++ hidden.frames)) ≡ Some (Some (codes "<p data-phx-component=\"2\">y:1</p>"))
unfolding digits
example_two_counters_hidden_shown = refl

-- called again it is new, with the next number
example_two_counters_diff : carried_text shown ≡ codes "{\"0\":{\"0\":3,\"s\":[\"\",\"\"]},\"c\":{\"3\":{\"0\":\"x\",\"1\":\"0\",\"s\":[\"<p>\",\":\",\"</p>\"]}}}" ∷ []
unfolding digits escape_byte
example_two_counters_diff = refl

example_two_counters_frames : frames_text shown
    ≡ codes "[\"1\",\"4\",\"lv:A\",\"phx_reply\",{\"response\":{\"diff\":{\"0\":{\"0\":3,\"s\":[\"\",\"\"]},\"c\":{\"3\":{\"0\":\"x\",\"1\":\"0\",\"s\":[\"<p>\",\":\",\"</p>\"]}}}},\"status\":\"ok\"}]" ∷ []
unfolding digits escape_byte
example_two_counters_frames = refl

example_two_counters_again_shown : client_page counters (both.frames ++ (counted.frames ++ (hidden.frames ++ shown.frames)))
    ≡ Some (Some (codes "<p data-phx-component=\"3\">x:0</p><p data-phx-component=\"2\">y:1</p>"))
unfolding digits
example_two_counters_again_shown = refl

example_two_counters_again_rendered : full_page counters shown ≡ Some (Ok (codes "<p data-phx-component=\"3\">x:0</p><p data-phx-component=\"2\">y:1</p>"))
unfolding digits
example_two_counters_again_rendered = refl

-- an event of a component that is gone is answered
example_two_counters_gone_frames : frames_text (event_to counters hidden (codes "4") 1 (codes "inc")) ≡ codes "[\"1\",\"4\",\"lv:A\",\"phx_reply\",{\"response\":{},\"status\":\"ok\"}]" ∷ []
unfolding digits escape_byte
example_two_counters_gone_frames = refl

-- no component has the number 0
example_two_counters_number_zero_frames : frames_text (event_to counters both (codes "2") 0 (codes "inc")) ≡ codes "[\"1\",\"2\",\"lv:A\",\"phx_reply\",{\"response\":{},\"status\":\"ok\"}]" ∷ []
unfolding escape_byte
example_two_counters_number_zero_frames = refl
