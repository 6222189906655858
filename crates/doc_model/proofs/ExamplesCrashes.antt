-- Worked examples: what raises puts the process down, and a join brings it back.
use Rattle.std.proofs.Common.{◌≡◌, ℕ, List, [], ◌∷◌, ◌++◌, Some, None, Ok, codes, refl}
use Rattle.std.specs.Fmt.{digits}
use Rattle.json.specs.Print.{escape_byte}
use Rattle.ast_core.specs.declared.operators.BinaryOp.TheVariants.{Plus}
use Rattle.ast_core.specs.Syntax.{binary, no_attributes, put}
use Rattle.wire_v2.specs.Message.{join}
use Rattle.doc_model.specs.Process.{World, Stepped, step_message}
use Rattle.doc_model.proofs.ExampleParts.{tag, place, one, all_nodes, quote, int, assigned}
use Rattle.doc_model.proofs.ExampleCounter.{counter_world, live_named, live_valued}
use Rattle.doc_model.proofs.ExampleWorlds.{assign_step, page_alone, joined, event_after, frames_text, client_page, full_page}

abbrev page_is_gone : List (List ℕ)
page_is_gone = codes "[\"1\",\"1\",\"lv:A\",\"phx_error\",{}]" ∷ []

-- `<.live_component module={Counter} id="x" /><.live_component module={Counter} id={@i} />`
abbrev pair : List ℕ → World
pair i = counter_world (all_nodes (live_named (codes "x") ∷ live_valued (assigned (codes "i")) ∷ [])) (assign_step (codes "i") (quote i) ∷ []) ((codes "same", assign_step (codes "i") (quote (codes "x")) ∷ []) ∷ [])

abbrev apart : Stepped
apart = joined (pair (codes "y"))

abbrev together : Stepped
together = event_after (pair (codes "y")) apart (codes "2") (codes "same")

example_duplicate_component_shown : client_page (pair (codes "y")) apart.frames ≡ Some (Some (codes "<p data-phx-component=\"1\">x:0</p><p data-phx-component=\"2\">y:0</p>"))
unfolding digits
example_duplicate_component_shown = refl

-- the same component id twice, in an event: the page is gone
example_duplicate_component_frames : frames_text together ≡ page_is_gone
unfolding digits escape_byte
example_duplicate_component_frames = refl

example_duplicate_component_state : together.state ≡ record { generation = 1; page = None }
unfolding digits
example_duplicate_component_state = refl

example_duplicate_component_down : client_page (pair (codes "y")) (apart.frames ++ together.frames) ≡ Some None
unfolding digits
example_duplicate_component_down = refl

-- and in a join: it crashes, and the process is down with its generation raised
example_duplicate_component_join_frames : frames_text (joined (pair (codes "x")))
    ≡ codes "[\"1\",\"1\",\"lv:A\",\"phx_reply\",{\"response\":{\"reason\":\"join crashed\"},\"status\":\"error\"}]" ∷ []
unfolding digits escape_byte
example_duplicate_component_join_frames = refl

example_duplicate_component_join_state : (joined (pair (codes "x"))).state ≡ record { generation = 1; page = None }
unfolding digits
example_duplicate_component_join_state = refl

example_duplicate_component_join_down : client_page (pair (codes "x")) (joined (pair (codes "x"))).frames ≡ Some None
unfolding digits
example_duplicate_component_join_down = refl

-- `<p>{9223372036854775807 + @n}</p>`, whose `inc` adds 1 to `n`
abbrev greatest : World
greatest = page_alone (one (tag (codes "p") no_attributes (one (place (put (binary Plus (int 9223372036854775807) (assigned (codes "n"))))))))
    (assign_step (codes "n") (int 0) ∷ []) ((codes "inc", assign_step (codes "n") (binary Plus (assigned (codes "n")) (int 1)) ∷ []) ∷ [])

abbrev start : Stepped
start = joined greatest

abbrev passed : Stepped
passed = event_after greatest start (codes "2") (codes "inc")

abbrev second : Stepped
second = event_after greatest passed (codes "3") (codes "inc")

-- a new join, under its own reference
abbrev rejoined : Stepped
rejoined = step_message greatest second.state second.inbox (join (record { join_reference = Some (codes "4"); reference = Some (codes "4"); topic = codes "lv:A" }) (codes "/"))

example_overflow_crash_shown : client_page greatest start.frames ≡ Some (Some (codes "<p>9223372036854775807</p>"))
unfolding digits
example_overflow_crash_shown = refl

-- the sum has no 64 bits: the page is gone
example_overflow_crash_frames : frames_text passed ≡ page_is_gone
unfolding digits escape_byte
example_overflow_crash_frames = refl

example_overflow_crash_down : client_page greatest (start.frames ++ passed.frames) ≡ Some None
unfolding digits
example_overflow_crash_down = refl

-- a second event is stale
example_overflow_crash_second_frames : frames_text second ≡ []
unfolding digits
example_overflow_crash_second_frames = refl

-- a join brings the first page back, with the generation raised again
example_overflow_crash_rejoin_frames : frames_text rejoined
    ≡ codes "[\"4\",\"4\",\"lv:A\",\"phx_reply\",{\"response\":{\"rendered\":{\"0\":\"9223372036854775807\",\"s\":[\"<p>\",\"</p>\"]}},\"status\":\"ok\"}]" ∷ []
unfolding digits escape_byte
example_overflow_crash_rejoin_frames = refl

example_overflow_crash_rejoin_shown : client_page greatest (start.frames ++ (passed.frames ++ (second.frames ++ rejoined.frames))) ≡ Some (Some (codes "<p>9223372036854775807</p>"))
unfolding digits
example_overflow_crash_rejoin_shown = refl

example_overflow_crash_rejoin_rendered : full_page greatest rejoined ≡ Some (Ok (codes "<p>9223372036854775807</p>"))
unfolding digits
example_overflow_crash_rejoin_rendered = refl

example_overflow_crash_generation : rejoined.state.generation ≡ 2
unfolding digits
example_overflow_crash_generation = refl
