-- Worked examples: LiveComponents that move, meet, and are given other attributes.
use Rattle.std.proofs.Common.{◌≡◌, [], ◌∷◌, ◌++◌, true, false, Some, codes, refl}
use Rattle.std.specs.Fmt.{digits}
use Rattle.json.specs.Print.{escape_byte}
use Rattle.ast_core.specs.Syntax.{boolean_of, no_attributes, if_place}
use Rattle.doc_model.specs.Process.{World, Stepped}
use Rattle.doc_model.proofs.ExampleParts.{tag, place, all_nodes, one, quote, assigned}
use Rattle.doc_model.proofs.ExampleCounter.{counter_world, live_named, live_valued}
use Rattle.doc_model.proofs.ExampleWorlds.{assign_step, joined, event_to, event_after, frames_text, carried_text, client_page}

-- `<%= if @a do %><.live_component module={Counter} id="x" /><% else %><b><.live_component module={Counter} id="x" /></b><% end %>`
abbrev moving : World
moving = counter_world (one (place (if_place (assigned (codes "a")) (one (live_named (codes "x"))) (one (tag (codes "b") no_attributes (one (live_named (codes "x"))))))))
    (assign_step (codes "a") (boolean_of true) ∷ []) ((codes "move", assign_step (codes "a") (boolean_of false) ∷ []) ∷ [])

abbrev counted : Stepped
counted = event_to moving (joined moving) (codes "2") 1 (codes "inc")

abbrev moved : Stepped
moved = event_after moving counted (codes "3") (codes "move")

-- a component that is called from another place keeps its number and its assigns
example_moved_component_diff : carried_text moved ≡ codes "{\"0\":{\"0\":1,\"s\":[\"<b>\",\"</b>\"]}}" ∷ []
unfolding digits escape_byte
example_moved_component_diff = refl

example_moved_component_shown : client_page moving ((joined moving).frames ++ (counted.frames ++ moved.frames)) ≡ Some (Some (codes "<b><p data-phx-component=\"1\">x:1</p></b>"))
unfolding digits
example_moved_component_shown = refl

-- `<.live_component module={Counter} id={@i} /><.live_component module={Counter} id="x" />`: a changed place meets a later one that stays
abbrev meeting : World
meeting = counter_world (all_nodes (live_valued (assigned (codes "i")) ∷ live_named (codes "x") ∷ []))
    (assign_step (codes "i") (quote (codes "y")) ∷ []) ((codes "meet", assign_step (codes "i") (quote (codes "x")) ∷ []) ∷ (codes "part", assign_step (codes "i") (quote (codes "z")) ∷ []) ∷ [])

example_met_component_frames : frames_text (event_after meeting (joined meeting) (codes "2") (codes "meet")) ≡ codes "[\"1\",\"1\",\"lv:A\",\"phx_error\",{}]" ∷ []
unfolding digits escape_byte
example_met_component_frames = refl

-- another id is another component, with the next number
example_other_id_diff : carried_text (event_after meeting (joined meeting) (codes "2") (codes "part")) ≡ codes "{\"0\":3,\"c\":{\"3\":{\"0\":\"z\",\"1\":\"0\",\"s\":[\"<p>\",\":\",\"</p>\"]}}}" ∷ []
unfolding digits escape_byte
example_other_id_diff = refl

example_other_id_shown : client_page meeting ((joined meeting).frames ++ (event_after meeting (joined meeting) (codes "2") (codes "part")).frames)
    ≡ Some (Some (codes "<p data-phx-component=\"3\">z:0</p><p data-phx-component=\"2\">x:0</p>"))
unfolding digits
example_other_id_shown = refl
