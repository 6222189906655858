-- Worked examples: patches, and what a browser says of components that it dropped.
use Rattle.std.proofs.Common.{◌≡◌, ℕ, List, [], ◌∷◌, ◌++◌, Some, None, codes, refl, if◌then◌else◌}
use Rattle.std.specs.Fmt.{digits}
use Rattle.std.specs.Str.{bytes_eq}
use Rattle.json.specs.Print.{escape_byte}
use Rattle.value_core.specs.Value.{text}
use Rattle.ast_core.specs.Syntax.{no_attributes}
use Rattle.view_api.specs.Effect.{assign_to}
use Rattle.view_api.specs.Meaning.{ViewMeaning}
use Rattle.wire_v2.specs.Message.{Message, patch, will_destroy, destroyed, join}
use Rattle.doc_model.specs.Process.{World, Stepped, step_message}
use Rattle.doc_model.proofs.ExampleParts.{tag, one, all_nodes, put_assign}
use Rattle.doc_model.proofs.ExampleWorlds.{scripted, world_of, home_alone, head, joined, frames_text, client_page, head_with}

-- params are the URL's text here: each time they are handled `u` is assigned, and a mount assigns `m`
abbrev views : ViewMeaning
views = record (scripted [] [] [] []) {
  mount = λ v p. Some (assign_to (codes "m") (text (codes "m")) ∷ []);
  handle_params = λ v p as'. Some (assign_to (codes "u") p ∷ []);
}

-- `<p>{@m}{@u}</p>` for `/` and `/a`; `/b` has another view
abbrev routed : World
routed = record (world_of home_alone (one (tag (codes "p") no_attributes (all_nodes (put_assign (codes "m") ∷ put_assign (codes "u") ∷ [])))) views) {
  route = λ url. if bytes_eq url (codes "/") then Some (record { view = 0; params = text url })
      else if bytes_eq url (codes "/a") then Some (record { view = 0; params = text url })
      else if bytes_eq url (codes "/b") then Some (record { view = 1; params = text url }) else None;
}

abbrev start : Stepped
start = joined routed

abbrev after_message : Message → Stepped
after_message m = step_message routed start.state [] m

abbrev patched : List ℕ → Stepped
patched url = after_message (patch (head (codes "2")) url)

abbrev not_here : List (List ℕ)
not_here = codes "[\"1\",\"2\",\"lv:A\",\"phx_reply\",{\"response\":{\"reason\":\"no route\"},\"status\":\"error\"}]" ∷ []

-- a patch handles the params, without a mount
example_patch_frames : frames_text (patched (codes "/a")) ≡ codes "[\"1\",\"2\",\"lv:A\",\"phx_reply\",{\"response\":{\"diff\":{\"1\":\"/a\"}},\"status\":\"ok\"}]" ∷ []
unfolding digits escape_byte
example_patch_frames = refl

example_patch_shown : client_page routed (start.frames ++ (patched (codes "/a")).frames) ≡ Some (Some (codes "<p>m/a</p>"))
example_patch_shown = refl

-- a patch to no route, and to another view, is refused and changes nothing
example_patch_no_route : frames_text (patched (codes "/x")) ≡ not_here
unfolding escape_byte
example_patch_no_route = refl

example_patch_other_view : frames_text (patched (codes "/b")) ≡ not_here
unfolding escape_byte
example_patch_other_view = refl

example_patch_other_view_shown : client_page routed (start.frames ++ (patched (codes "/b")).frames) ≡ Some (Some (codes "<p>m/</p>"))
example_patch_other_view_shown = refl

-- what a browser says of components changes nothing
example_will_destroy_frames : frames_text (after_message (will_destroy (head (codes "2")))) ≡ codes "[\"1\",\"2\",\"lv:A\",\"phx_reply\",{\"response\":{},\"status\":\"ok\"}]" ∷ []
unfolding escape_byte
example_will_destroy_frames = refl

example_destroyed_frames : frames_text (after_message (destroyed (head (codes "2")))) ≡ codes "[\"1\",\"2\",\"lv:A\",\"phx_reply\",{\"response\":{\"cids\":[]},\"status\":\"ok\"}]" ∷ []
unfolding escape_byte
example_destroyed_frames = refl

-- a join under another topic takes the place of the page without a word of the old one, and null stays null
abbrev again : Stepped
again = after_message (join (head_with None None (codes "lv:B")) (codes "/a"))

example_join_again_frames : frames_text again
    ≡ codes "[null,null,\"lv:B\",\"phx_reply\",{\"response\":{\"rendered\":{\"0\":\"m\",\"1\":\"/a\",\"s\":[\"<p>\",\"\",\"</p>\"]}},\"status\":\"ok\"}]" ∷ []
unfolding digits escape_byte
example_join_again_frames = refl

example_join_again_generation : again.state.generation ≡ 2
example_join_again_generation = refl

-- a message of the old join is stale then
example_join_again_stale : frames_text (step_message routed again.state [] (patch (head (codes "3")) (codes "/"))) ≡ []
example_join_again_stale = refl
