-- Worked examples: a stream's container that is hidden, and shown again.
use Rattle.std.proofs.Common.{◌≡◌, ℕ, negsuc, List, [], ◌∷◌, ◌++◌, true, false, Some, None, Ok, codes, refl}
use Rattle.std.specs.Fmt.{digits}
use Rattle.json.specs.Print.{escape_byte}
use Rattle.ast_core.specs.Syntax.{boolean_of, field, named, no_attributes, written, double_quoted, valued, put, if_place, stream_place, Nodes, no_nodes}
use Rattle.doc_model.specs.Process.{World, Stepped}
use Rattle.doc_model.proofs.ExampleParts.{tag, place, one, all_nodes, put_assign, quote, int, assigned, variable, map_expr}
use Rattle.doc_model.proofs.ExampleWorlds.{Step, assign_step, insert_step, page_alone, joined, event_after, frames_text, carried_text, client_page, full_page, container}

-- `<li :for={{d, x} <- @streams.m} id={d}>{@p}{x.t}</li>`
abbrev rows : Nodes
rows = one (tag (codes "li") (valued (codes "id") (variable (codes "d")) no_attributes) (all_nodes (put_assign (codes "p") ∷ place (put (field (variable (codes "x")) (codes "t"))) ∷ [])))

abbrev list : Nodes
list =
    one (tag (codes "ul") (written (codes "id") (double_quoted (codes "m")) (written (codes "phx-update") (double_quoted (codes "stream")) no_attributes))
    (one (place (stream_place (codes "m") (codes "d") (named (codes "x")) rows))))

abbrev insert : List ℕ → ℕ → List ℕ → Step
insert dom_id id t = insert_step (codes "m") dom_id (map_expr ((codes "id", int id) ∷ (codes "t", quote t) ∷ [])) (negsuc 0) None

-- `<%= if @s do %><ul id="m" phx-update="stream">..</ul><% end %>`
abbrev hiding : World
hiding = page_alone (one (place (if_place (assigned (codes "s")) list no_nodes)))
    (assign_step (codes "s") (boolean_of true) ∷ assign_step (codes "p") (quote (codes "p")) ∷ insert (codes "m-1") 1 (codes "a") ∷ [])
    ((codes "p", assign_step (codes "p") (quote (codes "q")) ∷ [])
    ∷ (codes "insert", insert (codes "m-2") 2 (codes "b") ∷ [])
    ∷ (codes "hide", assign_step (codes "s") (boolean_of false) ∷ [])
    ∷ (codes "show", assign_step (codes "s") (boolean_of true) ∷ [])
    ∷ [])

abbrev first : Stepped
first = joined hiding

abbrev assigned_p : Stepped
assigned_p = event_after hiding first (codes "2") (codes "p")

abbrev inserted : Stepped
inserted = event_after hiding assigned_p (codes "3") (codes "insert")

abbrev hidden : Stepped
hidden = event_after hiding inserted (codes "4") (codes "hide")

abbrev shown : Stepped
shown = event_after hiding hidden (codes "5") (codes "show")

example_hidden_container_tree : carried_text first
    ≡ codes "{\"0\":{\"0\":{\"d\":[[\" id=\\\"m-1\\\"\",\"p\",\"a\"]],\"s\":[\"<li\",\">\",\"\",\"</li>\"],\"stream\":[\"m\",[[\"m-1\",-1,null]],[]]},\"s\":[\"<ul id=\\\"m\\\" phx-update=\\\"stream\\\">\",\"</ul>\"]},\"s\":[\"\",\"\"]}" ∷ []
unfolding digits escape_byte
example_hidden_container_tree = refl

-- rows that are shown stay as they were rendered
example_hidden_container_assigned_frames : frames_text assigned_p ≡ codes "[\"1\",\"2\",\"lv:A\",\"phx_reply\",{\"response\":{},\"status\":\"ok\"}]" ∷ []
unfolding digits escape_byte
example_hidden_container_assigned_frames = refl

example_hidden_container_inserted_diff : carried_text inserted ≡ codes "{\"0\":{\"0\":{\"d\":[[\" id=\\\"m-2\\\"\",\"q\",\"b\"]],\"stream\":[\"m\",[[\"m-2\",-1,null]],[]]}}}" ∷ []
unfolding digits escape_byte
example_hidden_container_inserted_diff = refl

example_hidden_container_inserted : container (codes "m") inserted ≡ Some ((codes "m-1", codes "<li id=\"m-1\">pa</li>") ∷ (codes "m-2", codes "<li id=\"m-2\">qb</li>") ∷ [])
example_hidden_container_inserted = refl

example_hidden_container_inserted_shown : client_page hiding (first.frames ++ (assigned_p.frames ++ inserted.frames))
    ≡ Some (Some (codes "<ul id=\"m\" phx-update=\"stream\"><li id=\"m-1\">pa</li><li id=\"m-2\">qb</li></ul>"))
example_hidden_container_inserted_shown = refl

-- hidden: the place is empty, and so is the container
example_hidden_container_hidden_diff : carried_text hidden ≡ codes "{\"0\":\"\"}" ∷ []
unfolding digits escape_byte
example_hidden_container_hidden_diff = refl

example_hidden_container_hidden : container (codes "m") hidden ≡ Some []
example_hidden_container_hidden = refl

example_hidden_container_hidden_shown : client_page hiding (first.frames ++ (assigned_p.frames ++ (inserted.frames ++ hidden.frames))) ≡ Some (Some [])
example_hidden_container_hidden_shown = refl

-- shown again: the branch is whole, without rows
example_hidden_container_diff : carried_text shown
    ≡ codes "{\"0\":{\"0\":{\"d\":[],\"s\":[\"<li\",\">\",\"\",\"</li>\"],\"stream\":[\"m\",[],[]]},\"s\":[\"<ul id=\\\"m\\\" phx-update=\\\"stream\\\">\",\"</ul>\"]}}" ∷ []
unfolding digits escape_byte
example_hidden_container_diff = refl

example_hidden_container_empty : container (codes "m") shown ≡ Some []
example_hidden_container_empty = refl

example_hidden_container_shown : client_page hiding (first.frames ++ (assigned_p.frames ++ (inserted.frames ++ (hidden.frames ++ shown.frames))))
    ≡ Some (Some (codes "<ul id=\"m\" phx-update=\"stream\"></ul>"))
example_hidden_container_shown = refl

example_hidden_container_rendered : full_page hiding shown ≡ Some (Ok (codes "<ul id=\"m\" phx-update=\"stream\"></ul>"))
example_hidden_container_rendered = refl
