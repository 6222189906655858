-- Worked examples: stream operations, from a mount that inserts two rows on.
use Rattle.std.proofs.Common.{◌≡◌, ℕ, ℤ, pos, negsuc, List, [], ◌∷◌, ◌++◌, Option, Some, None, Ok, codes, refl}
use Rattle.std.specs.Fmt.{digits}
use Rattle.json.specs.Print.{escape_byte}
use Rattle.ast_core.specs.Syntax.{field, named, no_attributes, written, double_quoted, valued, put, stream_place, Nodes}
use Rattle.doc_model.specs.Process.{World, Stepped}
use Rattle.doc_model.proofs.ExampleParts.{tag, place, one, quote, int, variable, map_expr}
use Rattle.doc_model.proofs.ExampleWorlds.{Step, insert_step, delete_step, reset_step, page_alone, joined, event_after, carried_text, client_page, full_page, container}

-- `<li :for={{d, x} <- @streams.m} id={d}>{x.t}</li>`
abbrev rows : Nodes
rows = one (tag (codes "li") (valued (codes "id") (variable (codes "d")) no_attributes) (one (place (put (field (variable (codes "x")) (codes "t"))))))

-- `<ul id="m" phx-update="stream">..</ul>`
abbrev list : Nodes
list =
    one (tag (codes "ul") (written (codes "id") (double_quoted (codes "m")) (written (codes "phx-update") (double_quoted (codes "stream")) no_attributes))
    (one (place (stream_place (codes "m") (codes "d") (named (codes "x")) rows))))

-- the item of this id and text under the dom id `m-ID`
abbrev insert : List ℕ → ℕ → List ℕ → ℤ → Option ℤ → Step
insert dom_id id t at limit = insert_step (codes "m") dom_id (map_expr ((codes "id", int id) ∷ (codes "t", quote t) ∷ [])) at limit

abbrev streaming : World
streaming = page_alone list (insert (codes "m-1") 1 (codes "a") (negsuc 0) None ∷ insert (codes "m-2") 2 (codes "b") (negsuc 0) None ∷ [])
    ((codes "front", insert (codes "m-3") 3 (codes "c") (pos 0) None ∷ [])
    ∷ (codes "move", delete_step (codes "m") (codes "m-1") ∷ insert (codes "m-1") 1 (codes "a") (negsuc 0) None ∷ [])
    ∷ (codes "again", insert (codes "m-3") 3 (codes "C") (negsuc 0) None ∷ [])
    ∷ (codes "limit", insert (codes "m-4") 4 (codes "d") (negsuc 0) (Some (negsuc 1)) ∷ [])
    ∷ (codes "reset", reset_step (codes "m") ∷ insert (codes "m-5") 5 (codes "e") (negsuc 0) None ∷ [])
    ∷ [])

abbrev two : Stepped
two = joined streaming

abbrev front : Stepped
front = event_after streaming two (codes "2") (codes "front")

abbrev moved : Stepped
moved = event_after streaming front (codes "3") (codes "move")

abbrev again : Stepped
again = event_after streaming moved (codes "4") (codes "again")

abbrev limited : Stepped
limited = event_after streaming again (codes "5") (codes "limit")

-- the page around these rows
abbrev page : List ℕ → List ℕ
page t = codes "<ul id=\"m\" phx-update=\"stream\">" ++ (t ++ codes "</ul>")

-- stream operations: the first tree has a row for each insert
example_stream_operations_tree : carried_text two
    ≡ codes "{\"0\":{\"d\":[[\" id=\\\"m-1\\\"\",\"a\"],[\" id=\\\"m-2\\\"\",\"b\"]],\"s\":[\"<li\",\">\",\"</li>\"],\"stream\":[\"m\",[[\"m-1\",-1,null],[\"m-2\",-1,null]],[]]},\"s\":[\"<ul id=\\\"m\\\" phx-update=\\\"stream\\\">\",\"</ul>\"]}" ∷ []
unfolding digits escape_byte
example_stream_operations_tree = refl

example_stream_operations_shown : client_page streaming two.frames ≡ Some (Some (page (codes "<li id=\"m-1\">a</li><li id=\"m-2\">b</li>")))
example_stream_operations_shown = refl

-- an insert at the front
example_stream_operations_front_diff : carried_text front ≡ codes "{\"0\":{\"d\":[[\" id=\\\"m-3\\\"\",\"c\"]],\"stream\":[\"m\",[[\"m-3\",0,null]],[]]}}" ∷ []
unfolding digits escape_byte
example_stream_operations_front_diff = refl

example_stream_operations_front_shown : client_page streaming (two.frames ++ front.frames) ≡ Some (Some (page (codes "<li id=\"m-3\">c</li><li id=\"m-1\">a</li><li id=\"m-2\">b</li>")))
example_stream_operations_front_shown = refl

-- a delete and an insert of one id move it to the end
example_stream_operations_moved_diff : carried_text moved ≡ codes "{\"0\":{\"d\":[[\" id=\\\"m-1\\\"\",\"a\"]],\"stream\":[\"m\",[[\"m-1\",-1,null]],[\"m-1\"]]}}" ∷ []
unfolding digits escape_byte
example_stream_operations_moved_diff = refl

example_stream_operations_moved_shown : client_page streaming (two.frames ++ (front.frames ++ moved.frames))
    ≡ Some (Some (page (codes "<li id=\"m-3\">c</li><li id=\"m-2\">b</li><li id=\"m-1\">a</li>")))
example_stream_operations_moved_shown = refl

-- an insert of an id that is shown replaces its row in place
example_stream_operations_replaced_diff : carried_text again ≡ codes "{\"0\":{\"d\":[[\" id=\\\"m-3\\\"\",\"C\"]],\"stream\":[\"m\",[[\"m-3\",-1,null]],[]]}}" ∷ []
unfolding digits escape_byte
example_stream_operations_replaced_diff = refl

example_stream_operations_replaced_shown : client_page streaming (two.frames ++ (front.frames ++ (moved.frames ++ again.frames)))
    ≡ Some (Some (page (codes "<li id=\"m-3\">C</li><li id=\"m-2\">b</li><li id=\"m-1\">a</li>")))
example_stream_operations_replaced_shown = refl

-- a limit of -2 keeps the last two
example_stream_operations_limited_diff : carried_text limited ≡ codes "{\"0\":{\"d\":[[\" id=\\\"m-4\\\"\",\"d\"]],\"stream\":[\"m\",[[\"m-4\",-1,-2]],[]]}}" ∷ []
unfolding digits escape_byte
example_stream_operations_limited_diff = refl

example_stream_operations_limited_container : container (codes "m") limited ≡ Some ((codes "m-1", codes "<li id=\"m-1\">a</li>") ∷ (codes "m-4", codes "<li id=\"m-4\">d</li>") ∷ [])
example_stream_operations_limited_container = refl

example_stream_operations_limited_shown : client_page streaming (two.frames ++ (front.frames ++ (moved.frames ++ (again.frames ++ limited.frames))))
    ≡ Some (Some (page (codes "<li id=\"m-1\">a</li><li id=\"m-4\">d</li>")))
example_stream_operations_limited_shown = refl

example_stream_operations_limited_rendered : full_page streaming limited ≡ Some (Ok (page (codes "<li id=\"m-1\">a</li><li id=\"m-4\">d</li>")))
example_stream_operations_limited_rendered = refl

-- a reset is told behind the deletes
example_stream_operations_reset_diff : carried_text (event_after streaming two (codes "2") (codes "reset"))
    ≡ codes "{\"0\":{\"d\":[[\" id=\\\"m-5\\\"\",\"e\"]],\"stream\":[\"m\",[[\"m-5\",-1,null]],[],true]}}" ∷ []
unfolding digits escape_byte
example_stream_operations_reset_diff = refl

example_stream_operations_reset_shown : client_page streaming (two.frames ++ (event_after streaming two (codes "2") (codes "reset")).frames) ≡ Some (Some (page (codes "<li id=\"m-5\">e</li>")))
example_stream_operations_reset_shown = refl
