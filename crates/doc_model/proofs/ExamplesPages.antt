-- Worked examples: the smallest page, an event that counts, and values that stay.
use Rattle.std.proofs.Common.{◌≡◌, ℕ, List, [], ◌∷◌, ◌++◌, Ok, Some, codes, refl}
use Rattle.std.specs.Fmt.{digits}
use Rattle.json.specs.Print.{escape_byte}
use Rattle.ast_core.specs.declared.operators.BinaryOp.TheVariants.{Plus, Minus}
use Rattle.ast_core.specs.Syntax.{Expr, binary, no_attributes, no_nodes}
use Rattle.wire_v2.specs.Message.{join}
use Rattle.doc_model.specs.Process.{World, Stepped, begin_state, step_message}
use Rattle.doc_model.proofs.ExampleParts.{tag, one, put_assign, int, assigned}
use Rattle.doc_model.proofs.ExampleWorlds.{Step, assign_step, page_alone, head, joined, event_after, frames_text, carried_text, client_page, full_page}

abbrev to_n : Expr → List Step
to_n e = assign_step (codes "n") e ∷ []

abbrev more : Expr
more = binary Plus (assigned (codes "n")) (int 1)

-- `<p>{@n}</p>`: `inc` adds 1, `same` assigns `@n`, `back` adds 1 and takes it away again
abbrev pub counting : World
counting = page_alone (one (tag (codes "p") no_attributes (one (put_assign (codes "n"))))) (to_n (int 0))
    ((codes "inc", to_n more) ∷ (codes "same", to_n (assigned (codes "n"))) ∷ (codes "back", assign_step (codes "n") more ∷ to_n (binary Minus (assigned (codes "n")) (int 1))) ∷ [])

abbrev pub start : Stepped
start = joined counting

abbrev event : List ℕ → Stepped
event name = event_after counting start (codes "2") name

abbrev nothing_told : List (List ℕ)
nothing_told = codes "[\"1\",\"2\",\"lv:A\",\"phx_reply\",{\"response\":{},\"status\":\"ok\"}]" ∷ []

-- the smallest page: one template, one assign, the first frame
example_smallest_page_tree : carried_text start ≡ codes "{\"0\":\"0\",\"s\":[\"<p>\",\"</p>\"]}" ∷ []
unfolding digits escape_byte
example_smallest_page_tree = refl

example_smallest_page_frames : frames_text start
    ≡ codes "[\"1\",\"1\",\"lv:A\",\"phx_reply\",{\"response\":{\"rendered\":{\"0\":\"0\",\"s\":[\"<p>\",\"</p>\"]}},\"status\":\"ok\"}]" ∷ []
unfolding digits escape_byte
example_smallest_page_frames = refl

example_smallest_page_shown : client_page counting start.frames ≡ Some (Some (codes "<p>0</p>"))
unfolding digits
example_smallest_page_shown = refl

example_smallest_page_rendered : full_page counting start ≡ Some (Ok (codes "<p>0</p>"))
unfolding digits
example_smallest_page_rendered = refl

-- another URL has no view: the join is refused, and nothing comes up
abbrev lost : Stepped
lost = step_message counting begin_state [] (join (head (codes "1")) (codes "/x"))

example_smallest_page_no_route_frames : frames_text lost ≡ codes "[\"1\",\"1\",\"lv:A\",\"phx_reply\",{\"response\":{\"reason\":\"no route\"},\"status\":\"error\"}]" ∷ []
unfolding digits escape_byte
example_smallest_page_no_route_frames = refl

example_smallest_page_no_route_state : lost.state ≡ begin_state
example_smallest_page_no_route_state = refl

-- counter event: the one place is sent
example_counter_event_diff : carried_text (event (codes "inc")) ≡ codes "{\"0\":\"1\"}" ∷ []
unfolding digits escape_byte
example_counter_event_diff = refl

example_counter_event_frames : frames_text (event (codes "inc"))
    ≡ codes "[\"1\",\"2\",\"lv:A\",\"phx_reply\",{\"response\":{\"diff\":{\"0\":\"1\"}},\"status\":\"ok\"}]" ∷ []
unfolding digits escape_byte
example_counter_event_frames = refl

example_counter_event_shown : client_page counting (start.frames ++ (event (codes "inc")).frames) ≡ Some (Some (codes "<p>1</p>"))
unfolding digits
example_counter_event_shown = refl

example_counter_event_rendered : full_page counting (event (codes "inc")) ≡ Some (Ok (codes "<p>1</p>"))
unfolding digits
example_counter_event_rendered = refl

-- unchanged value: the same value assigned, and one that comes back, send nothing
example_unchanged_value_frames : frames_text (event (codes "same")) ≡ nothing_told
unfolding digits escape_byte
example_unchanged_value_frames = refl

example_unchanged_value_back_frames : frames_text (event (codes "back")) ≡ nothing_told
unfolding digits escape_byte
example_unchanged_value_back_frames = refl

example_unchanged_value_shown : client_page counting (start.frames ++ (event (codes "back")).frames) ≡ Some (Some (codes "<p>0</p>"))
unfolding digits
example_unchanged_value_shown = refl

-- empty template: one empty static
abbrev empty : World
empty = page_alone no_nodes [] ((codes "go", []) ∷ [])

example_empty_template_tree : carried_text (joined empty) ≡ codes "{\"s\":[\"\"]}" ∷ []
unfolding escape_byte
example_empty_template_tree = refl

example_empty_template_shown : client_page empty (joined empty).frames ≡ Some (Some [])
example_empty_template_shown = refl

example_empty_template_frames : frames_text (event_after empty (joined empty) (codes "2") (codes "go")) ≡ nothing_told
unfolding escape_byte
example_empty_template_frames = refl
