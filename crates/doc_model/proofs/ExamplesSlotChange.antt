-- Worked examples: a change inside a slot, also through two calls.
use Rattle.std.proofs.Common.{◌≡◌, [], ◌∷◌, ◌++◌, Some, Ok, codes, refl}
use Rattle.std.specs.Fmt.{digits}
use Rattle.json.specs.Print.{escape_byte}
use Rattle.ast_core.specs.Syntax.{nil_of, any, no_attributes, call, render_slot, Nodes, Body, slot_body, no_entries, Template}
use Rattle.view_api.specs.Meaning.{ViewMeaning}
use Rattle.doc_model.specs.Process.{World, Stepped}
use Rattle.doc_model.proofs.ExampleParts.{tag, place, one, put_assign, quote, assigned}
use Rattle.doc_model.proofs.ExampleWorlds.{assign_step, scripted, world_of, joined, event_after, carried_text, client_page, full_page}

-- `m` goes from "1" to "2"
abbrev views : ViewMeaning
views = scripted (assign_step (codes "m") (quote (codes "1")) ∷ []) ((codes "next", assign_step (codes "m") (quote (codes "2")) ∷ []) ∷ []) [] []

-- `render_slot(@inner_block)`
abbrev content : Nodes
content = one (place (render_slot (assigned (codes "inner_block")) nil_of))

-- `<div>{render_slot(@inner_block)}</div>`
abbrev card : Template
card = record { name = codes "card"; nodes = one (tag (codes "div") no_attributes content) }

-- `<.card><b>{@m}</b></.card>`
abbrev bold : Body
bold = slot_body 0 any (one (tag (codes "b") no_attributes (one (put_assign (codes "m")))))

abbrev home : Nodes
home = one (place (call (codes "card") no_attributes bold no_entries))

abbrev carded : World
carded = world_of (record { templates = card ∷ record { name = codes "home"; nodes = home } ∷ []; bodies = bold ∷ []; modules = [] }) home views

abbrev changed : Stepped
changed = event_after carded (joined carded) (codes "2") (codes "next")

-- change inside a slot: it is found through the names that the slot captured
example_slot_change_tree : carried_text (joined carded) ≡ codes "{\"0\":{\"0\":{\"0\":{\"0\":\"1\",\"s\":[\"<b>\",\"</b>\"]},\"s\":[\"\",\"\"]},\"s\":[\"<div>\",\"</div>\"]},\"s\":[\"\",\"\"]}" ∷ []
unfolding digits escape_byte
example_slot_change_tree = refl

example_slot_change_diff : carried_text changed ≡ codes "{\"0\":{\"0\":{\"0\":{\"0\":\"2\"}}}}" ∷ []
unfolding digits escape_byte
example_slot_change_diff = refl

example_slot_change_shown : client_page carded ((joined carded).frames ++ changed.frames) ≡ Some (Some (codes "<div><b>2</b></div>"))
example_slot_change_shown = refl

example_slot_change_rendered : full_page carded changed ≡ Some (Ok (codes "<div><b>2</b></div>"))
example_slot_change_rendered = refl

-- `outer` is `<.card>{render_slot(@inner_block)}</.card>`, and the page is `<.outer>{@m}</.outer>`
abbrev passed_on : Body
passed_on = slot_body 1 any content

abbrev outer : Template
outer = record { name = codes "outer"; nodes = one (place (call (codes "card") no_attributes passed_on no_entries)) }

abbrev bare : Body
bare = slot_body 0 any (one (put_assign (codes "m")))

abbrev outer_home : Nodes
outer_home = one (place (call (codes "outer") no_attributes bare no_entries))

abbrev twice : World
twice = world_of (record { templates = card ∷ record { name = codes "home"; nodes = outer_home } ∷ outer ∷ []; bodies = bare ∷ passed_on ∷ []; modules = [] }) outer_home views

abbrev changed_twice : Stepped
changed_twice = event_after twice (joined twice) (codes "2") (codes "next")

-- a slot that holds a slot: the captured names go through both
example_slot_change_twice_tree : carried_text (joined twice)
    ≡ codes "{\"0\":{\"0\":{\"0\":{\"0\":{\"0\":{\"0\":{\"0\":\"1\",\"s\":[\"\",\"\"]},\"s\":[\"\",\"\"]},\"s\":[\"\",\"\"]},\"s\":[\"\",\"\"]},\"s\":[\"<div>\",\"</div>\"]},\"s\":[\"\",\"\"]},\"s\":[\"\",\"\"]}" ∷ []
unfolding digits escape_byte
example_slot_change_twice_tree = refl

example_slot_change_twice_diff : carried_text changed_twice ≡ codes "{\"0\":{\"0\":{\"0\":{\"0\":{\"0\":{\"0\":{\"0\":\"2\"}}}}}}}" ∷ []
unfolding digits escape_byte
example_slot_change_twice_diff = refl

example_slot_change_twice_shown : client_page twice ((joined twice).frames ++ changed_twice.frames) ≡ Some (Some (codes "<div>2</div>"))
example_slot_change_twice_shown = refl

example_slot_change_twice_rendered : full_page twice changed_twice ≡ Some (Ok (codes "<div>2</div>"))
example_slot_change_twice_rendered = refl
