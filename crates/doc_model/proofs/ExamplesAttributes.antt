-- Worked examples: escapes and attributes.
use Rattle.std.proofs.Common.{◌≡◌, ℕ, List, [], ◌∷◌, ◌++◌, true, false, Ok, Some, codes, refl}
use Rattle.std.specs.Fmt.{digits}
use Rattle.json.specs.Print.{escape_byte}
use Rattle.ast_core.specs.Syntax.{Attributes, no_attributes, valued, nil_of, boolean_of, put, no_nodes}
use Rattle.doc_model.specs.Process.{World, Stepped}
use Rattle.doc_model.proofs.ExampleParts.{tag, place, one, all_nodes, put_assign, quote, assigned, list_expr}
use Rattle.doc_model.proofs.ExampleWorlds.{assign_step, page_alone, joined, event_after, carried_text, client_page, full_page}

abbrev attributes : Attributes
attributes =
    valued (codes "title") (assigned (codes "t")) (valued (codes "id") nil_of (valued (codes "hidden") (boolean_of true) (valued (codes "lang") (boolean_of false)
    (valued (codes "class") (list_expr (quote (codes "x") ∷ nil_of ∷ boolean_of false ∷ quote (codes "y") ∷ [])) no_attributes))))

-- `<a title={@t} id={nil} hidden={true} lang={false} class={["x", nil, false, "y"]}>{@t}{nil}</a>`
abbrev escaping : World
escaping = page_alone (one (tag (codes "a") attributes (all_nodes (put_assign (codes "t") ∷ place (put nil_of) ∷ []))))
    (assign_step (codes "t") (quote (codes "<&\"'>")) ∷ []) ((codes "plain", assign_step (codes "t") (quote (codes "k")) ∷ []) ∷ [])

abbrev start : Stepped
start = joined escaping

abbrev plainly : Stepped
plainly = event_after escaping start (codes "2") (codes "plain")

abbrev page : List ℕ
page = codes "<a title=\"&lt;&amp;&quot;&#39;&gt;\" hidden class=\"x y\">&lt;&amp;&quot;&#39;&gt;</a>"

example_escapes_and_attributes_tree : carried_text start
    ≡ codes "{\"0\":\" title=\\\"&lt;&amp;&quot;&#39;&gt;\\\"\",\"1\":\"\",\"2\":\" hidden\",\"3\":\"\",\"4\":\" class=\\\"x y\\\"\",\"5\":\"&lt;&amp;&quot;&#39;&gt;\",\"6\":\"\",\"s\":[\"<a\",\"\",\"\",\"\",\"\",\">\",\"\",\"</a>\"]}" ∷ []
unfolding digits escape_byte
example_escapes_and_attributes_tree = refl

example_escapes_and_attributes_shown : client_page escaping start.frames ≡ Some (Some page)
example_escapes_and_attributes_shown = refl

example_escapes_and_attributes_rendered : full_page escaping start ≡ Some (Ok page)
example_escapes_and_attributes_rendered = refl

-- only the places that read `@t` are sent
example_escapes_and_attributes_diff : carried_text plainly ≡ codes "{\"0\":\" title=\\\"k\\\"\",\"5\":\"k\"}" ∷ []
unfolding digits escape_byte
example_escapes_and_attributes_diff = refl

example_escapes_and_attributes_changed : client_page escaping (start.frames ++ plainly.frames) ≡ Some (Some (codes "<a title=\"k\" hidden class=\"x y\">k</a>"))
example_escapes_and_attributes_changed = refl

-- `<i class={nil}></i>`: a class is printed also where it is nil
abbrev classless : World
classless = page_alone (one (tag (codes "i") (valued (codes "class") nil_of no_attributes) no_nodes)) [] []

example_escapes_and_attributes_class_tree : carried_text (joined classless) ≡ codes "{\"0\":\" class=\\\"\\\"\",\"s\":[\"<i\",\"></i>\"]}" ∷ []
unfolding digits escape_byte
example_escapes_and_attributes_class_tree = refl

example_escapes_and_attributes_class : client_page classless (joined classless).frames ≡ Some (Some (codes "<i class=\"\"></i>"))
example_escapes_and_attributes_class = refl
