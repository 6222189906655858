-- Worked examples: branches with equal statics, and a comprehension that empties and fills.
use Rattle.std.proofs.Common.{◌≡◌, ℕ, List, [], ◌∷◌, ◌++◌, map, true, Ok, Some, codes, refl}
use Rattle.std.specs.Fmt.{digits}
use Rattle.json.specs.Print.{escape_byte}
use Rattle.ast_core.specs.declared.operators.UnaryOp.TheVariants.{Not}
use Rattle.ast_core.specs.Syntax.{boolean_of, unary, named, no_attributes, if_place, for_place, Nodes}
use Rattle.doc_model.specs.Process.{World, Stepped}
use Rattle.doc_model.proofs.ExampleParts.{tag, place, one, put_assign, put_variable, quote, int, assigned, list_expr}
use Rattle.doc_model.proofs.ExampleWorlds.{Step, assign_step, page_alone, joined, event_after, carried_text, client_page, full_page}

abbrev bold : List ℕ → Nodes
bold k = one (tag (codes "b") no_attributes (one (put_assign k)))

-- `<%= if @a do %><b>{@x}</b><% else %><b>{@y}</b><% end %>`
abbrev branches : World
branches = page_alone (one (place (if_place (assigned (codes "a")) (bold (codes "x")) (bold (codes "y")))))
    (assign_step (codes "x") (quote (codes "1")) ∷ assign_step (codes "y") (quote (codes "2")) ∷ assign_step (codes "a") (boolean_of true) ∷ [])
    ((codes "flip", assign_step (codes "a") (unary Not (assigned (codes "a"))) ∷ []) ∷ [])

abbrev first_branch : Stepped
first_branch = joined branches

abbrev flipped : Stepped
flipped = event_after branches first_branch (codes "2") (codes "flip")

-- branches with equal statics: the other branch is sent whole
example_equal_statics_tree : carried_text first_branch ≡ codes "{\"0\":{\"0\":\"1\",\"s\":[\"<b>\",\"</b>\"]},\"s\":[\"\",\"\"]}" ∷ []
unfolding digits escape_byte
example_equal_statics_tree = refl

example_equal_statics_diff : carried_text flipped ≡ codes "{\"0\":{\"0\":\"2\",\"s\":[\"<b>\",\"</b>\"]}}" ∷ []
unfolding digits escape_byte
example_equal_statics_diff = refl

example_equal_statics_shown : client_page branches (first_branch.frames ++ flipped.frames) ≡ Some (Some (codes "<b>2</b>"))
example_equal_statics_shown = refl

example_equal_statics_rendered : full_page branches flipped ≡ Some (Ok (codes "<b>2</b>"))
example_equal_statics_rendered = refl

abbrev to : List ℕ → List Step
to ns = assign_step (codes "l") (list_expr (map int ns)) ∷ []

-- `<ul><%= for x <- @l do %><li>{x}</li><% end %></ul>`, from `[1, 2, 3]` on
abbrev listing : World
listing = page_alone (one (tag (codes "ul") no_attributes (one (place (for_place (named (codes "x")) (assigned (codes "l")) (one (tag (codes "li") no_attributes (one (put_variable (codes "x"))))))))))
    (to (1 ∷ 2 ∷ 3 ∷ [])) ((codes "none", to []) ∷ (codes "two", to (4 ∷ 5 ∷ [])) ∷ (codes "one", to (6 ∷ [])) ∷ [])

abbrev three : Stepped
three = joined listing

abbrev none : Stepped
none = event_after listing three (codes "2") (codes "none")

abbrev two : Stepped
two = event_after listing none (codes "3") (codes "two")

abbrev last : Stepped
last = event_after listing two (codes "4") (codes "one")

-- comprehension: its rows, then none, then rows with their statics again, then rows alone
example_comprehension_tree : carried_text three ≡ codes "{\"0\":{\"d\":[[\"1\"],[\"2\"],[\"3\"]],\"s\":[\"<li>\",\"</li>\"]},\"s\":[\"<ul>\",\"</ul>\"]}" ∷ []
unfolding digits escape_byte
example_comprehension_tree = refl

example_comprehension_emptied_diff : carried_text none ≡ codes "{\"0\":\"\"}" ∷ []
unfolding digits escape_byte
example_comprehension_emptied_diff = refl

example_comprehension_filled_diff : carried_text two ≡ codes "{\"0\":{\"d\":[[\"4\"],[\"5\"]],\"s\":[\"<li>\",\"</li>\"]}}" ∷ []
unfolding digits escape_byte
example_comprehension_filled_diff = refl

example_comprehension_changed_diff : carried_text last ≡ codes "{\"0\":{\"d\":[[\"6\"]]}}" ∷ []
unfolding digits escape_byte
example_comprehension_changed_diff = refl

-- what the client shows after each of the four
example_comprehension_shown : client_page listing three.frames ≡ Some (Some (codes "<ul><li>1</li><li>2</li><li>3</li></ul>"))
unfolding digits
example_comprehension_shown = refl

example_comprehension_emptied_shown : client_page listing (three.frames ++ none.frames) ≡ Some (Some (codes "<ul></ul>"))
unfolding digits
example_comprehension_emptied_shown = refl

example_comprehension_filled_shown : client_page listing (three.frames ++ (none.frames ++ two.frames)) ≡ Some (Some (codes "<ul><li>4</li><li>5</li></ul>"))
unfolding digits
example_comprehension_filled_shown = refl

example_comprehension_changed_shown : client_page listing (three.frames ++ (none.frames ++ (two.frames ++ last.frames))) ≡ Some (Some (codes "<ul><li>6</li></ul>"))
unfolding digits
example_comprehension_changed_shown = refl

example_comprehension_rendered : full_page listing last ≡ Some (Ok (codes "<ul><li>6</li></ul>"))
unfolding digits
example_comprehension_rendered = refl
