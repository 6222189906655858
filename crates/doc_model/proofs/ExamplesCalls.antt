-- Worked examples: what a call passes, and what `render_slot` makes of it.
use Rattle.std.proofs.Common.{◌≡◌, ℕ, List, [], ◌∷◌, Some, None, Ok, Err, codes, refl}
use Rattle.std.specs.Fmt.{digits}
use Rattle.value_core.specs.Value.{no_assigns}
use Rattle.value_core.specs.declared.raise.Raise.TheVariants.{BadArgument, NoAssign}
use Rattle.ast_core.specs.declared.operators.BinaryOp.TheVariants.{Less}
use Rattle.ast_core.specs.Syntax.{Expr, binary, nil_of, any, named, Attributes, no_attributes, written, double_quoted, valued, spread_of, call, render_slot, Nodes, Body, slot_body, Entries, no_entries, entry, Linked}
use Rattle.doc_model.specs.Evaluation.{Res}
use Rattle.doc_model.specs.Bundle.{site_of}
use Rattle.doc_model.specs.FullRendering.{full_render}
use Rattle.doc_model.proofs.ExampleParts.{here, place, words, one, no_body, quote, int, assigned, variable, list_expr, map_expr, put_assign, put_variable, scope}

-- a page that calls `t`, with these slot bodies in the bundle
abbrev calling : Nodes → List Body → Attributes → Body → Entries → Res (List ℕ)
calling t bs xs content es = full_render (site_of linked) 41 (scope no_assigns) (one (place (call (codes "t") xs content es)))
  where
    linked : Linked
    linked = record { templates = record { name = codes "t"; nodes = t } ∷ []; bodies = bs; modules = [] }

-- `{@a}` under these attributes
abbrev passing : Attributes → Res (List ℕ)
passing xs = calling (one (put_assign (codes "a"))) [] xs no_body no_entries

abbrev a_is : List ℕ → Expr
a_is t = map_expr ((codes "a", quote t) ∷ [])

-- a written attribute holds over every spread, and of two spreads the later
example_written_over_spread : passing (written (codes "a") (double_quoted (codes "1")) (spread_of (a_is (codes "2")) no_attributes)) ≡ Ok (codes "1")
example_written_over_spread = refl

example_later_spread : passing (spread_of (a_is (codes "1")) (spread_of (a_is (codes "2")) no_attributes)) ≡ Ok (codes "2")
example_later_spread = refl

-- `{render_slot(@inner_block)}` and `{render_slot(@s, 1)}`
abbrev content_of : Nodes
content_of = one (place (render_slot (assigned (codes "inner_block")) nil_of))

abbrev slot_of : Expr → Nodes
slot_of a = one (place (render_slot (assigned (codes "s")) a))

abbrev body : Body
body = slot_body 0 any (one (words (codes "x")))

-- content holds over an attribute of its name, and blank content is no entry
example_content_over_attribute : calling content_of (body ∷ []) (written (codes "inner_block") (double_quoted (codes "1")) no_attributes) body no_entries ≡ Ok (codes "x")
example_content_over_attribute = refl

example_blank_content : calling content_of [] no_attributes (slot_body 0 any (one (words (codes " \n")))) no_entries ≡ Ok []
example_blank_content = refl

-- a slot over an attribute of its name; without `:let` the argument is not bound, but evaluated
example_slot_over_attribute : calling (slot_of (int 1)) (body ∷ []) (written (codes "s") (double_quoted (codes "1")) no_attributes) no_body (entry here (codes "s") no_attributes None None body no_entries) ≡ Ok (codes "x")
example_slot_over_attribute = refl

example_argument_evaluated : calling (slot_of (assigned (codes "b"))) (body ∷ []) no_attributes no_body (entry here (codes "s") no_attributes None None body no_entries) ≡ Err NoAssign
example_argument_evaluated = refl

-- `:for` stands outside `:if`: `<:s :for={k <- [1, 2, 3]} :if={k < 3} v={k}>{k}</:s>`
abbrev row_body : Body
row_body = slot_body 0 any (one (put_variable (codes "k")))

abbrev row_entry : Entries
row_entry = entry here (codes "s") (valued (codes "v") (variable (codes "k")) no_attributes) (Some (record { pattern = named (codes "k"); items = list_expr (int 1 ∷ int 2 ∷ int 3 ∷ []) }))
    (Some (binary Less (variable (codes "k")) (int 3))) row_body no_entries

example_entries_of_loop : calling (slot_of nil_of) (row_body ∷ []) no_attributes no_body row_entry ≡ Ok (codes "12")
unfolding digits
example_entries_of_loop = refl

-- no entries: nil, and an absent slot raises
example_no_entries : calling (slot_of nil_of) [] (valued (codes "s") nil_of no_attributes) no_body no_entries ≡ Ok []
example_no_entries = refl

example_no_slot : calling (slot_of nil_of) [] no_attributes no_body no_entries ≡ Err NoAssign
example_no_slot = refl

-- an entry is a map with a slot under `inner_block`
example_no_entry : calling (slot_of nil_of) [] (valued (codes "s") (map_expr []) no_attributes) no_body no_entries ≡ Err BadArgument
example_no_entry = refl

example_no_entry_list : calling (slot_of nil_of) [] (valued (codes "s") (list_expr (int 1 ∷ [])) no_attributes) no_body no_entries ≡ Err BadArgument
example_no_entry_list = refl
