-- Worked examples: how attributes and spreads are printed, and what raises there.
use Rattle.std.proofs.Common.{◌≡◌, ℕ, List, [], ◌∷◌, Ok, Err, true, false, codes, refl}
use Rattle.std.specs.Fmt.{digits}
use Rattle.value_core.specs.Value.{no_assigns}
use Rattle.value_core.specs.declared.raise.Raise.TheVariants.{BadArgument, NotPrintable}
use Rattle.ast_core.specs.Syntax.{Expr, nil_of, boolean_of, Attributes, no_attributes, valued, spread_of, no_nodes}
use Rattle.doc_model.specs.Evaluation.{Res}
use Rattle.doc_model.specs.Bundle.{site_of}
use Rattle.doc_model.specs.FullRendering.{full_render}
use Rattle.doc_model.proofs.ExampleParts.{tag, one, quote, int, list_expr, map_expr, scope}
use Rattle.doc_model.proofs.ExampleWorlds.{home_alone}

-- an element without children
abbrev element_with : Attributes → Res (List ℕ)
element_with xs = full_render (site_of home_alone) 41 (scope no_assigns) (one (tag (codes "i") xs no_nodes))

abbrev with_attribute : List ℕ → Expr → Res (List ℕ)
with_attribute n e = element_with (valued n e no_attributes)

abbrev with_spread : Expr → Res (List ℕ)
with_spread e = element_with (spread_of e no_attributes)

-- `class={["a", ["b", nil], true, 3]}`: nested lists are flattened
example_class_list : with_attribute (codes "class") (list_expr (quote (codes "a") ∷ list_expr (quote (codes "b") ∷ nil_of ∷ []) ∷ boolean_of true ∷ int 3 ∷ [])) ≡ Ok (codes "<i class=\"a b true 3\"></i>")
unfolding digits
example_class_list = refl

example_class_true : with_attribute (codes "class") (boolean_of true) ≡ Ok (codes "<i class></i>")
example_class_true = refl

example_class_item : with_attribute (codes "class") (list_expr (map_expr [] ∷ [])) ≡ Err NotPrintable
example_class_item = refl

-- only `class` takes a list
example_style_false : with_attribute (codes "style") (boolean_of false) ≡ Ok (codes "<i style=\"\"></i>")
example_style_false = refl

example_style_list : with_attribute (codes "style") (list_expr []) ≡ Err NotPrintable
example_style_list = refl

example_title_list : with_attribute (codes "title") (list_expr []) ≡ Err NotPrintable
example_title_list = refl

-- a spread has its entries in the order of their keys, by the same rules
example_spread : with_spread (map_expr ((codes "b", quote (codes "<")) ∷ (codes "class", nil_of) ∷ (codes "a", boolean_of true) ∷ (codes "c", boolean_of false) ∷ []))
    ≡ Ok (codes "<i a b=\"&lt;\" class=\"\"></i>")
example_spread = refl

example_spread_nil : with_spread nil_of ≡ Ok (codes "<i></i>")
example_spread_nil = refl

example_spread_number : with_spread (int 5) ≡ Err BadArgument
example_spread_number = refl

example_spread_name : with_spread (map_expr ((codes "a b", int 5) ∷ [])) ≡ Err BadArgument
example_spread_name = refl

example_spread_no_name : with_spread (map_expr ((codes "", int 5) ∷ [])) ≡ Err BadArgument
example_spread_no_name = refl
