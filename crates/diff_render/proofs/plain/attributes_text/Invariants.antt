use Rattle.std.proofs.Common.{◌≡◌, ℕ, List, drop}
use Rattle.ast_core.specs.NodeView.{attributes_view}
use Rattle.doc_model.specs.FullRendering.{full_attributes}
use Rattle.doc_model.specs.Scopes.{Deeper}
use Rattle.diff_render.specs.Scope.{alone, scope_in}
use Rattle.diff_render.proofs.Texts.{behind}
use Rattle.diff_render.proofs.plain.attributes_text.Given as goal

-- the text so far, and then what is left
abbrev pub invariant-attributes : goal.invariant-attributes
invariant-attributes l =
    (go : Deeper (List ℕ)) → full_attributes alone go (scope_in l.assigns l.variables) (attributes_view l.attribute-items)
    ≡ behind l.text (full_attributes alone go (scope_in l.assigns l.variables) (attributes_view (drop l.attribute-index l.attribute-items)))
