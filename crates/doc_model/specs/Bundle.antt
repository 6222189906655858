-- What a linked bundle gives to a rendering.
use Rattle.std.specs.Prelude.{ℕ, List, [], ◌∷◌, Bool, true, false, ◌==◌, if◌then◌else◌}
use Rattle.std.specs.Str.{bytes_eq}
use Rattle.ast_core.specs.Syntax.{any, Nodes, no_nodes, Body, slot_body, Template, Module, Linked}
use Rattle.diff_tree.specs.Mark.{with_mark}
use Rattle.doc_model.specs.Scopes.{SlotBody, Site}

-- the nodes of a template by its name
abbrev pub template_in : List Template → List ℕ → Nodes
template_in [] n = no_nodes
template_in (t ∷ ts) n = if bytes_eq n t.name then t.nodes else template_in ts n

-- the template's name of a module
abbrev pub root_in : List Module → List ℕ → List ℕ
root_in [] m = []
root_in (d ∷ ds) m = if bytes_eq m d.name then d.template else root_in ds m

-- whether a slot body has this number
abbrev pub has_body_in : List Body → ℕ → Bool
has_body_in [] n = false
has_body_in (slot_body m p ns ∷ bs) n = if n == m then true else has_body_in bs n

-- the slot body of a number
abbrev pub body_in : List Body → ℕ → SlotBody
body_in [] n = record { pattern = any; nodes = no_nodes }
body_in (slot_body m p ns ∷ bs) n = if n == m then record { pattern = p; nodes = ns } else body_in bs n

-- the site of a linked bundle
abbrev pub site_of : Linked → Site
site_of l = record {
  template = template_in l.templates;
  has_body = has_body_in l.bodies;
  body = body_in l.bodies;
  root = λ m. template_in l.templates (root_in l.modules m);
  mark = with_mark;
}
