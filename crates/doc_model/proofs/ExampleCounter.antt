-- The LiveComponent of the examples.
use Rattle.std.proofs.Common.{ℕ, List, [], ◌∷◌, codes}
use Rattle.ast_core.specs.declared.operators.BinaryOp.TheVariants.{Plus}
use Rattle.ast_core.specs.Syntax.{Expr, binary, Attributes, no_attributes, written, double_quoted, valued, module_of, live_call, Node, Nodes, no_entries, Linked}
use Rattle.doc_model.specs.Process.{World}
use Rattle.doc_model.proofs.ExampleParts.{tag, place, words, one, all_nodes, no_body, put_assign, int, assigned}
use Rattle.doc_model.proofs.ExampleWorlds.{Step, assign_step, Events, scripted, world_of}

-- `<p>{@id}:{@n}</p>`
abbrev counter : Nodes
counter = one (tag (codes "p") no_attributes (all_nodes (put_assign (codes "id") ∷ words (codes ":") ∷ put_assign (codes "n") ∷ [])))

abbrev bundle : Nodes → Linked
bundle home = record {
  templates = record { name = codes "counter"; nodes = counter } ∷ record { name = codes "home"; nodes = home } ∷ [];
  bodies = [];
  modules = record { name = codes "Counter"; template = codes "counter" } ∷ [];
}

-- its mount assigns `n` 0, and its event `inc` adds 1
abbrev pub counter_world : Nodes → List Step → Events → World
counter_world home mount events = world_of (bundle home) home (scripted mount events
    (assign_step (codes "n") (int 0) ∷ []) ((codes "inc", assign_step (codes "n") (binary Plus (assigned (codes "n")) (int 1)) ∷ []) ∷ []))

abbrev live_with : Attributes → Node
live_with id = place (live_call (module_of (codes "Counter") id) no_body no_entries)

-- `<.live_component module={Counter} id="i" />`
abbrev pub live_named : List ℕ → Node
live_named i = live_with (written (codes "id") (double_quoted i) no_attributes)

-- `<.live_component module={Counter} id={e} />`
abbrev pub live_valued : Expr → Node
live_valued e = live_with (valued (codes "id") e no_attributes)
