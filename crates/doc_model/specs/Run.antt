-- The renderings of a process since a join, from the walk's side.
use Rattle.std.specs.Prelude.{◌≡◌, ℕ, ◌+◌, ◌≤◌, List, [], ◌∷◌, Option, Some, None, false, Ok}
use Rattle.ast_core.specs.Syntax.{Nodes}
use Rattle.doc_model.specs.Environment.{Stream, Component, Env}
use Rattle.doc_model.specs.Trace.{Items}
use Rattle.doc_model.specs.Left.{Containers, Based}
use Rattle.ast_core.specs.Places.{Once, streams_in, cut}
use Rattle.doc_model.specs.Once.{left, left_to}
use Rattle.doc_model.specs.Components.{HeldTree, depth, whole_tree, parts, Distinct}
use Rattle.diff_tree.specs.Client.{show_tree}
use Rattle.doc_model.specs.Laws.{Gives}
use Rattle.doc_model.specs.Scopes.{Site}
use Rattle.doc_model.specs.FullRendering.{full_render}
use Rattle.doc_model.specs.Tracing.{trace}
use Rattle.diff_tree.specs.Client.{opened_tree}
use Rattle.doc_model.specs.Session.{Rendering, latest, taken}
use Rattle.doc_model.specs.Table.{IsTable, Honest, SettledAs}
use Rattle.doc_model.specs.Walk.{Views, Walk, in_state, render_state}

-- a rendering: the view's scope and the components before it, what it met, and the components after it
pub record Turn (X : Type 0) : Type 0 where
  pub env : Env
  pub before : Walk X
  pub items : Items
  pub after : Walk X

-- the turn is one rendering
abbrev pub Renders : {X : Type 0} → Views X → Site → ℕ → Nodes → Turn X → Type 0
Renders views site k ns t = render_state views site k t.env ns t.before ≡ Ok (t.items, t.after)

-- a join's turn: no component, and empty streams
abbrev pub Joins : {X : Type 0} → Views X → Site → ℕ → Nodes → Turn X → Type 0
Joins views site k ns t = Renders views site k ns t × (t.before.components ≡ []) × Based (λ s. []) t.env.streams

-- a later turn: handlers change assigns and batches; containers are those that the turn before left
abbrev pub Turns : {X : Type 0} → Views X → Site → ℕ → Nodes → Turn X → List (Turn X) → Type 0
Turns views site k ns t [] = Unit {0}
Turns views site k ns t (u ∷ us) =
    Renders views site k ns u × (u.before.next ≡ t.after.next) × SettledAs (left_to site.mark t.items) t.after.components u.before.components × Based (left site.mark t.items) u.env.streams
    × Turns views site k ns u us

-- what a turn met, in the state that it left
abbrev pub rendering_of : {X : Type 0} → ℕ → Turn X → Rendering
rendering_of k t = record { level = k; env = in_state t.after.components t.env; items = t.items }

-- the same of each turn
abbrev pub renderings_of : {X : Type 0} → ℕ → List (Turn X) → List Rendering
renderings_of k [] = []
renderings_of k (t ∷ ts) = rendering_of k t ∷ renderings_of k ts

-- for every list of renderings since a join, the merged frames are defined and whole, and show the full rendering of the latest state
abbrev pub SessionShows : Type 0 → Type 0
SessionShows X = (views : Views X) (site : Site) (k : ℕ) (ns : Nodes) (t : Turn X) (ts : List (Turn X))
    → Honest views → Once (streams_in ns) → ((m : List ℕ) → Once (streams_in (site.root m))) → Joins views site k ns t → Turns views site k ns t ts
    → Gives (λ p. HeldTree site.mark (cut ns) (latest (rendering_of k t) (renderings_of k ts)).items p
    × ((n : ℕ) → depth (latest (rendering_of k t) (renderings_of k ts)).items ≤ n
    → full_render site k (latest (rendering_of k t) (renderings_of k ts)).env ns ≡ Ok (show_tree site.mark n p)))
    (taken (k + k) ns (rendering_of k t) (renderings_of k ts))

-- a state after its batches were applied: the containers that were left, and empty batches
abbrev pub settled_stream : Containers → List ℕ → Stream
settled_stream f s = record { shown = f s; waiting = record { reset = false; deletes = []; inserts = [] } }

-- components after their batches were applied
abbrev pub settled_components : (ℕ → Containers) → List Component → List Component
settled_components f [] = []
settled_components f (c ∷ cs) = record c { streams = settled_stream (f c.number) } ∷ settled_components f cs

-- an owner after its batches were applied
abbrev pub settled_streams : Containers → Option (List ℕ → Stream) → Option (List ℕ → Stream)
settled_streams f None = None
settled_streams f (Some g) = Some (settled_stream f)

-- a scope after all batches were applied
abbrev pub settled_env : Containers → (ℕ → Containers) → Env → Env
settled_env root f env = record { assigns = env.assigns; variables = env.variables; streams = settled_streams root env.streams; components = settled_components f env.components }

-- the page of the settled state is the page that the rendering showed
abbrev pub SettledShows : Type 0
SettledShows = (site : Site) (k n : ℕ) (env : Env) (ns : Nodes) (is : Items) → trace site k env ns ≡ Ok is → IsTable n env.components → Distinct (parts is) → Once (streams_in ns) → ((m : List ℕ) → Once (streams_in (site.root m)))
    → full_render site k (settled_env (left site.mark is) (left_to site.mark is) env) ns ≡ full_render site k env ns
