-- The table of components between two renderings.
use Rattle.std.specs.Prelude.{◌≡◌, ℕ, ◌<◌, ◌≤◌, List, [], ◌∷◌, None, false, ◌&&◌, Ok}
use Rattle.std.specs.Str.{bytes_eq}
use Rattle.value_core.specs.Value.{Assigns, same}
use Rattle.ast_core.specs.Syntax.{Nodes}
use Rattle.doc_model.specs.Environment.{Component, Env, find}
use Rattle.doc_model.specs.Trace.{Items}
use Rattle.doc_model.specs.Left.{Containers, Leaves, Based}
use Rattle.doc_model.specs.Components.{parts, part_at, AllOf, Lives, Distinct, Follows}
use Rattle.doc_model.specs.Scopes.{Site}
use Rattle.ast_core.specs.Places.{places_in}
use Rattle.doc_model.specs.Tracing.{trace}
use Rattle.doc_model.specs.Walk.{Owner, Views, Walk, in_state, render_state}

-- numbers are below the next one; no two components have one number or one pair
abbrev pub IsTable : ℕ → List Component → Type 0
IsTable n [] = Unit {0}
IsTable n (c ∷ cs) = (c.number < n) × ((d : Component) → Lives d cs → (d.number ≡ c.number → ⊥) × ((bytes_eq c.module_name d.module_name && same c.id d.id) ≡ false)) × IsTable n cs

-- a component was there, with the same number and pair and with its containers, or it is new and begins with empty ones
abbrev pub WasThere : List Component → Component → Type 0
WasThere cs d = (c : Component) × Lives c cs × (c.number ≡ d.number) × (c.module_name ≡ d.module_name) × (c.id ≡ d.id) × ((x : List ℕ) → (d.streams x).shown ≡ (c.streams x).shown)

-- a component that was not there begins with empty containers
abbrev pub IsNew : ℕ → List Component → Component → Type 0
IsNew n cs d = (n ≤ d.number) × (find d.module_name d.id cs ≡ None) × ((x : List ℕ) → (d.streams x).shown ≡ [])

-- handlers write to batches alone: containers change at renderings
pub record Honest {X : Type 0} (views : Views X) : Type 0 where
  pub begins_empty : (m : List ℕ) (n : ℕ) (as' : Assigns) (r : X) (o : Owner) (t : X) → views.mounted m n as' r ≡ Ok (o, t) → (x : List ℕ) → (o.streams x).shown ≡ []
  pub keeps : (m : List ℕ) (o : Owner) (as' : Assigns) (r : X) (p : Owner) (t : X) → views.updated m o as' r ≡ Ok (p, t) → (x : List ℕ) → (p.streams x).shown ≡ (o.streams x).shown

-- the same components, each with the containers that `f` gives its number, and whatever handlers made of the rest
abbrev pub SettledAs : (ℕ → Containers) → List Component → List Component → Type 0
SettledAs f [] [] = Unit {0}
SettledAs f (c ∷ cs) (d ∷ ds) = (c.number ≡ d.number) × (c.module_name ≡ d.module_name) × (c.id ≡ d.id) × ((x : List ℕ) → (d.streams x).shown ≡ f d.number x) × SettledAs f cs ds
SettledAs f _ _ = ⊥

-- the containers that a rendering leaves to each owner
pub record LeftBehind (site : Site) (ns : Nodes) (cs : List Component) (is : Items) (root : Containers) (f : ℕ → Containers) : Type 0 where
  pub root_left : Leaves site.mark root (places_in ns) is
  pub part_left : AllOf (λ q. (c : Component) → Lives c cs → c.number ≡ q.number → Leaves site.mark (f q.number) (places_in (site.root c.module_name)) q.items) (parts is)
  pub none_left : (n : ℕ) → part_at n (parts is) ≡ None → (s : List ℕ) → f n s ≡ []

-- the facts of the induction over a journal: after a rendering that follows, the new state follows the old one, and no two components share a number
abbrev pub NextFollows : Type 0 → Type 0
NextFollows X = (views : Views X) (site : Site) (k l : ℕ) (a e : Env) (ns : Nodes) (is is' : Items) (root : Containers) (f : ℕ → Containers) (s t : Walk X)
    → Honest views → IsTable s.next a.components → trace site l a ns ≡ Ok is → LeftBehind site ns a.components is root f
    → SettledAs f a.components s.components → Based root e.streams → render_state views site k e ns s ≡ Ok (is', t)
    → Follows site ns a (in_state t.components e) is × Distinct (parts is') × IsTable t.next t.components
