-- What the renderer answers: the whole tree, and the lean diff.
use Rattle.std.specs.Prelude.{◌≡◌, ℕ, List, Option, option_map, Result, Ok, Err}
use Rattle.serde_json.specs.Data.{Data, object}
use Rattle.text_core.specs.declared.by_key.KeyValue.{KeyValue}
use Rattle.value_core.specs.Value.{Assigns, no_assigns}
use Rattle.value_core.specs.View.{assigns_view}
use Rattle.value_core.specs.declared.raise.Raise.{Raise}
use Rattle.value_core.specs.declared.value.Value.{Value}
use Rattle.ast_core.specs.Places.{cut, places_in}
use Rattle.ast_core.specs.Syntax.{Nodes, Place}
use Rattle.slot_compile.specs.Numbering.{node_at}
use Rattle.slot_compile.specs.Template.{Source, syntax_of, IsPlain}
use Rattle.expr_eval.specs.declared.variables.Variables.{Variables}
use Rattle.diff_tree.specs.Tree.{node}
use Rattle.diff_tree.specs.Spelling.{tree_json, change_json, changes_json}
use Rattle.diff_tree.specs.Parts.{part_data, place_data}
use Rattle.diff_tree.specs.declared.part.Part.{Part}
use Rattle.diff_tree.specs.declared.part.PlaceValue.{PlaceValue}
use Rattle.diff_tree.specs.declared.part.Row.{Row}
use Rattle.doc_model.specs.Environment.{Env, bind, inside}
use Rattle.doc_model.specs.Evaluation.{Res}
use Rattle.doc_model.specs.Scopes.{Chosen, Site}
use Rattle.doc_model.specs.FullRendering.{full_render}
use Rattle.doc_model.specs.Process.{levels}
use Rattle.doc_model.specs.Trace.{Items, Item, ItemRows}
use Rattle.doc_model.specs.Tracing.{trace, trace_place, trace_rows}
use Rattle.doc_model.specs.Whole.{whole_place, whole_places, whole_rows}
use Rattle.doc_model.specs.Lean.{lean_place, lean_places}
use Rattle.assigns_track.specs.declared.tracked.Tracked.{Tracked}
use Rattle.diff_render.specs.Answers.{Answers}
use Rattle.diff_render.specs.declared.choice.Choice.{Choice}
use Rattle.diff_render.specs.declared.fault.RenderFault.{RenderFault}
use Rattle.diff_render.specs.declared.fault.RenderFault.TheVariants as fault
use Rattle.diff_render.specs.declared.print.Print.{Print}
use Rattle.diff_render.specs.Prints.{Prints, of_branch, Remembers, RemembersAll, RemembersRows, print_view, prints_view, rows_view}
use Rattle.diff_render.specs.Scope.{AreScopes, alone, scope_in, scope_of}
use Rattle.diff_render.specs.Taken.{IsChoice}
use Rattle.diff_render.specs.Tracked.{HasSettled, present}
use Rattle.diff_render.specs.Values.{changes_seen, option_seen, options_seen, rows_in, rows_seen, trees_seen, values_seen}

-- ---- a place and a node of a template, in a scope

-- what is sent of a place that is written whole, and what is remembered of it
pub record IsWhole (template : Nodes) (env : Env) (p : Place) (r : PlaceValue × Print) (i : Item) : Type 0 where
  pub value : place_data r.0 ≡ tree_json (whole_place i)
  pub remembered : Remembers template env (print_view r.1) p

-- the same of all places of a node
pub record AreWhole (template : Nodes) (env : Env) (ps : List Place) (r : List PlaceValue × List Print) (is : Items) : Type 0 where
  pub values : values_seen r.0 ≡ trees_seen (whole_places is)
  pub remembered : RemembersAll template env (prints_view r.1) ps

-- a node, with its statics
pub record IsWholeNode (template : Nodes) (env : Env) (ns : Nodes) (r : Part × List Print) (is : Items) : Type 0 where
  pub json : part_data r.0 ≡ tree_json (node (cut ns) (whole_places is))
  pub remembered : RemembersAll template env (prints_view r.1) (places_in ns)

-- what is sent of a place against what it met before, and what is remembered of it
pub record IsLean (template : Nodes) (env : Env) (p : Place) (before : Item) (r : Option PlaceValue × Print) (i : Item) : Type 0 where
  pub value : option_seen r.0 ≡ option_map change_json (lean_place before i)
  pub remembered : Remembers template env (print_view r.1) p

-- the same of all places of a node
pub record AreLean (template : Nodes) (env : Env) (ps : List Place) (before : Items) (r : List (Option PlaceValue) × List Print) (is : Items) : Type 0 where
  pub values : options_seen r.0 ≡ changes_seen (lean_places before is)
  pub remembered : RemembersAll template env (prints_view r.1) ps

-- the rows of a loop, with what is remembered of each
pub record AreWholeRows (template : Nodes) (envs : List Env) (body : Nodes) (r : List Row × List (List Print)) (rs : ItemRows) : Type 0 where
  pub rows : rows_seen r.0 ≡ rows_in (whole_rows rs)
  pub remembered : RemembersRows template envs (rows_view r.1) body

-- ---- answers

-- the assigns, the variables and the template of a rendering
abbrev pub Stored : Type 0
Stored = List (KeyValue Value)

abbrev pub GivesPlaces : Source → Stored → Variables → ℕ → ℕ → Result (List PlaceValue × List Print) RenderFault → Type 0
GivesPlaces c as' vs body k r =
    Answers (AreWhole (syntax_of c) (scope_in as' vs) (places_in (node_at (syntax_of c) body))) r (trace alone k (scope_in as' vs) (node_at (syntax_of c) body))

abbrev pub GivesNode : Source → Stored → Variables → ℕ → ℕ → Result (Part × List Print) RenderFault → Type 0
GivesNode c as' vs body k r =
    Answers (IsWholeNode (syntax_of c) (scope_in as' vs) (node_at (syntax_of c) body)) r (trace alone k (scope_in as' vs) (node_at (syntax_of c) body))

-- a place, with so many levels below it
abbrev pub GivesPlace : Source → Stored → Variables → Place → ℕ → Result (PlaceValue × Print) RenderFault → Type 0
GivesPlace c as' vs p k r = Answers (IsWhole (syntax_of c) (scope_in as' vs) p) r (trace_place alone (trace alone k) (scope_in as' vs) p)

-- a branch, which is chosen
pub record IsBranch (template : Nodes) (env : Env) (choice : Choice) (d : Chosen) (r : PlaceValue × Print) (is : Items) : Type 0 where
  pub value : place_data r.0 ≡ tree_json (node (cut d.nodes) (whole_places is))
  pub prints : Prints
  pub print : print_view r.1 ≡ of_branch choice prints
  pub remembered : RemembersAll template (bind d.variables env) prints (places_in d.nodes)

abbrev pub GivesBranch : Source → Stored → Variables → Choice → ℕ → Result (PlaceValue × Print) RenderFault → Type 0
GivesBranch c as' vs choice k r =
    (d : Chosen) → IsChoice (syntax_of c) choice d → Answers (IsBranch (syntax_of c) (scope_in as' vs) choice d) r (trace alone k (bind d.variables (scope_in as' vs)) d.nodes)

-- a row, and rows, one for each scope
abbrev pub GivesRow : Source → Stored → Variables → Stored → ℕ → ℕ → Result (List PlaceValue × List Print) RenderFault → Type 0
GivesRow c as' vs bound body k r =
    Answers (AreWhole (syntax_of c) (inside (assigns_view bound) (scope_in as' vs)) (places_in (node_at (syntax_of c) body))) r
    (trace alone k (inside (assigns_view bound) (scope_in as' vs)) (node_at (syntax_of c) body))

abbrev pub GivesRows : Source → Stored → Variables → List Stored → ℕ → ℕ → Result (List Row × List (List Print)) RenderFault → Type 0
GivesRows c as' vs bound body k r =
    (envs : List Env) → AreScopes as' vs bound envs
    → Answers (AreWholeRows (syntax_of c) envs (node_at (syntax_of c) body)) r (trace_rows (trace alone k) (node_at (syntax_of c) body) envs)

-- ---- a page

-- what a rendering of this template meets under these assigns, wherever it stands
pub record Meets (source : Source) (as' : Assigns) (r : Res Items) : Type 0 where
  pub plain : IsPlain source
  pub is : (site : Site) (env : Env) → env.assigns ≡ as' → env.variables ≡ no_assigns → trace site levels env (syntax_of source) ≡ r

-- what is remembered of its rendering
abbrev pub Recalls : Source → Assigns → List Print → Type 0
Recalls c as' ps = RemembersAll (syntax_of c) (scope_of as' no_assigns) (prints_view ps) (places_in (syntax_of c))

-- the rendering meets this, and what is sent of it has this JSON value
pub record Sends (source : Source) (as' : Assigns) (json : Items → Data) (r : Part × List Print) : Type 0 where
  pub items : Items
  pub met : Meets source as' (Ok items)
  pub sent : part_data r.0 ≡ json items
  pub remembered : Recalls source as' r.1

-- an answer: what is sent of what the rendering meets, or a raise where it raises; want of memory is free
abbrev pub Renders : Source → Assigns → (Items → Data) → Result (Part × List Print) RenderFault → Type 0
Renders c as' json (Ok r) = Sends c as' json r
Renders c as' json (Err fault.Raised) = (e : Raise) × Meets c as' (Err e)
Renders c as' json (Err fault.OutOfMemory) = Unit {0}

-- the JSON value of the whole tree of what a rendering met
abbrev pub whole_json : Source → Items → Data
whole_json c is = tree_json (node (cut (syntax_of c)) (whole_places is))

-- the JSON value of the lean diff between what two renderings met
abbrev pub lean_json : Items → Items → Data
lean_json old is = object (changes_json 0 (lean_places old is))

-- the first rendering gives the whole tree
abbrev pub FirstIsWhole : Source → Assigns → Result (Part × List Print) RenderFault → Type 0
FirstIsWhole c as' r = Renders c as' (whole_json c) r

-- after a rendering of the settled assigns, which met `old` and is remembered, the next one gives the lean diff
abbrev pub NextIsLean : Source → Tracked → List Print → Result (Part × List Print) RenderFault → Type 0
NextIsLean c t ps r = (before : Assigns) (old : Items) → HasSettled t before → Meets c before (Ok old) → Recalls c before ps → Renders c (present t) (lean_json old) r

-- ---- the full rendering

-- the full rendering of a template under these assigns, wherever it stands
abbrev pub IsRendering : Source → Assigns → Res (List ℕ) → Type 0
IsRendering c as' r = (site : Site) (env : Env) → env.assigns ≡ as' → env.variables ≡ no_assigns → full_render site levels env (syntax_of c) ≡ r

-- an answer: the full rendering, or a raise where that raises; want of memory is free
abbrev pub ShowsText : Source → Assigns → Result (List ℕ) RenderFault → Type 0
ShowsText c as' (Ok t) = IsRendering c as' (Ok t)
ShowsText c as' (Err fault.Raised) = (e : Raise) × IsRendering c as' (Err e)
ShowsText c as' (Err fault.OutOfMemory) = Unit {0}
