-- What the renderer answers of a place that is rendered again.
use Rattle.std.specs.Prelude.{◌≡◌, ℕ, List, [], ◌==◌, Bool, true, false, Option, Some, None, Ok, Result}
use Rattle.serde_json.specs.Data.{string}
use Rattle.text_core.specs.declared.by_key.KeyValue.{KeyValue}
use Rattle.value_core.specs.Value.{Assigns}
use Rattle.value_core.specs.View.{assigns_view}
use Rattle.value_core.specs.declared.value.Value.{Value}
use Rattle.ast_core.specs.Free.{free_names, free_place}
use Rattle.ast_core.specs.Places.{places_in}
use Rattle.ast_core.specs.Syntax.{Name, Nodes, Place, put, attribute, spread, if_place, case_place, for_place}
use Rattle.slot_compile.specs.Numbering.{node_at, place_in}
use Rattle.slot_compile.specs.Template.{Source, syntax_of}
use Rattle.slot_compile.specs.declared.compiled.Dynamic.{Dynamic}
use Rattle.diff_tree.specs.Tree.{text, Rows, no_rows, row, Change, write}
use Rattle.diff_tree.specs.declared.part.PlaceValue.{PlaceValue}
use Rattle.assigns_track.specs.declared.tracked.Tracked.{Tracked}
use Rattle.doc_model.specs.Environment.{Env, bind, reading, same_reading}
use Rattle.doc_model.specs.Scopes.{Chosen}
use Rattle.doc_model.specs.Trace.{Item, Items, met_branch, met_nothing}
use Rattle.doc_model.specs.Tracing.{trace, trace_place}
use Rattle.diff_render.specs.Answers.{Answers}
use Rattle.diff_render.specs.Prints as model
use Rattle.diff_render.specs.Prints.{Prints, Remembers, RemembersAll, of_rows, of_text, row_prints, print_view, prints_view}
use Rattle.diff_render.specs.Renders.{AreLean, IsLean}
use Rattle.diff_render.specs.Scope.{alone}
use Rattle.diff_render.specs.Shown.{shown_at}
use Rattle.diff_render.specs.Taken.{IsChoice, taken}
use Rattle.diff_render.specs.Tracked.{HasSettled, IsNoted, bound_before, scope_now, scope_then}
use Rattle.diff_render.specs.Values.{option_seen}
use Rattle.diff_render.specs.declared.choice.Choice.{Choice}
use Rattle.diff_render.specs.declared.fault.RenderFault.{RenderFault}
use Rattle.diff_render.specs.declared.print.Print.{Print}
use Rattle.diff_render.specs.declared.scope.Tracking.{Tracking}

-- the names that a place is evaluated again for: a branch is followed where they do not differ
abbrev pub deciding : Place → List Name
deciding (put e) = free_names e
deciding (attribute n e) = free_names e
deciding (spread e) = free_names e
deciding (if_place t a b) = free_names t
deciding (case_place e cs) = free_names e
deciding (for_place p e body) = free_place (for_place p e body)
deciding p = []

-- whether a place shows one of several branches
abbrev pub is_branching : Place → Bool
is_branching (if_place t a b) = true
is_branching (case_place e cs) = true
is_branching p = false

-- what comes of a place that shows nothing now
abbrev pub emptied : model.Print → Option Change
emptied of_text = None
emptied p = Some (write (text []))

-- whether there were rows, and whether there are
abbrev pub had_rows : model.Print → Bool
had_rows (of_rows (row_prints q qs)) = true
had_rows p = false

abbrev pub has_rows : Rows → Bool
has_rows no_rows = false
has_rows (row r rs) = true

-- what a place met is not a branch of this number
abbrev pub Apart : Item → ℕ → Type 0
Apart met_nothing j = Unit {0}
Apart (met_branch i st is) j = (i == j) ≡ false
Apart _ j = ⊥

-- what is answered of a place, where it met `old` before
abbrev pub Changes : Source → Tracked → Tracking → Place → ℕ → Item → Result (Option PlaceValue × Print) RenderFault → Type 0
Changes c t tr p k old r = Answers (IsLean (syntax_of c) (scope_now t tr) p old) r (trace_place alone (trace alone k) (scope_now t tr) p)

-- the places of a body that was shown before
abbrev pub GivesChanges : Source → Tracked → Tracking → ℕ → List Print → ℕ → Result (List (Option PlaceValue) × List Print) RenderFault → Type 0
GivesChanges c t tr body prints k r =
    (before : Assigns) (old : Items) → HasSettled t before → IsNoted tr → trace alone k (scope_then before tr) (node_at (syntax_of c) body) ≡ Ok old
    → RemembersAll (syntax_of c) (scope_then before tr) (prints_view prints) (places_in (node_at (syntax_of c) body))
    → Answers (AreLean (syntax_of c) (scope_now t tr) (places_in (node_at (syntax_of c) body)) old) r (trace alone k (scope_now t tr) (node_at (syntax_of c) body))

-- a place that was shown before, with so many levels below it
abbrev pub GivesChange : Source → Tracked → Tracking → Place → Print → ℕ → Result (Option PlaceValue × Print) RenderFault → Type 0
GivesChange c t tr p print k r =
    (before : Assigns) (old : Item) → HasSettled t before → IsNoted tr → trace_place alone (trace alone k) (scope_then before tr) p ≡ Ok old
    → Remembers (syntax_of c) (scope_then before tr) (print_view print) p → Changes c t tr p k old r

-- a place of which a deciding name differs
abbrev pub GivesReread : Source → Tracked → Tracking → Place → Print → ℕ → Result (Option PlaceValue × Print) RenderFault → Type 0
GivesReread c t tr p print k r =
    (before : Assigns) (old : Item) → HasSettled t before → IsNoted tr → trace_place alone (trace alone k) (scope_then before tr) p ≡ Ok old
    → Remembers (syntax_of c) (scope_then before tr) (print_view print) p
    → same_reading (reading (scope_then before tr) (deciding p)) (reading (scope_now t tr) (deciding p)) ≡ false → Changes c t tr p k old r

-- an interpolation, an attribute or a spread, whose text is sent
abbrev pub GivesText : Tracked → Tracking → Place → Result (Option PlaceValue × Print) RenderFault → Type 0
GivesText t tr p r = Answers (λ a b. (option_seen a.0 ≡ Some (string b)) × (print_view a.1 ≡ of_text)) r (shown_at (scope_now t tr) p)

-- a place whose deciding names do not differ
abbrev pub GivesUnchanged : Source → Tracked → Tracking → Print → ℕ → Result (Option PlaceValue × Print) RenderFault → Type 0
GivesUnchanged c t tr print k r =
    (d : Dynamic) (before : Assigns) (old : Item) → let p = place_in (syntax_of c) d in
    HasSettled t before → IsNoted tr → trace_place alone (trace alone k) (scope_then before tr) p ≡ Ok old
    → Remembers (syntax_of c) (scope_then before tr) (print_view print) p
    → same_reading (reading (scope_then before tr) (deciding p)) (reading (scope_now t tr) (deciding p)) ≡ true → Changes c t tr p k old r

-- a place of which this branch is taken now
abbrev pub GivesTaken : Source → Tracked → Tracking → Choice → Print → ℕ → Result (Option PlaceValue × Print) RenderFault → Type 0
GivesTaken c t tr choice print k r =
    (p : Place) (before : Assigns) (old : Item) (is : Chosen) → HasSettled t before → IsNoted tr → trace_place alone (trace alone k) (scope_then before tr) p ≡ Ok old
    → Remembers (syntax_of c) (scope_then before tr) (print_view print) p
    → is_branching p ≡ true → taken (scope_now t tr) p ≡ Ok (Some is) → IsChoice (syntax_of c) choice is → Changes c t tr p k old r

-- the same, where it showed no such branch before
abbrev pub GivesEntered : Source → Tracked → Tracking → Choice → ℕ → Result (Option PlaceValue × Print) RenderFault → Type 0
GivesEntered c t tr choice k r =
    (p : Place) (old : Item) (is : Chosen) → is_branching p ≡ true → taken (scope_now t tr) p ≡ Ok (Some is) → IsChoice (syntax_of c) choice is → Apart old is.index
    → Changes c t tr p k old r

-- a place takes one branch in two scopes: how its choice and its note tell that
pub record Stays (template : Nodes) (before now : Env) (p : Place) (choice : Choice) (note : Option (List (KeyValue Value))) (places : Prints) : Type 0 where
  pub branching : is_branching p ≡ true
  pub was : Chosen
  pub is : Chosen
  pub taken_before : taken before p ≡ Ok (Some was)
  pub taken_now : taken now p ≡ Ok (Some is)
  pub same_index : was.index ≡ is.index
  pub same_nodes : was.nodes ≡ is.nodes
  pub chosen : IsChoice template choice is
  pub bound : assigns_view (bound_before note choice.bound) ≡ was.variables
  pub remembered : RemembersAll template (bind was.variables before) places (places_in was.nodes)

-- a branch that stays
abbrev pub GivesKept : Source → Tracked → Tracking → Choice → Option (List (KeyValue Value)) → List Print → ℕ → Result (Option PlaceValue × Print) RenderFault → Type 0
GivesKept c t tr choice note places k r =
    (p : Place) (before : Assigns) (old : Item) → HasSettled t before → IsNoted tr → trace_place alone (trace alone k) (scope_then before tr) p ≡ Ok old
    → Stays (syntax_of c) (scope_then before tr) (scope_now t tr) p choice note (prints_view places) → Changes c t tr p k old r
