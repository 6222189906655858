-- The laws of whole trees and lean diffs.
use Rattle.std.specs.Prelude.{◌≡◌, ℕ, ◌+◌, ◌≤◌, [], Option, Some, None, true, Ok}
use Rattle.doc_model.specs.Environment.{Env}
use Rattle.doc_model.specs.Evaluation.{on_res}
use Rattle.ast_core.specs.Syntax.{Nodes}
use Rattle.doc_model.specs.Trace.{Items, no_items, item, Item, met_branch, met_call, met_slots, met_stream, Slots, no_slots, slot_of, texts}
use Rattle.doc_model.specs.Lean.{is_empty}
use Rattle.doc_model.specs.Holding.{Fresh}
use Rattle.doc_model.specs.Scopes.{Site}
use Rattle.doc_model.specs.FullRendering.{full_render}
use Rattle.doc_model.specs.Tracing.{trace}
use Rattle.ast_core.specs.Places.{cut}
use Rattle.diff_tree.specs.Container.{does_nothing}
use Rattle.diff_tree.specs.Tree.{weave}
use Rattle.diff_tree.specs.Client.{PageTree, show_tree, merge_diff, judged, opened_tree}
use Rattle.doc_model.specs.Components.{HeldTree, Distinct, AllOf, parts, depth, whole_tree, lean_diff, Follows}

-- something is given, and the fact holds of it
abbrev pub Gives : {A : Type 0} → (A → Type 0) → Option A → Type 0
Gives P None = ⊥
Gives P (Some x) = P x

-- the constant text of nodes, woven with what their places show, is the full rendering, and both raise alike
abbrev pub StaticsWeave : Type 0
StaticsWeave = (site : Site) (k : ℕ) (env : Env) (ns : Nodes) → on_res (λ is. weave (cut ns) (texts site.mark is)) (trace site k env ns) ≡ full_render site k env ns

-- a whole page shows the full rendering: the one that is sent where all streams begin empty, and the one that a client holds
abbrev pub WholeTreeShows : Type 0
WholeTreeShows = (site : Site) (k : ℕ) (env : Env) (ns : Nodes) (is : Items) → trace site k env ns ≡ Ok is → Distinct (parts is)
    → Fresh is → AllOf (λ p. Fresh p.items) (parts is) → (n : ℕ) → depth is ≤ n
    → full_render site k env ns ≡ Ok (show_tree site.mark n (whole_tree (cut ns) is))

-- a tree that a client holds whole shows the full rendering
abbrev pub HeldTreeShows : Type 0
HeldTreeShows = (site : Site) (k : ℕ) (env : Env) (ns : Nodes) (is : Items) (p : PageTree) → trace site k env ns ≡ Ok is
    → HeldTree site.mark (cut ns) is p → (n : ℕ) → depth is ≤ n
    → full_render site k env ns ≡ Ok (show_tree site.mark n p)

-- merging the lean diff into a tree that is whole for a client gives one that is whole for the new state: no number lacks a component,
-- and exactly the components that are reached are held; the levels of both renderings together are enough
abbrev pub MergeLeanWhole : Type 0
MergeLeanWhole = (site : Site) (k l : ℕ) (a b : Env) (ns : Nodes) (is is' : Items) (p : PageTree) → trace site k a ns ≡ Ok is → trace site l b ns ≡ Ok is'
    → Follows site ns a b is → Distinct (parts is') → HeldTree site.mark (cut ns) is p → (n : ℕ) → depth is + depth is' ≤ n
    → Gives (HeldTree site.mark (cut ns) is') (merge_diff n p (lean_diff is is'))

-- the whole tree that a join sends, taken by a client, is whole
abbrev pub TakenWhole : Type 0
TakenWhole = (site : Site) (k : ℕ) (env : Env) (ns : Nodes) (is : Items) → trace site k env ns ≡ Ok is → Distinct (parts is)
    → Fresh is → AllOf (λ p. Fresh p.items) (parts is) → (n : ℕ) → depth is ≤ n
    → Gives (HeldTree site.mark (cut ns) is) (judged n (opened_tree (whole_tree (cut ns) is)))

-- each stream's batch that was met does nothing; rows are sent where a name differs alone
abbrev mutual
  pub Idle : Items → Type 0
  Idle no_items = Unit {0}
  Idle (item i is) = IdleItem i × Idle is

  pub IdleItem : Item → Type 0
  IdleItem (met_branch i st is) = Idle is
  IdleItem (met_call st is) = Idle is
  IdleItem (met_slots ss) = IdleSlots ss
  IdleItem (met_stream name rs b st new) = does_nothing b ≡ true
  IdleItem _ = Unit {0}

  pub IdleSlots : Slots → Type 0
  IdleSlots no_slots = Unit {0}
  IdleSlots (slot_of b st is ss) = Idle is × IdleSlots ss

-- where a rendering meets what the one before it met, the diff holds nothing
abbrev pub UnchangedSendsNothing : Type 0
UnchangedSendsNothing = (is : Items) → Distinct (parts is) → Idle is → AllOf (λ p. Idle p.items) (parts is)
    → (is_empty (lean_diff is is).root ≡ true) × ((lean_diff is is).components ≡ [])
