-- The renderings of a process since a join, and what a client makes of their frames.
use Rattle.std.specs.Prelude.{◌≡◌, ℕ, ◌+◌, ◌≤◌, List, [], ◌∷◌, Option, Some, option_map, Ok}
use Rattle.ast_core.specs.Syntax.{Nodes}
use Rattle.doc_model.specs.Environment.{Env}
use Rattle.diff_tree.specs.Tree.{opened}
use Rattle.doc_model.specs.Trace.{Items}
use Rattle.doc_model.specs.Holding.{Fresh}
use Rattle.doc_model.specs.Scopes.{Site}
use Rattle.doc_model.specs.FullRendering.{full_render}
use Rattle.doc_model.specs.Tracing.{trace}
use Rattle.ast_core.specs.Places.{cut}
use Rattle.diff_tree.specs.Client.{opened_tree, judged, PageTree, show_tree, merge_diff, and_then}
use Rattle.doc_model.specs.Components.{HeldTree, Distinct, AllOf, parts, depth, whole_tree, lean_diff, Follows}
use Rattle.doc_model.specs.Laws.{Gives}

-- one rendering: its levels, its scope, and what it met
pub record Rendering : Type 0 where
  pub level : ℕ
  pub env : Env
  pub items : Items

-- what it met is the trace, and no number is met twice
abbrev pub IsRendering : Site → Nodes → Rendering → Type 0
IsRendering site ns r = (trace site r.level r.env ns ≡ Ok r.items) × Distinct (parts r.items)

-- a join's rendering: every stream begins empty
abbrev pub Begins : Site → Nodes → Rendering → Type 0
Begins site ns r = IsRendering site ns r × Fresh r.items × AllOf (λ p. Fresh p.items) (parts r.items)

-- each rendering follows the one before
abbrev pub GoesOn : Site → Nodes → Rendering → List Rendering → Type 0
GoesOn site ns r [] = Unit {0}
GoesOn site ns r (q ∷ qs) = IsRendering site ns q × Follows site ns r.env q.env r.items × GoesOn site ns q qs

-- the last of them
abbrev pub latest : Rendering → List Rendering → Rendering
latest r [] = r
latest r (q ∷ qs) = latest q qs

-- no rendering has more levels than this
abbrev pub AtMost : ℕ → Rendering → List Rendering → Type 0
AtMost m r [] = r.level ≤ m
AtMost m r (q ∷ qs) = (r.level ≤ m) × AtMost m q qs

-- the frames, merged one after the other
abbrev pub merged : ℕ → PageTree → Rendering → List Rendering → Option PageTree
merged n p r [] = Some p
merged n p r (q ∷ qs) = and_then (merge_diff n p (lean_diff r.items q.items)) (λ p'. merged n p' q qs)

-- what a client makes of the first whole tree and of the diffs after it
abbrev pub taken : ℕ → Nodes → Rendering → List Rendering → Option PageTree
taken n ns r qs = and_then (judged n (opened_tree (whole_tree (cut ns) r.items))) (λ p. merged n p r qs)

-- the frames since a join merge without an undefined case, the result is whole, and it shows the page of the latest state
abbrev pub FramesShow : Type 0
FramesShow = (site : Site) (ns : Nodes) (m : ℕ) (r : Rendering) (qs : List Rendering) → Begins site ns r → GoesOn site ns r qs → AtMost m r qs
    → Gives (λ p. HeldTree site.mark (cut ns) (latest r qs).items p
    × ((n : ℕ) → depth (latest r qs).items ≤ n → full_render site (latest r qs).level (latest r qs).env ns ≡ Ok (show_tree site.mark n p)))
    (taken (m + m) ns r qs)
