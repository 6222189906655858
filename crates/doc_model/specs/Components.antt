-- Trees with components: what is sent whole, what is sent lean, and what a client holds.
use Rattle.std.specs.Prelude.{◌≡◌, true, false, ◌⊎◌, ℕ, suc, max, List, [], ◌∷◌, ◌++◌, ◌==◌, Option, Some, None, if◌then◌else◌}
use Rattle.ast_core.specs.Syntax.{Nodes}
use Rattle.doc_model.specs.Environment.{Component, Env}
use Rattle.diff_tree.specs.Tree.{Tree, node, Trees, Change, write}
use Rattle.doc_model.specs.Trace.{Items, no_items, item, Item, met_text, met_nothing, met_branch, met_rows, met_call, met_slots, met_component, met_stream, ItemRows, no_item_rows, item_row, Slots, no_slots, slot_of}
use Rattle.doc_model.specs.Whole.{whole_places}
use Rattle.doc_model.specs.Lean.{lean_places, unless_empty}
use Rattle.doc_model.specs.Holding.{Holds}
use Rattle.doc_model.specs.Left.{Containers, Leaves, Based, SameNumbers}
use Rattle.doc_model.specs.Scopes.{Site}
use Rattle.ast_core.specs.Places.{places_in}
use Rattle.diff_tree.specs.Client.{among, PageTree, PageDiff}

-- a component as it was met
pub record Part : Type 0 where
  pub number : ℕ
  pub statics : List (List ℕ)
  pub items : Items

-- all that a rendering met, those inside others too
abbrev mutual
  pub parts : Items → List Part
  parts no_items = []
  parts (item i is) = parts_of i ++ parts is

  pub parts_of : Item → List Part
  parts_of (met_text r t) = []
  parts_of met_nothing = []
  parts_of (met_branch i st is) = parts is
  parts_of (met_rows r st rs) = parts_of_rows rs
  parts_of (met_call st is) = parts is
  parts_of (met_slots ss) = parts_of_slots ss
  parts_of (met_component n st is) = record { number = n; statics = st; items = is } ∷ parts is
  parts_of (met_stream name rs b st new) = []

  pub parts_of_rows : ItemRows → List Part
  parts_of_rows no_item_rows = []
  parts_of_rows (item_row is rs) = parts is ++ parts_of_rows rs

  pub parts_of_slots : Slots → List Part
  parts_of_slots no_slots = []
  parts_of_slots (slot_of b st is ss) = parts is ++ parts_of_slots ss

-- the first part of a number
abbrev pub part_at : ℕ → List Part → Option Part
part_at n [] = None
part_at n (p ∷ ps) = if n == p.number then Some p else part_at n ps

-- the whole tree of a part
abbrev pub option_tree : Option Part → Option Tree
option_tree None = None
option_tree (Some p) = Some (node p.statics (whole_places p.items))

-- the numbers of parts
abbrev pub part_numbers : List Part → List ℕ
part_numbers [] = []
part_numbers (p ∷ ps) = p.number ∷ part_numbers ps

-- these numbers are all among those
abbrev pub AllAmong : List ℕ → List ℕ → Type 0
AllAmong [] ks = Unit {0}
AllAmong (n ∷ ns) ks = (among n ks ≡ true) × AllAmong ns ks

-- the whole page that is sent
abbrev pub whole_tree : List (List ℕ) → Items → PageTree
whole_tree st is = record { root = node st (whole_places is); numbers = part_numbers (parts is); component = λ n. option_tree (part_at n (parts is)) }

-- a component that was there before is changed, a new one is whole
abbrev pub lean_part : Option Part → Part → Option Change
lean_part None p = Some (write (node p.statics (whole_places p.items)))
lean_part (Some q) p = unless_empty (lean_places q.items p.items)

-- a change under its number, where there is one
abbrev pub numbered : ℕ → Option Change → List (ℕ × Change) → List (ℕ × Change)
numbered n None cs = cs
numbered n (Some c) cs = (n, c) ∷ cs

-- the changes of all parts that are met now
abbrev pub lean_parts : List Part → List Part → List (ℕ × Change)
lean_parts old [] = []
lean_parts old (p ∷ ps) = numbered p.number (lean_part (part_at p.number old) p) (lean_parts old ps)

-- the lean diff between two renderings: the root, and each component
abbrev pub lean_diff : Items → Items → PageDiff
lean_diff is is' = record { root = lean_places is is'; components = lean_parts (parts is) (parts is') }

module _ (mark : ℕ → List ℕ → List ℕ) where
  -- whole for a client: the root, and each component that was met
  abbrev pub HoldsNode : List (List ℕ) → Items → Tree → Type 0
  HoldsNode st is u = (ts : Trees) × (u ≡ node st ts) × Holds mark ts is

  abbrev pub HoldsOption : Part → Option Tree → Type 0
  HoldsOption p None = ⊥
  HoldsOption p (Some t) = HoldsNode p.statics p.items t

  abbrev pub HoldsPart : (ℕ → Option Tree) → Part → Type 0
  HoldsPart f p = HoldsOption p (f p.number)

-- a fact of each part
abbrev pub AllOf : (Part → Type 0) → List Part → Type 0
AllOf P [] = Unit {0}
AllOf P (p ∷ ps) = P p × AllOf P ps

-- no two have one number
abbrev pub Distinct : List Part → Type 0
Distinct [] = Unit {0}
Distinct (p ∷ ps) = AllOf (λ q. q.number ≡ p.number → ⊥) ps × Distinct ps

-- a tree that holds no other components than these
abbrev pub HoldsNoOther : List ℕ → PageTree → Type 0
HoldsNoOther ks p = AllAmong p.numbers ks × ((n : ℕ) → among n ks ≡ false → p.component n ≡ None)

-- the tree that a client holds is whole for what a rendering met
abbrev pub HeldTree : (ℕ → List ℕ → List ℕ) → List (List ℕ) → Items → PageTree → Type 0
HeldTree mark st is p = HoldsNode mark st is p.root × AllOf (HoldsPart mark p.component) (parts is) × HoldsNoOther (part_numbers (parts is)) p

-- how deep components stand in one another
abbrev mutual
  pub depth : Items → ℕ
  depth no_items = 0
  depth (item i is) = max (depth_of i) (depth is)

  pub depth_of : Item → ℕ
  depth_of (met_text r t) = 0
  depth_of met_nothing = 0
  depth_of (met_branch i st is) = depth is
  depth_of (met_rows r st rs) = depth_of_rows rs
  depth_of (met_call st is) = depth is
  depth_of (met_slots ss) = depth_of_slots ss
  depth_of (met_component n st is) = suc (depth is)
  depth_of (met_stream name rs b st new) = 0

  pub depth_of_rows : ItemRows → ℕ
  depth_of_rows no_item_rows = 0
  depth_of_rows (item_row is rs) = max (depth is) (depth_of_rows rs)

  pub depth_of_slots : Slots → ℕ
  depth_of_slots no_slots = 0
  depth_of_slots (slot_of b st is ss) = max (depth is) (depth_of_slots ss)

-- a component lives in a state
abbrev pub Lives : Component → List Component → Type 0
Lives c [] = ⊥
Lives c (d ∷ ds) = (c ≡ d) ⊎ Lives c ds

-- the new state is one that the next message of the same join and its rendering make of the old one:
-- a pair keeps its number and a number its module, and each owner's containers are those that the old rendering left
pub record Follows (site : Site) (ns : Nodes) (a b : Env) (is : Items) : Type 0 where
  pub containers : Containers
  pub of_component : ℕ → Containers
  pub same_numbers : SameNumbers a.components b.components
  pub same_modules : (c d : Component) → Lives c a.components → Lives d b.components → c.number ≡ d.number → c.module_name ≡ d.module_name
  pub root_left : Leaves site.mark containers (places_in ns) is
  pub root_based : Based containers b.streams
  pub part_left : AllOf (λ q. (c : Component) → Lives c a.components → c.number ≡ q.number → Leaves site.mark (of_component q.number) (places_in (site.root c.module_name)) q.items) (parts is)
  pub part_based : (d : Component) → Lives d b.components → Based (of_component d.number) (Some d.streams)
  pub new_empty : (n : ℕ) → part_at n (parts is) ≡ None → (s : List ℕ) → of_component n s ≡ []
