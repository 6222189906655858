-- The numbers that stand in a held tree have components, level by level, and only components that were met are reached.
use Rattle.std.proofs.Common.{◌≡◌, ℕ, zero, suc, ◌+◌, ◌≤◌, List, [], ◌∷◌, ◌++◌, Option, Some, None, true, false, ◌&&◌, refl, ap, ◌∙◌, arith, ◌⊎◌, inl, inr}
use Rattle.diff_tree.specs.Tree.{Tree, Trees, no_trees, tree, row_list, opened, opened_all, opened_rows}
use Rattle.diff_tree.specs.Client.{numbers_in, numbers_in_all, numbers_in_rows, closed}
use Rattle.diff_tree.proofs.Closed.{closed_append, closed_upto, none_closed}
use Rattle.doc_model.specs.Trace.{Items, no_items, item, Item, met_text, met_nothing, met_branch, met_rows, met_call, met_slots, met_component, met_stream, ItemRows, no_item_rows, item_row, Slots, no_slots, slot_of}
use Rattle.doc_model.specs.Whole.{whole_places, whole_place, whole_rows, whole_slots, slots_tree}
use Rattle.doc_model.specs.Holding.{Holds, HoldsItem, HoldsSlots}
use Rattle.doc_model.specs.Components.{Part, parts, parts_of, parts_of_rows, parts_of_slots, AllOf, HoldsNode, HoldsOption, HoldsPart, depth, depth_of, depth_of_rows, depth_of_slots}
use Rattle.doc_model.proofs.Wholes.{Good, GoodItem, GoodRows, GoodSlots}
use Rattle.doc_model.proofs.Numbers.{none_after, still_rows_none}
use Rattle.doc_model.proofs.Origins.{all_left, all_right, all_weaker}

-- the numbers that stand in a node, without those inside components
abbrev mutual
  pub met : Items → List ℕ
  met no_items = []
  met (item i is) = met_at i ++ met is

  pub met_at : Item → List ℕ
  met_at (met_text r t) = []
  met_at met_nothing = []
  met_at (met_branch i st is) = met is
  met_at (met_rows r st rs) = met_in_rows rs
  met_at (met_call st is) = met is
  met_at (met_slots ss) = met_in_slots ss
  met_at (met_component n st is) = n ∷ []
  met_at (met_stream name rs b st new) = []

  pub met_in_rows : ItemRows → List ℕ
  met_in_rows no_item_rows = []
  met_in_rows (item_row is rs) = met is ++ met_in_rows rs

  pub met_in_slots : Slots → List ℕ
  met_in_slots no_slots = []
  met_in_slots (slot_of b st is ss) = met is ++ met_in_slots ss

joined : (a a' b b' : List ℕ) → a ≡ a' → b ≡ b' → a ++ b ≡ a' ++ b'
joined a a' b b' e f = ap (λ x. x ++ b) e ∙ ap (λ x. a' ++ x) f

-- what is sent whole
mutual
  sent_numbers : (is : Items) → Good is → numbers_in_all (opened_all (whole_places is)) ≡ met is
  sent_numbers no_items g = refl
  sent_numbers (item i is) g = joined (numbers_in (opened (whole_place i))) (met_at i) (numbers_in_all (opened_all (whole_places is))) (met is) (sent_item i g.0) (sent_numbers is g.1)

  sent_item : (i : Item) → GoodItem i → numbers_in (opened (whole_place i)) ≡ met_at i
  sent_item (met_text r t) g = refl
  sent_item met_nothing g = refl
  sent_item (met_branch i st is) g = sent_numbers is g
  sent_item (met_rows r st no_item_rows) g = refl
  sent_item (met_rows r st (item_row is rs)) g = sent_rows (item_row is rs) g.2
  sent_item (met_call st is) g = sent_numbers is g
  sent_item (met_slots no_slots) g = refl
  sent_item (met_slots (slot_of b st is ss)) g = sent_slots (slot_of b st is ss) g
  sent_item (met_component n st is) g = refl
  sent_item (met_stream name rs b st new) g = none_after b (row_list (opened_rows (whole_rows new))) [] (still_rows_none new g.2) refl

  sent_rows : (rs : ItemRows) → GoodRows rs → numbers_in_rows (opened_rows (whole_rows rs)) ≡ met_in_rows rs
  sent_rows no_item_rows g = refl
  sent_rows (item_row is rs) g = joined (numbers_in_all (opened_all (whole_places is))) (met is) (numbers_in_rows (opened_rows (whole_rows rs))) (met_in_rows rs) (sent_numbers is g.0) (sent_rows rs g.1)

  sent_slots : (ss : Slots) → GoodSlots ss → numbers_in_all (opened_all (whole_slots ss)) ≡ met_in_slots ss
  sent_slots no_slots g = refl
  sent_slots (slot_of b st is ss) g = joined (numbers_in_all (opened_all (whole_places is))) (met is) (numbers_in_all (opened_all (whole_slots ss))) (met_in_slots ss) (sent_numbers is g.0) (sent_slots ss g.1)

numbers_of_slots : (ts : Trees) → numbers_in (slots_tree ts) ≡ numbers_in_all ts
numbers_of_slots no_trees = refl
numbers_of_slots (tree t ts) = refl

module _ (mark : ℕ → List ℕ → List ℕ) where
  -- what a client holds whole
  mutual
    pub held_numbers : (ts : Trees) (is : Items) → Holds mark ts is → Good is → numbers_in_all ts ≡ met is
    held_numbers no_trees no_items h g = refl
    held_numbers (tree t ts) (item i is) h g = joined (numbers_in t) (met_at i) (numbers_in_all ts) (met is) (held_item t i h.0 g.0) (held_numbers ts is h.1 g.1)
    held_numbers no_trees (item i is) h g = absurd h
    held_numbers (tree t ts) no_items h g = absurd h

    held_item : (t : Tree) (i : Item) → HoldsItem mark t i → GoodItem i → numbers_in t ≡ met_at i
    held_item t (met_text r u) h g = ap numbers_in h
    held_item t met_nothing h g = ap numbers_in h
    held_item t (met_branch i st is) h g = ap numbers_in h.1 ∙ held_numbers h.0 is h.2 g
    held_item t (met_rows r st rs) h g = ap numbers_in h ∙ sent_item (met_rows r st rs) g
    held_item t (met_call st is) h g = ap numbers_in h.1 ∙ held_numbers h.0 is h.2 g
    held_item t (met_slots ss) h g = ap numbers_in h.1 ∙ numbers_of_slots h.0 ∙ held_slots h.0 ss h.2 g
    held_item t (met_component n st is) h g = ap numbers_in h
    held_item t (met_stream name rs b st new) h g = ap numbers_in h.1 ∙ h.2.1

    held_slots : (ts : Trees) (ss : Slots) → HoldsSlots mark ts ss → GoodSlots ss → numbers_in_all ts ≡ met_in_slots ss
    held_slots no_trees no_slots h g = refl
    held_slots (tree u us) (slot_of b st is ss) h g = joined (numbers_in u) (met is) (numbers_in_all us) (met_in_slots ss) (ap numbers_in h.0.1 ∙ held_numbers h.0.0 is h.0.2 g.0) (held_slots us ss h.1 g.1)
    held_slots no_trees (slot_of b st is ss) h g = absurd h
    held_slots (tree u us) no_slots h g = absurd h

  pub node_numbers : (st : List (List ℕ)) (is : Items) (t : Tree) → HoldsNode mark st is t → Good is → numbers_in t ≡ met is
  node_numbers st is t h g = ap numbers_in h.1 ∙ held_numbers h.0 is h.2 g

one_closed : (k : ℕ) (f : ℕ → Option Tree) (n : ℕ) (t : Tree) → f n ≡ Some t → closed k f (numbers_in t) ≡ true → closed (suc k) f (n ∷ []) ≡ true
one_closed k f n t e h = ap (λ o. elim o [ None ↦ false | Some u ↦ closed k f (numbers_in u) ] && true) e ∙ ap (λ c. c && true) h

-- the tree that is held at a number
pub record HeldAt (mark : ℕ → List ℕ → List ℕ) (f : ℕ → Option Tree) (p : Part) : Type 0 where
  pub tree_of : Tree
  pub is_there : f p.number ≡ Some tree_of
  pub holds : HoldsNode mark p.statics p.items tree_of

pub held_at : (mark : ℕ → List ℕ → List ℕ) (f : ℕ → Option Tree) (p : Part) → HoldsPart mark f p → HeldAt mark f p
held_at mark f p h = by_tree (f p.number) refl h
  where
    by_tree : (o : Option Tree) → f p.number ≡ o → HoldsOption mark p o → HeldAt mark f p
    by_tree None e k = absurd k
    by_tree (Some t) e k = record { tree_of = t; is_there = e; holds = k }

pub all_append : (P : Part → Type 0) (ps qs : List Part) → AllOf P ps → AllOf P qs → AllOf P (ps ++ qs)
all_append P [] qs h k = k
all_append P (p ∷ ps) qs h k = (h.0, all_append P ps qs h.1 k)

-- an old number: its component is closed already, or it stands as before
abbrev pub Stands : ℕ → (ℕ → Option Tree) → (ℕ → Option Tree) → Part → Type 0
Stands d f g p = (closed d g (p.number ∷ []) ≡ true) ⊎ (g p.number ≡ f p.number)

module _ (mark : ℕ → List ℕ → List ℕ) (d : ℕ) (f g : ℕ → Option Tree) where
  abbrev Ready : Part → Type 0
  Ready p = Good p.items × HeldAt mark f p × Stands d f g p

  mutual
    pub met_closed : (is : Items) (k : ℕ) → depth is + d ≤ k → Good is → AllOf Ready (parts is) → closed k g (met is) ≡ true
    met_closed no_items k l q h = none_closed k g
    met_closed (item i is) k l q h =
        closed_append k g (met_at i) (met is) (item_closed i k (omega arith) q.0 (all_left Ready (parts_of i) (parts is) h)) (met_closed is k (omega arith) q.1 (all_right Ready (parts_of i) (parts is) h))

    item_closed : (i : Item) (k : ℕ) → depth_of i + d ≤ k → GoodItem i → AllOf Ready (parts_of i) → closed k g (met_at i) ≡ true
    item_closed (met_text r t) k l q h = none_closed k g
    item_closed met_nothing k l q h = none_closed k g
    item_closed (met_branch i st is) k l q h = met_closed is k l q h
    item_closed (met_rows r st rs) k l q h = rows_closed rs k l q.2 h
    item_closed (met_call st is) k l q h = met_closed is k l q h
    item_closed (met_slots ss) k l q h = slots_closed ss k l q h
    item_closed (met_component n st is) zero l q h = absurd (omega arith)
    item_closed (met_component n st is) (suc k) l q h = by_standing (met_closed is k (omega arith) h.0.0 h.1) h.0.2
      where
        by_standing : closed k g (met is) ≡ true → Stands d f g (record { number = n; statics = st; items = is }) → closed (suc k) g (n ∷ []) ≡ true
        by_standing r (inl c) = closed_upto d (suc k) g (n ∷ []) (omega arith) c
        by_standing r (inr e) =
            one_closed k g n h.0.1.tree_of (e ∙ h.0.1.is_there)
            (ap (closed k g) (node_numbers mark st is h.0.1.tree_of h.0.1.holds h.0.0) ∙ r)
    item_closed (met_stream name rs b st new) k l q h = none_closed k g

    rows_closed : (rs : ItemRows) (k : ℕ) → depth_of_rows rs + d ≤ k → GoodRows rs → AllOf Ready (parts_of_rows rs) → closed k g (met_in_rows rs) ≡ true
    rows_closed no_item_rows k l q h = none_closed k g
    rows_closed (item_row is rs) k l q h =
        closed_append k g (met is) (met_in_rows rs) (met_closed is k (omega arith) q.0 (all_left Ready (parts is) (parts_of_rows rs) h)) (rows_closed rs k (omega arith) q.1 (all_right Ready (parts is) (parts_of_rows rs) h))

    slots_closed : (ss : Slots) (k : ℕ) → depth_of_slots ss + d ≤ k → GoodSlots ss → AllOf Ready (parts_of_slots ss) → closed k g (met_in_slots ss) ≡ true
    slots_closed no_slots k l q h = none_closed k g
    slots_closed (slot_of b st is ss) k l q h =
        closed_append k g (met is) (met_in_slots ss) (met_closed is k (omega arith) q.0 (all_left Ready (parts is) (parts_of_slots ss) h)) (slots_closed ss k (omega arith) q.1 (all_right Ready (parts is) (parts_of_slots ss) h))

  -- the number of each component that was met
  abbrev Ends : ℕ → Part → Type 0
  Ends k p = closed k g (p.number ∷ []) ≡ true

  mutual
    pub parts_closed : (is : Items) (k : ℕ) → depth is + d ≤ k → Good is → AllOf Ready (parts is) → AllOf (Ends k) (parts is)
    parts_closed no_items k l q h = tt
    parts_closed (item i is) k l q h =
        all_append (Ends k) (parts_of i) (parts is) (item_parts_closed i k (omega arith) q.0 (all_left Ready (parts_of i) (parts is) h)) (parts_closed is k (omega arith) q.1 (all_right Ready (parts_of i) (parts is) h))

    item_parts_closed : (i : Item) (k : ℕ) → depth_of i + d ≤ k → GoodItem i → AllOf Ready (parts_of i) → AllOf (Ends k) (parts_of i)
    item_parts_closed (met_text r t) k l q h = tt
    item_parts_closed met_nothing k l q h = tt
    item_parts_closed (met_branch i st is) k l q h = parts_closed is k l q h
    item_parts_closed (met_rows r st rs) k l q h = rows_parts_closed rs k l q.2 h
    item_parts_closed (met_call st is) k l q h = parts_closed is k l q h
    item_parts_closed (met_slots ss) k l q h = slots_parts_closed ss k l q h
    item_parts_closed (met_component n st is) zero l q h = absurd (omega arith)
    item_parts_closed (met_component n st is) (suc k) l q h = (
      item_closed (met_component n st is) (suc k) l q h,
      all_weaker (Ends k) (Ends (suc k)) (parts is) (λ p e. closed_upto k (suc k) g (p.number ∷ []) (omega arith) e) (parts_closed is k (omega arith) h.0.0 h.1),
    )
    item_parts_closed (met_stream name rs b st new) k l q h = tt

    rows_parts_closed : (rs : ItemRows) (k : ℕ) → depth_of_rows rs + d ≤ k → GoodRows rs → AllOf Ready (parts_of_rows rs) → AllOf (Ends k) (parts_of_rows rs)
    rows_parts_closed no_item_rows k l q h = tt
    rows_parts_closed (item_row is rs) k l q h =
        all_append (Ends k) (parts is) (parts_of_rows rs) (parts_closed is k (omega arith) q.0 (all_left Ready (parts is) (parts_of_rows rs) h)) (rows_parts_closed rs k (omega arith) q.1 (all_right Ready (parts is) (parts_of_rows rs) h))

    slots_parts_closed : (ss : Slots) (k : ℕ) → depth_of_slots ss + d ≤ k → GoodSlots ss → AllOf Ready (parts_of_slots ss) → AllOf (Ends k) (parts_of_slots ss)
    slots_parts_closed no_slots k l q h = tt
    slots_parts_closed (slot_of b st is ss) k l q h =
        all_append (Ends k) (parts is) (parts_of_slots ss) (parts_closed is k (omega arith) q.0 (all_left Ready (parts is) (parts_of_slots ss) h)) (slots_parts_closed ss k (omega arith) q.1 (all_right Ready (parts is) (parts_of_slots ss) h))
