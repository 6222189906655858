-- What whole trees and held trees show.
use Rattle.std.proofs.Common.{◌≡◌, ℕ, List, [], ◌∷◌, ◌++◌, length, map, true, refl, sym, ap, ◌∙◌}
use Rattle.diff_tree.specs.Container.{Row, Insert, Batch, after, apply_batch, filled, all_filled, contents}
use Rattle.diff_tree.specs.Tree.{Tree, text, number, node, list, stream, held, Trees, no_trees, tree, Rows, no_rows, row, Held, none_held, hold, row_list, held_list, held_of, show_value, show_values, show_rows, show_held, weave, flat, opened, opened_all, opened_rows, all_fit}
use Rattle.doc_model.specs.Trace.{Items, no_items, item, Item, met_text, met_nothing, met_branch, met_rows, met_call, met_slots, met_component, met_stream, ItemRows, no_item_rows, item_row, Slots, no_slots, slot_of, texts, shown, row_texts, shown_slots}
use Rattle.doc_model.specs.Whole.{whole_places, whole_place, whole_rows, whole_slots, rows_tree, slots_tree, empties}
use Rattle.doc_model.specs.Holding.{Sees, SeesItem, SeesRows, SeesSlots, Holds, HoldsItem, HoldsSlots, Fresh, FreshItem, FreshRows, FreshSlots}
use Rattle.doc_model.proofs.Streams.{seen_insert, applied-seen}

-- a batch of rows, and what the rows show
filled-map : {X Y Z : Type 0} (f : X → Y) (is : List (Insert Z)) (xs : List X) → all_filled is (map f xs) ≡ map (seen_insert f) (all_filled is xs)
filled-map f [] xs = refl
filled-map f (i ∷ is) [] = refl
filled-map f (i ∷ is) (x ∷ xs) = ap (λ ys. record { id = i.id; position = i.position; limit = i.limit; content = f x } ∷ ys) (filled-map f is xs)

pub after-map : {X Y Z : Type 0} (f : X → Y) (b : Batch Z) (xs : List X) (rs : List (Row X)) → after b (map f xs) (map (λ r. (r.0, f r.1)) rs) ≡ map (λ r. (r.0, f r.1)) (after b xs rs)
after-map f b xs rs = ap (λ is. apply_batch (record { reset = b.reset; deletes = b.deletes; inserts = is }) (map (λ r. (r.0, f r.1)) rs)) (filled-map f b.inserts xs) ∙ applied-seen f (filled b xs) rs

contents-map : {X : Type 0} (f : X → List ℕ) (rs : List (Row X)) → contents (map (λ r. (r.0, f r.1)) rs) ≡ map f (contents rs)
contents-map f [] = refl
contents-map f (r ∷ rs) = ap (λ xs. f r.1 ∷ xs) (contents-map f rs)

pub rows-map : (look : ℕ → List ℕ) (st : List (List ℕ)) (rs : Rows) → show_rows look st rs ≡ map (λ r. weave st (show_values look r)) (row_list rs)
rows-map look st no_rows = refl
rows-map look st (row ts rs) = ap (λ xs. weave st (show_values look ts) ∷ xs) (rows-map look st rs)

held-map : (look : ℕ → List ℕ) (st : List (List ℕ)) (hs : Held) → show_held look st hs ≡ contents (map (λ r. (r.0, weave st (show_values look r.1))) (held_list hs))
held-map look st none_held = refl
held-map look st (hold k ts hs) = ap (λ xs. weave st (show_values look ts) ∷ xs) (held-map look st hs)

pub held_list_of : (rs : List (Row Trees)) → held_list (held_of rs) ≡ rs
held_list_of [] = refl
held_list_of (r ∷ rs) = ap (λ xs. r ∷ xs) (held_list_of rs)

-- a client shows what was sent
mutual
  pub show-opened : (look : ℕ → List ℕ) (t : Tree) → show_value look (opened t) ≡ show_value look t
  show-opened look (text t) = refl
  show-opened look (number n) = refl
  show-opened look (node st ts) = ap (weave st) (shows-opened look ts)
  show-opened look (list st rs) = ap flat (rows-opened look st rs)
  show-opened look (stream name b st rs) =
      let f = λ (r : Trees). weave st (show_values look r) in
      let xs = row_list (opened_rows rs) in
      ap flat (held-map look st (held_of (after b xs []))
      ∙ ap (λ l. contents (map (λ r. (r.0, f r.1)) l)) (held_list_of (after b xs []))
      ∙ ap contents (sym (after-map f b xs []))
      ∙ ap (λ l. contents (after b l [])) (sym (rows-map look st (opened_rows rs)) ∙ rows-opened look st rs))
  show-opened look (held name st hs) = refl

  pub shows-opened : (look : ℕ → List ℕ) (ts : Trees) → show_values look (opened_all ts) ≡ show_values look ts
  shows-opened look no_trees = refl
  shows-opened look (tree t ts) = ap (λ x. x ∷ show_values look (opened_all ts)) (show-opened look t) ∙ ap (λ xs. show_value look t ∷ xs) (shows-opened look ts)

  pub rows-opened : (look : ℕ → List ℕ) (st : List (List ℕ)) (rs : Rows) → show_rows look st (opened_rows rs) ≡ show_rows look st rs
  rows-opened look st no_rows = refl
  rows-opened look st (row ts rs) = ap (λ x. weave st x ∷ show_rows look st (opened_rows rs)) (shows-opened look ts) ∙ ap (λ xs. weave st (show_values look ts) ∷ xs) (rows-opened look st rs)

show_rows_tree : (look : ℕ → List ℕ) (st : List (List ℕ)) (rs : Rows) → show_value look (rows_tree st rs) ≡ flat (show_rows look st rs)
show_rows_tree look st no_rows = refl
show_rows_tree look st (row r rs) = refl

show_slots_tree : (look : ℕ → List ℕ) (ts : Trees) → show_value look (slots_tree ts) ≡ weave (empties ts) (show_values look ts)
show_slots_tree look no_trees = refl
show_slots_tree look (tree t ts) = refl

module _ (mark : ℕ → List ℕ → List ℕ) (look : ℕ → List ℕ) where
  -- the whole tree that is sent, where streams begin empty
  mutual
    pub whole_shows : (is : Items) → Fresh is → Sees mark look is → show_values look (whole_places is) ≡ texts mark is
    whole_shows no_items f s = refl
    whole_shows (item i is) f s = ap (λ x. x ∷ show_values look (whole_places is)) (whole_item_shows i f.0 s.0) ∙ ap (λ xs. shown mark i ∷ xs) (whole_shows is f.1 s.1)

    whole_item_shows : (i : Item) → FreshItem i → SeesItem mark look i → show_value look (whole_place i) ≡ shown mark i
    whole_item_shows (met_text r t) f s = refl
    whole_item_shows met_nothing f s = refl
    whole_item_shows (met_branch i st is) f s = ap (weave st) (whole_shows is f s)
    whole_item_shows (met_rows r st rs) f s = show_rows_tree look st (whole_rows rs) ∙ ap flat (whole_rows_show st rs f s)
    whole_item_shows (met_call st is) f s = ap (weave st) (whole_shows is f s)
    whole_item_shows (met_slots ss) f s = show_slots_tree look (whole_slots ss) ∙ whole_slots_show ss f s
    whole_item_shows (met_component n st is) f s = s
    whole_item_shows (met_stream name rs b st new) f s =
        ap (λ xs. flat (contents (after b xs []))) (whole_rows_show st new f.1 s) ∙ ap (λ c. flat (contents (after b (row_texts mark st new) c))) (sym f.0)

    pub whole_rows_show : (st : List (List ℕ)) (rs : ItemRows) → FreshRows rs → SeesRows mark look rs → show_rows look st (whole_rows rs) ≡ row_texts mark st rs
    whole_rows_show st no_item_rows f s = refl
    whole_rows_show st (item_row is rs) f s = ap (λ x. weave st x ∷ show_rows look st (whole_rows rs)) (whole_shows is f.0 s.0) ∙ ap (λ xs. weave st (texts mark is) ∷ xs) (whole_rows_show st rs f.1 s.1)

    whole_slots_show : (ss : Slots) → FreshSlots ss → SeesSlots mark look ss → weave (empties (whole_slots ss)) (show_values look (whole_slots ss)) ≡ shown_slots mark ss
    whole_slots_show no_slots f s = refl
    whole_slots_show (slot_of b st is ss) f s =
        ap (λ x. weave st x ++ weave (empties (whole_slots ss)) (show_values look (whole_slots ss))) (whole_shows is f.0 s.0) ∙ ap (λ x. weave st (texts mark is) ++ x) (whole_slots_show ss f.1 s.1)

-- rows have their places' values and no streams of their own
abbrev mutual
  pub Good : Items → Type 0
  Good no_items = Unit {0}
  Good (item i is) = GoodItem i × Good is

  pub GoodItem : Item → Type 0
  GoodItem (met_text r t) = Unit {0}
  GoodItem met_nothing = Unit {0}
  GoodItem (met_branch i st is) = Good is
  GoodItem (met_rows r st rs) = (all_fit (length st) (whole_rows rs) ≡ true) × FreshRows rs × GoodRows rs
  GoodItem (met_call st is) = Good is
  GoodItem (met_slots ss) = GoodSlots ss
  GoodItem (met_component n st is) = Unit {0}
  GoodItem (met_stream name rs b st new) = (all_fit (length st) (whole_rows new) ≡ true) × FreshRows new × StillRows new

  pub GoodRows : ItemRows → Type 0
  GoodRows no_item_rows = Unit {0}
  GoodRows (item_row is rs) = Good is × GoodRows rs

  pub GoodSlots : Slots → Type 0
  GoodSlots no_slots = Unit {0}
  GoodSlots (slot_of b st is ss) = Good is × GoodSlots ss

  -- no component is met
  pub Still : Items → Type 0
  Still no_items = Unit {0}
  Still (item i is) = StillItem i × Still is

  pub StillItem : Item → Type 0
  StillItem (met_text r t) = Unit {0}
  StillItem met_nothing = Unit {0}
  StillItem (met_branch i st is) = Still is
  StillItem (met_rows r st rs) = StillRows rs
  StillItem (met_call st is) = Still is
  StillItem (met_slots ss) = StillSlots ss
  StillItem (met_component n st is) = ⊥
  StillItem (met_stream name rs b st new) = StillRows new

  pub StillRows : ItemRows → Type 0
  StillRows no_item_rows = Unit {0}
  StillRows (item_row is rs) = Still is × StillRows rs

  pub StillSlots : Slots → Type 0
  StillSlots no_slots = Unit {0}
  StillSlots (slot_of b st is ss) = Still is × StillSlots ss

module _ (mark : ℕ → List ℕ → List ℕ) (look : ℕ → List ℕ) where
  mutual
    still_sees : (is : Items) → Still is → Sees mark look is
    still_sees no_items h = tt
    still_sees (item i is) h = (still_item i h.0, still_sees is h.1)

    still_item : (i : Item) → StillItem i → SeesItem mark look i
    still_item (met_text r t) h = tt
    still_item met_nothing h = tt
    still_item (met_branch i st is) h = still_sees is h
    still_item (met_rows r st rs) h = still_rows rs h
    still_item (met_call st is) h = still_sees is h
    still_item (met_slots ss) h = still_slots ss h
    still_item (met_component n st is) h = absurd h
    still_item (met_stream name rs b st new) h = still_rows new h

    pub still_rows : (rs : ItemRows) → StillRows rs → SeesRows mark look rs
    still_rows no_item_rows h = tt
    still_rows (item_row is rs) h = (still_sees is h.0, still_rows rs h.1)

    still_slots : (ss : Slots) → StillSlots ss → SeesSlots mark look ss
    still_slots no_slots h = tt
    still_slots (slot_of b st is ss) h = (still_sees is h.0, still_slots ss h.1)

  -- The show law: a tree that a client holds whole shows what the trace shows
  mutual
    pub held_shows : (ts : Trees) (is : Items) → Holds mark ts is → Good is → Sees mark look is → show_values look ts ≡ texts mark is
    held_shows no_trees no_items h g s = refl
    held_shows (tree t ts) (item i is) h g s = ap (λ x. x ∷ show_values look ts) (held_item_shows t i h.0 g.0 s.0) ∙ ap (λ xs. shown mark i ∷ xs) (held_shows ts is h.1 g.1 s.1)
    held_shows no_trees (item i is) h g s = absurd h
    held_shows (tree t ts) no_items h g s = absurd h

    held_item_shows : (t : Tree) (i : Item) → HoldsItem mark t i → GoodItem i → SeesItem mark look i → show_value look t ≡ shown mark i
    held_item_shows t (met_text r u) h g s = ap (show_value look) h
    held_item_shows t met_nothing h g s = ap (show_value look) h
    held_item_shows t (met_branch i st is) h g s = ap (show_value look) h.1 ∙ ap (weave st) (held_shows h.0 is h.2 g s)
    held_item_shows t (met_rows r st rs) h g s = ap (show_value look) h ∙ show-opened look (rows_tree st (whole_rows rs)) ∙ show_rows_tree look st (whole_rows rs) ∙ ap flat (whole_rows_show mark look st rs g.1 s)
    held_item_shows t (met_call st is) h g s = ap (show_value look) h.1 ∙ ap (weave st) (held_shows h.0 is h.2 g s)
    held_item_shows t (met_slots ss) h g s = ap (show_value look) h.1 ∙ show_slots_tree look h.0 ∙ held_slots_show h.0 ss h.2 g s
    held_item_shows t (met_component n st is) h g s = ap (show_value look) h ∙ s
    held_item_shows t (met_stream name rs b st new) h g s = ap (show_value look) h.1 ∙ ap flat (held-map look st h.0 ∙ ap contents (h.2.0 look))

    held_slots_show : (ts : Trees) (ss : Slots) → HoldsSlots mark ts ss → GoodSlots ss → SeesSlots mark look ss → weave (empties ts) (show_values look ts) ≡ shown_slots mark ss
    held_slots_show no_trees no_slots h g s = refl
    held_slots_show (tree u us) (slot_of b st is ss) h g s =
        let e : show_value look u ≡ weave st (texts mark is) = ap (show_value look) h.0.1 ∙ ap (weave st) (held_shows h.0.0 is h.0.2 g.0 s.0) in
        ap (λ x. x ++ weave (empties us) (show_values look us)) e ∙ ap (λ x. weave st (texts mark is) ++ x) (held_slots_show us ss h.1 g.1 s.1)
    held_slots_show no_trees (slot_of b st is ss) h g s = absurd h
    held_slots_show (tree u us) no_slots h g s = absurd h
