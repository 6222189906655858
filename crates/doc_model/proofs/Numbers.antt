-- The numbers of components that stand in trees.
use Rattle.std.proofs.Common.{◌≡◌, ℕ, List, [], ◌∷◌, ◌++◌, map, refl, sym, ap, ◌∙◌}
use Rattle.diff_tree.specs.Container.{Row, Batch, after, contents}
use Rattle.diff_tree.specs.Tree.{Trees, Rows, no_rows, row, Held, none_held, hold, held_list, held_of, row_list, opened, opened_all, opened_rows}
use Rattle.diff_tree.specs.Client.{numbers_in, numbers_in_all, numbers_in_rows, numbers_in_held}
use Rattle.doc_model.specs.Trace.{Items, no_items, item, Item, met_text, met_nothing, met_branch, met_rows, met_call, met_slots, met_component, met_stream, ItemRows, no_item_rows, item_row, Slots, no_slots, slot_of}
use Rattle.doc_model.specs.Whole.{whole_places, whole_place, whole_rows, whole_slots}
use Rattle.doc_model.proofs.Wholes.{Still, StillItem, StillRows, StillSlots, after-map}

pub append_none : {A : Type 0} (a b : List A) → a ++ b ≡ [] → (a ≡ []) × (b ≡ [])
append_none [] b h = (refl, h)
append_none (x ∷ a) b h = cc

pub both_none : {A : Type 0} (a b : List A) → a ≡ [] → b ≡ [] → a ++ b ≡ []
both_none [] b h k = k
both_none (x ∷ a) b h k = cc

-- rows without numbers
abbrev none_of : Trees → List ℕ
none_of ts = []

abbrev pub AllNone : List Trees → Type 0
AllNone xs = map numbers_in_all xs ≡ map none_of xs

abbrev pub NoneHeld : List (Row Trees) → Type 0
NoneHeld rs = map {B = Row (List ℕ)} (λ r. (r.0, numbers_in_all r.1)) rs ≡ map {B = Row (List ℕ)} (λ r. (r.0, none_of r.1)) rs

pub none_held_of : (hs : Held) → numbers_in_held hs ≡ [] → NoneHeld (held_list hs)
none_held_of none_held h = refl
none_held_of (hold k ts hs) h =
    let p = append_none (numbers_in_all ts) (numbers_in_held hs) h in
    ap (λ ns. (k, ns) ∷ map {B = Row (List ℕ)} (λ (r : Row Trees). (r.0, numbers_in_all r.1)) (held_list hs)) p.0
    ∙ ap (λ rs. (k, none_of ts) ∷ rs) (none_held_of hs p.1)

contents-seen : (f : Trees → List ℕ) (rs : List (Row Trees)) → contents (map {B = Row (List ℕ)} (λ r. (r.0, f r.1)) rs) ≡ map f (contents rs)
contents-seen f [] = refl
contents-seen f (r ∷ rs) = ap (λ xs. f r.1 ∷ xs) (contents-seen f rs)

contents_none : (rs : List (Row Trees)) → AllNone (contents rs) → numbers_in_held (held_of rs) ≡ []
contents_none [] h = refl
contents_none (r ∷ rs) h =
    let e : numbers_in_all r.1 ≡ [] = cc in
    let k : AllNone (contents rs) = cc in
    both_none (numbers_in_all r.1) (numbers_in_held (held_of rs)) e (contents_none rs k)

-- a batch of such rows on such rows
pub none_after : (b : Batch (Unit {0})) (xs : List Trees) (hs : List (Row Trees)) → AllNone xs → NoneHeld hs → numbers_in_held (held_of (after b xs hs)) ≡ []
none_after b xs hs h k =
    contents_none (after b xs hs)
    (sym (contents-seen numbers_in_all (after b xs hs))
    ∙ ap contents (sym (after-map numbers_in_all b xs hs) ∙ ap (λ ys. after b ys (map {B = Row (List ℕ)} (λ (r : Row Trees). (r.0, numbers_in_all r.1)) hs)) h
    ∙ ap (after b (map none_of xs)) k ∙ after-map none_of b xs hs)
    ∙ contents-seen none_of (after b xs hs))

rows_none : (rs : Rows) → AllNone (row_list rs) → numbers_in_rows rs ≡ []
rows_none no_rows h = refl
rows_none (row ts rs) h =
    let e : numbers_in_all ts ≡ [] = cc in
    let k : AllNone (row_list rs) = cc in
    both_none (numbers_in_all ts) (numbers_in_rows rs) e (rows_none rs k)

-- where no component was met
mutual
  pub still_none : (is : Items) → Still is → numbers_in_all (opened_all (whole_places is)) ≡ []
  still_none no_items h = refl
  still_none (item i is) h = both_none (numbers_in (opened (whole_place i))) (numbers_in_all (opened_all (whole_places is))) (still_item_none i h.0) (still_none is h.1)

  still_item_none : (i : Item) → StillItem i → numbers_in (opened (whole_place i)) ≡ []
  still_item_none (met_text r t) h = refl
  still_item_none met_nothing h = refl
  still_item_none (met_branch i st is) h = still_none is h
  still_item_none (met_rows r st no_item_rows) h = refl
  still_item_none (met_rows r st (item_row is rs)) h =
      both_none (numbers_in_all (opened_all (whole_places is))) (numbers_in_rows (opened_rows (whole_rows rs))) (still_none is h.0) (rows_none (opened_rows (whole_rows rs)) (still_rows_none rs h.1))
  still_item_none (met_call st is) h = still_none is h
  still_item_none (met_slots no_slots) h = refl
  still_item_none (met_slots (slot_of b st is ss)) h = both_none (numbers_in_all (opened_all (whole_places is))) (numbers_in_all (opened_all (whole_slots ss))) (still_none is h.0) (still_slots_none ss h.1)
  still_item_none (met_component n st is) h = absurd h
  still_item_none (met_stream name rs b st new) h = none_after b (row_list (opened_rows (whole_rows new))) [] (still_rows_none new h) refl

  pub still_rows_none : (rs : ItemRows) → StillRows rs → AllNone (row_list (opened_rows (whole_rows rs)))
  still_rows_none no_item_rows h = refl
  still_rows_none (item_row is rs) h =
      ap (λ ns. ns ∷ map numbers_in_all (row_list (opened_rows (whole_rows rs)))) (still_none is h.0) ∙ ap (λ xs. [] ∷ xs) (still_rows_none rs h.1)

  still_slots_none : (ss : Slots) → StillSlots ss → numbers_in_all (opened_all (whole_slots ss)) ≡ []
  still_slots_none no_slots h = refl
  still_slots_none (slot_of b st is ss) h = both_none (numbers_in_all (opened_all (whole_places is))) (numbers_in_all (opened_all (whole_slots ss))) (still_none is h.0) (still_slots_none ss h.1)
