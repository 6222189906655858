-- The lean diff, merged into a tree that is whole for a client, gives one that is whole for the new state.
use Rattle.std.proofs.Common.{◌≡◌, ℕ, suc, List, [], ◌∷◌, length, map, Option, Some, None, option_map, Bool, true, false, ◌&&◌, ◌==◌, if◌then◌else◌, refl, sym, ap, ◌∙◌, subst, arith, true≢false}
use Rattle.std.specs.Str.{bytes_eq}
use Rattle.std.proofs.lemmas.Bool.Decides.{Decides-eqb}
use Rattle.std.proofs.lemmas.Slice.Eq.{bytes_eq-Decides}
use Rattle.doc_model.specs.Environment.{same_reading}
use Rattle.diff_tree.specs.Container.{Row, Insert, Batch, after, does_nothing}
use Rattle.diff_tree.specs.Tree.{Tree, text, number, node, list, stream, held, Trees, no_trees, tree, Rows, no_rows, row, Held, row_list, held_list, held_of, Change, write, inner, batch, Changes, no_changes, skip, change, show_values, weave, merge_change, merge_changes, option_both, all_fit, count, opened, opened_all, opened_rows}
use Rattle.doc_model.specs.Trace.{Items, no_items, item, Item, met_text, met_nothing, met_branch, met_rows, met_call, met_slots, met_component, met_stream, ItemRows, Slots, no_slots, slot_of, row_texts}
use Rattle.doc_model.specs.Whole.{whole_places, whole_place, whole_rows, whole_slots, rows_tree, slots_tree, empties}
use Rattle.doc_model.specs.Lean.{lean_places, lean_place, lean_slots, is_empty, unless_empty, option_change, rows_change, slot_count}
use Rattle.doc_model.specs.Holding.{HoldsStream, Holds, HoldsItem, HoldsSlots, Fresh, FreshItem, FreshRows, FreshSlots}
use Rattle.doc_model.specs.Laws.{Gives}
use Rattle.doc_model.proofs.Sames.{reading_sound}
use Rattle.doc_model.proofs.Wholes.{Good, GoodItem, GoodSlots, StillRows, still_rows, whole_rows_show, rows-opened, rows-map, after-map, held_list_of}
use Rattle.doc_model.proofs.Numbers.{NoneHeld, none_held_of, none_after, still_rows_none}

-- a change that may be none
abbrev pub merge_option : Tree → Option Change → Option Tree
merge_option t None = Some t
merge_option t (Some c) = merge_change t c

write_gives : (P : Tree → Type 0) (t u : Tree) → P (opened u) → Gives P (merge_change t (write u))
write_gives P (text t) u h = h
write_gives P (number n) u h = h
write_gives P (node st ts) u h = h
write_gives P (list st rs) u h = h
write_gives P (stream name b st rs) u h = h
write_gives P (held name st hs) u h = h

module _ (mark : ℕ → List ℕ → List ℕ) where
  -- two renderings of one node
  abbrev mutual
    pub Kept : Items → Items → Type 0
    Kept no_items no_items = Unit {0}
    Kept (item i is) (item i' is') = KeptItem i i' × Kept is is'
    Kept _ _ = ⊥

    pub KeptItem : Item → Item → Type 0
    KeptItem (met_text r t) (met_text r' t') = r ≡ r' → t ≡ t'
    KeptItem met_nothing met_nothing = Unit {0}
    KeptItem met_nothing (met_branch j st' is') = Fresh is'
    KeptItem (met_branch i st is) met_nothing = Unit {0}
    KeptItem (met_branch i st is) (met_branch j st' is') = ((i == j) ≡ true → (st ≡ st') × Kept is is') × ((i == j) ≡ false → Fresh is')
    KeptItem (met_rows r st rs) (met_rows r' st' rs') = (st ≡ st') × (r ≡ r' → whole_rows rs ≡ whole_rows rs')
    KeptItem (met_call st is) (met_call st' is') = (st ≡ st') × Kept is is'
    KeptItem (met_slots ss) (met_slots ss') = KeptSlots ss ss' × FreshSlots ss'
    KeptItem (met_component n st is) (met_component n' st' is') = Unit {0}
    KeptItem (met_stream name rs b st new) (met_stream name' rs' b' st' new') = (name ≡ name') × (st ≡ st') × (rs' ≡ after b (row_texts mark st new) rs)
    KeptItem _ _ = ⊥

    pub KeptSlots : Slots → Slots → Type 0
    KeptSlots (slot_of b st is ss) (slot_of b' st' is' ss') = ((b == b') ≡ true → (st ≡ st') × Kept is is') × KeptSlots ss ss'
    KeptSlots _ _ = Unit {0}

  -- a batch of rows applied to held rows
  stream_shows : (st : List (List ℕ)) (b : Batch (Unit {0})) (new : ItemRows) (hs : List (Row Trees)) (rs : List (Row (List ℕ))) → FreshRows new → StillRows new
      → ((look : ℕ → List ℕ) → map (λ r. (r.0, weave st (show_values look r.1))) hs ≡ rs)
      → (look : ℕ → List ℕ) → map (λ r. (r.0, weave st (show_values look r.1))) (held_list (held_of (after b (row_list (opened_rows (whole_rows new))) hs))) ≡ after b (row_texts mark st new) rs
  stream_shows st b new hs rs f s h look =
      let g = λ (r : Trees). weave st (show_values look r) in
      let xs = row_list (opened_rows (whole_rows new)) in
      ap (map (λ r. (r.0, g r.1))) (held_list_of (after b xs hs))
      ∙ sym (after-map g b xs hs)
      ∙ ap (λ l. after b l (map (λ r. (r.0, g r.1)) hs)) (sym (rows-map look st (opened_rows (whole_rows new))) ∙ rows-opened look st (whole_rows new) ∙ whole_rows_show mark look st new f (still_rows mark look new s))
      ∙ ap (after b (row_texts mark st new)) (h look)

  stream_holds : (st : List (List ℕ)) (b : Batch (Unit {0})) (new : ItemRows) (hs : List (Row Trees)) (rs : List (Row (List ℕ))) → FreshRows new → StillRows new
      → ((look : ℕ → List ℕ) → map (λ r. (r.0, weave st (show_values look r.1))) hs ≡ rs)
      → NoneHeld hs → HoldsStream st (held_of (after b (row_list (opened_rows (whole_rows new))) hs)) (after b (row_texts mark st new) rs)
  stream_holds st b new hs rs f s h n = (stream_shows st b new hs rs f s h, none_after b (row_list (opened_rows (whole_rows new))) hs (still_rows_none new s) n)

  slots-opened : (ts : Trees) → opened (slots_tree ts) ≡ slots_tree (opened_all ts)
  slots-opened no_trees = refl
  slots-opened (tree t ts) = ap (λ st. node ([] ∷ st) (tree (opened t) (opened_all ts))) (empties-opened ts)
    where
      empties-opened : (us : Trees) → empties us ≡ empties (opened_all us)
      empties-opened no_trees = refl
      empties-opened (tree u us) = ap (λ x. [] ∷ x) (empties-opened us)

  -- what is sent whole is whole for a client
  mutual
    pub opened_holds : (is : Items) → Fresh is → Good is → Holds mark (opened_all (whole_places is)) is
    opened_holds no_items f g = tt
    opened_holds (item i is) f g = (opened_item_holds i f.0 g.0, opened_holds is f.1 g.1)

    opened_item_holds : (i : Item) → FreshItem i → GoodItem i → HoldsItem mark (opened (whole_place i)) i
    opened_item_holds (met_text r t) f g = refl
    opened_item_holds met_nothing f g = refl
    opened_item_holds (met_branch i st is) f g = (opened_all (whole_places is), refl, opened_holds is f g)
    opened_item_holds (met_rows r st rs) f g = refl
    opened_item_holds (met_call st is) f g = (opened_all (whole_places is), refl, opened_holds is f g)
    opened_item_holds (met_slots ss) f g = (opened_all (whole_slots ss), slots-opened (whole_slots ss), opened_slots_hold ss f g)
    opened_item_holds (met_component n st is) f g = refl
    opened_item_holds (met_stream name rs b st new) f g =
        (held_of (after b (row_list (opened_rows (whole_rows new))) []), refl, stream_holds st b new [] rs f.1 g.2 (λ look. sym f.0) refl)

    opened_slots_hold : (ss : Slots) → FreshSlots ss → GoodSlots ss → HoldsSlots mark (opened_all (whole_slots ss)) ss
    opened_slots_hold no_slots f g = tt
    opened_slots_hold (slot_of b st is ss) f g = ((opened_all (whole_places is), refl, opened_holds is f.0 g.0), opened_slots_hold ss f.1 g.1)

  abbrev Inner : List (List ℕ) → Items → Tree → Type 0
  Inner st is u = (ts : Trees) × (u ≡ node st ts) × Holds mark ts is

  step_gives : (o : Option Tree) (q : Option Trees) (i : Item) (is : Items) → Gives (λ u. HoldsItem mark u i) o → Gives (λ us. Holds mark us is) q → Gives (λ us. Holds mark us (item i is)) (option_both tree o q)
  step_gives (Some t) (Some ts) i is h k = (h, k)
  step_gives (Some t) None i is h k = absurd k
  step_gives None q i is h k = absurd h

  skip_gives : (t : Tree) (q : Option Trees) (i : Item) (is : Items) → HoldsItem mark t i → Gives (λ us. Holds mark us is) q → Gives (λ us. Holds mark us (item i is)) (option_map (tree t) q)
  skip_gives t (Some ts) i is h k = (h, k)
  skip_gives t None i is h k = absurd k

  change_gives : (t : Tree) (ts : Trees) (o : Option Change) (cs : Changes) (i : Item) (is : Items) → Gives (λ u. HoldsItem mark u i) (merge_option t o) → Gives (λ us. Holds mark us is) (merge_changes ts cs)
      → Gives (λ us. Holds mark us (item i is)) (merge_changes (tree t ts) (option_change o cs))
  change_gives t ts None cs i is h k = skip_gives t (merge_changes ts cs) i is h k
  change_gives t ts (Some c) cs i is h k = step_gives (merge_change t c) (merge_changes ts cs) i is h k

  slot_step : (o : Option Tree) (q : Option Trees) (b : ℕ) (st : List (List ℕ)) (is : Items) (ss : Slots) → Gives (Inner st is) o → Gives (λ us. HoldsSlots mark us ss) q → Gives (λ us. HoldsSlots mark us (slot_of b st is ss)) (option_both tree o q)
  slot_step (Some t) (Some ts) b st is ss h k = (h, k)
  slot_step (Some t) None b st is ss h k = absurd k
  slot_step None q b st is ss h k = absurd h

  slot_skip : (t : Tree) (q : Option Trees) (b : ℕ) (st : List (List ℕ)) (is : Items) (ss : Slots) → Inner st is t → Gives (λ us. HoldsSlots mark us ss) q → Gives (λ us. HoldsSlots mark us (slot_of b st is ss)) (option_map (tree t) q)
  slot_skip t (Some ts) b st is ss h k = (h, k)
  slot_skip t None b st is ss h k = absurd k

  slot_gives : (t : Tree) (ts : Trees) (o : Option Change) (cs : Changes) (b : ℕ) (st : List (List ℕ)) (is : Items) (ss : Slots) → Gives (Inner st is) (merge_option t o) → Gives (λ us. HoldsSlots mark us ss) (merge_changes ts cs)
      → Gives (λ us. HoldsSlots mark us (slot_of b st is ss)) (merge_changes (tree t ts) (option_change o cs))
  slot_gives t ts None cs b st is ss h k = slot_skip t (merge_changes ts cs) b st is ss h k
  slot_gives t ts (Some c) cs b st is ss h k = slot_step (merge_change t c) (merge_changes ts cs) b st is ss h k

  -- an empty change leaves everything
  same_tail : (t : Tree) (o : Option Trees) (ts : Trees) → ((P : Trees → Type 0) → Gives P o → P ts) → (P : Trees → Type 0) → Gives P (option_map (tree t) o) → P (tree t ts)
  same_tail t (Some us) ts h P k = h (λ vs. P (tree t vs)) k
  same_tail t None ts h P k = absurd k

  empty_gives : (ts : Trees) (cs : Changes) → is_empty cs ≡ true → (P : Trees → Type 0) → Gives P (merge_changes ts cs) → P ts
  empty_gives no_trees no_changes e P h = h
  empty_gives no_trees (skip cs) e P h = absurd h
  empty_gives ts (change c cs) e P h = absurd (true≢false (sym e))
  empty_gives (tree t ts) no_changes e P h = h
  empty_gives (tree t ts) (skip cs) e P h = same_tail t (merge_changes ts cs) ts (empty_gives ts cs e) P h

  pub inner_gives : (st st' : List (List ℕ)) (ts : Trees) (cs : Changes) (is' : Items) (b : Bool) → is_empty cs ≡ b → st ≡ st' → Gives (λ us. Holds mark us is') (merge_changes ts cs)
      → Gives (Inner st' is') (merge_option (node st ts) (if b then None else Some (inner cs)))
  inner_gives st st' ts cs is' true e s h = (ts, ap (λ x. node x ts) s, empty_gives ts cs e (λ us. Holds mark us is') h)
  inner_gives st st' ts cs is' false e s h = made (merge_changes ts cs) h
    where
      made : (o : Option Trees) → Gives (λ us. Holds mark us is') o → Gives (Inner st' is') (option_map (node st) o)
      made (Some us) k = (us, ap (λ x. node x us) s, k)
      made None k = absurd k

  -- rows
  rows_give : (b : Bool) (st st' : List (List ℕ)) (old new : Rows) → st ≡ st' → all_fit (length st') new ≡ true → (b ≡ true → old ≡ new)
      → merge_option (opened (rows_tree st old)) (if b then None else rows_change st' old new) ≡ Some (opened (rows_tree st' new))
  rows_give true st st' old new e h k = ap (λ x. Some (opened (rows_tree x old))) e ∙ ap (λ x. Some (opened (rows_tree st' x))) (k refl)
  rows_give false st st' no_rows no_rows e h k = refl
  rows_give false st st' no_rows (row t ts) e h k = refl
  rows_give false st st' (row u us) no_rows e h k = refl
  rows_give false st st' (row u us) (row t ts) e h k =
      let g : all_fit (length st) (row t ts) ≡ true = ap (λ x. all_fit (length x) (row t ts)) e ∙ h in
      ap (λ c. if c then Some (list st (opened_rows (row t ts))) else None) g ∙ ap (λ x. Some (list x (opened_rows (row t ts)))) e

  gives_eq : (P : Tree → Type 0) (o : Option Tree) (u : Tree) → o ≡ Some u → P u → Gives P o
  gives_eq P o u e h = subst (Gives P) (sym e) h

  -- a stream
  nothing_done : (b : Batch (Unit {0})) (xs : List (List ℕ)) (rs : List (Row (List ℕ))) → does_nothing b ≡ true → after b xs rs ≡ rs
  nothing_done b xs rs h = by_parts b.reset b.deletes b.inserts h
    where
      by_parts : (r : Bool) (ds : List (List ℕ)) (is : List (Insert (Unit {0}))) → does_nothing {X = Unit {0}} (record { reset = r; deletes = ds; inserts = is }) ≡ true → after (record { reset = r; deletes = ds; inserts = is }) xs rs ≡ rs
      by_parts true ds is k = absurd (true≢false (sym k))
      by_parts false (d ∷ ds) is k = absurd (true≢false (sym k))
      by_parts false [] (i ∷ is) k = absurd (true≢false (sym k))
      by_parts false [] [] k = refl

  stream_gives : (c : Bool) (name name' : List ℕ) (st st' : List (List ℕ)) (hs : Held) (rs rs' : List (Row (List ℕ))) (b' : Batch (Unit {0})) (new' : ItemRows) → does_nothing b' ≡ c
      → name ≡ name' → st ≡ st' → rs' ≡ rs → all_fit (length st') (whole_rows new') ≡ true → FreshRows new' → StillRows new' → HoldsStream st hs rs
      → Gives (λ u. HoldsItem mark u (met_stream name' rs' b' st' new')) (merge_option (held name st hs) (if c then None else Some (batch name' b' (whole_rows new'))))
  stream_gives true name name' st st' hs rs rs' b' new' d en es er fit f s h = (
    hs,
    ap (λ x. held x st hs) en ∙ ap (λ x. held name' x hs) es,
    subst (λ x. HoldsStream x hs (after b' (row_texts mark st' new') rs')) es (subst (HoldsStream st hs) (sym (nothing_done b' (row_texts mark st' new') rs' d ∙ er)) h),
  )
  stream_gives false name name' st st' hs rs rs' b' new' d en es er fit f s h =
      let xs = row_list (opened_rows (whole_rows new')) in
      let l = (bytes_eq-Decides name name').1 en in
      let g : all_fit (length st) (whole_rows new') ≡ true = ap (λ x. all_fit (length x) (whole_rows new')) es ∙ fit in
      let t : (bytes_eq name name' && all_fit (length st) (whole_rows new')) ≡ true = ap (λ c. c && all_fit (length st) (whole_rows new')) l ∙ g in
      let h' : HoldsStream st' hs rs' = subst (λ x. HoldsStream x hs rs') es (subst (HoldsStream st hs) (sym er) h) in
      gives_eq (λ u. HoldsItem mark u (met_stream name' rs' b' st' new')) _ (held name st (held_of (after b' xs (held_list hs))))
      (ap (λ c. if c then Some (held name st (held_of (after b' xs (held_list hs)))) else None) t) (
        held_of (after b' xs (held_list hs)),
        ap (λ x. held x st (held_of (after b' xs (held_list hs)))) en ∙ ap (λ x. held name' x (held_of (after b' xs (held_list hs)))) es,
        stream_holds st' b' new' (held_list hs) rs' f s h'.0 (none_held_of hs h'.1),
      )

  empties_same : (ts us : Trees) → count ts ≡ count us → empties ts ≡ empties us
  empties_same no_trees no_trees h = refl
  empties_same no_trees (tree t ts) h = absurd (omega arith)
  empties_same (tree t ts) no_trees h = absurd (omega arith)
  empties_same (tree t ts) (tree u us) h = let e : count ts ≡ count us = omega arith in ap (λ x. [] ∷ x) (empties_same ts us e)

  held_count : (ts : Trees) (ss : Slots) → HoldsSlots mark ts ss → count ts ≡ slot_count ss
  held_count no_trees no_slots h = refl
  held_count (tree t ts) (slot_of b st is ss) h = ap suc (held_count ts ss h.1)
  held_count no_trees (slot_of b st is ss) h = absurd h
  held_count (tree t ts) no_slots h = absurd h

  -- the entries are as many as before
  slots_inner : (ts : Trees) (ss ss' : Slots) (cs : Changes) (b : Bool) → is_empty cs ≡ b → slot_count ss ≡ slot_count ss' → HoldsSlots mark ts ss → Gives (λ us. HoldsSlots mark us ss') (merge_changes ts cs)
      → Gives (λ u. HoldsItem mark u (met_slots ss')) (merge_option (slots_tree ts) (if b then None else Some (inner cs)))
  slots_inner ts ss ss' cs true e c h k = (ts, refl, empty_gives ts cs e (λ us. HoldsSlots mark us ss') k)
  slots_inner no_trees ss ss' no_changes false e c h k = absurd (true≢false e)
  slots_inner no_trees ss ss' (skip cs) false e c h k = absurd k
  slots_inner no_trees ss ss' (change x cs) false e c h k = absurd k
  slots_inner (tree t ts) ss ss' cs false e c h k = made (merge_changes (tree t ts) cs) k
    where
      again : (us : Trees) → HoldsSlots mark us ss' → count us ≡ suc (count ts) → node (empties (tree t ts)) us ≡ slots_tree us
      again no_trees l q = absurd (omega arith)
      again (tree u us) l q = let d : count ts ≡ count us = omega arith in ap (λ x. node ([] ∷ x) (tree u us)) (empties_same ts us d)

      made : (o : Option Trees) → Gives (λ us. HoldsSlots mark us ss') o → Gives (λ u. HoldsItem mark u (met_slots ss')) (option_map (node (empties (tree t ts))) o)
      made (Some us) l = (us, again us l (held_count us ss' l ∙ sym c ∙ sym (held_count (tree t ts) ss h)), l)
      made None l = absurd l

  slots_give : (ts : Trees) (ss ss' : Slots) (c : Bool) (cs : Changes) → (slot_count ss == slot_count ss') ≡ c → HoldsSlots mark ts ss → FreshSlots ss' → GoodSlots ss' → (c ≡ true → Gives (λ us. HoldsSlots mark us ss') (merge_changes ts cs))
      → Gives (λ u. HoldsItem mark u (met_slots ss')) (merge_option (slots_tree ts) (if c then unless_empty cs else Some (write (slots_tree (whole_slots ss')))))
  slots_give ts ss ss' true cs e h f g k = slots_inner ts ss ss' cs (is_empty cs) refl ((Decides-eqb (slot_count ss) (slot_count ss')).0 e) h (k refl)
  slots_give ts ss ss' false cs e h f g k = write_gives (λ u. HoldsItem mark u (met_slots ss')) (slots_tree ts) (slots_tree (whole_slots ss')) (opened_item_holds (met_slots ss') f g)

  node_gives : (c : Bool) (st st' : List (List ℕ)) (ts : Trees) (is is' : Items) → (c ≡ true → st ≡ st') → (c ≡ true → Gives (λ us. Holds mark us is') (merge_changes ts (lean_places is is'))) → (c ≡ false → Fresh is') → Good is'
      → Gives (Inner st' is') (merge_option (node st ts) (if c then unless_empty (lean_places is is') else Some (write (node st' (whole_places is')))))
  node_gives true st st' ts is is' s k f g = inner_gives st st' ts (lean_places is is') is' _ refl (s refl) (k refl)
  node_gives false st st' ts is is' s k f g = (opened_all (whole_places is'), refl, opened_holds is' (f refl) g)

  number_gives : (c : Bool) (n n' : ℕ) → (n == n') ≡ c → Gives (λ u. u ≡ number n') (merge_option (number n) (if c then None else Some (write (number n'))))
  number_gives true n n' e = ap number ((Decides-eqb n n').0 e)
  number_gives false n n' e = refl

  text_gives : (c : Bool) (t t' : List ℕ) → (c ≡ true → t ≡ t') → Gives (λ u. u ≡ text t') (merge_option (text t) (if c then None else Some (write (text t'))))
  text_gives true t t' h = ap text (h refl)
  text_gives false t t' h = refl

  mutual
    pub lean_merges : (ts : Trees) (is is' : Items) → Holds mark ts is → Kept is is' → Good is' → Gives (λ us. Holds mark us is') (merge_changes ts (lean_places is is'))
    lean_merges no_trees no_items no_items h k g = tt
    lean_merges (tree t ts) (item i is) (item i' is') h k g = change_gives t ts (lean_place i i') (lean_places is is') i' is' (item_merges t i i' h.0 k.0 g.0) (lean_merges ts is is' h.1 k.1 g.1)
    lean_merges no_trees (item i is) is' h k g = absurd h
    lean_merges (tree t ts) no_items is' h k g = absurd h
    lean_merges no_trees no_items (item i' is') h k g = absurd k
    lean_merges (tree t ts) (item i is) no_items h k g = absurd k

    item_merges : (t : Tree) (i i' : Item) → HoldsItem mark t i → KeptItem i i' → GoodItem i' → Gives (λ u. HoldsItem mark u i') (merge_option t (lean_place i i'))
    item_merges t (met_text r s) (met_text r' s') h k g =
        subst (λ x. Gives (λ u. u ≡ text s') (merge_option x (if same_reading r r' then None else Some (write (text s'))))) (sym h) (text_gives (same_reading r r') s s' (λ e. k (reading_sound r r' e)))
    item_merges t met_nothing met_nothing h k g = h
    item_merges t met_nothing (met_branch j st' is') h k g = write_gives (Inner st' is') t (node st' (whole_places is')) (opened_all (whole_places is'), refl, opened_holds is' k g)
    item_merges t (met_branch i st is) met_nothing h k g = write_gives (λ u. u ≡ text []) t (text []) refl
    item_merges t (met_branch i st is) (met_branch j st' is') h k g =
        subst (λ x. Gives (Inner st' is') (merge_option x (if i == j then unless_empty (lean_places is is') else Some (write (node st' (whole_places is')))))) (sym h.1)
        (node_gives (i == j) st st' h.0 is is' (λ e. (k.0 e).0) (λ e. lean_merges h.0 is is' h.2 (k.0 e).1 g) k.1 g)
    item_merges t (met_rows r st rs) (met_rows r' st' rs') h k g =
        subst (λ x. Gives (λ u. u ≡ opened (rows_tree st' (whole_rows rs'))) (merge_option x (if same_reading r r' then None else rows_change st' (whole_rows rs) (whole_rows rs')))) (sym h)
        (gives_eq (λ u. u ≡ opened (rows_tree st' (whole_rows rs'))) _ _ (rows_give (same_reading r r') st st' (whole_rows rs) (whole_rows rs') k.0 g.0 (λ e. k.1 (reading_sound r r' e))) refl)
    item_merges t (met_call st is) (met_call st' is') h k g =
        subst (λ x. Gives (Inner st' is') (merge_option x (unless_empty (lean_places is is')))) (sym h.1) (inner_gives st st' h.0 (lean_places is is') is' _ refl k.0 (lean_merges h.0 is is' h.2 k.1 g))
    item_merges t (met_slots ss) (met_slots ss') h k g =
        subst (λ x. Gives (λ u. HoldsItem mark u (met_slots ss')) (merge_option x (if slot_count ss == slot_count ss' then unless_empty (lean_slots ss ss') else Some (write (slots_tree (whole_slots ss')))))) (sym h.1)
        (slots_give h.0 ss ss' (slot_count ss == slot_count ss') (lean_slots ss ss') refl h.2 k.1 g (λ e. slots_merge h.0 ss ss' ((Decides-eqb (slot_count ss) (slot_count ss')).0 e) h.2 k.0 k.1 g))
    item_merges t (met_component n st is) (met_component n' st' is') h k g =
        subst (λ x. Gives (λ u. u ≡ number n') (merge_option x (if n == n' then None else Some (write (number n'))))) (sym h) (number_gives (n == n') n n' refl)
    item_merges t (met_stream name rs b st new) (met_stream name' rs' b' st' new') h k g =
        subst (λ x. Gives (λ u. HoldsItem mark u (met_stream name' rs' b' st' new')) (merge_option x (if does_nothing b' then None else Some (batch name' b' (whole_rows new'))))) (sym h.1)
        (stream_gives (does_nothing b') name name' st st' h.0 (after b (row_texts mark st new) rs) rs' b' new' refl k.0 k.1 k.2 g.0 g.1 g.2 h.2)
    item_merges t _ _ h k g = elim k [ ]

    slots_merge : (ts : Trees) (ss ss' : Slots) → slot_count ss ≡ slot_count ss' → HoldsSlots mark ts ss → KeptSlots ss ss' → FreshSlots ss' → GoodSlots ss' → Gives (λ us. HoldsSlots mark us ss') (merge_changes ts (lean_slots ss ss'))
    slots_merge no_trees no_slots no_slots e h k f g = tt
    slots_merge (tree t ts) (slot_of b st is ss) (slot_of b' st' is' ss') e h k f g =
        let e' : slot_count ss ≡ slot_count ss' = omega arith in
        slot_gives t ts (if b == b' then unless_empty (lean_places is is') else Some (write (node st' (whole_places is')))) (lean_slots ss ss') b' st' is' ss'
        (subst (λ x. Gives (Inner st' is') (merge_option x (if b == b' then unless_empty (lean_places is is') else Some (write (node st' (whole_places is')))))) (sym h.0.1)
        (node_gives (b == b') st st' h.0.0 is is' (λ q. (k.0 q).0) (λ q. lean_merges h.0.0 is is' h.0.2 (k.0 q).1 g.0) (λ q. f.0) g.0))
        (slots_merge ts ss ss' e' h.1 k.1 f.1 g.1)
    slots_merge no_trees (slot_of b st is ss) ss' e h k f g = absurd h
    slots_merge (tree t ts) no_slots ss' e h k f g = absurd h
    slots_merge no_trees no_slots (slot_of b st is ss) e h k f g = absurd (omega arith)
    slots_merge (tree t ts) (slot_of b st is ss) no_slots e h k f g = absurd (omega arith)
