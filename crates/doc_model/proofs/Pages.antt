-- The show law and the merge law for pages with components.
use Rattle.std.proofs.Common.{◌≡◌, ℕ, zero, suc, ◌≤◌, List, [], ◌∷◌, Ok, Option, Some, None, option_map, Bool, true, false, ◌==◌, if◌then◌else◌, refl, sym, ap, ◌∙◌, subst, arith}
use Rattle.std.proofs.lemmas.Bool.Decides.{Decides-eqb}
use Rattle.ast_core.specs.Syntax.{Nodes}
use Rattle.doc_model.specs.Environment.{Component, Env}
use Rattle.doc_model.specs.Evaluation.{Res, on_res}
use Rattle.diff_tree.specs.Tree.{Tree, text, number, node, list, stream, held, Trees, weave, show_value, opened_all, merge_change, merge_changes, Change, write, inner}
use Rattle.doc_model.specs.Trace.{Items, no_items, item, Item, met_text, met_nothing, met_branch, met_rows, met_call, met_slots, met_component, met_stream, ItemRows, no_item_rows, item_row, Slots, no_slots, slot_of, texts}
use Rattle.doc_model.specs.Whole.{whole_places}
use Rattle.doc_model.specs.Lean.{lean_places, unless_empty}
use Rattle.doc_model.specs.Holding.{Sees, SeesItem, SeesRows, SeesSlots, Holds, Fresh}
use Rattle.doc_model.specs.Left.{Unused, Leaves, Based}
use Rattle.doc_model.specs.Components.{Part, parts, parts_of, parts_of_rows, parts_of_slots, part_at, whole_tree, option_tree, lean_part, lean_parts, lean_diff, numbered, HoldsNode, HoldsOption, HoldsPart, HeldTree, AllOf, Distinct, depth, depth_of, depth_of_rows, depth_of_slots, Lives, Follows}
use Rattle.diff_tree.specs.Client.{PageTree, changed, with_component, with_numbers, and_then, merge_components, merge_parts, look}
use Rattle.doc_model.specs.Laws.{Gives, WholeTreeShows, HeldTreeShows}
use Rattle.doc_model.specs.Scopes.{Site}
use Rattle.doc_model.specs.Tracing.{trace}
use Rattle.ast_core.specs.Places.{cut, places_in}
use Rattle.doc_model.proofs.Results.{On, Pair}
use Rattle.doc_model.proofs.Shows.{trace_shown}
use Rattle.doc_model.proofs.Wholes.{Good, GoodItem, GoodRows, GoodSlots, still_rows, held_shows, whole_shows}
use Rattle.doc_model.proofs.Merges.{Kept, lean_merges, opened_holds, merge_option, inner_gives}
use Rattle.doc_model.proofs.Facts.{unused_all, trace_good, trace_fresh}
use Rattle.doc_model.proofs.Keeps.{trace_keeps}
use Rattle.doc_model.proofs.Origins.{all_left, all_right, all_weaker, all_both, Origin, scope_of, trace_comes}

-- a component is found, and shows its text where those inside show theirs
abbrev ShowsPart : (ℕ → List ℕ → List ℕ) → (ℕ → Option Tree) → Part → Type 0
ShowsPart mark f p = (t : Tree) × (f p.number ≡ Some t) × ((lk : ℕ → List ℕ) → Sees mark lk p.items → show_value lk t ≡ weave p.statics (texts mark p.items))

module _ (mark : ℕ → List ℕ → List ℕ) (f : ℕ → Option Tree) where
  mutual
    sees : (is : Items) (k : ℕ) → depth is ≤ k → Good is → AllOf (λ p. Good p.items) (parts is) → AllOf (ShowsPart mark f) (parts is) → Sees mark (look mark k f) is
    sees no_items k d g gs h = tt
    sees (item i is) k d g gs h = (
      sees_item i k (omega arith) g.0 (all_left (λ p. Good p.items) (parts_of i) (parts is) gs) (all_left (ShowsPart mark f) (parts_of i) (parts is) h),
      sees is k (omega arith) g.1 (all_right (λ p. Good p.items) (parts_of i) (parts is) gs) (all_right (ShowsPart mark f) (parts_of i) (parts is) h),
    )

    sees_item : (i : Item) (k : ℕ) → depth_of i ≤ k → GoodItem i → AllOf (λ p. Good p.items) (parts_of i) → AllOf (ShowsPart mark f) (parts_of i) → SeesItem mark (look mark k f) i
    sees_item (met_text r t) k d g gs h = tt
    sees_item met_nothing k d g gs h = tt
    sees_item (met_branch i st is) k d g gs h = sees is k d g gs h
    sees_item (met_rows r st rs) k d g gs h = sees_rows rs k d g.2 gs h
    sees_item (met_call st is) k d g gs h = sees is k d g gs h
    sees_item (met_slots ss) k d g gs h = sees_slots ss k d g gs h
    sees_item (met_component n st is) zero d g gs h = absurd (omega arith)
    sees_item (met_component n st is) (suc k) d g gs h =
        ap (λ o. elim o [ None ↦ [] | Some t ↦ mark n (show_value (look mark k f) t) ]) h.0.1 ∙ ap (mark n) (h.0.2 (look mark k f) (sees is k (omega arith) gs.0 gs.1 h.1))
    sees_item (met_stream name rs b st new) k d g gs h = still_rows mark (look mark k f) new g.2

    sees_rows : (rs : ItemRows) (k : ℕ) → depth_of_rows rs ≤ k → GoodRows rs → AllOf (λ p. Good p.items) (parts_of_rows rs) → AllOf (ShowsPart mark f) (parts_of_rows rs) → SeesRows mark (look mark k f) rs
    sees_rows no_item_rows k d g gs h = tt
    sees_rows (item_row is rs) k d g gs h = (
      sees is k (omega arith) g.0 (all_left (λ p. Good p.items) (parts is) (parts_of_rows rs) gs) (all_left (ShowsPart mark f) (parts is) (parts_of_rows rs) h),
      sees_rows rs k (omega arith) g.1 (all_right (λ p. Good p.items) (parts is) (parts_of_rows rs) gs) (all_right (ShowsPart mark f) (parts is) (parts_of_rows rs) h),
    )

    sees_slots : (ss : Slots) (k : ℕ) → depth_of_slots ss ≤ k → GoodSlots ss → AllOf (λ p. Good p.items) (parts_of_slots ss) → AllOf (ShowsPart mark f) (parts_of_slots ss) → SeesSlots mark (look mark k f) ss
    sees_slots no_slots k d g gs h = tt
    sees_slots (slot_of b st is ss) k d g gs h = (
      sees is k (omega arith) g.0 (all_left (λ p. Good p.items) (parts is) (parts_of_slots ss) gs) (all_left (ShowsPart mark f) (parts is) (parts_of_slots ss) h),
      sees_slots ss k (omega arith) g.1 (all_right (λ p. Good p.items) (parts is) (parts_of_slots ss) gs) (all_right (ShowsPart mark f) (parts is) (parts_of_slots ss) h),
    )

-- every trace is good, and so are its components'
pub good_of : (site : Site) (k : ℕ) (env : Env) (ns : Nodes) (is : Items) → trace site k env ns ≡ Ok is → Good is
good_of site k env ns is e = subst (On Good) e (trace_good site k env ns)

pub origins : (site : Site) (k : ℕ) (env : Env) (ns : Nodes) (is : Items) → trace site k env ns ≡ Ok is → AllOf (Origin site env.components) (parts is)
origins site k env ns is e = subst (On (λ is. AllOf (Origin site env.components) (parts is))) e (trace_comes site k env ns)

pub goods : (site : Site) (k : ℕ) (env : Env) (ns : Nodes) (is : Items) → trace site k env ns ≡ Ok is → AllOf (λ p. Good p.items) (parts is)
goods site k env ns is e =
    all_weaker (Origin site env.components) (λ p. Good p.items) (parts is) (λ p o. good_of site o.level (scope_of env.components o.component) (site.root o.component.module_name) p.items o.rendered) (origins site k env ns is e)

-- for what a client holds
held_part : (mark : ℕ → List ℕ → List ℕ) (f : ℕ → Option Tree) (p : Part) → HoldsPart mark f p → Good p.items → ShowsPart mark f p
held_part mark f p h g = by_tree (f p.number) refl h
  where
    by_tree : (o : Option Tree) → f p.number ≡ o → HoldsOption mark p o → ShowsPart mark f p
    by_tree None e k = absurd k
    by_tree (Some t) e k = (t, e, λ lk s. ap (show_value lk) k.1 ∙ ap (weave p.statics) (held_shows mark lk k.0 p.items k.2 g s))

pub page_shows : HeldTreeShows
page_shows site k env ns is p e h n d =
    let g = good_of site k env ns is e in
    let gs = goods site k env ns is e in
    let s = sees site.mark p.component is n d g gs (all_both (HoldsPart site.mark p.component) (λ q. Good q.items) (ShowsPart site.mark p.component) (parts is) (λ q x y. held_part site.mark p.component q x y) h.1 gs) in
    sym (trace_shown site k env ns) ∙ ap (on_res (λ x. weave (cut ns) (texts site.mark x))) e
    ∙ ap Ok (sym (ap (show_value (look site.mark n p.component)) h.0.1 ∙ ap (weave (cut ns)) (held_shows site.mark (look site.mark n p.component) h.0.0 is h.0.2 g s)))

-- for what is sent whole
other_number : (n m : ℕ) → (n ≡ m → ⊥) → (n == m) ≡ false
other_number n m h = by_test (n == m) refl
  where
    by_test : (b : Bool) → (n == m) ≡ b → b ≡ false
    by_test true e = absurd (h ((Decides-eqb n m).0 e))
    by_test false e = refl

same_number : (n m : ℕ) → n ≡ m → (n == m) ≡ true
same_number n m e = (Decides-eqb n m).1 e

pub all_found : (ps : List Part) → Distinct ps → AllOf (λ p. part_at p.number ps ≡ Some p) ps
all_found [] d = tt
all_found (p ∷ ps) d = (
  ap (λ b. if b then Some p else part_at p.number ps) (same_number p.number p.number refl),
  all_both (λ q. q.number ≡ p.number → ⊥) (λ q. part_at q.number ps ≡ Some q) (λ q. part_at q.number (p ∷ ps) ≡ Some q) ps
      (λ q x y. ap (λ b. if b then Some p else part_at q.number ps) (other_number q.number p.number x) ∙ y) d.0 (all_found ps d.1),
)

pub whole_page_shows : WholeTreeShows
whole_page_shows site k env ns is e di fr frs n d =
    let g = good_of site k env ns is e in
    let gs = goods site k env ns is e in
    let f = (whole_tree (cut ns) is).component in
    let sp = all_both (λ p. part_at p.number (parts is) ≡ Some p) (λ p. Fresh p.items) (ShowsPart site.mark f) (parts is)
    (λ p x y. (node p.statics (whole_places p.items), ap option_tree x, λ lk s. ap (weave p.statics) (whole_shows site.mark lk p.items y s))) (all_found (parts is) di) frs in
    sym (trace_shown site k env ns) ∙ ap (on_res (λ x. weave (cut ns) (texts site.mark x))) e
    ∙ ap Ok (sym (ap (weave (cut ns)) (whole_shows site.mark (look site.mark n f) is fr (sees site.mark f is n d g gs sp))))

-- lean diffs
abbrev ReadyOf : (ℕ → List ℕ → List ℕ) → Option Tree → Option Part → Part → Type 0
ReadyOf mark o None p = Fresh p.items × Good p.items
ReadyOf mark o (Some q) p = HoldsOption mark q o × (q.statics ≡ p.statics) × Kept mark q.items p.items × Good p.items

abbrev Ready : (ℕ → List ℕ → List ℕ) → (ℕ → Option Tree) → List Part → Part → Type 0
Ready mark f old p = ReadyOf mark (f p.number) (part_at p.number old) p

module _ (mark : ℕ → List ℕ → List ℕ) where
  -- one component
  abbrev changed_option : Option Tree → Option Change → Option Tree
  changed_option o None = o
  changed_option o (Some c) = changed o c

  node_merges : (st st' : List (List ℕ)) (t : Tree) (is is' : Items) → HoldsNode mark st is t → st ≡ st' → Kept mark is is' → Good is' → Gives (HoldsNode mark st' is') (merge_option t (unless_empty (lean_places is is')))
  node_merges st st' t is is' h s k g =
      subst (λ u. Gives (HoldsNode mark st' is') (merge_option u (unless_empty (lean_places is is')))) (sym h.1) (inner_gives mark st st' h.0 (lean_places is is') is' _ refl s (lean_merges mark h.0 is is' h.2 k g))

  written_holds : (o : Option Tree) (p : Part) → Fresh p.items → Good p.items → Gives (HoldsNode mark p.statics p.items) (changed o (write (node p.statics (whole_places p.items))))
  written_holds None p f g = (opened_all (whole_places p.items), refl, opened_holds mark p.items f g)
  written_holds (Some (text t)) p f g = (opened_all (whole_places p.items), refl, opened_holds mark p.items f g)
  written_holds (Some (number n)) p f g = (opened_all (whole_places p.items), refl, opened_holds mark p.items f g)
  written_holds (Some (node st ts)) p f g = (opened_all (whole_places p.items), refl, opened_holds mark p.items f g)
  written_holds (Some (list st rs)) p f g = (opened_all (whole_places p.items), refl, opened_holds mark p.items f g)
  written_holds (Some (stream m b st rs)) p f g = (opened_all (whole_places p.items), refl, opened_holds mark p.items f g)
  written_holds (Some (held m st hs)) p f g = (opened_all (whole_places p.items), refl, opened_holds mark p.items f g)

  option_merges : (t : Tree) (c : Option Change) (P : Tree → Type 0) → Gives P (merge_option t c) → Gives P (changed_option (Some t) c)
  option_merges t None P h = h
  option_merges t (Some c) P h = h

  part_merges : (o : Option Tree) (q : Option Part) (p : Part) → ReadyOf mark o q p → Gives (HoldsNode mark p.statics p.items) (changed_option o (lean_part q p))
  part_merges o None p h = written_holds o p h.0 h.1
  part_merges None (Some q) p h = absurd h.0
  part_merges (Some t) (Some q) p h = option_merges t (unless_empty (lean_places q.items p.items)) (HoldsNode mark p.statics p.items) (node_merges q.statics p.statics t q.items p.items h.0 h.1 h.2 h.3)

  -- all components, one after the other
  abbrev Merged : (ℕ → Option Tree) → List Part → (ℕ → Option Tree) → Type 0
  Merged f ps f' = AllOf (HoldsPart mark f') ps × ((n : ℕ) → AllOf (λ p. n ≡ p.number → ⊥) ps → f' n ≡ f n)

  holds_at : (f : ℕ → Option Tree) (p : Part) (t : Tree) → f p.number ≡ Some t → HoldsNode mark p.statics p.items t → HoldsPart mark f p
  holds_at f p t e h = subst (HoldsOption mark p) (sym e) h

  abbrev Rest : (ℕ → Option Tree) → List Part → List (ℕ × Change) → Type 0
  Rest f ps cs = Gives (Merged f ps) (merge_components f cs)

  set_same : (n : ℕ) (t : Tree) (f : ℕ → Option Tree) → with_component n t f n ≡ Some t
  set_same n t f = ap (λ b. if b then Some t else f n) (same_number n n refl)

  set_other : (n m : ℕ) (t : Tree) (f : ℕ → Option Tree) → (m ≡ n → ⊥) → with_component n t f m ≡ f m
  set_other n m t f h = ap (λ b. if b then Some t else f m) (other_number m n h)

  pub gives_weaker : {A : Type 0} (P Q : A → Type 0) (o : Option A) → ((x : A) → P x → Q x) → Gives P o → Gives Q o
  gives_weaker P Q (Some x) h k = h x k
  gives_weaker P Q None h k = absurd k

  flip_all : (p : Part) (ps : List Part) → AllOf (λ q. q.number ≡ p.number → ⊥) ps → AllOf (λ q. p.number ≡ q.number → ⊥) ps
  flip_all p ps h = all_weaker (λ q. q.number ≡ p.number → ⊥) (λ q. p.number ≡ q.number → ⊥) ps (λ q k e. k (sym e)) h

  -- what is left after the first component
  kept_first : (f : ℕ → Option Tree) (p : Part) (ps : List Part) (t : Tree) → f p.number ≡ Some t → HoldsNode mark p.statics p.items t → AllOf (λ q. q.number ≡ p.number → ⊥) ps → (f' : ℕ → Option Tree) → Merged f ps f' → Merged f (p ∷ ps) f'
  kept_first f p ps t e h d f' r = ((holds_at f' p t (r.1 p.number (flip_all p ps d) ∙ e) h, r.0), λ n k. r.1 n k.1)

  set_first : (f : ℕ → Option Tree) (p : Part) (ps : List Part) (t : Tree) → HoldsNode mark p.statics p.items t → AllOf (λ q. q.number ≡ p.number → ⊥) ps → (f' : ℕ → Option Tree) → Merged (with_component p.number t f) ps f' → Merged f (p ∷ ps) f'
  set_first f p ps t h d f' r =
      ((holds_at f' p t (r.1 p.number (flip_all p ps d) ∙ set_same p.number t f) h, r.0), λ n k. r.1 n k.1 ∙ set_other p.number n t f k.0)

  first_step : (f : ℕ → Option Tree) (p : Part) (ps : List Part) (cs : List (ℕ × Change)) (c : Option Change) → AllOf (λ q. q.number ≡ p.number → ⊥) ps
      → Gives (HoldsNode mark p.statics p.items) (changed_option (f p.number) c) → ((g : ℕ → Option Tree) → ((m : ℕ) → (m ≡ p.number → ⊥) → g m ≡ f m) → Rest g ps cs) → Rest f (p ∷ ps) (numbered p.number c cs)
  first_step f p ps cs None d h r = by_tree (f p.number) refl h
    where
      by_tree : (o : Option Tree) → f p.number ≡ o → Gives (HoldsNode mark p.statics p.items) o → Rest f (p ∷ ps) cs
      by_tree (Some t) e k = gives_weaker (Merged f ps) (Merged f (p ∷ ps)) (merge_components f cs) (kept_first f p ps t e k d) (r f (λ m x. refl))
      by_tree None e k = absurd k
  first_step f p ps cs (Some c) d h r = by_tree (changed (f p.number) c) h
    where
      by_tree : (o : Option Tree) → Gives (HoldsNode mark p.statics p.items) o → Gives (Merged f (p ∷ ps)) (and_then o (λ t. merge_components (with_component p.number t f) cs))
      by_tree (Some t) k =
          gives_weaker (Merged (with_component p.number t f) ps) (Merged f (p ∷ ps)) (merge_components (with_component p.number t f) cs) (set_first f p ps t k d) (r (with_component p.number t f) (λ m x. set_other p.number m t f x))
      by_tree None k = absurd k

  ready_same : (f g : ℕ → Option Tree) (old : List Part) (p : Part) → g p.number ≡ f p.number → Ready mark f old p → Ready mark g old p
  ready_same f g old p e h = subst (λ o. ReadyOf mark o (part_at p.number old) p) (sym e) h

  parts_merge : (old ps : List Part) (f : ℕ → Option Tree) → Distinct ps → AllOf (Ready mark f old) ps → Gives (Merged f ps) (merge_components f (lean_parts old ps))
  parts_merge old [] f d h = (tt, λ n k. refl)
  parts_merge old (p ∷ ps) f d h =
      first_step f p ps (lean_parts old ps) (lean_part (part_at p.number old) p) d.0 (part_merges (f p.number) (part_at p.number old) p h.0)
      (λ g e. parts_merge old ps g d.1 (all_both (λ q. q.number ≡ p.number → ⊥) (Ready mark f old) (Ready mark g old) ps (λ q x y. ready_same f g old q (e q.number x) y) d.0 h.1))

  -- what a diff makes of the root and of the components, before numbers are judged
  abbrev pub Parts : Items → Items → List (List ℕ) → PageTree → PageTree → Type 0
  Parts is is' st p m =
      HoldsNode mark st is' m.root × AllOf (HoldsPart mark m.component) (parts is') × ((n : ℕ) → AllOf (λ q. n ≡ q.number → ⊥) (parts is') → m.component n ≡ p.component n)
      × (m.numbers ≡ with_numbers (lean_parts (parts is) (parts is')) p.numbers)

  page_merges : (st : List (List ℕ)) (is is' : Items) (p : PageTree) → HoldsNode mark st is p.root → Kept mark is is' → Good is' → Distinct (parts is') → AllOf (Ready mark p.component (parts is)) (parts is')
      → Gives (Parts is is' st p) (merge_parts p (lean_diff is is'))
  page_merges st is is' p h k g d r = by_root (merge_change p.root (inner (lean_places is is'))) root
    where
      by_trees : (o : Option Trees) → Gives (λ us. Holds mark us is') o → Gives (HoldsNode mark st is') (option_map (node st) o)
      by_trees (Some us) q = (us, refl, q)
      by_trees None q = absurd q

      root : Gives (HoldsNode mark st is') (merge_change p.root (inner (lean_places is is')))
      root = subst (λ u. Gives (HoldsNode mark st is') (merge_change u (inner (lean_places is is')))) (sym h.1) (by_trees (merge_changes h.0 (lean_places is is')) (lean_merges mark h.0 is is' h.2 k g))

      by_root : (o : Option Tree) → Gives (HoldsNode mark st is') o
          → Gives (Parts is is' st p) (and_then o (λ t. and_then (merge_components p.component (lean_parts (parts is) (parts is'))) (λ f. Some (record { root = t; numbers = with_numbers (lean_parts (parts is) (parts is')) p.numbers; component = f }))))
      by_root None q = absurd q
      by_root (Some t) q = by_parts (merge_components p.component (lean_parts (parts is) (parts is'))) (parts_merge (parts is) (parts is') p.component d r)
        where
          by_parts : (o : Option (ℕ → Option Tree)) → Gives (Merged p.component (parts is')) o → Gives (Parts is is' st p) (and_then o (λ f. Some (record { root = t; numbers = with_numbers (lean_parts (parts is) (parts is')) p.numbers; component = f })))
          by_parts (Some f) x = (q, x.0, x.1, refl)
          by_parts None x = absurd x

-- what is found at a number
pub at_all : (P : Part → Type 0) (n : ℕ) (ps : List Part) (q : Part) → AllOf P ps → part_at n ps ≡ Some q → P q × (n ≡ q.number)
at_all P n [] q h e = cc
at_all P n (p ∷ ps) q h e = by_test (n == p.number) refl e (λ k. at_all P n ps q h.1 k)
  where
    by_test : (b : Bool) → (n == p.number) ≡ b → (if b then Some p else part_at n ps) ≡ Some q → (part_at n ps ≡ Some q → P q × (n ≡ q.number)) → P q × (n ≡ q.number)
    by_test true e k r = let m : p ≡ q = cc in (subst P m h.0, (Decides-eqb n p.number).0 e ∙ ap (λ x. x.number) m)
    by_test false e k r = r k

-- lean diffs
module _ (site : Site) (k l : ℕ) (a b : Env) (ns : Nodes) (is is' : Items) (page : PageTree) (fo : Follows site ns a b is) where
  abbrev Left : Part → Type 0
  Left q = (c : Component) → Lives c a.components → c.number ≡ q.number → Leaves site.mark (fo.of_component q.number) (places_in (site.root c.module_name)) q.items

  abbrev Old : Part → Type 0
  Old q = HoldsPart site.mark page.component q × Origin site a.components q × Left q

  both_ok : (P : Items → Items → Type 0) (r s : Res Items) (x y : Items) → r ≡ Ok x → s ≡ Ok y → Pair P r s → P x y
  both_ok P r s x y e f h = let i = subst (λ t. Pair P t s) e h in let j = subst (λ t. Pair P (Ok x) t) f i in j

  one_ok : (P : Items → Type 0) (r : Res Items) (x : Items) → r ≡ Ok x → On P r → P x
  one_ok P r x e h = let i = subst (On P) e h in i

  new_ready : (p : Part) → Origin site b.components p → part_at p.number (parts is) ≡ None → Fresh p.items
  new_ready p o e =
      let d = o.component in
      let f = fo.of_component d.number in
      let none : (s : List ℕ) → f s ≡ [] = λ s. fo.new_empty d.number (ap (λ n. part_at n (parts is)) o.number_is ∙ e) s in
      one_ok (λ x. Unused f (site.root d.module_name) → Fresh x) (trace site o.level (scope_of b.components d) (site.root d.module_name)) p.items o.rendered
      (trace_fresh site o.level f (scope_of b.components d) (site.root d.module_name) (fo.part_based d o.lives)) (unused_all f none (site.root d.module_name))

  old_ready : (p q : Part) → Origin site b.components p → Old q → p.number ≡ q.number → (q.statics ≡ p.statics) × Kept site.mark q.items p.items
  old_ready p q o old e =
      let w = old.1 in
      let c = w.component in
      let d = o.component in
      let m : c.module_name ≡ d.module_name = fo.same_modules c d w.lives o.lives (w.number_is ∙ sym e ∙ sym o.number_is) in
      let f = fo.of_component q.number in
      let based : Based f (Some d.streams) = subst (λ n. Based (fo.of_component n) (Some d.streams)) (o.number_is ∙ e) (fo.part_based d o.lives) in
      let there : trace site o.level (scope_of b.components d) (site.root c.module_name) ≡ Ok p.items = ap (λ x. trace site o.level (scope_of b.components d) (site.root x)) m ∙ o.rendered in (
        w.statics_are ∙ ap (λ x. cut (site.root x)) m ∙ sym o.statics_are,
        both_ok (λ x y. Leaves site.mark f (places_in (site.root c.module_name)) x → Kept site.mark x y) (trace site w.level (scope_of a.components c) (site.root c.module_name)) (trace site o.level (scope_of b.components d) (site.root c.module_name))
            q.items p.items w.rendered there (trace_keeps site w.level o.level f (scope_of a.components c) (scope_of b.components d) (site.root c.module_name) fo.same_numbers based) (old.2 c w.lives w.number_is),
      )

  ready : (p : Part) → AllOf Old (parts is) → Origin site b.components p → Good p.items → Ready site.mark page.component (parts is) p
  ready p olds o g = by_part (part_at p.number (parts is)) refl
    where
      by_part : (q : Option Part) → part_at p.number (parts is) ≡ q → ReadyOf site.mark (page.component p.number) q p
      by_part None e = (new_ready p o e, g)
      by_part (Some q) e =
          let h = at_all Old p.number (parts is) q olds e in
          let r = old_ready p q o h.0 h.1 in
          (subst (λ n. HoldsOption site.mark q (page.component n)) (sym h.1) h.0.0, r.0, r.1, g)

pub lean_parts_merge : (site : Site) (k l : ℕ) (a b : Env) (ns : Nodes) (is is' : Items) (p : PageTree) → trace site k a ns ≡ Ok is → trace site l b ns ≡ Ok is'
    → Follows site ns a b is → Distinct (parts is') → HeldTree site.mark (cut ns) is p → Gives (Parts site.mark is is' (cut ns) p) (merge_parts p (lean_diff is is'))
lean_parts_merge site k l a b ns is is' p e e' fo di h =
    let olds : AllOf (λ q. Origin site a.components q × Left site k l a b ns is is' p fo q) (parts is) =
    all_both (Origin site a.components) (Left site k l a b ns is is' p fo) (λ q. Origin site a.components q × Left site k l a b ns is is' p fo q) (parts is) (λ q x y. (x, y)) (origins site k a ns is e) fo.part_left in
    let old = all_both (HoldsPart site.mark p.component) (λ q. Origin site a.components q × Left site k l a b ns is is' p fo q) (Old site k l a b ns is is' p fo) (parts is) (λ q x y. (x, y.0, y.1)) h.1 olds in
    let g = good_of site l b ns is' e' in
    let kept = both_ok site k l a b ns is is' p fo (λ x y. Leaves site.mark fo.containers (places_in ns) x → Kept site.mark x y) (trace site k a ns) (trace site l b ns) is is' e e'
    (trace_keeps site k l fo.containers a b ns fo.same_numbers fo.root_based) fo.root_left in
    page_merges site.mark (cut ns) is is' p h.0 kept g di
    (all_both (Origin site b.components) (λ q. Good q.items) (Ready site.mark p.component (parts is)) (parts is') (λ q x y. ready site k l a b ns is is' p fo q old x y) (origins site l b ns is' e') (goods site l b ns is' e'))
