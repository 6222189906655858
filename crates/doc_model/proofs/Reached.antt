-- From the root exactly the components that were met are reached.
use Rattle.std.proofs.Common.{◌≡◌, ℕ, zero, suc, ◌≤◌, List, [], ◌∷◌, ◌++◌, Option, Some, None, Bool, true, false, ◌==◌, if◌then◌else◌, refl, sym, ap, ◌∙◌, subst, arith, true≢false}
use Rattle.std.proofs.lemmas.Bool.Decides.{Decides-eqb}
use Rattle.diff_tree.specs.Tree.{Tree}
use Rattle.diff_tree.specs.Client.{among, numbers_in, inside, reached, only_among}
use Rattle.diff_tree.proofs.Among.{among_left, among_right}
use Rattle.diff_tree.proofs.Closed.{reach_left, reach_right}
use Rattle.doc_model.specs.Trace.{Items, no_items, item, Item, met_text, met_nothing, met_branch, met_rows, met_call, met_slots, met_component, met_stream, ItemRows, no_item_rows, item_row, Slots, no_slots, slot_of}
use Rattle.doc_model.specs.Components.{Part, parts, parts_of, parts_of_rows, parts_of_slots, part_numbers, AllAmong, AllOf, depth, depth_of, depth_of_rows, depth_of_slots}
use Rattle.doc_model.proofs.Wholes.{Good}
use Rattle.doc_model.proofs.Origins.{all_left, all_right, all_weaker}
use Rattle.doc_model.proofs.Closed.{met, met_at, met_in_rows, met_in_slots, HeldAt, node_numbers, all_append}

itself : (n : ℕ) (ns : List ℕ) → among n (n ∷ ns) ≡ true
itself n ns = ap (λ b. if b then true else among n ns) ((Decides-eqb n n).1 refl)

module _ (mark : ℕ → List ℕ → List ℕ) (g : ℕ → Option Tree) where
  abbrev pub There : Part → Type 0
  There p = Good p.items × HeldAt mark g p

  abbrev From : ℕ → List ℕ → Part → Type 0
  From k ns p = among p.number (reached k g ns) ≡ true

  inside_one : (n : ℕ) (st : List (List ℕ)) (is : Items) → There (record { number = n; statics = st; items = is }) → inside g (n ∷ []) ≡ met is ++ []
  inside_one n st is h = ap (λ o. elim o [ None ↦ [] | Some t ↦ numbers_in t ] ++ []) h.1.is_there ∙ ap (λ x. x ++ []) (node_numbers mark st is h.1.tree_of h.1.holds h.0)

  mutual
    pub parts_reached : (is : Items) (k : ℕ) → depth is ≤ k → AllOf There (parts is) → AllOf (From k (met is)) (parts is)
    parts_reached no_items k l h = tt
    parts_reached (item i is) k l h =
        all_append (From k (met_at i ++ met is)) (parts_of i) (parts is)
        (all_weaker (From k (met_at i)) (From k (met_at i ++ met is)) (parts_of i) (λ p e. reach_left g k p.number (met_at i) (met is) e) (item_reached i k (omega arith) (all_left There (parts_of i) (parts is) h)))
        (all_weaker (From k (met is)) (From k (met_at i ++ met is)) (parts is) (λ p e. reach_right g k p.number (met_at i) (met is) e) (parts_reached is k (omega arith) (all_right There (parts_of i) (parts is) h)))

    item_reached : (i : Item) (k : ℕ) → depth_of i ≤ k → AllOf There (parts_of i) → AllOf (From k (met_at i)) (parts_of i)
    item_reached (met_text r t) k l h = tt
    item_reached met_nothing k l h = tt
    item_reached (met_branch i st is) k l h = parts_reached is k l h
    item_reached (met_rows r st rs) k l h = rows_reached rs k l h
    item_reached (met_call st is) k l h = parts_reached is k l h
    item_reached (met_slots ss) k l h = slots_reached ss k l h
    item_reached (met_component n st is) zero l h = absurd (omega arith)
    item_reached (met_component n st is) (suc k) l h = (
      itself n (reached k g (inside g (n ∷ []))),
      all_weaker (From k (met is)) (From (suc k) (n ∷ [])) (parts is)
          (λ p e. among_right p.number (n ∷ []) (reached k g (inside g (n ∷ []))) (ap (λ x. among p.number (reached k g x)) (inside_one n st is h.0) ∙ reach_left g k p.number (met is) [] e))
          (parts_reached is k (omega arith) h.1),
    )
    item_reached (met_stream name rs b st new) k l h = tt

    rows_reached : (rs : ItemRows) (k : ℕ) → depth_of_rows rs ≤ k → AllOf There (parts_of_rows rs) → AllOf (From k (met_in_rows rs)) (parts_of_rows rs)
    rows_reached no_item_rows k l h = tt
    rows_reached (item_row is rs) k l h =
        all_append (From k (met is ++ met_in_rows rs)) (parts is) (parts_of_rows rs)
        (all_weaker (From k (met is)) (From k (met is ++ met_in_rows rs)) (parts is) (λ p e. reach_left g k p.number (met is) (met_in_rows rs) e) (parts_reached is k (omega arith) (all_left There (parts is) (parts_of_rows rs) h)))
        (all_weaker (From k (met_in_rows rs)) (From k (met is ++ met_in_rows rs)) (parts_of_rows rs) (λ p e. reach_right g k p.number (met is) (met_in_rows rs) e) (rows_reached rs k (omega arith) (all_right There (parts is) (parts_of_rows rs) h)))

    slots_reached : (ss : Slots) (k : ℕ) → depth_of_slots ss ≤ k → AllOf There (parts_of_slots ss) → AllOf (From k (met_in_slots ss)) (parts_of_slots ss)
    slots_reached no_slots k l h = tt
    slots_reached (slot_of b st is ss) k l h =
        all_append (From k (met is ++ met_in_slots ss)) (parts is) (parts_of_slots ss)
        (all_weaker (From k (met is)) (From k (met is ++ met_in_slots ss)) (parts is) (λ p e. reach_left g k p.number (met is) (met_in_slots ss) e) (parts_reached is k (omega arith) (all_left There (parts is) (parts_of_slots ss) h)))
        (all_weaker (From k (met_in_slots ss)) (From k (met is ++ met_in_slots ss)) (parts_of_slots ss) (λ p e. reach_right g k p.number (met is) (met_in_slots ss) e) (slots_reached ss k (omega arith) (all_right There (parts is) (parts_of_slots ss) h)))

-- only components that were met
pub all_among_weaker : (ns ks ls : List ℕ) → ((n : ℕ) → among n ks ≡ true → among n ls ≡ true) → AllAmong ns ks → AllAmong ns ls
all_among_weaker [] ks ls w h = tt
all_among_weaker (n ∷ ns) ks ls w h = (w n h.0, all_among_weaker ns ks ls w h.1)

pub all_among_append : (a b ks : List ℕ) → AllAmong a ks → AllAmong b ks → AllAmong (a ++ b) ks
all_among_append [] b ks h k = k
all_among_append (n ∷ a) b ks h k = (h.0, all_among_append a b ks h.1 k)

part_numbers-append : (ps qs : List Part) → part_numbers (ps ++ qs) ≡ part_numbers ps ++ part_numbers qs
part_numbers-append [] qs = refl
part_numbers-append (p ∷ ps) qs = ap (λ x. p.number ∷ x) (part_numbers-append ps qs)

-- more to the right and more to the left
wider_left : (ns : List ℕ) (ps qs : List Part) → AllAmong ns (part_numbers ps) → AllAmong ns (part_numbers (ps ++ qs))
wider_left ns ps qs h = all_among_weaker ns (part_numbers ps) (part_numbers (ps ++ qs)) (λ n e. ap (among n) (part_numbers-append ps qs) ∙ among_left n (part_numbers ps) (part_numbers qs) e) h

wider_right : (ns : List ℕ) (ps qs : List Part) → AllAmong ns (part_numbers qs) → AllAmong ns (part_numbers (ps ++ qs))
wider_right ns ps qs h = all_among_weaker ns (part_numbers qs) (part_numbers (ps ++ qs)) (λ n e. ap (among n) (part_numbers-append ps qs) ∙ among_right n (part_numbers ps) (part_numbers qs) e) h

-- what stands in a part
abbrev Inside : List Part → Part → Type 0
Inside ps p = AllAmong (met p.items) (part_numbers ps)

abbrev Known : List ℕ → List Part → Type 0
Known ns ps = AllAmong ns (part_numbers ps) × AllOf (Inside ps) ps

known_append : (a b : List ℕ) (ps qs : List Part) → Known a ps → Known b qs → Known (a ++ b) (ps ++ qs)
known_append a b ps qs h k = (
  all_among_append a b (part_numbers (ps ++ qs)) (wider_left a ps qs h.0) (wider_right b ps qs k.0),
  all_append (Inside (ps ++ qs)) ps qs
      (all_weaker (Inside ps) (Inside (ps ++ qs)) ps (λ p e. wider_left (met p.items) ps qs e) h.1)
      (all_weaker (Inside qs) (Inside (ps ++ qs)) qs (λ p e. wider_right (met p.items) ps qs e) k.1),
)

mutual
  pub known : (is : Items) → Known (met is) (parts is)
  known no_items = (tt, tt)
  known (item i is) = known_append (met_at i) (met is) (parts_of i) (parts is) (known_item i) (known is)

  known_item : (i : Item) → Known (met_at i) (parts_of i)
  known_item (met_text r t) = (tt, tt)
  known_item met_nothing = (tt, tt)
  known_item (met_branch i st is) = known is
  known_item (met_rows r st rs) = known_rows rs
  known_item (met_call st is) = known is
  known_item (met_slots ss) = known_slots ss
  known_item (met_component n st is) =
      let ps = parts is in
      let p : Part = record { number = n; statics = st; items = is } in
      let w : (ns : List ℕ) → AllAmong ns (part_numbers ps) → AllAmong ns (part_numbers (p ∷ ps)) = λ ns h. wider_right ns (p ∷ []) ps h in
      ((itself n (part_numbers ps), tt), (w (met is) (known is).0, all_weaker (Inside ps) (Inside (p ∷ ps)) ps (λ q e. w (met q.items) e) (known is).1))
  known_item (met_stream name rs b st new) = (tt, tt)

  known_rows : (rs : ItemRows) → Known (met_in_rows rs) (parts_of_rows rs)
  known_rows no_item_rows = (tt, tt)
  known_rows (item_row is rs) = known_append (met is) (met_in_rows rs) (parts is) (parts_of_rows rs) (known is) (known_rows rs)

  known_slots : (ss : Slots) → Known (met_in_slots ss) (parts_of_slots ss)
  known_slots no_slots = (tt, tt)
  known_slots (slot_of b st is ss) = known_append (met is) (met_in_slots ss) (parts is) (parts_of_slots ss) (known is) (known_slots ss)

-- what holds of a number of the parts
pub at_number : (P : ℕ → Type 0) (n : ℕ) (ps : List Part) → AllOf (λ p. P p.number) ps → among n (part_numbers ps) ≡ true → P n
at_number P n [] h k = absurd (true≢false (sym k))
at_number P n (p ∷ ps) h k = by_test (n == p.number) refl k (at_number P n ps h.1)
  where
    by_test : (c : Bool) → (n == p.number) ≡ c → (if c then true else among n (part_numbers ps)) ≡ true → (among n (part_numbers ps) ≡ true → P n) → P n
    by_test true e q r = subst P (sym ((Decides-eqb n p.number).0 e)) h.0
    by_test false e q r = r q

module _ (mark : ℕ → List ℕ → List ℕ) (g : ℕ → Option Tree) (ps : List Part) (h : AllOf (There mark g) ps) (k : AllOf (Inside ps) ps) where
  abbrev Within : ℕ → Type 0
  Within n = AllAmong (elim (g n) [ None ↦ [] | Some t ↦ numbers_in t ]) (part_numbers ps)

  within_parts : (qs : List Part) → AllOf (There mark g) qs → AllOf (Inside ps) qs → AllOf (λ p. Within p.number) qs
  within_parts [] a b = tt
  within_parts (q ∷ qs) a b = (
    subst (λ ns. AllAmong ns (part_numbers ps)) (sym (ap (λ o. elim o [ None ↦ [] | Some t ↦ numbers_in t ]) a.0.1.is_there ∙ node_numbers mark q.statics q.items a.0.1.tree_of a.0.1.holds a.0.0)) b.0,
    within_parts qs a.1 b.1,
  )

  within_all : (ns : List ℕ) → AllAmong ns (part_numbers ps) → AllAmong (inside g ns) (part_numbers ps)
  within_all [] a = tt
  within_all (n ∷ ns) a = all_among_append (elim (g n) [ None ↦ [] | Some t ↦ numbers_in t ]) (inside g ns) (part_numbers ps) (at_number Within n ps (within_parts ps h k) a.0) (within_all ns a.1)

  pub reached_known : (l : ℕ) (ns : List ℕ) → AllAmong ns (part_numbers ps) → AllAmong (reached l g ns) (part_numbers ps)
  reached_known zero ns a = tt
  reached_known (suc l) ns a = all_among_append ns (reached l g (inside g ns)) (part_numbers ps) a (reached_known l (inside g ns) (within_all ns a))

pub among_all : (n : ℕ) (ns ks : List ℕ) → AllAmong ns ks → among n ns ≡ true → among n ks ≡ true
among_all n [] ks h k = absurd (true≢false (sym k))
among_all n (m ∷ ns) ks h k = by_test (n == m) refl k (among_all n ns ks h.1)
  where
    by_test : (c : Bool) → (n == m) ≡ c → (if c then true else among n ns) ≡ true → (among n ns ≡ true → among n ks ≡ true) → among n ks ≡ true
    by_test true e q r = subst (λ x. among x ks ≡ true) (sym ((Decides-eqb n m).0 e)) h.0
    by_test false e q r = r q

pub only_known : (ms ns ks : List ℕ) → AllAmong ms ks → AllAmong (only_among ms ns) ks
only_known ms [] ks h = tt
only_known ms (n ∷ ns) ks h = by_test (among n ms) refl (only_known ms ns ks h)
  where
    by_test : (c : Bool) → among n ms ≡ c → AllAmong (only_among ms ns) ks → AllAmong (if c then n ∷ only_among ms ns else only_among ms ns) ks
    by_test true e r = (among_all n ms ks h e, r)
    by_test false e r = r
