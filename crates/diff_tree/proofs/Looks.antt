-- What a tree shows, and what it reaches, depends on the components that are reached alone.
use Rattle.std.proofs.Common.{◌≡◌, ◌⊎◌, inl, inr, ℕ, zero, suc, ◌≤◌, arith, List, [], ◌∷◌, ◌++◌, Option, Some, None, Bool, true, false, ◌&&◌, ◌==◌, if◌then◌else◌, refl, sym, ap, ◌∙◌, subst, true≢false}
use Rattle.std.proofs.lemmas.Bool.Decides.{Decides-eqb}
use Rattle.diff_tree.specs.Container.{after, contents}
use Rattle.diff_tree.specs.Tree.{Tree, text, number, node, list, stream, held, Trees, no_trees, tree, Rows, no_rows, row, Held, none_held, hold, weave, flat, show_value, show_values, show_rows, show_held}
use Rattle.diff_tree.specs.Client.{PageTree, among, numbers_in, numbers_in_all, numbers_in_rows, numbers_in_held, all_found, closed, inside, reached, only_among, dropped, judged, merge_parts, and_then, look}
use Rattle.diff_tree.specs.Laws.{HoldsReached, ShowIgnoresLevels, MergeHoldsReached}
use Rattle.diff_tree.proofs.Among.{both_true, among_itself, among_left, among_right, among_later}
use Rattle.diff_tree.proofs.Closed.{among_split, inside_closed, reach_left, reach_right}

-- two looks that are the same at these numbers
abbrev Agree : List ℕ → (ℕ → List ℕ) → (ℕ → List ℕ) → Type 0
Agree ns f g = (n : ℕ) → among n ns ≡ true → f n ≡ g n

module _ (f g : ℕ → List ℕ) where
  mutual
    show_agrees : (t : Tree) → Agree (numbers_in t) f g → show_value f t ≡ show_value g t
    show_agrees (text t) h = refl
    show_agrees (number n) h = h n (among_itself n [])
    show_agrees (node st ts) h = ap (weave st) (values_agree ts h)
    show_agrees (list st rs) h = ap flat (rows_agree st rs h)
    show_agrees (stream name b st rs) h = ap (λ ts. flat (contents (after b ts []))) (rows_agree st rs h)
    show_agrees (held name st hs) h = ap flat (held_agrees st hs h)

    values_agree : (ts : Trees) → Agree (numbers_in_all ts) f g → show_values f ts ≡ show_values g ts
    values_agree no_trees h = refl
    values_agree (tree t ts) h =
        ap (λ x. x ∷ show_values f ts) (show_agrees t (λ n e. h n (among_left n (numbers_in t) (numbers_in_all ts) e)))
        ∙ ap (λ xs. show_value g t ∷ xs) (values_agree ts (λ n e. h n (among_right n (numbers_in t) (numbers_in_all ts) e)))

    rows_agree : (st : List (List ℕ)) (rs : Rows) → Agree (numbers_in_rows rs) f g → show_rows f st rs ≡ show_rows g st rs
    rows_agree st no_rows h = refl
    rows_agree st (row ts rs) h =
        ap (λ x. weave st x ∷ show_rows f st rs) (values_agree ts (λ n e. h n (among_left n (numbers_in_all ts) (numbers_in_rows rs) e)))
        ∙ ap (λ xs. weave st (show_values g ts) ∷ xs) (rows_agree st rs (λ n e. h n (among_right n (numbers_in_all ts) (numbers_in_rows rs) e)))

    held_agrees : (st : List (List ℕ)) (hs : Held) → Agree (numbers_in_held hs) f g → show_held f st hs ≡ show_held g st hs
    held_agrees st none_held h = refl
    held_agrees st (hold k ts hs) h =
        ap (λ x. weave st x ∷ show_held f st hs) (values_agree ts (λ n e. h n (among_left n (numbers_in_all ts) (numbers_in_held hs) e)))
        ∙ ap (λ xs. weave st (show_values g ts) ∷ xs) (held_agrees st hs (λ n e. h n (among_right n (numbers_in_all ts) (numbers_in_held hs) e)))

-- a number that is found
found_tree : (p : Tree → Bool) (f : ℕ → Option Tree) (ns : List ℕ) (n : ℕ) → all_found p f ns ≡ true → among n ns ≡ true → (t : Tree) × (f n ≡ Some t) × (p t ≡ true)
found_tree p f [] n h e = absurd (true≢false (sym e))
found_tree p f (m ∷ ns) n h e =
    let b = both_true (elim (f m) [ None ↦ false | Some t ↦ p t ]) (all_found p f ns) h in
    by_test (n == m) refl e b.0 (found_tree p f ns n b.1)
  where
    by_tree : (o : Option Tree) → f m ≡ o → elim o [ None ↦ false | Some t ↦ p t ] ≡ true → (t : Tree) × (f m ≡ Some t) × (p t ≡ true)
    by_tree None q r = absurd (true≢false (sym r))
    by_tree (Some t) q r = (t, q, r)

    by_test : (c : Bool) → (n == m) ≡ c → (if c then true else among n ns) ≡ true → elim (f m) [ None ↦ false | Some t ↦ p t ] ≡ true → (among n ns ≡ true → (t : Tree) × (f n ≡ Some t) × (p t ≡ true)) → (t : Tree) × (f n ≡ Some t) × (p t ≡ true)
    by_test true q k r s = subst (λ x. (t : Tree) × (f x ≡ Some t) × (p t ≡ true)) (sym ((Decides-eqb n m).0 q)) (by_tree (f m) refl r)
    by_test false q k r s = s k

look_same : (mark : ℕ → List ℕ → List ℕ) (k l : ℕ) (f : ℕ → Option Tree) (ns : List ℕ) → k ≤ l → closed k f ns ≡ true → Agree ns (look mark l f) (look mark k f)
look_same mark zero l f [] h c n e = absurd (true≢false (sym e))
look_same mark zero l f (m ∷ ns) h c n e = absurd (true≢false (sym c))
look_same mark (suc k) zero f ns h c n e = absurd (omega arith)
look_same mark (suc k) (suc l) f ns h c n e =
    let r = found_tree (λ t. closed k f (numbers_in t)) f ns n c e in
    ap (λ o. elim o [ None ↦ [] | Some t ↦ mark n (show_value (look mark l f) t) ]) r.1
    ∙ ap (mark n) (show_agrees (look mark l f) (look mark k f) r.0 (look_same mark k l f (numbers_in r.0) (omega arith) r.2))
    ∙ sym (ap (λ o. elim o [ None ↦ [] | Some t ↦ mark n (show_value (look mark k f) t) ]) r.1)

pub show_ignores_levels : ShowIgnoresLevels
show_ignores_levels mark k l p h c = show_agrees (look mark l p.component) (look mark k p.component) p.root (look_same mark k l p.component (numbers_in p.root) h c)

-- the same trees at these numbers
abbrev Alike : List ℕ → (ℕ → Option Tree) → (ℕ → Option Tree) → Type 0
Alike ns f g = (n : ℕ) → among n ns ≡ true → g n ≡ f n

inside_alike : (f g : ℕ → Option Tree) (ns : List ℕ) → Alike ns f g → inside g ns ≡ inside f ns
inside_alike f g [] h = refl
inside_alike f g (n ∷ ns) h =
    ap (λ o. elim o [ None ↦ [] | Some t ↦ numbers_in t ] ++ inside g ns) (h n (among_itself n ns))
    ∙ ap (λ ms. elim (f n) [ None ↦ [] | Some t ↦ numbers_in t ] ++ ms) (inside_alike f g ns (λ m e. h m (among_later m n ns e)))

reached_alike : (k : ℕ) (f g : ℕ → Option Tree) (ns : List ℕ) → Alike (reached k f ns) f g → reached k g ns ≡ reached k f ns
reached_alike zero f g ns h = refl
reached_alike (suc k) f g ns h =
    ap (λ ms. ns ++ reached k g ms) (inside_alike f g ns (λ n e. h n (among_left n ns (reached k f (inside f ns)) e)))
    ∙ ap (λ ms. ns ++ ms) (reached_alike k f g (inside f ns) (λ n e. h n (among_right n ns (reached k f (inside f ns)) e)))

-- one step of the walk through the levels
found_alike : (k : ℕ) (f g : ℕ → Option Tree) (ns : List ℕ) → ((ms : List ℕ) → closed k f ms ≡ true → Alike (reached k f ms) f g → closed k g ms ≡ true) → all_found (λ t. closed k f (numbers_in t)) f ns ≡ true
    → Alike ns f g → Alike (reached k f (inside f ns)) f g → all_found (λ t. closed k g (numbers_in t)) g ns ≡ true
found_alike k f g [] r c h d = refl
found_alike k f g (n ∷ ns) r c h d =
    let b = both_true (elim (f n) [ None ↦ false | Some t ↦ closed k f (numbers_in t) ]) (all_found (λ t. closed k f (numbers_in t)) f ns) c in
    by_tree (f n) refl b.0 (λ e. found_alike k f g ns r b.1 (λ m x. h m (among_later m n ns x)) e)
  where
    by_tree : (o : Option Tree) → f n ≡ o → elim o [ None ↦ false | Some t ↦ closed k f (numbers_in t) ] ≡ true → (Alike (reached k f (inside f ns)) f g → all_found (λ t. closed k g (numbers_in t)) g ns ≡ true)
        → (elim (g n) [ None ↦ false | Some t ↦ closed k g (numbers_in t) ] && all_found (λ t. closed k g (numbers_in t)) g ns) ≡ true
    by_tree None e x s = absurd (true≢false (sym x))
    by_tree (Some t) e x s =
        let all : inside f (n ∷ ns) ≡ numbers_in t ++ inside f ns = ap (λ o. elim o [ None ↦ [] | Some u ↦ numbers_in u ] ++ inside f ns) e in
        let d' : Alike (reached k f (numbers_in t ++ inside f ns)) f g = subst (λ ms. Alike (reached k f ms) f g) all d in
        let here : closed k g (numbers_in t) ≡ true = r (numbers_in t) x (λ m y. d' m (reach_left f k m (numbers_in t) (inside f ns) y)) in
        ap (λ o. elim o [ None ↦ false | Some u ↦ closed k g (numbers_in u) ] && all_found (λ u. closed k g (numbers_in u)) g ns) (h n (among_itself n ns) ∙ e)
        ∙ ap (λ c. c && all_found (λ u. closed k g (numbers_in u)) g ns) here ∙ s (λ m y. d' m (reach_right f k m (numbers_in t) (inside f ns) y))

closed_alike : (k : ℕ) (f g : ℕ → Option Tree) (ns : List ℕ) → closed k f ns ≡ true → Alike (reached k f ns) f g → closed k g ns ≡ true
closed_alike zero f g ns c h = c
closed_alike (suc k) f g ns c h =
    found_alike k f g ns (λ ms d e. closed_alike k f g ms d e) c (λ n e. h n (among_left n ns (reached k f (inside f ns)) e)) (λ n e. h n (among_right n ns (reached k f (inside f ns)) e))

only_none : (n : ℕ) (live ns : List ℕ) → among n live ≡ false → among n (only_among live ns) ≡ false
only_none n live [] h = refl
only_none n live (m ∷ ns) h = by_live (among m live) refl (only_none n live ns h)
  where
    by_number : among m live ≡ true → (c : Bool) → (n == m) ≡ c → among n (only_among live ns) ≡ false → (if c then true else among n (only_among live ns)) ≡ false
    by_number l true e r = absurd (true≢false (sym l ∙ ap (λ x. among x live) (sym ((Decides-eqb n m).0 e)) ∙ h))
    by_number l false e r = r

    by_live : (c : Bool) → among m live ≡ c → among n (only_among live ns) ≡ false → among n (if c then m ∷ only_among live ns else only_among live ns) ≡ false
    by_live true e r = by_number e (n == m) refl r
    by_live false e r = r

-- what is reached is there
reached_there : (k : ℕ) (f : ℕ → Option Tree) (ns : List ℕ) (n : ℕ) → closed k f ns ≡ true → among n (reached k f ns) ≡ true → (t : Tree) × (f n ≡ Some t)
reached_there zero f ns n c h = absurd (true≢false (sym h))
reached_there (suc k) f ns n c h = by_side (among_split n ns (reached k f (inside f ns)) h) (reached_there k f (inside f ns) n (inside_closed k f ns c))
  where
    by_side : (among n ns ≡ true) ⊎ (among n (reached k f (inside f ns)) ≡ true) → (among n (reached k f (inside f ns)) ≡ true → (t : Tree) × (f n ≡ Some t)) → (t : Tree) × (f n ≡ Some t)
    by_side (inl e) r = let t = found_tree (λ t. closed k f (numbers_in t)) f ns n c e in (t.0, t.1)
    by_side (inr e) r = r e

abbrev Good : ℕ → PageTree → Type 0
Good k q = (closed k q.component (numbers_in q.root) ≡ true) × ((n : ℕ) → HoldsReached k q n)

dropped_good : (k : ℕ) (m : PageTree) → closed k m.component (numbers_in m.root) ≡ true → Good k (dropped k m)
dropped_good k m c =
    let live = reached k m.component (numbers_in m.root) in
    let alike : Alike live m.component (dropped k m).component = λ n e. ap (λ b. if b then m.component n else None) e in
    let same = reached_alike k m.component (dropped k m).component (numbers_in m.root) alike in
    let c' = closed_alike k m.component (dropped k m).component (numbers_in m.root) c alike in (
      c',
      λ n. (
        λ e. reached_there k (dropped k m).component (numbers_in m.root) n c' e,
        λ e. (let d : among n live ≡ false = sym (ap (among n) same) ∙ e in (ap (λ b. if b then m.component n else None) d, only_none n live m.numbers d)),
      ),
    )

pub merge_holds_reached : MergeHoldsReached
merge_holds_reached k p q d e = by_parts (merge_parts p d) e
  where
    by_test : (m : PageTree) (b : Bool) → (closed k m.component (numbers_in m.root) && closed k m.component m.numbers) ≡ b → (if b then Some (dropped k m) else None) ≡ Some q → Good k q
    by_test m true t x =
        let u : dropped k m ≡ q = cc in
        subst (Good k) u (dropped_good k m (both_true (closed k m.component (numbers_in m.root)) (closed k m.component m.numbers) t).0)
    by_test m false t x = cc

    by_parts : (o : Option PageTree) → and_then o (judged k) ≡ Some q → Good k q
    by_parts None x = cc
    by_parts (Some m) x = by_test m (closed k m.component (numbers_in m.root) && closed k m.component m.numbers) refl x
