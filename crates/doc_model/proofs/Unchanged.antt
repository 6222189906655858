-- A diff that holds nothing, which is not sent: the tree that a client holds is whole for the new state as it is.
use Rattle.std.proofs.Common.{◌≡◌, ℕ, ◌≤◌, List, [], Option, Some, None, option_map, Bool, true, false, ◌&&◌, if◌then◌else◌, refl, sym, ap, ◌∙◌, subst, true≢false}
use Rattle.diff_tree.specs.Tree.{Tree, node, Trees, no_trees, tree, Changes, no_changes, skip, change, inner, merge_change, merge_changes}
use Rattle.diff_tree.specs.Client.{PageTree, PageDiff, among, numbers_in, closed, reached, dropped, judged, with_numbers, merge_components, merge_parts, merge_diff, and_then}
use Rattle.doc_model.specs.Lean.{is_empty}
use Rattle.doc_model.specs.Laws.{Gives}
use Rattle.doc_model.specs.Trace.{Items}
use Rattle.doc_model.specs.Components.{Part, parts, part_numbers, AllOf, HoldsOption, HoldsPart, HoldsNoOther, HeldTree, depth}
use Rattle.doc_model.proofs.Wholes.{Good}
use Rattle.doc_model.proofs.Origins.{all_weaker, all_both}
use Rattle.doc_model.proofs.Closed.{node_numbers, held_at}
use Rattle.doc_model.proofs.Reached.{There, parts_reached, at_number, all_among_weaker}

-- what comes out is what was there
abbrev Same : {A : Type 0} → A → Option A → Type 0
Same x None = Unit {0}
Same x (Some y) = y ≡ x

mapped_same : {A B : Type 0} (f : A → B) (x : A) (o : Option A) → Same x o → Same (f x) (option_map f o)
mapped_same f x None h = tt
mapped_same f x (Some y) h = ap f h

same_trees : (ts : Trees) (cs : Changes) → is_empty cs ≡ true → Same ts (merge_changes ts cs)
same_trees no_trees no_changes h = refl
same_trees no_trees (skip cs) h = tt
same_trees no_trees (change c cs) h = tt
same_trees (tree t ts) no_changes h = refl
same_trees (tree t ts) (skip cs) h = mapped_same (tree t) ts (merge_changes ts cs) (same_trees ts cs h)
same_trees (tree t ts) (change c cs) h = absurd (true≢false (sym h))

same_node : (st : List (List ℕ)) (ts : Trees) (cs : Changes) → is_empty cs ≡ true → Same (node st ts) (merge_change (node st ts) (inner cs))
same_node st ts cs h = mapped_same (node st) ts (merge_changes ts cs) (same_trees ts cs h)

same_page : (q : PageTree) (d : PageDiff) → Same q.root (merge_change q.root (inner d.root)) → d.components ≡ [] → Same q (merge_parts q d)
same_page q d h e =
    subst (λ cs. Same q (and_then (merge_change q.root (inner d.root)) (λ t. and_then (merge_components q.component cs) (λ f. Some (record { root = t; numbers = with_numbers cs q.numbers; component = f })))))
    (sym e) (by_root (merge_change q.root (inner d.root)) h)
  where
    by_root : (o : Option Tree) → Same q.root o → Same q (and_then o (λ t. Some (record { root = t; numbers = q.numbers; component = q.component })))
    by_root None k = tt
    by_root (Some t) k = ap (λ r. record { root = r; numbers = q.numbers; component = q.component }) k

merged_judged : (n : ℕ) (P : PageTree → Type 0) (q : PageTree) (o : Option PageTree) → Same q o → Gives P (and_then o (judged n)) → P (dropped n q)
merged_judged n P q None s h = absurd h
merged_judged n P q (Some m) s h = by_test (closed n q.component (numbers_in q.root) && closed n q.component q.numbers) (subst (λ x. Gives P (judged n x)) s h)
  where
    by_test : (b : Bool) → Gives P (if b then Some (dropped n q) else None) → P (dropped n q)
    by_test true k = k
    by_test false k = absurd k

module _ (mark : ℕ → List ℕ → List ℕ) (st : List (List ℕ)) (is is' : Items) (q : PageTree) (n : ℕ) (l : depth is ≤ n) (g : Good is) (gs : AllOf (λ p. Good p.items) (parts is))
    (old : HeldTree mark st is q) (new : HeldTree mark st is' (dropped n q)) where
  there : AllOf (There mark q.component) (parts is)
  there = all_both (λ p. Good p.items) (HoldsPart mark q.component) (There mark q.component) (parts is) (λ p x y. (x, held_at mark q.component p y)) gs old.1

  abbrev live : List ℕ
  live = reached n q.component (numbers_in q.root)

  reached_old : AllOf (λ p. among p.number live ≡ true) (parts is)
  reached_old =
      subst (λ ns. AllOf (λ p. among p.number (reached n q.component ns) ≡ true) (parts is)) (sym (node_numbers mark st is q.root old.0 g))
      (parts_reached mark q.component is n l there)

  -- a component that was met before is met now
  still_met : (p : Part) → among p.number live ≡ true → HoldsPart mark q.component p → among p.number (part_numbers (parts is')) ≡ true
  still_met p e h = by_test (among p.number (part_numbers (parts is'))) refl
    where
      none_there : (o : Option Tree) → o ≡ None → HoldsOption mark p o → ⊥
      none_there o e k = subst (HoldsOption mark p) e k

      by_test : (b : Bool) → among p.number (part_numbers (parts is')) ≡ b → b ≡ true
      by_test true f = refl
      by_test false f = absurd (none_there (q.component p.number) (ap (λ b. if b then q.component p.number else None) (sym e) ∙ new.2.1 p.number f) h)

  old_numbers : (k : ℕ) → among k (part_numbers (parts is)) ≡ true → among k (part_numbers (parts is')) ≡ true
  old_numbers k e =
      at_number (λ m. among m (part_numbers (parts is')) ≡ true) k (parts is)
      (all_both (λ p. among p.number live ≡ true) (HoldsPart mark q.component) (λ p. among p.number (part_numbers (parts is')) ≡ true) (parts is) still_met reached_old old.1) e

  undropped : (p : Part) → HoldsPart mark (dropped n q).component p → HoldsPart mark q.component p
  undropped p h = by_test (among p.number live) h
    where
      by_test : (b : Bool) → HoldsOption mark p (if b then q.component p.number else None) → HoldsOption mark p (q.component p.number)
      by_test true k = k
      by_test false k = absurd k

  no_other : HoldsNoOther (part_numbers (parts is')) q
  no_other = (all_among_weaker q.numbers (part_numbers (parts is)) (part_numbers (parts is')) old_numbers old.2.0, λ k e. by_test k (among k (part_numbers (parts is))) refl e)
    where
      by_test : (k : ℕ) (b : Bool) → among k (part_numbers (parts is)) ≡ b → among k (part_numbers (parts is')) ≡ false → q.component k ≡ None
      by_test k true e f = absurd (true≢false (sym (old_numbers k e) ∙ f))
      by_test k false e f = old.2.1 k e

  undropped_tree : HeldTree mark st is' q
  undropped_tree = (new.0, all_weaker (HoldsPart mark (dropped n q).component) (HoldsPart mark q.component) (parts is') undropped new.1, no_other)

-- merging a diff that holds nothing would give a whole tree, so the tree is whole
pub unchanged_whole : (mark : ℕ → List ℕ → List ℕ) (st : List (List ℕ)) (is is' : Items) (q : PageTree) (d : PageDiff) (n : ℕ) → depth is ≤ n → Good is → AllOf (λ p. Good p.items) (parts is)
    → HeldTree mark st is q → Gives (HeldTree mark st is') (merge_diff n q d) → is_empty d.root ≡ true → d.components ≡ [] → HeldTree mark st is' q
unchanged_whole mark st is is' q d n l g gs old new e f =
    let same : Same q.root (merge_change q.root (inner d.root)) = subst (λ t. Same t (merge_change t (inner d.root))) (sym old.0.1) (same_node st old.0.0 d.root e) in
    undropped_tree mark st is is' q n l g gs old (merged_judged n (HeldTree mark st is') q (merge_parts q d) (same_page q d same f) new)
