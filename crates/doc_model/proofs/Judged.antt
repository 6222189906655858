-- After a merge the numbers of components are good, and exactly the components that were met are held.
use Rattle.std.proofs.Common.{◌≡◌, ℕ, ◌≤◌, List, [], ◌∷◌, ◌++◌, Option, Some, None, Bool, true, false, ◌&&◌, ◌==◌, if◌then◌else◌, refl, sym, ap, ◌∙◌, subst, arith, true≢false, inl, inr}
use Rattle.std.proofs.lemmas.Bool.Decides.{Decides-eqb}
use Rattle.ast_core.specs.Places.{cut}
use Rattle.diff_tree.specs.Tree.{Tree, Change, opened, opened_all}
use Rattle.diff_tree.specs.Client.{PageTree, among, numbers_in, closed, reached, dropped, judged, with_number, with_numbers, merge_parts, opened_tree, and_then}
use Rattle.diff_tree.proofs.Closed.{none_closed, closed_append}
use Rattle.doc_model.specs.Trace.{Items}
use Rattle.doc_model.specs.Whole.{whole_places}
use Rattle.doc_model.specs.Holding.{Fresh}
use Rattle.doc_model.specs.Components.{Part, parts, part_at, part_numbers, AllAmong, AllOf, HoldsNode, HoldsOption, HoldsPart, HoldsNoOther, HeldTree, depth, whole_tree, lean_diff, lean_part, lean_parts, numbered, option_tree}
use Rattle.doc_model.specs.Laws.{Gives, MergeLeanWhole, TakenWhole}
use Rattle.doc_model.proofs.Wholes.{Good}
use Rattle.doc_model.proofs.Merges.{opened_holds}
use Rattle.doc_model.proofs.Origins.{all_weaker, all_both}
use Rattle.doc_model.proofs.Closed.{met, node_numbers, HeldAt, held_at, Stands, met_closed, parts_closed}
use Rattle.doc_model.proofs.Reached.{There, parts_reached, known, at_number, reached_known, among_all, only_known}
use Rattle.doc_model.proofs.Pages.{all_found, good_of, goods, Parts, lean_parts_merge}

numbers_closed : (k : ℕ) (f : ℕ → Option Tree) (ns : List ℕ) (ps : List Part) → AllAmong ns (part_numbers ps) → AllOf (λ p. closed k f (p.number ∷ []) ≡ true) ps → closed k f ns ≡ true
numbers_closed k f [] ps h e = none_closed k f
numbers_closed k f (n ∷ ns) ps h e = closed_append k f (n ∷ []) ns (at_number (λ m. closed k f (m ∷ []) ≡ true) n ps e h.0) (numbers_closed k f ns ps h.1 e)

with_number_closed : (k : ℕ) (f : ℕ → Option Tree) (n : ℕ) (ns : List ℕ) → closed k f ns ≡ true → closed k f (n ∷ []) ≡ true → closed k f (with_number n ns) ≡ true
with_number_closed k f n ns h e = by_test (among n ns)
  where
    by_test : (b : Bool) → closed k f (if b then ns else ns ++ n ∷ []) ≡ true
    by_test true = h
    by_test false = closed_append k f ns (n ∷ []) h e

changed_closed : (k : ℕ) (f : ℕ → Option Tree) (old ps : List Part) (ns : List ℕ) → closed k f ns ≡ true → AllOf (λ p. closed k f (p.number ∷ []) ≡ true) ps → closed k f (with_numbers (lean_parts old ps) ns) ≡ true
changed_closed k f old [] ns h e = h
changed_closed k f old (p ∷ ps) ns h e =
    by_change (lean_part (part_at p.number old) p) (changed_closed k f old ps ns h e.1) (changed_closed k f old ps (with_number p.number ns) (with_number_closed k f p.number ns h e.0) e.1)
  where
    by_change : (c : Option Change) → closed k f (with_numbers (lean_parts old ps) ns) ≡ true → closed k f (with_numbers (lean_parts old ps) (with_number p.number ns)) ≡ true → closed k f (with_numbers (numbered p.number c (lean_parts old ps)) ns) ≡ true
    by_change None a b = a
    by_change (Some c) a b = b

module _ (mark : ℕ → List ℕ → List ℕ) (st : List (List ℕ)) (is : Items) (m : PageTree) (n : ℕ) (l : depth is ≤ n) (g : Good is) (gs : AllOf (λ p. Good p.items) (parts is))
    (root : HoldsNode mark st is m.root) (h : AllOf (HoldsPart mark m.component) (parts is)) where
  there : AllOf (There mark m.component) (parts is)
  there = all_both (λ p. Good p.items) (HoldsPart mark m.component) (There mark m.component) (parts is) (λ p x y. (x, held_at mark m.component p y)) gs h

  abbrev Fixed : Part → Type 0
  Fixed p = Good p.items × HeldAt mark m.component p × Stands 0 m.component m.component p

  fixed : AllOf Fixed (parts is)
  fixed = all_weaker (There mark m.component) Fixed (parts is) (λ p x. (x.0, x.1, inr refl)) there

  root_numbers : numbers_in m.root ≡ met is
  root_numbers = node_numbers mark st is m.root root g

  root_closed : closed n m.component (numbers_in m.root) ≡ true
  root_closed = ap (closed n m.component) root_numbers ∙ met_closed mark 0 m.component m.component is n (omega arith) g fixed

  abbrev live : List ℕ
  live = reached n m.component (numbers_in m.root)

  live_known : AllAmong live (part_numbers (parts is))
  live_known =
      subst (λ ns. AllAmong (reached n m.component ns) (part_numbers (parts is))) (sym root_numbers)
      (reached_known mark m.component (parts is) there (known is).1 n (met is) (known is).0)

  kept_parts : AllOf (HoldsPart mark (dropped n m).component) (parts is)
  kept_parts =
      all_both (λ p. among p.number (reached n m.component (met is)) ≡ true) (HoldsPart mark m.component) (HoldsPart mark (dropped n m).component) (parts is)
      (λ p e k. subst (HoldsOption mark p) (sym (ap (λ ns. if among p.number (reached n m.component ns) then m.component p.number else None) root_numbers ∙ ap (λ b. if b then m.component p.number else None) e)) k)
      (parts_reached mark m.component is n l there) h

  no_other : HoldsNoOther (part_numbers (parts is)) (dropped n m)
  no_other = (only_known live m.numbers (part_numbers (parts is)) live_known, λ k e. by_test k (among k live) refl e)
    where
      by_test : (k : ℕ) (b : Bool) → among k live ≡ b → among k (part_numbers (parts is)) ≡ false → (if b then m.component k else None) ≡ None
      by_test k true e f = absurd (true≢false (sym (among_all k live (part_numbers (parts is)) live_known e) ∙ f))
      by_test k false e f = refl

  judged_holds : closed n m.component m.numbers ≡ true → Gives (HeldTree mark st is) (judged n m)
  judged_holds e = subst (λ b. Gives (HeldTree mark st is) (if b then Some (dropped n m) else None)) (sym (ap (λ b. b && closed n m.component m.numbers) root_closed ∙ e)) (root, kept_parts, no_other)

  own_closed : AllOf (λ p. closed n m.component (p.number ∷ []) ≡ true) (parts is)
  own_closed = parts_closed mark 0 m.component m.component is n (omega arith) g fixed

-- a number that no part has
not_among : (n : ℕ) (ps : List Part) → among n (part_numbers ps) ≡ false → AllOf (λ p. n ≡ p.number → ⊥) ps
not_among n [] h = tt
not_among n (p ∷ ps) h = by_test (n == p.number) refl h (not_among n ps)
  where
    by_test : (b : Bool) → (n == p.number) ≡ b → (if b then true else among n (part_numbers ps)) ≡ false → (among n (part_numbers ps) ≡ false → AllOf (λ q. n ≡ q.number → ⊥) ps) → AllOf (λ q. n ≡ q.number → ⊥) (p ∷ ps)
    by_test true e k r = absurd (true≢false k)
    by_test false e k r = (λ q. true≢false (sym ((Decides-eqb n p.number).1 q) ∙ e), r k)

pub merge_lean_whole : MergeLeanWhole
merge_lean_whole site k l a b ns is is' p e e' fo di h n d = by_merged (merge_parts p (lean_diff is is')) (lean_parts_merge site k l a b ns is is' p e e' fo di h)
  where
    by_merged : (o : Option PageTree) → Gives (Parts site.mark is is' (cut ns) p) o → Gives (HeldTree site.mark (cut ns) is') (and_then o (judged n))
    by_merged None x = absurd x
    by_merged (Some m) x =
        let g = good_of site l b ns is' e' in
        let gs = goods site l b ns is' e' in
        let d' : depth is' ≤ n = omega arith in
        let new : AllOf (λ q. closed (depth is') m.component (q.number ∷ []) ≡ true) (parts is') = own_closed site.mark (cut ns) is' m (depth is') (omega arith) g gs x.0 x.1 in
        let stands : (q : Part) → Stands (depth is') p.component m.component q = λ q. by_test q new (among q.number (part_numbers (parts is'))) refl in
        let old : AllOf (λ q. Good q.items × HeldAt site.mark p.component q × Stands (depth is') p.component m.component q) (parts is) =
        all_both (λ q. Good q.items) (HoldsPart site.mark p.component) (λ q. Good q.items × HeldAt site.mark p.component q × Stands (depth is') p.component m.component q) (parts is)
        (λ q y z. (y, held_at site.mark p.component q z, stands q)) (goods site k a ns is e) h.1 in
        let olds : AllOf (λ q. closed n m.component (q.number ∷ []) ≡ true) (parts is) = parts_closed site.mark (depth is') p.component m.component is n d (good_of site k a ns is e) old in
        let news : AllOf (λ q. closed n m.component (q.number ∷ []) ≡ true) (parts is') = own_closed site.mark (cut ns) is' m n d' g gs x.0 x.1 in
        judged_holds site.mark (cut ns) is' m n d' g gs x.0 x.1
        (ap (closed n m.component) x.3 ∙ changed_closed n m.component (parts is) (parts is') p.numbers (numbers_closed n m.component p.numbers (parts is) h.2.0 olds) news)
      where
        by_test : (q : Part) → AllOf (λ r. closed (depth is') m.component (r.number ∷ []) ≡ true) (parts is') → (c : Bool) → among q.number (part_numbers (parts is')) ≡ c → Stands (depth is') p.component m.component q
        by_test q new true y = inl (at_number (λ r. closed (depth is') m.component (r ∷ []) ≡ true) q.number (parts is') new y)
        by_test q new false y = inr (x.2 q.number (not_among q.number (parts is') y))

-- the numbers of the parts are among themselves
own_numbers : (ps : List Part) → AllAmong (part_numbers ps) (part_numbers ps)
own_numbers [] = tt
own_numbers (p ∷ ps) = (ap (λ b. if b then true else among p.number (part_numbers ps)) ((Decides-eqb p.number p.number).1 refl), wider (part_numbers ps) (own_numbers ps))
  where
    wider : (ns : List ℕ) → AllAmong ns (part_numbers ps) → AllAmong ns (p.number ∷ part_numbers ps)
    wider [] h = tt
    wider (n ∷ ns) h = (by_test (n == p.number), wider ns h.1)
      where
        by_test : (b : Bool) → (if b then true else among n (part_numbers ps)) ≡ true
        by_test true = refl
        by_test false = h.0

abbrev opened_option : Option Tree → Option Tree
opened_option o = elim o [ None ↦ None | Some t ↦ Some (opened t) ]

opened_part : (mark : ℕ → List ℕ → List ℕ) (is : Items) (p : Part) → part_at p.number (parts is) ≡ Some p → Fresh p.items → Good p.items → HoldsPart mark (λ n. opened_option (option_tree (part_at n (parts is)))) p
opened_part mark is p e f g =
    subst (λ o. HoldsOption mark p (opened_option (option_tree o))) (sym e) (opened_all (whole_places p.items), refl, opened_holds mark p.items f g)

pub taken_whole : TakenWhole
taken_whole site k env ns is e di fr frs n d =
    let g = good_of site k env ns is e in
    let gs = goods site k env ns is e in
    let fg = all_both (λ p. Fresh p.items) (λ p. Good p.items) (λ p. Fresh p.items × Good p.items) (parts is) (λ p x y. (x, y)) frs gs in
    let m = opened_tree (whole_tree (cut ns) is) in
    let root : HoldsNode site.mark (cut ns) is m.root = (opened_all (whole_places is), refl, opened_holds site.mark is fr g) in
    let held : AllOf (HoldsPart site.mark m.component) (parts is) =
    all_both (λ p. part_at p.number (parts is) ≡ Some p) (λ p. Fresh p.items × Good p.items) (HoldsPart site.mark m.component) (parts is) (λ p x y. opened_part site.mark is p x y.0 y.1) (all_found (parts is) di) fg in
    judged_holds site.mark (cut ns) is m n d g gs root held
    (numbers_closed n m.component (part_numbers (parts is)) (parts is) (own_numbers (parts is)) (own_closed site.mark (cut ns) is m n d g gs root held))
