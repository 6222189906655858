-- Lists of numbers whose components are all there, level by level.
use Rattle.std.proofs.Common.{◌≡◌, ◌⊎◌, inl, inr, ℕ, zero, suc, ◌≤◌, arith, List, [], ◌∷◌, ◌++◌, append_assoc, Option, Some, None, Bool, true, false, ◌&&◌, ◌==◌, if◌then◌else◌, refl, sym, ap, ◌∙◌, true≢false}
use Rattle.diff_tree.specs.Tree.{Tree}
use Rattle.diff_tree.specs.Client.{among, numbers_in, all_found, closed, inside, reached}
use Rattle.diff_tree.proofs.Among.{both_true, among_left, among_right}

and_true : (a b : Bool) → a ≡ true → b ≡ true → (a && b) ≡ true
and_true a b h k = ap (λ c. c && b) h ∙ k

found_append : (p : Tree → Bool) (f : ℕ → Option Tree) (a b : List ℕ) → all_found p f a ≡ true → all_found p f b ≡ true → all_found p f (a ++ b) ≡ true
found_append p f [] b h k = k
found_append p f (n ∷ a) b h k =
    let q = both_true (elim (f n) [ None ↦ false | Some t ↦ p t ]) (all_found p f a) h in
    and_true (elim (f n) [ None ↦ false | Some t ↦ p t ]) (all_found p f (a ++ b)) q.0 (found_append p f a b q.1 k)

pub closed_append : (k : ℕ) (f : ℕ → Option Tree) (a b : List ℕ) → closed k f a ≡ true → closed k f b ≡ true → closed k f (a ++ b) ≡ true
closed_append zero f [] b h k = k
closed_append zero f (n ∷ a) b h k = absurd (true≢false (sym h))
closed_append (suc j) f a b h k = found_append (λ t. closed j f (numbers_in t)) f a b h k

found_weaker : (p q : Tree → Bool) (f : ℕ → Option Tree) (ns : List ℕ) → ((t : Tree) → p t ≡ true → q t ≡ true) → all_found p f ns ≡ true → all_found q f ns ≡ true
found_weaker p q f [] w h = refl
found_weaker p q f (n ∷ ns) w h =
    let r = both_true (elim (f n) [ None ↦ false | Some t ↦ p t ]) (all_found p f ns) h in
    and_true (elim (f n) [ None ↦ false | Some t ↦ q t ]) (all_found q f ns) (by_tree (f n) r.0) (found_weaker p q f ns w r.1)
  where
    by_tree : (o : Option Tree) → elim o [ None ↦ false | Some t ↦ p t ] ≡ true → elim o [ None ↦ false | Some t ↦ q t ] ≡ true
    by_tree None e = e
    by_tree (Some t) e = w t e

pub closed_upto : (j k : ℕ) (f : ℕ → Option Tree) (ns : List ℕ) → j ≤ k → closed j f ns ≡ true → closed k f ns ≡ true
closed_upto zero zero f ns l h = h
closed_upto zero (suc k) f [] l h = refl
closed_upto zero (suc k) f (n ∷ ns) l h = absurd (true≢false (sym h))
closed_upto (suc j) zero f ns l h = absurd (omega arith)
closed_upto (suc j) (suc k) f ns l h = found_weaker (λ t. closed j f (numbers_in t)) (λ t. closed k f (numbers_in t)) f ns (λ t e. closed_upto j k f (numbers_in t) (omega arith) e) h

pub none_closed : (k : ℕ) (f : ℕ → Option Tree) → closed k f [] ≡ true
none_closed zero f = refl
none_closed (suc k) f = refl

-- one level below
pub inside_closed : (k : ℕ) (f : ℕ → Option Tree) (ns : List ℕ) → all_found (λ t. closed k f (numbers_in t)) f ns ≡ true → closed k f (inside f ns) ≡ true
inside_closed k f [] h = none_closed k f
inside_closed k f (n ∷ ns) h = by_tree (f n) h (inside_closed k f ns)
  where
    by_tree : (o : Option Tree) → (elim o [ None ↦ false | Some t ↦ closed k f (numbers_in t) ] && all_found (λ t. closed k f (numbers_in t)) f ns) ≡ true → (all_found (λ t. closed k f (numbers_in t)) f ns ≡ true → closed k f (inside f ns) ≡ true)
        → closed k f (elim o [ None ↦ [] | Some t ↦ numbers_in t ] ++ inside f ns) ≡ true
    by_tree None e r = absurd (true≢false (sym e))
    by_tree (Some t) e r = let b = both_true (closed k f (numbers_in t)) (all_found (λ t. closed k f (numbers_in t)) f ns) e in closed_append k f (numbers_in t) (inside f ns) b.0 (r b.1)

reached_none : (k : ℕ) (f : ℕ → Option Tree) → reached k f [] ≡ []
reached_none zero f = refl
reached_none (suc k) f = reached_none k f

-- more levels reach no more
pub reached_same : (k l : ℕ) (f : ℕ → Option Tree) (ns : List ℕ) → k ≤ l → closed k f ns ≡ true → reached l f ns ≡ reached k f ns
reached_same zero l f [] h c = reached_none l f
reached_same zero l f (n ∷ ns) h c = absurd (true≢false (sym c))
reached_same (suc k) zero f ns h c = absurd (omega arith)
reached_same (suc k) (suc l) f ns h c = ap (λ ms. ns ++ ms) (reached_same k l f (inside f ns) (omega arith) (inside_closed k f ns c))

-- what is reached from some numbers is reached from more
pub among_split : (n : ℕ) (a b : List ℕ) → among n (a ++ b) ≡ true → (among n a ≡ true) ⊎ (among n b ≡ true)
among_split n [] b h = inr h
among_split n (m ∷ a) b h = by_test (n == m) h (among_split n a b)
  where
    by_test : (c : Bool) → (if c then true else among n (a ++ b)) ≡ true → (among n (a ++ b) ≡ true → (among n a ≡ true) ⊎ (among n b ≡ true)) → ((if c then true else among n a) ≡ true) ⊎ (among n b ≡ true)
    by_test true k r = inl refl
    by_test false k r = r k

inside_append : (g : ℕ → Option Tree) (a b : List ℕ) → inside g (a ++ b) ≡ inside g a ++ inside g b
inside_append g [] b = refl
inside_append g (n ∷ a) b =
    ap (λ x. elim (g n) [ None ↦ [] | Some t ↦ numbers_in t ] ++ x) (inside_append g a b)
    ∙ sym (append_assoc (elim (g n) [ None ↦ [] | Some t ↦ numbers_in t ]) (inside g a) (inside g b))

pub reach_left : (g : ℕ → Option Tree) (k n : ℕ) (a b : List ℕ) → among n (reached k g a) ≡ true → among n (reached k g (a ++ b)) ≡ true
reach_left g zero n a b h = h
reach_left g (suc k) n a b h = by_side (reach_left g k n (inside g a) (inside g b)) (among_split n a (reached k g (inside g a)) h)
  where
    by_side : (among n (reached k g (inside g a)) ≡ true → among n (reached k g (inside g a ++ inside g b)) ≡ true) → (among n a ≡ true) ⊎ (among n (reached k g (inside g a)) ≡ true) → among n ((a ++ b) ++ reached k g (inside g (a ++ b))) ≡ true
    by_side r (inl e) = among_left n (a ++ b) (reached k g (inside g (a ++ b))) (among_left n a b e)
    by_side r (inr e) = among_right n (a ++ b) (reached k g (inside g (a ++ b))) (ap (λ x. among n (reached k g x)) (inside_append g a b) ∙ r e)

pub reach_right : (g : ℕ → Option Tree) (k n : ℕ) (a b : List ℕ) → among n (reached k g b) ≡ true → among n (reached k g (a ++ b)) ≡ true
reach_right g zero n a b h = h
reach_right g (suc k) n a b h = by_side (reach_right g k n (inside g a) (inside g b)) (among_split n b (reached k g (inside g b)) h)
  where
    by_side : (among n (reached k g (inside g b)) ≡ true → among n (reached k g (inside g a ++ inside g b)) ≡ true) → (among n b ≡ true) ⊎ (among n (reached k g (inside g b)) ≡ true) → among n ((a ++ b) ++ reached k g (inside g (a ++ b))) ≡ true
    by_side r (inl e) = among_left n (a ++ b) (reached k g (inside g (a ++ b))) (among_right n a b e)
    by_side r (inr e) = among_right n (a ++ b) (reached k g (inside g (a ++ b))) (ap (λ x. among n (reached k g x)) (inside_append g a b) ∙ r e)
