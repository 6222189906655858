-- The signs of a template lead the reader through it.
use Rattle.std.proofs.Common.{◌≡◌, ℕ, ◌+◌, ◌≤◌, ◌<◌, max, List, [], ◌∷◌, ◌++◌, length, true, false, Ok, refl, ap, ◌∙◌, arith, append_assoc, bytes_eq}
use Rattle.std.proofs.Math.Nat.{le-max_left, le-max_right}
use Rattle.std.proofs.lemmas.Bool.{lt-ltb}
use Rattle.std.proofs.lemmas.Slice.Eq.{bytes_eq-Decides}
use Rattle.ast_core.specs.Syntax.{Location, Expr, Pattern, text_node, at_place, if_place, for_place, case_place, Nodes, no_nodes, Clauses, clause}
use Rattle.ast_core.specs.NodeView.{clauses_of}
use Rattle.ast_core.specs.Places.{is_void}
use Rattle.heex_reader.specs.Signs.{Tag, if_block, for_block, case_block, dropped, words, value, whole, opens, closes, block, clause_head, otherwise, ends, Placed}
use Rattle.heex_reader.specs.Contents.{Content, nothing_yet, nodes_in, add_node, add_tag, is_call}
use Rattle.heex_reader.specs.Grammar.{sign_at, Gap, no_gap, dropped_gap, white_gap, Tree, comment, text, put, single, inside, choice, choice_else, loop, cases, Forest, no_trees, tree, Branches, last_branch, branch, gap_signs, tree_signs, forest_signs, branch_signs, GapLawful, Lawful, ForestLawful, BranchesLawful, height, forest_height, branches_height, tree_on, forest_on, block_nodes, branch_clauses}
use Rattle.heex_reader.specs.Machine.{Frame, in_tag, in_yes, in_no, in_loop, before_clauses, in_clause, State, in_call, opened, within, step, go_on, read_from}

abbrev pub state : Content → List Frame → State
state c fs = record { here = c; frames = fs }

pub bytes_same : (s : List ℕ) → bytes_eq s s ≡ true
bytes_same s = (bytes_eq-Decides s s).1 refl

-- the first clause's pattern, and what follows its head
abbrev pub first_pattern : Branches → Pattern
first_pattern (last_branch n p f) = p
first_pattern (branch n p f bs) = p

abbrev first_place : Branches → ℕ
first_place (last_branch n p f) = n
first_place (branch n p f bs) = n

abbrev behind_head : Branches → List Placed
behind_head (last_branch n p f) = forest_signs f
behind_head (branch n p f bs) = forest_signs f ++ branch_signs bs

head_and_rest : (bs : Branches) → branch_signs bs ≡ sign_at (first_place bs) (clause_head (first_pattern bs)) ∷ behind_head bs
head_and_rest (last_branch n p f) = refl
head_and_rest (branch n p f bs) = refl

opens_one : (at : ℕ) (f : Frame) (fs : List Frame) → length fs < 128 → opened at f fs ≡ Ok (state nothing_yet (f ∷ fs))
opens_one at f fs h = rw (lt-ltb (length fs) 128 h) refl

-- how deep what stands inside may be
room : (h n : ℕ) → (h + 1) + n ≤ 128 → n < 128
room h n k = omega arith

pub lefts : (a b n : ℕ) → max a b + n ≤ 128 → a + n ≤ 128
lefts a b n k = omega (arith, le-max_left a b)

pub rights : (a b n : ℕ) → max a b + n ≤ 128 → b + n ≤ 128
rights a b n k = omega (arith, le-max_right a b)

module _ (place : ℕ → Location) where
  -- the clauses with their nodes
  abbrev pub branch_pairs : Branches → List (Pattern × Nodes)
  branch_pairs (last_branch n p f) = (p, block_nodes place f) ∷ []
  branch_pairs (branch n p f bs) = (p, block_nodes place f) ∷ branch_pairs bs

  pub pairs_are : (bs : Branches) → clauses_of (branch_pairs bs) ≡ branch_clauses place bs
  pairs_are (last_branch n p f) = refl
  pairs_are (branch n p f bs) = ap (clause p (block_nodes place f)) (pairs_are bs)

  -- what a sign leads to
  pub stepped : (p : Placed) (s u : State) (more : List Placed) → step place p s ≡ Ok u → read_from place s (p ∷ more) ≡ read_from place u more
  stepped p s u more e = ap (go_on place (λ t. read_from place t more)) e

  -- nodes may stand here
  abbrev pub Ready : List Frame → Type 0
  Ready fs = (p : Placed) (c : Content) → step place p (state c fs) ≡ within place p.at p.sign c fs

  abbrev Goes : Content → List Frame → List Placed → Content → List Placed → Type 0
  Goes c fs ps d qs = read_from place (state c fs) ps ≡ read_from place (state d fs) qs

  pub closes_it : (m n : ℕ) (t : Tag) (here c : Content) (fs : List Frame) → is_void t.name ≡ false
      → step place (sign_at m (closes t.name)) (state here (in_tag n t c ∷ fs)) ≡ Ok (state (add_tag (in_call fs) (place n) t here c) fs)
  closes_it m n t here c fs v = rw v (rw (bytes_same t.name) refl)

  gap_goes : (g : Gap) (n : ℕ) (e : Expr) (c : Content) (fs : List Frame) (more : List Placed) → GapLawful g
      → Goes nothing_yet (before_clauses n e c ∷ fs) (gap_signs g ++ more) nothing_yet more
  gap_goes no_gap n e c fs more l = refl
  gap_goes (dropped_gap m g) n e c fs more l = gap_goes g n e c fs more l
  gap_goes (white_gap m t g) n e c fs more l =
      let s = state nothing_yet (before_clauses n e c ∷ fs) in
      let b : step place (sign_at m (words t)) s ≡ Ok s = rw l.0 refl in
      stepped (sign_at m (words t)) s s (gap_signs g ++ more) b ∙ gap_goes g n e c fs more l.1

  -- up to the sign that ends a block
  to_end : (f : Forest) (gs : List Frame) (q : Placed) (more : List Placed) → Goes nothing_yet gs (forest_signs f ++ q ∷ more) (forest_on place (in_call gs) nothing_yet f) (q ∷ more)
      → Goes nothing_yet gs ((forest_signs f ++ q ∷ []) ++ more) (forest_on place (in_call gs) nothing_yet f) (q ∷ more)
  to_end f gs q more g = ap (read_from place (state nothing_yet gs)) (append_assoc (forest_signs f) (q ∷ []) more) ∙ g

  mutual
    pub goes : (t : Tree) (c : Content) (fs : List Frame) (more : List Placed) → Lawful t → height t + length fs ≤ 128 → Ready fs
        → Goes c fs (tree_signs t ++ more) (tree_on place (in_call fs) c t) more
    goes (comment n) c fs more l h r = stepped (sign_at n dropped) (state c fs) (state c fs) more (r (sign_at n dropped) c)
    goes (text n t) c fs more l h r = stepped (sign_at n (words t)) (state c fs) (state (add_node (text_node t) c) fs) more (r (sign_at n (words t)) c)
    goes (put n p) c fs more l h r = stepped (sign_at n (value p)) (state c fs) (state (add_node (at_place (place n) p) c) fs) more (r (sign_at n (value p)) c)
    goes (single n t) c fs more l h r =
        stepped (sign_at n (whole t)) (state c fs) (state (add_tag (in_call fs) (place n) t nothing_yet c) fs) more (r (sign_at n (whole t)) c)
    goes (inside n t f m) c fs more l h r =
        let gs = in_tag n t c ∷ fs in
        let q = sign_at m (closes t.name) in
        let d = forest_on place (is_call t) nothing_yet f in
        stepped (sign_at n (opens t)) (state c fs) (state nothing_yet gs) ((forest_signs f ++ q ∷ []) ++ more) (r (sign_at n (opens t)) c ∙ opens_one n (in_tag n t c) fs (room (forest_height f) (length fs) h))
        ∙ to_end f gs q more (forest_goes f nothing_yet gs (q ∷ more) l.1 (omega (arith, h)) (λ p k. refl))
        ∙ stepped q (state d gs) (state (add_tag (in_call fs) (place n) t d c) fs) more (closes_it m n t d c fs l.0)
    goes (choice n e f m) c fs more l h r =
        let gs = in_yes n e c ∷ fs in
        let q = sign_at m ends in
        let d = forest_on place false nothing_yet f in
        stepped (sign_at n (block (if_block e))) (state c fs) (state nothing_yet gs) ((forest_signs f ++ q ∷ []) ++ more) (r (sign_at n (block (if_block e))) c ∙ opens_one n (in_yes n e c) fs (room (forest_height f) (length fs) h))
        ∙ to_end f gs q more (forest_goes f nothing_yet gs (q ∷ more) l (omega (arith, h)) (λ p k. refl))
        ∙ stepped q (state d gs) (state (add_node (at_place (place n) (if_place e (nodes_in d) no_nodes)) c) fs) more refl
    goes (choice_else n e f k g m) c fs more l h r =
        let gs = in_yes n e c ∷ fs in
        let hs = in_no n e (block_nodes place f) c ∷ fs in
        let o = sign_at k otherwise in
        let q = sign_at m ends in
        let d = forest_on place false nothing_yet f in
        let d' = forest_on place false nothing_yet g in
        let a : (forest_signs f ++ o ∷ (forest_signs g ++ q ∷ [])) ++ more ≡ forest_signs f ++ o ∷ ((forest_signs g ++ q ∷ []) ++ more) = append_assoc (forest_signs f) (o ∷ (forest_signs g ++ q ∷ [])) more in
        let v : max (forest_height f) (forest_height g) + (length fs + 1) ≤ 128 = omega (arith, h) in
        stepped (sign_at n (block (if_block e))) (state c fs) (state nothing_yet gs) ((forest_signs f ++ o ∷ (forest_signs g ++ q ∷ [])) ++ more) (r (sign_at n (block (if_block e))) c ∙ opens_one n (in_yes n e c) fs (room (max (forest_height f) (forest_height g)) (length fs) h))
        ∙ ap (read_from place (state nothing_yet gs)) a
        ∙ forest_goes f nothing_yet gs (o ∷ ((forest_signs g ++ q ∷ []) ++ more)) l.0 (omega (arith, lefts (forest_height f) (forest_height g) (length fs + 1) v)) (λ p k'. refl)
        ∙ stepped o (state d gs) (state nothing_yet hs) ((forest_signs g ++ q ∷ []) ++ more) refl
        ∙ to_end g hs q more (forest_goes g nothing_yet hs (q ∷ more) l.1 (omega (arith, rights (forest_height f) (forest_height g) (length fs + 1) v)) (λ p k'. refl))
        ∙ stepped q (state d' hs) (state (add_node (at_place (place n) (if_place e (nodes_in d) (nodes_in d'))) c) fs) more refl
    goes (loop n p e f m) c fs more l h r =
        let gs = in_loop n p e c ∷ fs in
        let q = sign_at m ends in
        let d = forest_on place false nothing_yet f in
        stepped (sign_at n (block (for_block p e))) (state c fs) (state nothing_yet gs) ((forest_signs f ++ q ∷ []) ++ more) (r (sign_at n (block (for_block p e))) c ∙ opens_one n (in_loop n p e c) fs (room (forest_height f) (length fs) h))
        ∙ to_end f gs q more (forest_goes f nothing_yet gs (q ∷ more) l (omega (arith, h)) (λ p' k. refl))
        ∙ stepped q (state d gs) (state (add_node (at_place (place n) (for_place p e (nodes_in d))) c) fs) more refl
    goes (cases n e g bs m) c fs more l h r =
        let gs = before_clauses n e c ∷ fs in
        let q = sign_at m ends in
        let v : branches_height bs + (length fs + 1) ≤ 128 = omega (arith, h) in
        let a : (gap_signs g ++ (branch_signs bs ++ q ∷ [])) ++ more ≡ gap_signs g ++ (branch_signs bs ++ q ∷ more) = append_assoc (gap_signs g) (branch_signs bs ++ q ∷ []) more ∙ ap (λ x. gap_signs g ++ x) (append_assoc (branch_signs bs) (q ∷ []) more) in
        let head = sign_at (first_place bs) (clause_head (first_pattern bs)) in
        let done : Clauses → State = λ cs. state (add_node (at_place (place n) (case_place e cs)) c) fs in
        stepped (sign_at n (block (case_block e))) (state c fs) (state nothing_yet gs) ((gap_signs g ++ (branch_signs bs ++ q ∷ [])) ++ more) (r (sign_at n (block (case_block e))) c ∙ opens_one n (before_clauses n e c) fs (room (branches_height bs) (length fs) h))
        ∙ ap (read_from place (state nothing_yet gs)) a
        ∙ gap_goes g n e c fs (branch_signs bs ++ q ∷ more) l.0
        ∙ ap (λ x. read_from place (state nothing_yet gs) (x ++ q ∷ more)) (head_and_rest bs)
        ∙ stepped head (state nothing_yet gs) (state nothing_yet (in_clause n e [] (first_pattern bs) c ∷ fs)) (behind_head bs ++ q ∷ more) refl
        ∙ branches_go bs n e [] c fs m more l.1 v
        ∙ ap (λ x. read_from place (done x) more) (pairs_are bs)

    pub forest_goes : (f : Forest) (c : Content) (fs : List Frame) (more : List Placed) → ForestLawful f → forest_height f + length fs ≤ 128 → Ready fs
        → Goes c fs (forest_signs f ++ more) (forest_on place (in_call fs) c f) more
    forest_goes no_trees c fs more l h r = refl
    forest_goes (tree t f) c fs more l h r =
        ap (read_from place (state c fs)) (append_assoc (tree_signs t) (forest_signs f) more)
        ∙ goes t c fs (forest_signs f ++ more) l.0 (lefts (height t) (forest_height f) (length fs) h) r
        ∙ forest_goes f (tree_on place (in_call fs) c t) fs more l.1 (rights (height t) (forest_height f) (length fs) h) r

    branches_go : (bs : Branches) (n : ℕ) (e : Expr) (cs : List (Pattern × Nodes)) (c : Content) (fs : List Frame) (m : ℕ) (more : List Placed) → BranchesLawful bs → branches_height bs + (length fs + 1) ≤ 128
        → read_from place (state nothing_yet (in_clause n e cs (first_pattern bs) c ∷ fs)) (behind_head bs ++ sign_at m ends ∷ more)
        ≡ read_from place (state (add_node (at_place (place n) (case_place e (clauses_of (cs ++ branch_pairs bs)))) c) fs) more
    branches_go (last_branch k p f) n e cs c fs m more l h = forest_goes f nothing_yet (in_clause n e cs p c ∷ fs) (sign_at m ends ∷ more) l (omega (arith, h)) (λ x y. refl)
    branches_go (branch k p f bs) n e cs c fs m more l h =
        let q = sign_at m ends in
        let gs = in_clause n e cs p c ∷ fs in
        let ds = cs ++ (p, block_nodes place f) ∷ [] in
        let done : Clauses → State = λ x. state (add_node (at_place (place n) (case_place e x)) c) fs in
        ap (read_from place (state nothing_yet gs)) (append_assoc (forest_signs f) (branch_signs bs) (q ∷ more))
        ∙ forest_goes f nothing_yet gs (branch_signs bs ++ q ∷ more) l.0 (omega (arith, lefts (forest_height f) (branches_height bs) (length fs + 1) h)) (λ x y. refl)
        ∙ ap (λ x. read_from place (state (forest_on place false nothing_yet f) gs) (x ++ q ∷ more)) (head_and_rest bs)
        ∙ branches_go bs n e ds c fs m more l.1 (rights (forest_height f) (branches_height bs) (length fs + 1) h)
        ∙ ap (λ x. read_from place (done (clauses_of x)) more) (append_assoc cs ((p, block_nodes place f) ∷ []) (branch_pairs bs))
