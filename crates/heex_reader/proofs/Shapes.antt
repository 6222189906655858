-- What the reader holds, with trees in place of nodes.
use Rattle.std.proofs.Common.{◌≡◌, ℕ, ◌+◌, ◌-◌, ◌≤◌, ◌<◌, max, List, [], ◌∷◌, ◌++◌, length, map, Bool, false, refl, sym, ap, ◌∙◌, arith, append_assoc, append-nil}
use Rattle.std.proofs.Math.Nat.{max-le}
use Rattle.ast_core.specs.Syntax.{Location, Expr, Pattern, Nodes}
use Rattle.ast_core.specs.Places.{is_void}
use Rattle.heex_reader.specs.Signs.{Tag, if_block, for_block, case_block, dropped, words, opens, block, clause_head, otherwise, Placed}
use Rattle.heex_reader.specs.Contents.{Content, nothing_yet}
use Rattle.heex_reader.specs.Grammar.{sign_at, Gap, no_gap, dropped_gap, white_gap, Tree, Forest, no_trees, tree, gap_signs, tree_signs, forest_signs, GapLawful, Lawful, ForestLawful, height, forest_height, tree_on, forest_on, block_nodes}
use Rattle.heex_reader.specs.Machine.{Frame, in_tag, in_yes, in_no, in_loop, before_clauses, in_clause, State, in_call}
use Rattle.heex_reader.specs.Answers.{Open, open_at, awaits_clause}
use Rattle.heex_reader.proofs.Goes.{state, lefts, rights, Ready}

-- One more tree behind others.
abbrev pub add_tree : Forest → Tree → Forest
add_tree no_trees t = tree t no_trees
add_tree (tree u f) t = tree u (add_tree f t)

pub added_signs : (f : Forest) (t : Tree) → forest_signs (add_tree f t) ≡ forest_signs f ++ tree_signs t
added_signs no_trees t = append-nil (tree_signs t)
added_signs (tree u f) t = ap (λ l. tree_signs u ++ l) (added_signs f t) ∙ sym (append_assoc (tree_signs u) (forest_signs f) (tree_signs t))

pub added_on : (place : ℕ → Location) (b : Bool) (c : Content) (f : Forest) (t : Tree) → forest_on place b c (add_tree f t) ≡ tree_on place b (forest_on place b c f) t
added_on place b c no_trees t = refl
added_on place b c (tree u f) t = added_on place b (tree_on place b c u) f t

-- The forest is lawful, and has room where so many tags and blocks are open.
abbrev pub Fits : ℕ → Forest → Type 0
Fits d f = ForestLawful f × (forest_height f + d ≤ 128)

abbrev pub FitsTree : ℕ → Tree → Type 0
FitsTree d t = Lawful t × (height t + d ≤ 128)

pub higher : (a b d : ℕ) → a + d ≤ 128 → b + d ≤ 128 → max a b + d ≤ 128
higher a b d h k =
    let l : a ≤ 128 - d = omega (arith, h) in
    let r : b ≤ 128 - d = omega (arith, k) in
    let m : max a b ≤ 128 - d = max-le l r in
    let n : d ≤ 128 = omega (arith, h) in
    omega (arith, m, n)

pub added_fits : (d : ℕ) (f : Forest) (t : Tree) → Fits d f → FitsTree d t → Fits d (add_tree f t)
added_fits d no_trees t h k = ((k.0, tt), higher (height t) 0 d k.1 h.1)
added_fits d (tree u f) t h k =
    let m : Fits d f = (h.0.1, rights (height u) (forest_height f) d h.1) in
    let i = added_fits d f t m k in
    ((h.0.0, i.0), higher (height u) (forest_height (add_tree f t)) d (lefts (height u) (forest_height f) d h.1) i.1)

-- More of what stands before the first clause.
abbrev pub add_gap : Gap → Gap → Gap
add_gap no_gap h = h
add_gap (dropped_gap n g) h = dropped_gap n (add_gap g h)
add_gap (white_gap n t g) h = white_gap n t (add_gap g h)

pub gap_added : (g h : Gap) → gap_signs (add_gap g h) ≡ gap_signs g ++ gap_signs h
gap_added no_gap h = refl
gap_added (dropped_gap n g) h = ap (λ l. sign_at n dropped ∷ l) (gap_added g h)
gap_added (white_gap n t g) h = ap (λ l. sign_at n (words t) ∷ l) (gap_added g h)

pub gap_lawful : (g h : Gap) → GapLawful g → GapLawful h → GapLawful (add_gap g h)
gap_lawful no_gap h l k = k
gap_lawful (dropped_gap n g) h l k = gap_lawful g h l k
gap_lawful (white_gap n t g) h l k = (l.0, gap_lawful g h l.1 k)

-- A clause that is read.
pub record Earlier : Type 0 where
  pub at : ℕ
  pub pattern : Pattern
  pub body : Forest

pub data Kind : Type 0 where
  of_tag : Tag → Kind
  of_yes : Expr → Kind
  of_no : Expr → Forest → ℕ → Kind
  of_loop : Pattern → Expr → Kind
  of_clause : Expr → Gap → List Earlier → ℕ → Pattern → Kind

-- A tag or a block that is open, with what stands before it.
pub record Piece : Type 0 where
  pub before : Forest
  pub at : ℕ
  pub kind : Kind

abbrev pub piece : Forest → ℕ → Kind → Piece
piece b n k = record { before = b; at = n; kind = k }

pub data Shape : Type 0 where
  inner : Forest → List Piece → Shape
  -- a `case` before its first clause, with what stands before it
  awaiting : Forest → ℕ → Expr → Gap → List Piece → Shape

-- What is open.
abbrev pub open_pieces : List Piece → List Open
open_pieces ps = map (λ p. open_at p.at) ps

abbrev pub behind : Shape → List Open
behind (inner f ps) = open_pieces ps
behind (awaiting b n e g ps) = awaits_clause n ∷ open_pieces ps

-- The signs.
abbrev pub earlier_signs : List Earlier → List Placed
earlier_signs [] = []
earlier_signs (x ∷ xs) = sign_at x.at (clause_head x.pattern) ∷ (forest_signs x.body ++ earlier_signs xs)

abbrev pub head_signs : ℕ → Kind → List Placed
head_signs n (of_tag t) = sign_at n (opens t) ∷ []
head_signs n (of_yes e) = sign_at n (block (if_block e)) ∷ []
head_signs n (of_no e y k) = sign_at n (block (if_block e)) ∷ (forest_signs y ++ sign_at k otherwise ∷ [])
head_signs n (of_loop p e) = sign_at n (block (for_block p e)) ∷ []
head_signs n (of_clause e g es k p) = sign_at n (block (case_block e)) ∷ (gap_signs g ++ (earlier_signs es ++ sign_at k (clause_head p) ∷ []))

abbrev pub told_pieces : List Piece → List Placed
told_pieces [] = []
told_pieces (p ∷ ps) = (told_pieces ps ++ forest_signs p.before) ++ head_signs p.at p.kind

abbrev pub told : Shape → List Placed
told (inner f ps) = told_pieces ps ++ forest_signs f
told (awaiting b n e g ps) = (told_pieces ps ++ forest_signs b) ++ sign_at n (block (case_block e)) ∷ gap_signs g

-- What is lawful and has room.
abbrev pub FineEarlier : ℕ → List Earlier → Type 0
FineEarlier d [] = Unit {0}
FineEarlier d (x ∷ xs) = Fits d x.body × FineEarlier d xs

abbrev pub FineKind : ℕ → Kind → Type 0
FineKind d (of_tag t) = is_void t.name ≡ false
FineKind d (of_yes e) = Unit {0}
FineKind d (of_no e y k) = Fits d y
FineKind d (of_loop p e) = Unit {0}
FineKind d (of_clause e g es k p) = GapLawful g × FineEarlier d es

abbrev pub FinePieces : List Piece → Type 0
FinePieces [] = Unit {0}
FinePieces (p ∷ ps) = Fits (length ps) p.before × FineKind (length ps + 1) p.kind × FinePieces ps

abbrev pub FineShape : Shape → Type 0
FineShape (inner f ps) = Fits (length ps) f × FinePieces ps
FineShape (awaiting b n e g ps) = Fits (length ps) b × GapLawful g × (length ps < 128) × FinePieces ps

-- What the reader holds.
module _ (place : ℕ → Location) where
  abbrev pub clauses_seen : List Earlier → List (Pattern × Nodes)
  clauses_seen [] = []
  clauses_seen (x ∷ xs) = (x.pattern, block_nodes place x.body) ∷ clauses_seen xs

  abbrev pub frame_as : Kind → ℕ → Content → Frame
  frame_as (of_tag t) n c = in_tag n t c
  frame_as (of_yes e) n c = in_yes n e c
  frame_as (of_no e y k) n c = in_no n e (block_nodes place y) c
  frame_as (of_loop p e) n c = in_loop n p e c
  frame_as (of_clause e g es k p) n c = in_clause n e (clauses_seen es) p c

  abbrev pub frames_of : List Piece → List Frame
  frames_of [] = []
  frames_of (p ∷ ps) = frame_as p.kind p.at (forest_on place (in_call (frames_of ps)) nothing_yet p.before) ∷ frames_of ps

  abbrev pub content : List Piece → Forest → Content
  content ps f = forest_on place (in_call (frames_of ps)) nothing_yet f

  abbrev pub seen : Shape → State
  seen (inner f ps) = state (content ps f) (frames_of ps)
  seen (awaiting b n e g ps) = state nothing_yet (before_clauses n e (content ps b) ∷ frames_of ps)

  pub content_added : (ps : List Piece) (f : Forest) (t : Tree) → content ps (add_tree f t) ≡ tree_on place (in_call (frames_of ps)) (content ps f) t
  content_added ps f t = added_on place (in_call (frames_of ps)) nothing_yet f t

  frame_ready : (k : Kind) (n : ℕ) (b : Content) (fs : List Frame) → Ready place (frame_as k n b ∷ fs)
  frame_ready (of_tag t) n b fs = λ p c. refl
  frame_ready (of_yes e) n b fs = λ p c. refl
  frame_ready (of_no e y k) n b fs = λ p c. refl
  frame_ready (of_loop q e) n b fs = λ p c. refl
  frame_ready (of_clause e g es k q) n b fs = λ p c. refl

  -- nodes may stand in what is open
  pub ready : (ps : List Piece) → Ready place (frames_of ps)
  ready [] = λ p c. refl
  ready (p ∷ ps) = frame_ready p.kind p.at (content ps p.before) (frames_of ps)

  pub as_many_frames : (ps : List Piece) → length (frames_of ps) ≡ length ps
  as_many_frames [] = refl
  as_many_frames (p ∷ ps) = rw (as_many_frames ps) refl

pub as_many_open : (ps : List Piece) → length (open_pieces ps) ≡ length ps
as_many_open [] = refl
as_many_open (p ∷ ps) = rw (as_many_open ps) refl
