-- Which signs a template is written with, and which nodes it is.
use Rattle.std.specs.Prelude.{◌≡◌, ℕ, ◌+◌, max, List, [], ◌∷◌, ◌++◌, Bool, true, false}
use Rattle.std.specs.List.{list_all}
use Rattle.ast_core.specs.Syntax.{Location, Expr, Pattern, Place, text_node, at_place, if_place, for_place, case_place, Nodes, no_nodes, Clauses, no_clauses, clause}
use Rattle.ast_core.specs.Places.{is_void}
use Rattle.heex_token.specs.Tokens.{is_white}
use Rattle.heex_reader.specs.Signs.{Tag, if_block, for_block, case_block, Sign, dropped, words, value, whole, opens, closes, block, clause_head, otherwise, ends, Placed}
use Rattle.heex_reader.specs.Contents.{Content, nothing_yet, nodes_in, add_node, add_tag, is_call}

abbrev pub sign_at : ℕ → Sign → Placed
sign_at at s = record { at = at; sign = s }

-- what may stand before the first clause of a `case`: white space and dropped comments
pub data Gap : Type 0 where
  no_gap : Gap
  dropped_gap : ℕ → Gap → Gap
  white_gap : ℕ → List ℕ → Gap → Gap

-- Each piece has the byte where its token begins, a block also those of its other tags.
mutual
  pub data Tree : Type 0 where
    comment : ℕ → Tree
    text : ℕ → List ℕ → Tree
    put : ℕ → Place → Tree
    single : ℕ → Tag → Tree
    -- a start tag, its content, and its end tag
    inside : ℕ → Tag → Forest → ℕ → Tree
    choice : ℕ → Expr → Forest → ℕ → Tree
    choice_else : ℕ → Expr → Forest → ℕ → Forest → ℕ → Tree
    loop : ℕ → Pattern → Expr → Forest → ℕ → Tree
    cases : ℕ → Expr → Gap → Branches → ℕ → Tree

  pub data Forest : Type 0 where
    no_trees : Forest
    tree : Tree → Forest → Forest

  pub data Branches : Type 0 where
    last_branch : ℕ → Pattern → Forest → Branches
    branch : ℕ → Pattern → Forest → Branches → Branches

-- The signs.

abbrev pub gap_signs : Gap → List Placed
gap_signs no_gap = []
gap_signs (dropped_gap n g) = sign_at n dropped ∷ gap_signs g
gap_signs (white_gap n t g) = sign_at n (words t) ∷ gap_signs g

abbrev mutual
  pub tree_signs : Tree → List Placed
  tree_signs (comment n) = sign_at n dropped ∷ []
  tree_signs (text n t) = sign_at n (words t) ∷ []
  tree_signs (put n p) = sign_at n (value p) ∷ []
  tree_signs (single n t) = sign_at n (whole t) ∷ []
  tree_signs (inside n t f m) = sign_at n (opens t) ∷ (forest_signs f ++ sign_at m (closes t.name) ∷ [])
  tree_signs (choice n e f m) = sign_at n (block (if_block e)) ∷ (forest_signs f ++ sign_at m ends ∷ [])
  tree_signs (choice_else n e f k g m) =
      sign_at n (block (if_block e)) ∷ (forest_signs f ++ sign_at k otherwise ∷ (forest_signs g ++ sign_at m ends ∷ []))
  tree_signs (loop n p e f m) = sign_at n (block (for_block p e)) ∷ (forest_signs f ++ sign_at m ends ∷ [])
  tree_signs (cases n e g bs m) = sign_at n (block (case_block e)) ∷ (gap_signs g ++ (branch_signs bs ++ sign_at m ends ∷ []))

  pub forest_signs : Forest → List Placed
  forest_signs no_trees = []
  forest_signs (tree t f) = tree_signs t ++ forest_signs f

  pub branch_signs : Branches → List Placed
  branch_signs (last_branch n p f) = sign_at n (clause_head p) ∷ forest_signs f
  branch_signs (branch n p f bs) = sign_at n (clause_head p) ∷ (forest_signs f ++ branch_signs bs)

-- White space alone stands before the first clause, and void elements have no end tag.

abbrev pub is_blank : List ℕ → Bool
is_blank t = list_all is_white t

abbrev pub GapLawful : Gap → Type 0
GapLawful no_gap = Unit {0}
GapLawful (dropped_gap n g) = GapLawful g
GapLawful (white_gap n t g) = (is_blank t ≡ true) × GapLawful g

abbrev mutual
  pub Lawful : Tree → Type 0
  Lawful (inside n t f m) = (is_void t.name ≡ false) × ForestLawful f
  Lawful (choice n e f m) = ForestLawful f
  Lawful (choice_else n e f k g m) = ForestLawful f × ForestLawful g
  Lawful (loop n p e f m) = ForestLawful f
  Lawful (cases n e g bs m) = GapLawful g × BranchesLawful bs
  Lawful (comment n) = Unit {0}
  Lawful (text n t) = Unit {0}
  Lawful (put n p) = Unit {0}
  Lawful (single n t) = Unit {0}

  pub ForestLawful : Forest → Type 0
  ForestLawful no_trees = Unit {0}
  ForestLawful (tree t f) = Lawful t × ForestLawful f

  pub BranchesLawful : Branches → Type 0
  BranchesLawful (last_branch n p f) = ForestLawful f
  BranchesLawful (branch n p f bs) = ForestLawful f × BranchesLawful bs

-- How many tags and blocks stand inside one another.
abbrev mutual
  pub height : Tree → ℕ
  height (inside n t f m) = forest_height f + 1
  height (choice n e f m) = forest_height f + 1
  height (choice_else n e f k g m) = max (forest_height f) (forest_height g) + 1
  height (loop n p e f m) = forest_height f + 1
  height (cases n e g bs m) = branches_height bs + 1
  height (comment n) = 0
  height (text n t) = 0
  height (put n p) = 0
  height (single n t) = 0

  pub forest_height : Forest → ℕ
  forest_height no_trees = 0
  forest_height (tree t f) = max (height t) (forest_height f)

  pub branches_height : Branches → ℕ
  branches_height (last_branch n p f) = forest_height f
  branches_height (branch n p f bs) = max (forest_height f) (branches_height bs)

-- The nodes, when bytes stand at these places of the file.
module _ (place : ℕ → Location) where
  abbrev mutual
    -- a tree behind what stands before it; whether that stands directly in a call
    pub tree_on : Bool → Content → Tree → Content
    tree_on in_call c (comment n) = c
    tree_on in_call c (text n t) = add_node (text_node t) c
    tree_on in_call c (put n p) = add_node (at_place (place n) p) c
    tree_on in_call c (single n t) = add_tag in_call (place n) t nothing_yet c
    tree_on in_call c (inside n t f m) = add_tag in_call (place n) t (forest_on (is_call t) nothing_yet f) c
    tree_on in_call c (choice n e f m) = add_node (at_place (place n) (if_place e (nodes_in (forest_on false nothing_yet f)) no_nodes)) c
    tree_on in_call c (choice_else n e f k g m) =
        add_node (at_place (place n) (if_place e (nodes_in (forest_on false nothing_yet f)) (nodes_in (forest_on false nothing_yet g)))) c
    tree_on in_call c (loop n p e f m) = add_node (at_place (place n) (for_place p e (nodes_in (forest_on false nothing_yet f)))) c
    tree_on in_call c (cases n e g bs m) = add_node (at_place (place n) (case_place e (branch_clauses bs))) c

    pub forest_on : Bool → Content → Forest → Content
    forest_on in_call c no_trees = c
    forest_on in_call c (tree t f) = forest_on in_call (tree_on in_call c t) f

    pub branch_clauses : Branches → Clauses
    branch_clauses (last_branch n p f) = clause p (nodes_in (forest_on false nothing_yet f)) no_clauses
    branch_clauses (branch n p f bs) = clause p (nodes_in (forest_on false nothing_yet f)) (branch_clauses bs)

  -- what stands in a block, or in the whole template
  abbrev pub block_nodes : Forest → Nodes
  block_nodes f = nodes_in (forest_on false nothing_yet f)
