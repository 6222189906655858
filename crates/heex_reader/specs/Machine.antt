-- How signs are read, one after the other.
use Rattle.std.specs.Prelude.{ℕ, List, [], ◌∷◌, ◌++◌, length, Bool, false, nat_lt, if◌then◌else◌, Result, Ok, Err}
use Rattle.std.specs.Str.{bytes_eq}
use Rattle.ast_core.specs.Syntax.{Location, Expr, Pattern, text_node, at_place, if_place, for_place, case_place, Nodes, no_nodes}
use Rattle.ast_core.specs.NodeView.{clauses_of}
use Rattle.ast_core.specs.Places.{is_void}
use Rattle.heex_reader.specs.declared.fault.TemplateKind.{TemplateKind}
use Rattle.heex_reader.specs.declared.fault.TemplateKind.TheVariants as kind
use Rattle.heex_reader.specs.Located.{Fault, faulty}
use Rattle.heex_reader.specs.Signs.{Tag, Block, if_block, for_block, case_block, Sign, dropped, words, value, whole, opens, closes, block, clause_head, otherwise, ends, broken, broken_opening, Placed}
pub use Rattle.heex_reader.specs.Contents.{nodes_in}
use Rattle.heex_reader.specs.Contents.{Content, nothing_yet, add_node, add_tag, is_call}
use Rattle.heex_reader.specs.Grammar.{is_blank}

-- what is open, with the byte of its `<` and what stands before it
pub data Frame : Type 0 where
  in_tag : ℕ → Tag → Content → Frame
  in_yes : ℕ → Expr → Content → Frame
  in_no : ℕ → Expr → Nodes → Content → Frame
  in_loop : ℕ → Pattern → Expr → Content → Frame
  before_clauses : ℕ → Expr → Content → Frame
  -- with the clauses before
  in_clause : ℕ → Expr → List (Pattern × Nodes) → Pattern → Content → Frame

-- What was read so far: what is open, the innermost first, and what stands in that.
pub record State : Type 0 where
  pub here : Content
  pub frames : List Frame

abbrev pub beginning : State
beginning = record { here = nothing_yet; frames = [] }

-- whether what is read next stands directly in a call
abbrev pub in_call : List Frame → Bool
in_call [] = false
in_call (in_tag n t c ∷ fs) = is_call t
in_call (f ∷ fs) = false

-- one more tag or block is open, at most 128
abbrev pub opened : ℕ → Frame → List Frame → Result State Fault
opened at f fs = if nat_lt (length fs) 128 then Ok (record { here = nothing_yet; frames = f ∷ fs }) else faulty at kind.TooDeep

-- the frame of a block
abbrev pub frame_of : ℕ → Content → Block → Frame
frame_of at c (if_block e) = in_yes at e c
frame_of at c (for_block p e) = in_loop at p e c
frame_of at c (case_block e) = before_clauses at e c

-- a token that is broken, after what would be open
abbrev pub broken_open : ℕ → ℕ → TemplateKind → List Frame → Result State Fault
broken_open at b k fs = if nat_lt (length fs) 128 then faulty b k else faulty at kind.TooDeep

module _ (place : ℕ → Location) where
  -- an end tag
  abbrev pub close_tag : ℕ → List ℕ → Content → List Frame → Result State Fault
  close_tag at name here (in_tag n t c ∷ fs) =
      if bytes_eq name t.name then Ok (record { here = add_tag (in_call fs) (place n) t here c; frames = fs }) else faulty at kind.WrongClose
  close_tag at name here fs = faulty at kind.WrongClose

  -- a block's end
  abbrev pub end_block : ℕ → Content → List Frame → Result State Fault
  end_block at here (in_yes n e c ∷ fs) = Ok (record { here = add_node (at_place (place n) (if_place e (nodes_in here) no_nodes)) c; frames = fs })
  end_block at here (in_no n e ns c ∷ fs) = Ok (record { here = add_node (at_place (place n) (if_place e ns (nodes_in here))) c; frames = fs })
  end_block at here (in_loop n p e c ∷ fs) = Ok (record { here = add_node (at_place (place n) (for_place p e (nodes_in here))) c; frames = fs })
  end_block at here (in_clause n e cs p c ∷ fs) =
      Ok (record { here = add_node (at_place (place n) (case_place e (clauses_of (cs ++ (p, nodes_in here) ∷ [])))) c; frames = fs })
  end_block at here fs = faulty at kind.BadBlock

  abbrev pub else_branch : ℕ → Content → List Frame → Result State Fault
  else_branch at here (in_yes n e c ∷ fs) = Ok (record { here = nothing_yet; frames = in_no n e (nodes_in here) c ∷ fs })
  else_branch at here fs = faulty at kind.BadBlock

  abbrev pub next_clause : ℕ → Pattern → Content → List Frame → Result State Fault
  next_clause at q here (in_clause n e cs p c ∷ fs) = Ok (record { here = nothing_yet; frames = in_clause n e (cs ++ (p, nodes_in here) ∷ []) q c ∷ fs })
  next_clause at q here fs = faulty at kind.BadBlock

  -- a sign that stands where nodes may stand
  abbrev pub within : ℕ → Sign → Content → List Frame → Result State Fault
  within at dropped here fs = Ok (record { here = here; frames = fs })
  within at (words t) here fs = Ok (record { here = add_node (text_node t) here; frames = fs })
  within at (value p) here fs = Ok (record { here = add_node (at_place (place at) p) here; frames = fs })
  within at (whole t) here fs = Ok (record { here = add_tag (in_call fs) (place at) t nothing_yet here; frames = fs })
  within at (opens t) here fs = opened at (in_tag at t here) fs
  within at (block b) here fs = opened at (frame_of at here b) fs
  within at (closes name) here fs = if is_void name then faulty at kind.VoidClosed else close_tag at name here fs
  within at (clause_head q) here fs = next_clause at q here fs
  within at otherwise here fs = else_branch at here fs
  within at ends here fs = end_block at here fs
  within at (broken b k) here fs = faulty b k
  within at (broken_opening b k) here fs = broken_open at b k fs

  -- a sign before the first clause of a `case`
  abbrev pub before_first : ℕ → Sign → ℕ → Expr → Content → List Frame → Result State Fault
  before_first at dropped n e c fs = Ok (record { here = nothing_yet; frames = before_clauses n e c ∷ fs })
  before_first at (words t) n e c fs = if is_blank t then Ok (record { here = nothing_yet; frames = before_clauses n e c ∷ fs }) else faulty at kind.BadBlock
  before_first at (clause_head q) n e c fs = Ok (record { here = nothing_yet; frames = in_clause n e [] q c ∷ fs })
  before_first at s n e c fs = faulty at kind.BadBlock

  abbrev pub step : Placed → State → Result State Fault
  step p s = elim s.frames [ before_clauses n e c ∷ fs ↦ before_first p.at p.sign n e c fs | fs ↦ within p.at p.sign s.here fs ]

  -- the byte of what is open
  abbrev pub byte_of : Frame → ℕ
  byte_of (in_tag n t c) = n
  byte_of (in_yes n e c) = n
  byte_of (in_no n e ns c) = n
  byte_of (in_loop n p e c) = n
  byte_of (before_clauses n e c) = n
  byte_of (in_clause n e cs p c) = n

  -- the end of the text
  abbrev pub finished : State → Result Nodes Fault
  finished s = elim s.frames [ [] ↦ Ok (nodes_in s.here) | f ∷ fs ↦ faulty (byte_of f) kind.Unclosed ]

  abbrev pub go_on : (State → Result Nodes Fault) → Result State Fault → Result Nodes Fault
  go_on go (Ok s) = go s
  go_on go (Err f) = Err f

  abbrev pub read_from : State → List Placed → Result Nodes Fault
  read_from s [] = finished s
  read_from s (p ∷ ps) = go_on (λ t. read_from t ps) (step p s)

  -- the nodes that signs are, or their fault
  abbrev pub outcome : List Placed → Result Nodes Fault
  outcome ps = read_from beginning ps
