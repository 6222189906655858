-- Which signs are a template, and why others are none.
use Rattle.std.specs.Prelude.{◌≡◌, ◌⊎◌, ℕ, ◌+◌, ◌<◌, ◌≤◌, List, [], ◌∷◌, ◌++◌, length, take, drop, Bool, true, false, if◌then◌else◌, Some, Result, Ok, Err}
use Rattle.std.specs.List.{slice_get}
use Rattle.ast_core.specs.Syntax.{Location, Nodes}
use Rattle.ast_core.specs.Places.{is_void}
use Rattle.heex_reader.specs.declared.fault.TemplateKind.TheVariants as kind
use Rattle.heex_reader.specs.Located.{Fault}
use Rattle.heex_reader.specs.Signs.{case_block, Sign, opens, closes, block, clause_head, ends, broken, broken_opening, Placed}
use Rattle.heex_reader.specs.Grammar.{Forest, forest_signs, ForestLawful, forest_height, block_nodes}

-- A tag with the name of a void element is whole: no sign opens it.
abbrev pub OpensNoVoid : Sign → Type 0
OpensNoVoid (opens t) = is_void t.name ≡ false
OpensNoVoid s = Unit {0}

abbrev pub Sane : List Placed → Type 0
Sane [] = Unit {0}
Sane (p ∷ ps) = OpensNoVoid p.sign × Sane ps

-- The signs are read as this forest, in which at most 128 tags and blocks stand inside one another.
pub record Reads (ps : List Placed) (f : Forest) : Type 0 where
  pub lawful : ForestLawful f
  pub shallow : forest_height f ≤ 128
  pub same : forest_signs f ≡ ps

-- the signs are a template of these nodes, when bytes stand at these places
abbrev pub Spells : (ℕ → Location) → List Placed → Nodes → Type 0
Spells place ps ns = (f : Forest) × Reads ps f × (block_nodes place f ≡ ns)

-- some template begins with these signs
abbrev pub Begins : List Placed → Type 0
Begins ps = (more : List Placed) × (f : Forest) × Reads (ps ++ more) f

-- What is open behind some signs, the innermost first, each with its byte.
pub data Open : Type 0 where
  -- a tag, or a block in which nodes stand
  open_at : ℕ → Open
  -- a `case` before its first clause
  awaits_clause : ℕ → Open

abbrev pub first_clause : List Open → List Open
first_clause (awaits_clause n ∷ os) = open_at n ∷ os
first_clause os = os

abbrev pub open_behind : List Open → Placed → List Open
open_behind os p = elim p.sign [
  | opens t ↦ open_at p.at ∷ os
  | block (case_block e) ↦ awaits_clause p.at ∷ os
  | block b ↦ open_at p.at ∷ os
  | clause_head q ↦ first_clause os
  | closes name ↦ drop 1 os
  | ends ↦ drop 1 os
  | s ↦ os
]

abbrev pub open_from : List Open → List Placed → List Open
open_from os [] = os
open_from os (p ∷ ps) = open_from (open_behind os p) ps

abbrev pub open_after : List Placed → List Open
open_after ps = open_from [] ps

abbrev pub awaits : List Open → Bool
awaits (awaits_clause n ∷ os) = true
awaits os = false

-- a sign that opens a tag or a block
abbrev pub is_opening : Sign → Bool
is_opening (opens t) = true
is_opening (block b) = true
is_opening (broken_opening b k) = true
is_opening s = false

-- what is wrong with a sign where it cannot stand, and at which byte
abbrev pub own_fault : Placed → Fault
own_fault p = elim p.sign [
  | closes name ↦ record { at = p.at; kind = if is_void name then kind.VoidClosed else kind.WrongClose }
  | broken b k ↦ record { at = b; kind = k }
  | broken_opening b k ↦ record { at = b; kind = k }
  | s ↦ record { at = p.at; kind = kind.BadBlock }
]

abbrev pub fault_of : Bool → Placed → Fault
fault_of true p = record { at = p.at; kind = kind.BadBlock }
fault_of false p = own_fault p

-- The signs before the n-th begin a template, and those through it begin none; nor is it one that stands too deep.
pub record StrayAt (ps : List Placed) (n : ℕ) (f : Fault) : Type 0 where
  pub sign : Placed
  pub is : slice_get ps n ≡ Some sign
  pub begun : Begins (take n ps)
  pub over : Begins (take (n + 1) ps) → ⊥
  pub shallow : awaits (open_after (take n ps)) ≡ false → is_opening sign.sign ≡ true → length (open_after (take n ps)) < 128
  pub told : f ≡ fault_of (awaits (open_after (take n ps))) sign

-- The signs before the n-th begin a template, and it opens one tag or block too many.
pub record DeepAt (ps : List Placed) (n : ℕ) (f : Fault) : Type 0 where
  pub sign : Placed
  pub is : slice_get ps n ≡ Some sign
  pub begun : Begins (take n ps)
  pub more : awaits (open_after (take n ps)) ≡ false
  pub opening : is_opening sign.sign ≡ true
  pub deep : length (open_after (take n ps)) ≡ 128
  pub told : f ≡ record { at = sign.at; kind = kind.TooDeep }

abbrev pub byte_of : Open → ℕ
byte_of (open_at n) = n
byte_of (awaits_clause n) = n

-- The signs begin a template, and end before what is open is closed.
pub record LeftOpen (ps : List Placed) (f : Fault) : Type 0 where
  pub begun : Begins ps
  pub innermost : Open
  pub others : List Open
  pub is : open_after ps ≡ innermost ∷ others
  pub told : f ≡ record { at = byte_of innermost; kind = kind.Unclosed }

-- why signs are no template
abbrev pub Refuses : List Placed → Fault → Type 0
Refuses ps f = ((n : ℕ) × StrayAt ps n f) ⊎ (((n : ℕ) × DeepAt ps n f) ⊎ LeftOpen ps f)

-- an answer is the right one
abbrev pub Answers : (ℕ → Location) → List Placed → Result Nodes Fault → Type 0
Answers place ps (Ok ns) = Spells place ps ns
Answers place ps (Err f) = Refuses ps f
