-- What the program's signs stand for, and what it answers with.
use Rattle.std.specs.Prelude.{◌≡◌, ◌+◌, ◌<◌, ◌≤◌, ◌^◌, ℕ, List, length, option_map, Result, Ok, Err}
use Rattle.ast_core.specs.ExprView.{expr_view}
use Rattle.ast_core.specs.PatternView.{pattern_view}
use Rattle.ast_core.specs.NodeView.{attributes_view, generator_view, place_view}
use Rattle.expr_core.specs.declared.fault.ExprFault.{ExprFault}
use Rattle.expr_core.specs.declared.fault.ExprFault.TheVariants as expr_fault
use Rattle.heex_reader.specs.declared.fault.TemplateKind.TheVariants as kind
use Rattle.heex_reader.specs.declared.piece.PieceFault.{PieceFault}
use Rattle.heex_reader.specs.declared.piece.PieceFault.TheVariants as fault
use Rattle.heex_reader.specs.declared.sign.Tag.{Tag}
use Rattle.heex_reader.specs.declared.sign.Block.{Block}
use Rattle.heex_reader.specs.declared.sign.Block.TheVariants as head
use Rattle.heex_reader.specs.declared.sign.Sign.{Sign}
use Rattle.heex_reader.specs.declared.sign.Sign.TheVariants as sign
use Rattle.heex_reader.specs.Located.{Fault, faulty}
use Rattle.heex_reader.specs.Signs as signs

abbrev pub tag_view : Tag → signs.Tag
tag_view t = record {
  name = t.name;
  attributes = attributes_view t.attributes;
  generator = option_map generator_view t.generator;
  test = option_map expr_view t.test;
  binds = option_map pattern_view t.binds;
}

abbrev pub block_view : Block → signs.Block
block_view (head.If e) = signs.if_block (expr_view e)
block_view (head.For g) = signs.for_block (pattern_view g.pattern) (expr_view g.list)
block_view (head.Case e) = signs.case_block (expr_view e)

abbrev pub sign_view : Sign → signs.Sign
sign_view sign.Dropped = signs.dropped
sign_view (sign.Words t) = signs.words t
sign_view (sign.Value p) = signs.value (place_view p)
sign_view (sign.Whole t) = signs.whole (tag_view t)
sign_view (sign.Opens t) = signs.opens (tag_view t)
sign_view (sign.Closes name) = signs.closes name
sign_view (sign.Block b) = signs.block (block_view b)
sign_view (sign.ClauseHead p) = signs.clause_head (pattern_view p)
sign_view sign.Otherwise = signs.otherwise
sign_view sign.Ends = signs.ends
sign_view (sign.Broken at k) = signs.broken at k
sign_view (sign.BrokenOpening at k) = signs.broken_opening at k

-- a fault, but that memory may be wanting
abbrev pub FaultGiven : {A : Type 0} → PieceFault → Result A Fault → Type 0
FaultGiven (fault.Faulty at k) r = r ≡ faulty at k
FaultGiven fault.OutOfMemory r = Unit {0}

-- an answer, of which this is seen
abbrev pub Given : {A B : Type 0} → (A → B) → Result A PieceFault → Result B Fault → Type 0
Given view (Ok a) r = r ≡ Ok (view a)
Given view (Err f) r = FaultGiven f r

-- each byte of a text that begins at this one has a number, and the one behind it too
abbrev pub HasRoom : ℕ → List ℕ → Type 0
HasRoom at s = at + length s + 1 < 2 ^ 64

-- what is wrong with a text that begins at this byte
abbrev pub placed_fault : ℕ → ExprFault → PieceFault
placed_fault at (expr_fault.Refused place k) = fault.Faulty (at + place) (kind.BadExpr k)
placed_fault at expr_fault.OutOfMemory = fault.OutOfMemory

-- and so has the byte of a fault in it
abbrev pub FaultHasRoom : ℕ → ExprFault → Type 0
FaultHasRoom at (expr_fault.Refused place k) = at + place < 2 ^ 64
FaultHasRoom at expr_fault.OutOfMemory = Unit {0}

-- a fault stands at one of so many bytes, or behind them
abbrev pub StandsWithin : ℕ → ExprFault → Type 0
StandsWithin size (expr_fault.Refused place k) = place ≤ size
StandsWithin size expr_fault.OutOfMemory = Unit {0}
