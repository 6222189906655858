-- What the tokens of a template say, each for itself.
use Rattle.std.specs.Prelude.{ℕ, List, Option}
use Rattle.ast_core.specs.Syntax.{Expr, Pattern, Generator, Attributes, Place}
use Rattle.heex_reader.specs.declared.fault.TemplateKind.{TemplateKind}

-- A tag: its name with its dot or colon, its attributes, and its `:for`, `:if` and `:let`.
pub record Tag : Type 0 where
  pub name : List ℕ
  pub attributes : Attributes
  pub generator : Option Generator
  pub test : Option Expr
  pub binds : Option Pattern

-- the head of a block
pub data Block : Type 0 where
  if_block : Expr → Block
  for_block : Pattern → Expr → Block
  case_block : Expr → Block

pub data Sign : Type 0 where
  -- a comment of which nothing is left
  dropped : Sign
  words : List ℕ → Sign
  -- an interpolation
  value : Place → Sign
  -- a tag that opens nothing
  whole : Tag → Sign
  opens : Tag → Sign
  -- an end tag
  closes : List ℕ → Sign
  block : Block → Sign
  -- `<% P -> %>`, `<% else %>` and `<% end %>`
  clause_head : Pattern → Sign
  otherwise : Sign
  ends : Sign
  -- a token with a fault of its own at this byte, one that would open nothing, and one that would open a tag or a block
  broken : ℕ → TemplateKind → Sign
  broken_opening : ℕ → TemplateKind → Sign

-- A sign, and the byte where its token begins.
pub record Placed : Type 0 where
  pub at : ℕ
  pub sign : Sign
