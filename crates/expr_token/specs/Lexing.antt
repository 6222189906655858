-- How far a text is read into tokens.
use Rattle.std.specs.Prelude.{◌≡◌, ℕ, ◌+◌, ◌<◌, ◌≤◌, List, [], ◌∷◌, ◌++◌, length, drop, reverse, Bool, false, Option, Some, None}
use Rattle.std.specs.List.{slice_index}
use Rattle.expr_token.specs.declared.token.Token.{Token}
use Rattle.expr_token.specs.declared.token.Cut.{Cut}
use Rattle.expr_token.specs.declared.token.Placed.{Placed}
use Rattle.expr_token.specs.declared.token.Opened.{Opened}
use Rattle.expr_token.specs.declared.lexer.Lexer.{Lexer}
use Rattle.expr_token.specs.Tokens.{first_token, in_text, in_part, is_quoted, is_parted, opened_by, tokens_from, placed_tokens}

abbrev pub innermost : List Opened → Option Opened
innermost [] = None
innermost (o ∷ os) = Some o

-- whether this innermost opening is a text, and whether it is a part of one
abbrev pub in_quoted : Option Opened → Bool
in_quoted None = false
in_quoted (Some o) = is_quoted o.kind

abbrev pub in_parted : Option Opened → Bool
in_parted None = false
in_parted (Some o) = is_parted o.kind

abbrev pub at_place : ℕ → Token → Placed
at_place at t = record { at = at; token = t }

-- what stands at the next byte
abbrev pub next_cut : List ℕ → Lexer → Cut
next_cut text l = first_token (in_text (reverse l.openings)) l.at l.near (in_part (reverse l.openings)) (slice_index text l.at) (drop (l.at + 1) text)

-- The tokens so far and those of what follows are the tokens of the text, and the openings are those that the tokens so far leave.
pub record Going (text : List ℕ) (l : Lexer) : Type 0 where
  pub within : l.at ≤ length text
  pub same : placed_tokens text ≡ l.list ++ tokens_from l.at l.near (reverse l.openings) 0 (drop l.at text)
  pub left : opened_by [] l.list ≡ reverse l.openings

-- A step goes forth, and what was read as it should be stays so.
pub record Steps (text : List ℕ) (before after : Lexer) : Type 0 where
  pub forth : before.at < after.at
  pub going : Going text before → Going text after
