-- How a piece of a text is put together.
use Rattle.std.specs.Prelude.{◌≡◌, ℕ, ◌+◌, ◌-◌, ◌≤◌, ◌<◌, List, [], ◌∷◌, ◌++◌, length, drop, Bool, false, not, ◌||◌, nat_eq, Option, Some, None}
use Rattle.std.specs.List.{slice_index}
use Rattle.expr_token.specs.declared.token.Piece.{Piece}
use Rattle.expr_token.specs.Tokens.{piece_from, no_piece}

-- what stands for itself whatever follows
abbrev pub is_plain : ℕ → Bool
is_plain b = not (nat_eq b 34 || (nat_eq b 35 || nat_eq b 92))

-- what an escape or a lone `#` stands for
abbrev pub is_mark : ℕ → Bool
is_mark b = nat_eq b 34 || (nat_eq b 92 || (nat_eq b 35 || (nat_eq b 10 || nat_eq b 9)))

-- a piece behind these characters, which have so many bytes
abbrev pub behind : List ℕ → ℕ → Piece → Piece
behind t n p = record { text = t ++ p.text; size = n + p.size }

-- A piece goes on with so many bytes, the last of them ASCII, that stand for these characters.
pub record GoesOn (bs t : List ℕ) (n : ℕ) : Type 0 where
  pub some : 1 ≤ n
  pub within : n ≤ length bs
  pub ascii : slice_index bs (n - 1) < 128
  pub same : piece_from false bs ≡ behind t n (piece_from false (drop n bs))

-- what stands at the beginning: a character and its bytes, or the end of the piece
abbrev pub MarksPiece : List ℕ → Option (ℕ × ℕ) → Type 0
MarksPiece bs None = piece_from false bs ≡ no_piece
MarksPiece bs (Some m) = GoesOn bs (m.0 ∷ []) m.1
