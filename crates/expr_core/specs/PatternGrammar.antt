-- Which tokens a pattern is written with.
use Rattle.std.specs.Prelude.{◌≡◌, ℕ, ℤ, neg_ℤ, ◌+◌, List, [], ◌∷◌, ◌++◌, codes, Bool, false, ◌||◌, if◌then◌else◌}
use Rattle.std.specs.Str.{bytes_eq}
use Rattle.value_core.specs.Value as value
use Rattle.ast_core.specs.declared.operators.BinaryOp.TheVariants as op
use Rattle.ast_core.specs.Syntax.{Pattern}
use Rattle.ast_core.specs.Syntax as x
use Rattle.ast_core.specs.PatternView.{patterns_of, keys_of}
use Rattle.expr_token.specs.declared.token.Bracket.TheVariants.{Square, Curly}
use Rattle.expr_token.specs.declared.token.Token.TheVariants.{Number, Word, Atom, Nil, Boolean, Operator, Comma, Colon, OpeningSquare, OpeningCurly, OpeningMap, Closing, Quote, QuoteEnd}
use Rattle.expr_core.specs.Language.{Mark, mark, Language}

mutual
  pub data Tree : Type 0 where
    -- `_` or a name, with its byte
    word : ℕ → List ℕ → Tree
    number : ℤ → Tree
    negative : ℤ → Tree
    text : List ℕ → Tree
    atom : List ℕ → Tree
    nil : Tree
    boolean : Bool → Tree
    list : Trees → Tree
    tuple : Trees → Tree
    map_of : Entries → Tree

  pub data Trees : Type 0 where
    no_trees : Trees
    tree : Tree → Trees → Trees

  -- a key with its byte, and the pattern behind it
  pub data Entries : Type 0 where
    no_entries : Entries
    entry : ℕ → List ℕ → Tree → Entries → Entries

-- the word that matches everything
abbrev pub is_any : List ℕ → Bool
is_any s = bytes_eq s (codes "_")

-- the names that a pattern binds, from left to right
abbrev mutual
  pub names : Tree → List (List ℕ)
  names (word at s) = if is_any s then [] else s ∷ []
  names (number n) = []
  names (negative n) = []
  names (text s) = []
  names (atom s) = []
  names nil = []
  names (boolean b) = []
  names (list ts) = all_names ts
  names (tuple ts) = all_names ts
  names (map_of es) = entry_names es

  pub all_names : Trees → List (List ℕ)
  all_names no_trees = []
  all_names (tree t ts) = names t ++ all_names ts

  pub entry_names : Entries → List (List ℕ)
  entry_names no_entries = []
  entry_names (entry at k t es) = names t ++ entry_names es

-- whether a name is one of these
abbrev pub among : List (List ℕ) → List ℕ → Bool
among [] s = false
among (n ∷ ns) s = bytes_eq n s || among ns s

-- none of these names stands twice, nor is one of those before
abbrev pub Fresh : List (List ℕ) → List (List ℕ) → Type 0
Fresh seen [] = Unit {0}
Fresh seen (n ∷ ns) = (among seen n ≡ false) × Fresh (n ∷ seen) ns

-- no name stands twice
abbrev pub Once : Tree → Type 0
Once t = Fresh [] (names t)

-- the tokens of a pattern at a depth
abbrev mutual
  pub marks : ℕ → Tree → List Mark
  marks n (word at s) = mark n (Word at s) ∷ []
  marks n (number d) = mark n (Number d) ∷ []
  marks n (negative d) = mark n (Operator op.Minus) ∷ mark n (Number d) ∷ []
  marks n (text s) = mark n (Quote s) ∷ mark n QuoteEnd ∷ []
  marks n (atom s) = mark n (Atom s) ∷ []
  marks n nil = mark n Nil ∷ []
  marks n (boolean b) = mark n (Boolean b) ∷ []
  marks n (list ts) = mark (n + 1) OpeningSquare ∷ (listed (n + 1) ts ++ mark n (Closing Square) ∷ [])
  marks n (tuple ts) = mark (n + 1) OpeningCurly ∷ (listed (n + 1) ts ++ mark n (Closing Curly) ∷ [])
  marks n (map_of es) = mark (n + 1) OpeningMap ∷ (entry_marks (n + 1) es ++ mark n (Closing Curly) ∷ [])

  -- patterns with commas between them
  pub listed : ℕ → Trees → List Mark
  listed n no_trees = []
  listed n (tree t ts) = marks n t ++ more_listed n ts

  pub more_listed : ℕ → Trees → List Mark
  more_listed n no_trees = []
  more_listed n (tree t ts) = mark n Comma ∷ (marks n t ++ more_listed n ts)

  -- entries with commas between them
  pub entry_marks : ℕ → Entries → List Mark
  entry_marks n no_entries = []
  entry_marks n (entry at k t es) = mark n (Word at k) ∷ mark n Colon ∷ (marks n t ++ more_entries n es)

  pub more_entries : ℕ → Entries → List Mark
  more_entries n no_entries = []
  more_entries n (entry at k t es) = mark n Comma ∷ mark n (Word at k) ∷ mark n Colon ∷ (marks n t ++ more_entries n es)

abbrev pub word_pattern : List ℕ → Pattern
word_pattern s = if is_any s then x.any else x.named s

-- what a pattern means
abbrev mutual
  pub meaning : Tree → Pattern
  meaning (word at s) = word_pattern s
  meaning (number n) = x.literal (value.whole_number n)
  meaning (negative n) = x.literal (value.whole_number (neg_ℤ n))
  meaning (text s) = x.literal (value.text s)
  meaning (atom s) = x.literal (value.atom s)
  meaning nil = x.literal value.nil
  meaning (boolean b) = x.literal (value.boolean b)
  meaning (list ts) = x.list_like (patterns_of (meanings ts))
  meaning (tuple ts) = x.tuple_like (patterns_of (meanings ts))
  meaning (map_of es) = x.map_like (keys_of (entry_meanings es))

  pub meanings : Trees → List Pattern
  meanings no_trees = []
  meanings (tree t ts) = meaning t ∷ meanings ts

  pub entry_meanings : Entries → List (List ℕ × Pattern)
  entry_meanings no_entries = []
  entry_meanings (entry at k t es) = (k, meaning t) ∷ entry_meanings es

-- The language of patterns. The depth of a token counts brackets.
abbrev pub patterns : Language
patterns = record { Tree = Tree; Lawful = Once; marks = marks 0; Meaning = Pattern; meaning = meaning }
