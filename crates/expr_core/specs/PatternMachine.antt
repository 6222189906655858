-- The reader of patterns, token by token.
use Rattle.std.specs.Prelude.{ℕ, neg_ℤ, ◌+◌, List, [], ◌∷◌, ◌++◌, if◌then◌else◌, Option, Some, None}
use Rattle.value_core.specs.Value as value
use Rattle.ast_core.specs.declared.operators.BinaryOp.TheVariants as op
use Rattle.ast_core.specs.Syntax.{Pattern}
use Rattle.ast_core.specs.Syntax as x
use Rattle.ast_core.specs.PatternView.{patterns_of, keys_of}
use Rattle.expr_token.specs.declared.token.Bracket.{Bracket}
use Rattle.expr_token.specs.declared.token.Bracket.TheVariants.{Square, Curly}
use Rattle.expr_token.specs.declared.token.Token.{Token}
use Rattle.expr_token.specs.declared.token.Token.TheVariants.{Number, Word, Atom, Nil, Boolean, Operator, Comma, Colon, OpeningSquare, OpeningCurly, OpeningMap, Closing, Quote, QuoteEnd}
use Rattle.expr_core.specs.Outcome.{Reader}
use Rattle.expr_core.specs.PatternGrammar.{is_any, among, word_pattern}

-- what an open list of patterns is
pub data Opener : Type 0 where
  listing : Opener
  tupling : Opener

-- what is begun and waits for more
pub data Frame : Type 0 where
  items : Opener → List Pattern → Frame
  valued : List (List ℕ × Pattern) → List ℕ → Frame

abbrev pub Frames : Type 0
Frames = List Frame

-- what comes next; first stand the names so far
pub data State : Type 0 where
  want : List (List ℕ) → Frames → State
  have : List (List ℕ) → Pattern → Frames → State
  -- behind a `-`
  want_number : List (List ℕ) → Frames → State
  -- in a text
  want_quote : List (List ℕ) → List ℕ → Frames → State
  want_key : List (List ℕ) → List (List ℕ × Pattern) → Frames → State
  want_colon : List (List ℕ) → List (List ℕ × Pattern) → List ℕ → Frames → State

abbrev pub finish : Opener → List Pattern → Pattern
finish listing ps = x.list_like (patterns_of ps)
finish tupling ps = x.tuple_like (patterns_of ps)

abbrev pub put_closing : List (List ℕ) → Bracket → Pattern → Frames → Option State
put_closing ns Square p (items listing ps ∷ fs) = Some (have ns (finish listing (ps ++ p ∷ [])) fs)
put_closing ns Curly p (items tupling ps ∷ fs) = Some (have ns (finish tupling (ps ++ p ∷ [])) fs)
put_closing ns Curly p (valued ps k ∷ fs) = Some (have ns (x.map_like (keys_of (ps ++ (k, p) ∷ []))) fs)
put_closing ns b p fs = None

abbrev pub put_comma : List (List ℕ) → Pattern → Frames → Option State
put_comma ns p [] = None
put_comma ns p (items o ps ∷ fs) = Some (want ns (items o (ps ++ p ∷ []) ∷ fs))
put_comma ns p (valued ps k ∷ fs) = Some (want_key ns (ps ++ (k, p) ∷ []) fs)

-- a list without items ends
abbrev pub put_empty : List (List ℕ) → Bracket → Frames → Option State
put_empty ns Square (items listing [] ∷ fs) = Some (have ns (finish listing []) fs)
put_empty ns Curly (items tupling [] ∷ fs) = Some (have ns (finish tupling []) fs)
put_empty ns b fs = None

-- a name stands once
abbrev pub put_word : List (List ℕ) → List ℕ → Frames → Option State
put_word ns s fs = if is_any s then Some (have ns (word_pattern s) fs) else if among ns s then None else Some (have (s ∷ ns) (word_pattern s) fs)

abbrev pub on_want : Token → List (List ℕ) → Frames → Option State
on_want (Word at s) ns fs = put_word ns s fs
on_want (Number n) ns fs = Some (have ns (x.literal (value.whole_number n)) fs)
on_want (Operator op.Minus) ns fs = Some (want_number ns fs)
on_want (Quote s) ns fs = Some (want_quote ns s fs)
on_want (Atom s) ns fs = Some (have ns (x.literal (value.atom s)) fs)
on_want Nil ns fs = Some (have ns (x.literal value.nil) fs)
on_want (Boolean b) ns fs = Some (have ns (x.literal (value.boolean b)) fs)
on_want OpeningSquare ns fs = Some (want ns (items listing [] ∷ fs))
on_want OpeningCurly ns fs = Some (want ns (items tupling [] ∷ fs))
on_want OpeningMap ns fs = Some (want_key ns [] fs)
on_want (Closing b) ns fs = put_empty ns b fs
on_want t ns fs = None

-- a map without entries ends
abbrev pub empty_map : List (List ℕ) → List (List ℕ × Pattern) → Frames → Option State
empty_map ns [] fs = Some (have ns (x.map_like (keys_of [])) fs)
empty_map ns (p ∷ ps) fs = None

abbrev pub step : State → Token → Option State
step (want ns fs) t = on_want t ns fs
step (have ns p fs) (Closing b) = put_closing ns b p fs
step (have ns p fs) Comma = put_comma ns p fs
step (have ns p fs) t = None
step (want_number ns fs) (Number n) = Some (have ns (x.literal (value.whole_number (neg_ℤ n))) fs)
step (want_number ns fs) t = None
step (want_quote ns s fs) QuoteEnd = Some (have ns (x.literal (value.text s)) fs)
step (want_quote ns s fs) t = None
step (want_key ns ps fs) (Word at k) = Some (want_colon ns ps k fs)
step (want_key ns ps fs) (Closing Curly) = empty_map ns ps fs
step (want_key ns ps fs) t = None
step (want_colon ns ps k fs) Colon = Some (want ns (valued ps k ∷ fs))
step (want_colon ns ps k fs) t = None

-- what was read, where the text may end here
abbrev pub finished : State → Option Pattern
finished (have ns p []) = Some p
finished s = None

-- how deep it stands
abbrev pub nest : Frames → ℕ
nest [] = 0
nest (f ∷ fs) = nest fs + 1

-- how deep the last token stands
abbrev pub depth : State → ℕ
depth (want ns fs) = nest fs
depth (have ns p fs) = nest fs
depth (want_number ns fs) = nest fs
depth (want_quote ns s fs) = nest fs
depth (want_key ns ps fs) = nest fs + 1
depth (want_colon ns ps k fs) = nest fs + 1

abbrev pub pattern_reader : Reader Pattern
pattern_reader = record { State = State; start = want [] []; step = step; depth = depth; finished = finished }
