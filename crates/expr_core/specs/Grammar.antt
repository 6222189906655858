-- Which tokens an expression is written with: a tree says where parentheses stand.
use Rattle.std.specs.Prelude.{◌≡◌, ℕ, ℤ, ◌+◌, ◌≤◌, List, [], ◌∷◌, ◌++◌, Bool, true, false, nat_eq, if◌then◌else◌, Option, None}
use Rattle.ast_core.specs.declared.operators.UnaryOp.{UnaryOp}
use Rattle.ast_core.specs.declared.operators.UnaryOp.TheVariants as un
use Rattle.ast_core.specs.declared.operators.BinaryOp.{BinaryOp}
use Rattle.ast_core.specs.declared.operators.BinaryOp.TheVariants as op
use Rattle.ast_core.specs.Syntax.{Expr}
use Rattle.ast_core.specs.Syntax as x
use Rattle.ast_core.specs.ExprView.{Part, plain_part, expr_part, exprs_of, pairs_of, parts_of}
use Rattle.expr_token.specs.declared.token.Bracket.TheVariants.{Round, Square, Curly}
use Rattle.expr_token.specs.declared.token.Token.{Token}
use Rattle.expr_token.specs.declared.token.Token.TheVariants.{Number, Word, Function, Atom, Nil, Boolean, At, Dot, Operator, Bang, NotWord, Pipe, Comma, Colon, Arrow, If, DoColon, ElseColon, OpeningRound, CallOpening, OpeningSquare, IndexOpening, OpeningCurly, OpeningMap, Closing, Quote, PartOpening, PartClosing, QuoteEnd}
use Rattle.expr_core.specs.Language.{Mark, mark, Language}
use Rattle.expr_core.specs.Functions.{call_with, unknown_call, earlier}

-- How tightly an operator binds: 5 is a pipe, 10 an operator before its operand, 11 all else but an `if` without parentheses, which is 0.
abbrev pub binds : BinaryOp → ℕ
binds op.OrElse = 1
binds op.Or = 1
binds op.AndAlso = 2
binds op.And = 2
binds op.Equal = 3
binds op.Unequal = 3
binds op.Less = 4
binds op.Greater = 4
binds op.AtMost = 4
binds op.AtLeast = 4
binds op.Member = 6
binds op.Append = 7
binds op.Concat = 7
binds op.Plus = 8
binds op.Minus = 8
binds op.Times = 9

-- The least binding of a left operand at an operator of this binding, and of a right one: operators
-- group to the left, but `++` and `<>` to the right, and `in` stands once.
unfoldable pub left_of : ℕ → ℕ
left_of n = if nat_eq n 6 then 7 else if nat_eq n 7 then 8 else n

unfoldable pub right_of : ℕ → ℕ
right_of n = if nat_eq n 7 then 7 else n + 1

-- the name of a call and its byte; a name that might be a variable as well, or one that is always the name of a call
pub data Callee : Type 0 where
  plain : ℕ → List ℕ → Callee
  marked : ℕ → List ℕ → Callee

abbrev pub callee_token : Callee → Token
callee_token (plain at s) = Word at s
callee_token (marked at s) = Function at s

abbrev pub callee_at : Callee → ℕ
callee_at (plain at s) = at
callee_at (marked at s) = at

abbrev pub callee_name : Callee → List ℕ
callee_name (plain at s) = s
callee_name (marked at s) = s

-- the key of a map's entry: `a:` with the byte of the name, or `"a" =>`
pub data Key : Type 0 where
  word_key : ℕ → List ℕ → Key
  text_key : List ℕ → Key

abbrev pub key_text : Key → List ℕ
key_text (word_key at s) = s
key_text (text_key s) = s

-- an `if` without parentheses around its parts, or with them
pub data Style : Type 0 where
  bare : Style
  inside : Style

mutual
  pub data Tree : Type 0 where
    number : ℤ → Tree
    -- the characters up to the first part, and the parts
    text : List ℕ → Parts → Tree
    atom : List ℕ → Tree
    nil : Tree
    boolean : Bool → Tree
    -- `@a` and `a`, with the byte of the name
    assign : ℕ → List ℕ → Tree
    name : ℕ → List ℕ → Tree
    parens : Tree → Tree
    before : UnaryOp → Tree → Tree
    between : BinaryOp → Tree → Tree → Tree
    field : Tree → ℕ → List ℕ → Tree
    index : Tree → Tree → Tree
    list : Trees → Tree
    tuple : Trees → Tree
    map_of : Entries → Tree
    call : Callee → Trees → Tree
    piped : Tree → Callee → Trees → Tree
    choice : Style → Tree → Tree → Tree
    choice_else : Style → Tree → Tree → Tree → Tree

  pub data Trees : Type 0 where
    no_trees : Trees
    tree : Tree → Trees → Trees

  -- the parts of a text, each with the characters behind it
  pub data Parts : Type 0 where
    no_parts : Parts
    part : Tree → List ℕ → Parts → Parts

  pub data Entries : Type 0 where
    no_entries : Entries
    entry : Key → Tree → Entries → Entries

abbrev pub style_holds : Style → ℕ
style_holds bare = 0
style_holds inside = 11

-- how tightly a tree is held together
abbrev pub holds : Tree → ℕ
holds (before o t) = 10
holds (between o l r) = binds o
holds (piped l c ts) = 5
holds (choice s t y) = style_holds s
holds (choice_else s t y z) = style_holds s
holds (number n) = 11
holds (text s ps) = 11
holds (atom s) = 11
holds nil = 11
holds (boolean b) = 11
holds (assign n s) = 11
holds (name n s) = 11
holds (parens t) = 11
holds (field t n s) = 11
holds (index t u) = 11
holds (list ts) = 11
holds (tuple ts) = 11
holds (map_of es) = 11
holds (call c ts) = 11

abbrev pub is_denial : UnaryOp → Bool
is_denial un.Minus = false
is_denial un.Bang = true
is_denial un.Not = true

-- whether it begins with `not` or `!` outside parentheses
abbrev pub denies : Tree → Bool
denies (before o t) = is_denial o
denies (between o l r) = denies l
denies (piped l c ts) = denies l
denies (field t n s) = denies t
denies (index t u) = denies t
denies (number n) = false
denies (text s ps) = false
denies (atom s) = false
denies nil = false
denies (boolean b) = false
denies (assign n s) = false
denies (name n s) = false
denies (parens t) = false
denies (list ts) = false
denies (tuple ts) = false
denies (map_of es) = false
denies (call c ts) = false
denies (choice s t y) = false
denies (choice_else s t y z) = false

-- the left operand of `in` does not
abbrev pub may_deny : BinaryOp → Bool → Bool
may_deny op.Member true = false
may_deny o b = true

-- Each operand is held together tightly enough, and an `if` without parentheses stands alone or in parentheses of its own.
abbrev mutual
  pub Grouped : Tree → Type 0
  Grouped (number n) = Unit {0}
  Grouped (text s ps) = PartsGrouped ps
  Grouped (atom s) = Unit {0}
  Grouped nil = Unit {0}
  Grouped (boolean b) = Unit {0}
  Grouped (assign n s) = Unit {0}
  Grouped (name n s) = Unit {0}
  Grouped (parens t) = Grouped t
  Grouped (before o t) = (10 ≤ holds t) × Grouped t
  Grouped (between o l r) = (left_of (binds o) ≤ holds l) × (right_of (binds o) ≤ holds r) × (may_deny o (denies l) ≡ true) × Grouped l × Grouped r
  Grouped (field t n s) = (11 ≤ holds t) × Grouped t
  Grouped (index t u) = (11 ≤ holds t) × (1 ≤ holds u) × Grouped t × Grouped u
  Grouped (list ts) = AllGrouped ts
  Grouped (tuple ts) = AllGrouped ts
  Grouped (map_of es) = EntriesGrouped es
  Grouped (call c ts) = AllGrouped ts
  Grouped (piped l c ts) = (5 ≤ holds l) × Grouped l × AllGrouped ts
  Grouped (choice s t y) = (1 ≤ holds t) × (1 ≤ holds y) × Grouped t × Grouped y
  Grouped (choice_else s t y z) = (1 ≤ holds t) × (1 ≤ holds y) × (1 ≤ holds z) × Grouped t × Grouped y × Grouped z

  pub AllGrouped : Trees → Type 0
  AllGrouped no_trees = Unit {0}
  AllGrouped (tree t ts) = (1 ≤ holds t) × Grouped t × AllGrouped ts

  pub PartsGrouped : Parts → Type 0
  PartsGrouped no_parts = Unit {0}
  PartsGrouped (part t s ps) = (1 ≤ holds t) × Grouped t × PartsGrouped ps

  pub EntriesGrouped : Entries → Type 0
  EntriesGrouped no_entries = Unit {0}
  EntriesGrouped (entry k t es) = (1 ≤ holds t) × Grouped t × EntriesGrouped es

abbrev pub prefix_token : UnaryOp → Token
prefix_token un.Minus = Operator op.Minus
prefix_token un.Bang = Bang
prefix_token un.Not = NotWord

abbrev pub key_marks : ℕ → Key → List Mark
key_marks n (word_key at s) = mark n (Word at s) ∷ mark n Colon ∷ []
key_marks n (text_key s) = mark n (Quote s) ∷ mark n QuoteEnd ∷ mark n Arrow ∷ []

-- how an `if` begins, how deep its parts stand, and how it ends
abbrev pub if_head : ℕ → Style → List Mark
if_head n bare = mark (n + 1) If ∷ []
if_head n inside = mark (n + 1) If ∷ mark (n + 1 + 1) OpeningRound ∷ []

abbrev pub deeper : Style → ℕ → ℕ
deeper bare n = n + 1
deeper inside n = n + 1 + 1

abbrev pub if_tail : ℕ → Style → List Mark
if_tail n bare = []
if_tail n inside = mark n (Closing Round) ∷ []

-- the tokens of a tree at a depth
abbrev mutual
  pub marks : ℕ → Tree → List Mark
  marks n (number d) = mark n (Number d) ∷ []
  marks n (text s ps) = mark n (Quote s) ∷ (part_marks n ps ++ mark n QuoteEnd ∷ [])
  marks n (atom s) = mark n (Atom s) ∷ []
  marks n nil = mark n Nil ∷ []
  marks n (boolean b) = mark n (Boolean b) ∷ []
  marks n (assign i s) = mark n At ∷ mark n (Word i s) ∷ []
  marks n (name i s) = mark n (Word i s) ∷ []
  marks n (parens t) = mark (n + 1) OpeningRound ∷ (marks (n + 1) t ++ mark n (Closing Round) ∷ [])
  marks n (before o t) = mark (n + 1) (prefix_token o) ∷ marks (n + 1) t
  marks n (between o l r) = marks n l ++ mark n (Operator o) ∷ marks n r
  marks n (field t i s) = marks n t ++ mark n Dot ∷ mark n (Word i s) ∷ []
  marks n (index t u) = marks n t ++ mark (n + 1) IndexOpening ∷ (marks (n + 1) u ++ mark n (Closing Square) ∷ [])
  marks n (list ts) = mark (n + 1) OpeningSquare ∷ (listed (n + 1) ts ++ mark n (Closing Square) ∷ [])
  marks n (tuple ts) = mark (n + 1) OpeningCurly ∷ (listed (n + 1) ts ++ mark n (Closing Curly) ∷ [])
  marks n (map_of es) = mark (n + 1) OpeningMap ∷ (entry_marks (n + 1) es ++ mark n (Closing Curly) ∷ [])
  marks n (call c ts) = mark n (callee_token c) ∷ mark (n + 1) CallOpening ∷ (listed (n + 1) ts ++ mark n (Closing Round) ∷ [])
  marks n (piped l c ts) = marks n l ++ mark n Pipe ∷ mark n (callee_token c) ∷ mark (n + 1) CallOpening ∷ (listed (n + 1) ts ++ mark n (Closing Round) ∷ [])
  marks n (choice s t y) = if_head n s ++ (marks (deeper s n) t ++ mark (deeper s n) Comma ∷ mark (deeper s n) DoColon ∷ (marks (deeper s n) y ++ if_tail n s))
  marks n (choice_else s t y z) = if_head n s ++ (marks (deeper s n) t ++ mark (deeper s n) Comma ∷ mark (deeper s n) DoColon ∷ (marks (deeper s n) y ++ mark (deeper s n) Comma ∷ mark (deeper s n) ElseColon ∷ (marks (deeper s n) z ++ if_tail n s)))

  -- trees with commas between them
  pub listed : ℕ → Trees → List Mark
  listed n no_trees = []
  listed n (tree t ts) = marks n t ++ more_listed n ts

  pub more_listed : ℕ → Trees → List Mark
  more_listed n no_trees = []
  more_listed n (tree t ts) = mark n Comma ∷ (marks n t ++ more_listed n ts)

  -- the parts of a text that stands at this depth
  pub part_marks : ℕ → Parts → List Mark
  part_marks n no_parts = []
  part_marks n (part t s ps) = mark (n + 1) PartOpening ∷ (marks (n + 1) t ++ mark n (PartClosing s) ∷ part_marks n ps)

  -- entries with commas between them
  pub entry_marks : ℕ → Entries → List Mark
  entry_marks n no_entries = []
  entry_marks n (entry k t es) = key_marks n k ++ (marks n t ++ more_entries n es)

  pub more_entries : ℕ → Entries → List Mark
  more_entries n no_entries = []
  more_entries n (entry k t es) = mark n Comma ∷ (key_marks n k ++ (marks n t ++ more_entries n es))

-- characters are a piece of a text where there are some
abbrev pub plain_parts : List ℕ → List Part
plain_parts [] = []
plain_parts (b ∷ bs) = plain_part (b ∷ bs) ∷ []

-- what a tree means; a pipe is its call, and an `if` without else has nil there
abbrev mutual
  pub meaning : Tree → Expr
  meaning (number n) = x.number n
  meaning (text s ps) = x.text_of (parts_of (plain_parts s ++ part_meanings ps))
  meaning (atom s) = x.atom_of s
  meaning nil = x.nil_of
  meaning (boolean b) = x.boolean_of b
  meaning (assign i s) = x.name (x.at s)
  meaning (name i s) = x.name (x.var s)
  meaning (parens t) = meaning t
  meaning (before o t) = x.unary o (meaning t)
  meaning (between o l r) = x.binary o (meaning l) (meaning r)
  meaning (field t i s) = x.field (meaning t) s
  meaning (index t u) = x.index (meaning t) (meaning u)
  meaning (list ts) = x.list_of (exprs_of (meanings ts))
  meaning (tuple ts) = x.tuple_of (exprs_of (meanings ts))
  meaning (map_of es) = x.map_with (pairs_of (entry_meanings es))
  meaning (call c ts) = call_with (callee_name c) (meanings ts)
  meaning (piped l c ts) = call_with (callee_name c) (meaning l ∷ meanings ts)
  meaning (choice s t y) = x.if_else (meaning t) (meaning y) x.nil_of
  meaning (choice_else s t y z) = x.if_else (meaning t) (meaning y) (meaning z)

  pub meanings : Trees → List Expr
  meanings no_trees = []
  meanings (tree t ts) = meaning t ∷ meanings ts

  pub part_meanings : Parts → List Part
  part_meanings no_parts = []
  part_meanings (part t s ps) = expr_part (meaning t) ∷ (plain_parts s ++ part_meanings ps)

  pub entry_meanings : Entries → List (List ℕ × Expr)
  entry_meanings no_entries = []
  entry_meanings (entry k t es) = (key_text k, meaning t) ∷ entry_meanings es

-- the byte of the first call that names no function with that number of arguments; a pipe's left side is an argument
abbrev mutual
  pub unknown : Tree → Option ℕ
  unknown (number n) = None
  unknown (text s ps) = unknown_part ps
  unknown (atom s) = None
  unknown nil = None
  unknown (boolean b) = None
  unknown (assign i s) = None
  unknown (name i s) = None
  unknown (parens t) = unknown t
  unknown (before o t) = unknown t
  unknown (between o l r) = earlier (unknown l) (unknown r)
  unknown (field t i s) = unknown t
  unknown (index t u) = earlier (unknown t) (unknown u)
  unknown (list ts) = unknown_item ts
  unknown (tuple ts) = unknown_item ts
  unknown (map_of es) = unknown_entry es
  unknown (call c ts) = earlier (unknown_call (callee_at c) (callee_name c) (meanings ts)) (unknown_item ts)
  unknown (piped l c ts) = earlier (unknown l) (earlier (unknown_call (callee_at c) (callee_name c) (meaning l ∷ meanings ts)) (unknown_item ts))
  unknown (choice s t y) = earlier (unknown t) (unknown y)
  unknown (choice_else s t y z) = earlier (unknown t) (earlier (unknown y) (unknown z))

  pub unknown_item : Trees → Option ℕ
  unknown_item no_trees = None
  unknown_item (tree t ts) = earlier (unknown t) (unknown_item ts)

  pub unknown_part : Parts → Option ℕ
  unknown_part no_parts = None
  unknown_part (part t s ps) = earlier (unknown t) (unknown_part ps)

  pub unknown_entry : Entries → Option ℕ
  unknown_entry no_entries = None
  unknown_entry (entry k t es) = earlier (unknown t) (unknown_entry es)

-- What a tree means, and the byte of its first call that names no function.
pub record Meant : Type 0 where
  pub expr : Expr
  pub unknown : Option ℕ

abbrev pub meant : Expr → Option ℕ → Meant
meant e u = record { expr = e; unknown = u }

-- The language of expressions. The depth of a token counts brackets, parts of texts, calls, `if` and operators before their operands.
abbrev pub expressions : Language
expressions = record { Tree = Tree; Lawful = Grouped; marks = marks 0; Meaning = Meant; meaning = λ t. meant (meaning t) (unknown t) }
