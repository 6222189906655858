-- The reader of expressions, token by token.
use Rattle.std.specs.Prelude.{ℕ, ◌+◌, List, [], ◌∷◌, ◌++◌, Bool, false, ◌&&◌, nat_le, if◌then◌else◌, Option, Some, None}
use Rattle.ast_core.specs.declared.operators.UnaryOp.{UnaryOp}
use Rattle.ast_core.specs.declared.operators.UnaryOp.TheVariants as un
use Rattle.ast_core.specs.declared.operators.BinaryOp.{BinaryOp}
use Rattle.ast_core.specs.declared.operators.BinaryOp.TheVariants as op
use Rattle.ast_core.specs.Syntax.{Expr}
use Rattle.ast_core.specs.Syntax as x
use Rattle.ast_core.specs.ExprView.{Part, expr_part, exprs_of, pairs_of, parts_of}
use Rattle.expr_token.specs.declared.token.Bracket.{Bracket}
use Rattle.expr_token.specs.declared.token.Bracket.TheVariants.{Round, Square, Curly}
use Rattle.expr_token.specs.declared.token.Token.{Token}
use Rattle.expr_token.specs.declared.token.Token.TheVariants.{Number, Word, Function, Atom, Nil, Boolean, At, Dot, Operator, Bang, NotWord, Pipe, Comma, Colon, Arrow, If, DoColon, ElseColon, OpeningRound, CallOpening, OpeningSquare, IndexOpening, OpeningCurly, OpeningMap, Closing, Quote, PartOpening, PartClosing, QuoteEnd}
use Rattle.expr_core.specs.Functions.{call_with, unknown_call, earlier}
use Rattle.expr_core.specs.Outcome.{Reader}
use Rattle.expr_core.specs.Grammar.{Meant, meant, binds, left_of, right_of, is_denial, may_deny, Style, bare, inside, style_holds, deeper, plain_parts}

-- What was read, how tightly it is held together, whether it begins with a denial, and its name where it may be that of a call.
pub record Value : Type 0 where
  pub meant : Meant
  pub holds : ℕ
  pub denies : Bool
  pub callee : Option (ℕ × List ℕ)

-- what an open list of items is
pub data Opener : Type 0 where
  listing : Opener
  tupling : Opener
  calling : ℕ → List ℕ → Opener
  piping : Value → ℕ → List ℕ → Opener

-- What is begun and waits for more. Lists have the first unknown call of what they hold beside them.
pub data Frame : Type 0 where
  operand : BinaryOp → Value → Frame
  ahead : UnaryOp → Frame
  paren : Frame
  indexed : Value → Frame
  items : Opener → List Expr → Option ℕ → Frame
  putting : List Part → Option ℕ → Frame
  valued : List (List ℕ × Expr) → Option ℕ → List ℕ → Frame
  -- an `if`, where its test may begin with a parenthesis of its own
  test : Frame
  -- an `if` with its parenthesis
  inner_test : Frame
  yes_of : Style → Meant → Frame
  no_of : Style → Meant → Meant → Frame

abbrev pub Frames : Type 0
Frames = List Frame

-- what comes next
pub data State : Type 0 where
  want : Frames → State
  have : Value → Frames → State
  want_assign : Frames → State
  want_field : Value → Frames → State
  want_call : Value → Frames → State
  want_arguments : Opener → Frames → State
  want_if : Frames → State
  want_do : Style → Meant → Frames → State
  want_else : Style → Meant → Meant → Frames → State
  -- in a text: a part or its end
  want_part : List Part → Option ℕ → Frames → State
  -- in a map: a key, and what ends one
  want_key : List (List ℕ × Expr) → Option ℕ → Frames → State
  want_colon : List (List ℕ × Expr) → Option ℕ → List ℕ → Frames → State
  want_quote : List (List ℕ × Expr) → Option ℕ → List ℕ → Frames → State
  want_arrow : List (List ℕ × Expr) → Option ℕ → List ℕ → Frames → State

abbrev pub closed : Expr → Option ℕ → Value
closed e u = record { meant = meant e u; holds = 11; denies = false; callee = None }

abbrev pub named : ℕ → List ℕ → Value
named at name = record { meant = meant (x.name (x.var name)) None; holds = 11; denies = false; callee = Some (at, name) }

abbrev pub both : BinaryOp → Value → Value → Value
both o l r = record { meant = meant (x.binary o l.meant.expr r.meant.expr) (earlier l.meant.unknown r.meant.unknown); holds = binds o; denies = l.denies; callee = None }

abbrev pub alone : UnaryOp → Value → Value
alone o v = record { meant = meant (x.unary o v.meant.expr) v.meant.unknown; holds = 10; denies = is_denial o; callee = None }

abbrev pub field_of : Value → List ℕ → Value
field_of v name = record { meant = meant (x.field v.meant.expr name) v.meant.unknown; holds = 11; denies = v.denies; callee = None }

abbrev pub index_of : Value → Value → Value
index_of u v = record { meant = meant (x.index u.meant.expr v.meant.expr) (earlier u.meant.unknown v.meant.unknown); holds = 11; denies = u.denies; callee = None }

abbrev pub chosen : Style → Meant → Meant → Value
chosen s t y = record { meant = meant (x.if_else t.expr y.expr x.nil_of) (earlier t.unknown y.unknown); holds = style_holds s; denies = false; callee = None }

abbrev pub chosen_else : Style → Meant → Meant → Meant → Value
chosen_else s t y z = record { meant = meant (x.if_else t.expr y.expr z.expr) (earlier t.unknown (earlier y.unknown z.unknown)); holds = style_holds s; denies = false; callee = None }

abbrev pub finish : Opener → List Expr → Option ℕ → Value
finish listing es u = closed (x.list_of (exprs_of es)) u
finish tupling es u = closed (x.tuple_of (exprs_of es)) u
finish (calling at name) es u = closed (call_with name es) (earlier (unknown_call at name es) u)
finish (piping l at name) es u = record {
  meant = meant (call_with name (l.meant.expr ∷ es)) (earlier l.meant.unknown (earlier (unknown_call at name (l.meant.expr ∷ es)) u));
  holds = 5;
  denies = l.denies;
  callee = None;
}

abbrev pub map_from : List (List ℕ × Expr) → Option ℕ → Value
map_from ps u = closed (x.map_with (pairs_of ps)) u

abbrev pub top_of : Frames → Option Frame
top_of [] = None
top_of (f ∷ fs) = Some f

-- how tightly what comes next has to be held together
abbrev pub need_under : Option Frame → ℕ
need_under None = 0
need_under (Some (operand o l)) = right_of (binds o)
need_under (Some (ahead o)) = 10
need_under (Some paren) = 0
need_under (Some (indexed v)) = 1
need_under (Some (items o es u)) = 1
need_under (Some (putting ps u)) = 1
need_under (Some (valued ps u k)) = 1
need_under (Some test) = 1
need_under (Some inner_test) = 1
need_under (Some (yes_of s t)) = 1
need_under (Some (no_of s t y)) = 1

abbrev pub need : Frames → ℕ
need fs = need_under (top_of fs)

-- puts together what binds at least so tightly
abbrev pub reduce : ℕ → Value → Frames → Value × Frames
reduce n v [] = (v, [])
reduce n v (operand o l ∷ fs) = if nat_le n (binds o) then reduce n (both o l v) fs else (v, operand o l ∷ fs)
reduce n v (ahead o ∷ fs) = if nat_le n 10 then reduce n (alone o v) fs else (v, ahead o ∷ fs)
reduce n v (yes_of bare t ∷ fs) = if nat_le n 0 then reduce n (chosen bare t v.meant) fs else (v, yes_of bare t ∷ fs)
reduce n v (no_of bare t y ∷ fs) = if nat_le n 0 then reduce n (chosen_else bare t y v.meant) fs else (v, no_of bare t y ∷ fs)
reduce n v (yes_of inside t ∷ fs) = (v, yes_of inside t ∷ fs)
reduce n v (no_of inside t y ∷ fs) = (v, no_of inside t y ∷ fs)
reduce n v (test ∷ fs) = (v, test ∷ fs)
reduce n v (inner_test ∷ fs) = (v, inner_test ∷ fs)
reduce n v (paren ∷ fs) = (v, paren ∷ fs)
reduce n v (indexed w ∷ fs) = (v, indexed w ∷ fs)
reduce n v (items o es u ∷ fs) = (v, items o es u ∷ fs)
reduce n v (putting ps u ∷ fs) = (v, putting ps u ∷ fs)
reduce n v (valued ps u k ∷ fs) = (v, valued ps u k ∷ fs)

abbrev pub put_operator : BinaryOp → Value → Frames → Option State
put_operator o v fs = if nat_le (left_of (binds o)) v.holds && (nat_le (need fs) (binds o) && may_deny o v.denies) then Some (want (operand o v ∷ fs)) else None

abbrev pub put_pipe : Value → Frames → Option State
put_pipe v fs = if nat_le 5 v.holds && nat_le (need fs) 5 then Some (want_call v fs) else None

-- the value of what a bracket ends
abbrev pub ended_by : Bracket → Value → Frame → Option Value
ended_by Round v paren = Some (closed v.meant.expr v.meant.unknown)
ended_by Round v (items (calling at name) es u) = Some (finish (calling at name) (es ++ v.meant.expr ∷ []) (earlier u v.meant.unknown))
ended_by Round v (items (piping l at name) es u) = Some (finish (piping l at name) (es ++ v.meant.expr ∷ []) (earlier u v.meant.unknown))
ended_by Round v (yes_of inside t) = Some (chosen inside t v.meant)
ended_by Round v (no_of inside t y) = Some (chosen_else inside t y v.meant)
ended_by Square v (indexed w) = Some (index_of w v)
ended_by Square v (items listing es u) = Some (finish listing (es ++ v.meant.expr ∷ []) (earlier u v.meant.unknown))
ended_by Curly v (items tupling es u) = Some (finish tupling (es ++ v.meant.expr ∷ []) (earlier u v.meant.unknown))
ended_by Curly v (valued ps u k) = Some (map_from (ps ++ (k, v.meant.expr) ∷ []) (earlier u v.meant.unknown))
ended_by b v f = None

abbrev pub have_some : Option Value → Frames → Option State
have_some None fs = None
have_some (Some v) fs = Some (have v fs)

abbrev pub put_closing : Bracket → Value → Frames → Option State
put_closing b v [] = None
put_closing b v (f ∷ fs) = have_some (ended_by b v f) fs

-- a part of a text ends, and these characters stand behind it
abbrev pub put_part : List ℕ → Value → Frames → Option State
put_part s v (putting ps u ∷ fs) = Some (want_part (ps ++ expr_part v.meant.expr ∷ plain_parts s) (earlier u v.meant.unknown) fs)
put_part s v fs = None

abbrev pub put_comma : Value → Frames → Option State
put_comma v (items o es u ∷ fs) = Some (want (items o (es ++ v.meant.expr ∷ []) (earlier u v.meant.unknown) ∷ fs))
put_comma v (valued ps u k ∷ fs) = Some (want_key (ps ++ (k, v.meant.expr) ∷ []) (earlier u v.meant.unknown) fs)
put_comma v (test ∷ fs) = Some (want_do bare v.meant fs)
put_comma v (inner_test ∷ fs) = Some (want_do inside v.meant fs)
put_comma v (yes_of s t ∷ fs) = Some (want_else s t v.meant fs)
put_comma v (paren ∷ test ∷ fs) = if nat_le 1 v.holds then Some (want_do inside v.meant fs) else None
put_comma v fs = None

-- a list without items ends
abbrev pub put_empty : Bracket → Frames → Option State
put_empty Round (items (calling at name) [] u ∷ fs) = Some (have (finish (calling at name) [] u) fs)
put_empty Round (items (piping l at name) [] u ∷ fs) = Some (have (finish (piping l at name) [] u) fs)
put_empty Square (items listing [] u ∷ fs) = Some (have (finish listing [] u) fs)
put_empty Curly (items tupling [] u ∷ fs) = Some (have (finish tupling [] u) fs)
put_empty b fs = None

abbrev pub open_call : Option (ℕ × List ℕ) → Frames → Option State
open_call None fs = None
open_call (Some (at, name)) fs = Some (want (items (calling at name) [] None ∷ fs))

abbrev pub on_want : Token → Frames → Option State
on_want (Number n) fs = Some (have (closed (x.number n) None) fs)
on_want (Quote s) fs = Some (want_part (plain_parts s) None fs)
on_want (Atom s) fs = Some (have (closed (x.atom_of s) None) fs)
on_want Nil fs = Some (have (closed x.nil_of None) fs)
on_want (Boolean b) fs = Some (have (closed (x.boolean_of b) None) fs)
on_want (Word at name) fs = Some (have (named at name) fs)
on_want (Function at name) fs = Some (want_arguments (calling at name) fs)
on_want At fs = Some (want_assign fs)
on_want (Operator op.Minus) fs = Some (want (ahead un.Minus ∷ fs))
on_want Bang fs = Some (want (ahead un.Bang ∷ fs))
on_want NotWord fs = Some (want (ahead un.Not ∷ fs))
on_want OpeningRound fs = Some (want (paren ∷ fs))
on_want OpeningSquare fs = Some (want (items listing [] None ∷ fs))
on_want OpeningCurly fs = Some (want (items tupling [] None ∷ fs))
on_want OpeningMap fs = Some (want_key [] None fs)
on_want If fs = if nat_le (need fs) 0 then Some (want (test ∷ fs)) else Some (want_if fs)
on_want (Closing b) fs = put_empty b fs
on_want t fs = None

abbrev pub on_have : Token → Value → Frames → Option State
on_have (Operator o) v fs = let p = reduce (left_of (binds o)) v fs in put_operator o p.0 p.1
on_have Pipe v fs = let p = reduce 5 v fs in put_pipe p.0 p.1
on_have Dot v fs = if nat_le 11 v.holds then Some (want_field v fs) else None
on_have IndexOpening v fs = if nat_le 11 v.holds then Some (want (indexed v ∷ fs)) else None
on_have CallOpening v fs = open_call v.callee fs
on_have (Closing b) v fs = let p = reduce 0 v fs in put_closing b p.0 p.1
on_have (PartClosing s) v fs = let p = reduce 0 v fs in put_part s p.0 p.1
on_have Comma v fs = let p = reduce 1 v fs in put_comma p.0 p.1
on_have t v fs = None

-- a map without entries ends
abbrev pub empty_map : List (List ℕ × Expr) → Option ℕ → Frames → Option State
empty_map [] u fs = Some (have (map_from [] u) fs)
empty_map (p ∷ ps) u fs = None

abbrev pub on_key : Token → List (List ℕ × Expr) → Option ℕ → Frames → Option State
on_key (Word at name) ps u fs = Some (want_colon ps u name fs)
on_key (Quote s) ps u fs = Some (want_quote ps u s fs)
on_key (Closing Curly) ps u fs = empty_map ps u fs
on_key t ps u fs = None

abbrev pub step : State → Token → Option State
step (want fs) t = on_want t fs
step (have v fs) t = on_have t v fs
step (want_assign fs) (Word at name) = Some (have (closed (x.name (x.at name)) None) fs)
step (want_assign fs) t = None
step (want_field v fs) (Word at name) = Some (have (field_of v name) fs)
step (want_field v fs) t = None
step (want_call v fs) (Word at name) = Some (want_arguments (piping v at name) fs)
step (want_call v fs) (Function at name) = Some (want_arguments (piping v at name) fs)
step (want_call v fs) t = None
step (want_arguments o fs) CallOpening = Some (want (items o [] None ∷ fs))
step (want_arguments o fs) t = None
step (want_if fs) OpeningRound = Some (want (inner_test ∷ fs))
step (want_if fs) t = None
step (want_do s t fs) DoColon = Some (want (yes_of s t ∷ fs))
step (want_do s t fs) tok = None
step (want_else s t y fs) ElseColon = Some (want (no_of s t y ∷ fs))
step (want_else s t y fs) tok = None
step (want_part ps u fs) PartOpening = Some (want (putting ps u ∷ fs))
step (want_part ps u fs) QuoteEnd = Some (have (closed (x.text_of (parts_of ps)) u) fs)
step (want_part ps u fs) t = None
step (want_key ps u fs) t = on_key t ps u fs
step (want_colon ps u k fs) Colon = Some (want (valued ps u k ∷ fs))
step (want_colon ps u k fs) t = None
step (want_quote ps u k fs) QuoteEnd = Some (want_arrow ps u k fs)
step (want_quote ps u k fs) t = None
step (want_arrow ps u k fs) Arrow = Some (want (valued ps u k ∷ fs))
step (want_arrow ps u k fs) t = None

abbrev pub ends : Value × Frames → Option Value
ends (v, []) = Some v
ends (v, f ∷ fs) = None

-- what was read, where the text may end here
abbrev pub finished : State → Option Value
finished (have v fs) = ends (reduce 0 v fs)
finished s = None

abbrev pub meant_by : Option Value → Option Meant
meant_by None = None
meant_by (Some v) = Some v.meant

-- how deep it stands
abbrev pub nest : Frames → ℕ
nest [] = 0
nest (operand o l ∷ fs) = nest fs
nest (ahead o ∷ fs) = nest fs + 1
nest (paren ∷ fs) = nest fs + 1
nest (indexed v ∷ fs) = nest fs + 1
nest (items o es u ∷ fs) = nest fs + 1
nest (putting ps u ∷ fs) = nest fs + 1
nest (valued ps u k ∷ fs) = nest fs + 1
nest (test ∷ fs) = nest fs + 1
nest (inner_test ∷ fs) = nest fs + 1 + 1
nest (yes_of s t ∷ fs) = deeper s (nest fs)
nest (no_of s t y ∷ fs) = deeper s (nest fs)

-- how deep the last token stands
abbrev pub depth : State → ℕ
depth (want fs) = nest fs
depth (have v fs) = nest fs
depth (want_assign fs) = nest fs
depth (want_field v fs) = nest fs
depth (want_call v fs) = nest fs
depth (want_arguments o fs) = nest fs
depth (want_if fs) = nest fs + 1
depth (want_do s t fs) = deeper s (nest fs)
depth (want_else s t y fs) = deeper s (nest fs)
depth (want_part ps u fs) = nest fs
depth (want_key ps u fs) = nest fs + 1
depth (want_colon ps u k fs) = nest fs + 1
depth (want_quote ps u k fs) = nest fs + 1
depth (want_arrow ps u k fs) = nest fs + 1

abbrev pub expr_reader : Reader Meant
expr_reader = record { State = State; start = want []; step = step; depth = depth; finished = λ s. meant_by (finished s) }
