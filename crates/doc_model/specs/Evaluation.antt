-- The value of an expression, or the raise that stands in its place.
use Rattle.std.specs.Prelude.{ℕ, suc, ℤ, pos, negsuc, ◌+ℤ◌, ◌-ℤ◌, ◌*ℤ◌, neg_ℤ, int_lt, int_div, int_rem, ◌==◌, List, [], ◌++◌, Option, Some, None, Result, Ok, Err, Bool, true, false, not, if◌then◌else◌, ◌^◌, nat_lt}
use Rattle.std.specs.Ordering.{nat_cmp, int_eq, match_ordering}
use Rattle.std.specs.Cmp.Lexicographic.{slice_cmp}
use Rattle.value_core.specs.Value.{Value, nil, boolean, whole_number, text, atom, list, tuple, map_of, Values, no_values, value, Assigns, no_assigns, assign, same}
use Rattle.value_core.specs.Print.{text_of_value}
use Rattle.value_core.specs.Nesting.{depth_of}
use Rattle.value_core.specs.declared.raise.Raise.{Raise}
use Rattle.value_core.specs.declared.raise.Raise.TheVariants.{NoAssign, NoVariable, NoKey, BadArgument, BadBoolean, Range, NotPrintable, Deep}
use Rattle.ast_core.specs.declared.operators.UnaryOp.{UnaryOp}
use Rattle.ast_core.specs.declared.operators.UnaryOp.TheVariants.{Minus as Negative, Bang, Not}
use Rattle.ast_core.specs.declared.operators.BinaryOp.{BinaryOp}
use Rattle.ast_core.specs.declared.operators.BinaryOp.TheVariants.{OrElse, Or, AndAlso, And, Equal, Unequal, Less, Greater, AtMost, AtLeast, Member, Append, Concat, Plus, Minus, Times}
use Rattle.ast_core.specs.declared.operators.Function.{Function}
use Rattle.ast_core.specs.declared.operators.Function.TheVariants.{Length, IsNil, ToString, Div, Rem, Abs, Max, Min, Count, IsEmpty, Join, Reverse, Get, HasKey}
use Rattle.ast_core.specs.Syntax.{Name, at, var, Expr, number, text_of, atom_of, nil_of, boolean_of, name, list_of, tuple_of, map_with, field, index, unary, binary, if_else, call_of, Exprs, no_exprs, expr, Pairs, no_pairs, pair, Parts, no_parts, plain, put_part}
use Rattle.doc_model.specs.Environment.{Env, get, lookup, with_key}

-- a result, or why there is none
abbrev pub Res : Type 0 → Type 0
Res A = Result A Raise

-- the next step, unless this one raised
abbrev pub then_do : {A B : Type 0} → Res A → (A → Res B) → Res B
then_do (Ok a) f = f a
then_do (Err e) f = Err e

-- the first raise of the two counts
abbrev pub both : {A B C : Type 0} → (A → B → C) → Res A → Res B → Res C
both f (Ok a) (Ok b) = Ok (f a b)
both f (Ok a) (Err e) = Err e
both f (Err e) b = Err e

-- a function of the result
abbrev pub on_res : {A B : Type 0} → (A → B) → Res A → Res B
on_res f (Ok a) = Ok (f a)
on_res f (Err e) = Err e

-- a raise where there is nothing
abbrev pub or_raise : {A : Type 0} → Option A → Raise → Res A
or_raise None r = Err r
or_raise (Some v) r = Ok v

-- a number of 64 bits
abbrev pub within : ℤ → Res Value
within (pos n) = if nat_lt n (2 ^ 63) then Ok (whole_number (pos n)) else Err Range
within (negsuc n) = if nat_lt n (2 ^ 63) then Ok (whole_number (negsuc n)) else Err Range

-- a value of at most 100 levels
abbrev pub shallow : Value → Res Value
shallow v = if nat_lt 100 (depth_of v) then Err Deep else Ok v

-- all but nil and false
abbrev pub is_true : Value → Bool
is_true nil = false
is_true (boolean false) = false
is_true _ = true

-- the text of a value, where it has one
abbrev pub printed : Value → Res (List ℕ)
printed v = or_raise (text_of_value v) NotPrintable

-- the raise of a name that is absent
abbrev pub absent : Name → Raise
absent (at k) = NoAssign
absent (var k) = NoVariable

-- `m.k`
abbrev pub field_of : List ℕ → Value → Res Value
field_of k (map_of as') = or_raise (lookup k as') NoKey
field_of k _ = Err BadArgument

-- a key of a map: a text or an atom
abbrev pub key_of : Value → Res (List ℕ)
key_of (text k) = Ok k
key_of (atom k) = Ok k
key_of _ = Err BadArgument

-- a default where there is nothing
abbrev pub or_value : Value → Option Value → Value
or_value d None = d
or_value d (Some v) = v

-- `m[k]`: nil where there is no entry, and in nil
abbrev pub index_of : Value → Value → Res Value
index_of (map_of as') w = on_res (λ k. or_value nil (lookup k as')) (key_of w)
index_of nil w = on_res (λ k. nil) (key_of w)
index_of _ _ = Err BadArgument

-- two lists, one after the other
abbrev pub append_values : Values → Values → Values
append_values no_values ws = ws
append_values (value v vs) ws = value v (append_values vs ws)

-- a list from its end
abbrev pub reverse_values : Values → Values
reverse_values no_values = no_values
reverse_values (value v vs) = append_values (reverse_values vs) (value v no_values)

-- whether a value is the same as an item
abbrev pub is_member : Value → Values → Bool
is_member v no_values = false
is_member v (value w ws) = if same v w then true else is_member v ws

-- how many items
abbrev pub value_count : Values → ℕ
value_count no_values = 0
value_count (value v vs) = suc (value_count vs)

-- how many entries
abbrev pub assign_count : Assigns → ℕ
assign_count no_assigns = 0
assign_count (assign k v as') = suc (assign_count as')

-- two numbers, or two texts by their bytes
abbrev pub less_than : Value → Value → Res Bool
less_than (whole_number x) (whole_number y) = Ok (int_lt x y)
less_than (text x) (text y) = Ok (match_ordering (slice_cmp nat_cmp x y) true false false)
less_than _ _ = Err BadArgument

-- on two whole numbers of 64 bits
abbrev pub arithmetic : (ℤ → ℤ → ℤ) → Value → Value → Res Value
arithmetic f (whole_number x) (whole_number y) = within (f x y)
arithmetic f _ _ = Err BadArgument

-- `++` and `<>`
abbrev pub appended : Value → Value → Res Value
appended (list vs) (list ws) = shallow (list (append_values vs ws))
appended _ _ = Err BadArgument

-- `<>`
abbrev pub concatenated : Value → Value → Res Value
concatenated (text t) (text u) = Ok (text (t ++ u))
concatenated _ _ = Err BadArgument

-- `in`
abbrev pub member_of : Value → Value → Res Value
member_of v (list ws) = Ok (boolean (is_member v ws))
member_of v _ = Err BadArgument

-- `-`, `!` and `not`
abbrev pub eval_unary : UnaryOp → Value → Res Value
eval_unary Negative (whole_number n) = within (neg_ℤ n)
eval_unary Negative _ = Err BadArgument
eval_unary Bang v = Ok (boolean (not (is_true v)))
eval_unary Not (boolean b) = Ok (boolean (not b))
eval_unary Not _ = Err BadBoolean

-- what the left operand decides alone
abbrev pub decided : BinaryOp → Value → Option (Res Value)
decided OrElse v = if is_true v then Some (Ok v) else None
decided AndAlso v = if is_true v then None else Some (Ok v)
decided Or (boolean true) = Some (Ok (boolean true))
decided Or (boolean false) = None
decided Or _ = Some (Err BadBoolean)
decided And (boolean false) = Some (Ok (boolean false))
decided And (boolean true) = None
decided And _ = Some (Err BadBoolean)
decided _ v = None

-- the value of both operands; where the left of a boolean operator decides nothing, it is the right as it is
abbrev pub eval_binary : BinaryOp → Value → Value → Res Value
eval_binary Equal v w = Ok (boolean (same v w))
eval_binary Unequal v w = Ok (boolean (not (same v w)))
eval_binary Less v w = on_res boolean (less_than v w)
eval_binary Greater v w = on_res boolean (less_than w v)
eval_binary AtMost v w = on_res (λ b. boolean (not b)) (less_than w v)
eval_binary AtLeast v w = on_res (λ b. boolean (not b)) (less_than v w)
eval_binary Member v w = member_of v w
eval_binary Append v w = appended v w
eval_binary Concat v w = concatenated v w
eval_binary Plus v w = arithmetic (λ x y. x +ℤ y) v w
eval_binary Minus v w = arithmetic (λ x y. x -ℤ y) v w
eval_binary Times v w = arithmetic (λ x y. x *ℤ y) v w
eval_binary _ v w = Ok w

-- the quotient towards zero; a divisor of 0 is a bad argument
abbrev pub quotient : Value → Value → Res Value
quotient (whole_number x) (whole_number y) = if int_eq y (pos 0) then Err BadArgument else within (int_div x y)
quotient _ _ = Err BadArgument

-- its rest, where there is a quotient
abbrev pub remainder : Value → Value → Res Value
remainder (whole_number x) (whole_number y) = on_res (λ q. whole_number (int_rem x y)) (quotient (whole_number x) (whole_number y))
remainder _ _ = Err BadArgument

-- the absolute value
abbrev pub absolute : Value → Res Value
absolute (whole_number (pos n)) = Ok (whole_number (pos n))
absolute (whole_number (negsuc n)) = within (pos (suc n))
absolute _ = Err BadArgument

-- the texts of the items, with a text between them
abbrev pub joined : List ℕ → Values → Res (List ℕ)
joined t no_values = Ok []
joined t (value v no_values) = printed v
joined t (value v (value w ws)) = both (λ a b. a ++ (t ++ b)) (printed v) (joined t (value w ws))

-- how many items or entries
abbrev pub count_of : Value → Res ℕ
count_of (list vs) = Ok (value_count vs)
count_of (map_of as') = Ok (assign_count as')
count_of _ = Err BadArgument

-- the entry of a map
abbrev pub entry_at : Value → Value → Res (Option Value)
entry_at (map_of as') w = on_res (λ k. lookup k as') (key_of w)
entry_at _ w = Err BadArgument

-- whether there is something
abbrev pub is_some : {A : Type 0} → Option A → Bool
is_some None = false
is_some (Some a) = true

-- whether a value is nil
abbrev pub is_nil : Value → Bool
is_nil nil = true
is_nil _ = false

-- a function of one argument
abbrev pub call_one : Function → Value → Res Value
call_one Length (list vs) = Ok (whole_number (pos (value_count vs)))
call_one IsNil v = Ok (boolean (is_nil v))
call_one ToString v = on_res text (printed v)
call_one Abs v = absolute v
call_one Count v = on_res (λ n. whole_number (pos n)) (count_of v)
call_one IsEmpty v = on_res (λ n. boolean (n == 0)) (count_of v)
call_one Join (list vs) = on_res text (joined [] vs)
call_one Reverse (list vs) = Ok (list (reverse_values vs))
call_one _ _ = Err BadArgument

-- a function of two arguments
abbrev pub call_two : Function → Value → Value → Res Value
call_two Div v w = quotient v w
call_two Rem v w = remainder v w
call_two Max v w = on_res (λ b. if b then w else v) (less_than v w)
call_two Min v w = on_res (λ b. if b then w else v) (less_than w v)
call_two Join (list vs) (text t) = on_res text (joined t vs)
call_two Get v w = on_res (or_value nil) (entry_at v w)
call_two HasKey v w = on_res (λ o. boolean (is_some o)) (entry_at v w)
call_two _ _ _ = Err BadArgument

-- a function of three arguments
abbrev pub call_three : Function → Value → Value → Value → Res Value
call_three Get v w d = on_res (or_value d) (entry_at v w)
call_three _ _ _ _ = Err BadArgument

-- another number of arguments is a bad argument
abbrev pub eval_function : Function → Values → Res Value
eval_function f (value v no_values) = call_one f v
eval_function f (value v (value w no_values)) = call_two f v w
eval_function f (value u (value v (value w no_values))) = call_three f u v w
eval_function f _ = Err BadArgument

-- an entry, unless a later one has its key
abbrev pub keep_last : List ℕ → Value → Assigns → Option Value → Assigns
keep_last k v as' None = with_key k v as'
keep_last k v as' (Some w) = as'

-- what is decided already, else the next step
abbrev pub or_else_do : Option (Res Value) → Res Value → Res Value
or_else_do None r = r
or_else_do (Some q) r = q

-- operands are taken from left to right, and then their kinds are judged
abbrev mutual
  pub eval_expr : Env → Expr → Res Value
  eval_expr env (number n) = Ok (whole_number n)
  eval_expr env (text_of ps) = on_res text (eval_parts env ps)
  eval_expr env (atom_of a) = Ok (atom a)
  eval_expr env nil_of = Ok nil
  eval_expr env (boolean_of b) = Ok (boolean b)
  eval_expr env (name n) = or_raise (get env n) (absent n)
  eval_expr env (list_of es) = then_do (eval_exprs env es) (λ vs. shallow (list vs))
  eval_expr env (tuple_of es) = then_do (eval_exprs env es) (λ vs. shallow (tuple vs))
  eval_expr env (map_with ps) = then_do (eval_pairs env ps) (λ as'. shallow (map_of as'))
  eval_expr env (field e k) = then_do (eval_expr env e) (field_of k)
  eval_expr env (index e f) = then_do (eval_expr env e) (λ v. then_do (eval_expr env f) (index_of v))
  eval_expr env (unary o e) = then_do (eval_expr env e) (eval_unary o)
  eval_expr env (binary o e f) = then_do (eval_expr env e) (λ v. or_else_do (decided o v) (then_do (eval_expr env f) (eval_binary o v)))
  eval_expr env (if_else t e f) = then_do (eval_expr env t) (λ v. if is_true v then eval_expr env e else eval_expr env f)
  eval_expr env (call_of g es) = then_do (eval_exprs env es) (eval_function g)

  pub eval_exprs : Env → Exprs → Res Values
  eval_exprs env no_exprs = Ok no_values
  eval_exprs env (expr e es) = both value (eval_expr env e) (eval_exprs env es)

  -- of equal keys the last holds
  pub eval_pairs : Env → Pairs → Res Assigns
  eval_pairs env no_pairs = Ok no_assigns
  eval_pairs env (pair k e ps) = both (λ v as'. keep_last k v as' (lookup k as')) (eval_expr env e) (eval_pairs env ps)

  -- each part is evaluated and printed before the next
  pub eval_parts : Env → Parts → Res (List ℕ)
  eval_parts env no_parts = Ok []
  eval_parts env (plain t ps) = on_res (λ s. t ++ s) (eval_parts env ps)
  eval_parts env (put_part e ps) = both (λ t s. t ++ s) (then_do (eval_expr env e) printed) (eval_parts env ps)
