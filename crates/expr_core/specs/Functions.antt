-- The functions that an expression may call.
use Rattle.std.specs.Prelude.{ℕ, List, [], ◌∷◌, length, codes, ◌&&◌, nat_eq, Option, Some, None, if◌then◌else◌}
use Rattle.std.specs.Str.{bytes_eq}
use Rattle.ast_core.specs.declared.operators.Function.{Function}
use Rattle.ast_core.specs.declared.operators.Function.TheVariants as f
use Rattle.ast_core.specs.Syntax.{Expr, call_of}
use Rattle.ast_core.specs.ExprView.{exprs_of}

-- a function: its name, and how many arguments it takes
pub record Signature : Type 0 where
  pub name : List ℕ
  pub takes : ℕ
  pub function : Function

abbrev pub row : List ℕ → ℕ → Function → Signature
row name takes function = record { name = name; takes = takes; function = function }

abbrev pub functions : List Signature
functions =
    row (codes "length") 1 f.Length ∷ row (codes "is_nil") 1 f.IsNil ∷ row (codes "to_string") 1 f.ToString
    ∷ row (codes "div") 2 f.Div ∷ row (codes "rem") 2 f.Rem ∷ row (codes "abs") 1 f.Abs ∷ row (codes "max") 2 f.Max ∷ row (codes "min") 2 f.Min
    ∷ row (codes "Enum.count") 1 f.Count ∷ row (codes "Enum.empty?") 1 f.IsEmpty ∷ row (codes "Enum.join") 1 f.Join ∷ row (codes "Enum.join") 2 f.Join
    ∷ row (codes "Enum.reverse") 1 f.Reverse ∷ row (codes "Map.get") 2 f.Get ∷ row (codes "Map.get") 3 f.Get ∷ row (codes "Map.has_key?") 2 f.HasKey ∷ []

abbrev pub function_in : List Signature → List ℕ → ℕ → Option Function
function_in [] name n = None
function_in (s ∷ ss) name n = if bytes_eq s.name name && nat_eq s.takes n then Some s.function else function_in ss name n

-- the function of this name that takes so many arguments
unfoldable pub function_of : List ℕ → ℕ → Option Function
function_of name n = function_in functions name n

-- The place of a call that names no function. Such a text is refused, so its call may stand for anything.
abbrev pub if_unknown : ℕ → Option Function → Option ℕ
if_unknown at None = Some at
if_unknown at (Some f) = None

abbrev pub known : Option Function → Function
known None = f.Length
known (Some f) = f

abbrev pub call_with : List ℕ → List Expr → Expr
call_with name es = call_of (known (function_of name (length es))) (exprs_of es)

abbrev pub unknown_call : ℕ → List ℕ → List Expr → Option ℕ
unknown_call at name es = if_unknown at (function_of name (length es))

-- the first of two places, where the former stands before the latter
abbrev pub earlier : Option ℕ → Option ℕ → Option ℕ
earlier None q = q
earlier (Some at) q = Some at
