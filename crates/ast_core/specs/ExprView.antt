-- What the program's expressions stand for.
use Rattle.std.specs.Prelude.{ℕ, List, [], ◌∷◌, map, Option, Some, None, option_map, Box}
use Rattle.std.specs.declared.alloc.Global.{Global}
use Rattle.ast_core.specs.Syntax as model
use Rattle.ast_core.specs.Syntax.{Exprs, no_exprs, expr, Pairs, no_pairs, pair, Parts, no_parts, plain, put_part}
use Rattle.ast_core.specs.declared.operators.BinaryOp.{BinaryOp}
use Rattle.ast_core.specs.declared.operators.Function.{Function}
use Rattle.ast_core.specs.declared.expr.Expr.{Expr}
use Rattle.ast_core.specs.declared.expr.Expr.TheOpen.{Expr-F, TextPart-F, Pair-F, PathStep-F, Operand-F, PipeCall-F}
use Rattle.ast_core.specs.declared.expr.Expr.TheFolds.{fold-Expr}

-- a piece of a text, and a step into a value, with the expression inside already seen
pub data Part : Type 0 where
  plain_part : List ℕ → Part
  expr_part : model.Expr → Part

pub data Step : Type 0 where
  field_step : List ℕ → Step
  index_step : model.Expr → Step

abbrev pub exprs_of : List model.Expr → Exprs
exprs_of [] = no_exprs
exprs_of (e ∷ es) = expr e (exprs_of es)

abbrev pub pairs_of : List (List ℕ × model.Expr) → Pairs
pairs_of [] = no_pairs
pairs_of (p ∷ ps) = pair p.0 p.1 (pairs_of ps)

abbrev pub parts_of : List Part → Parts
parts_of [] = no_parts
parts_of (plain_part t ∷ ps) = plain t (parts_of ps)
parts_of (expr_part e ∷ ps) = put_part e (parts_of ps)

-- the fields and indexes go on from the left
abbrev pub path_of : model.Expr → List Step → model.Expr
path_of e [] = e
path_of e (field_step k ∷ ss) = path_of (model.field e k) ss
path_of e (index_step i ∷ ss) = path_of (model.index e i) ss

-- the operators group to the left
abbrev pub left_chain : model.Expr → List (BinaryOp × model.Expr) → model.Expr
left_chain e [] = e
left_chain e (o ∷ os) = left_chain (model.binary o.0 e o.1) os

-- the operators group to the right
abbrev pub right_chain : model.Expr → List (BinaryOp × model.Expr) → model.Expr
right_chain e [] = e
right_chain e (o ∷ os) = model.binary o.0 e (right_chain o.1 os)

-- each call takes what stands before it as its first argument
abbrev pub pipes_of : model.Expr → List (Function × Exprs) → model.Expr
pipes_of e [] = e
pipes_of e (c ∷ cs) = pipes_of (model.call_of c.0 (expr e c.1)) cs

abbrev pub or_nil : Option model.Expr → model.Expr
or_nil None = model.nil_of
or_nil (Some e) = e

abbrev pub part_step : TextPart-F model.Expr Step Part (BinaryOp × model.Expr) (List ℕ × model.Expr) (Function × Exprs) → Part
part_step (TextPart-F.Plain t) = plain_part t
part_step (TextPart-F.Put e) = expr_part e

abbrev pub pair_step : Pair-F model.Expr Step Part (BinaryOp × model.Expr) (List ℕ × model.Expr) (Function × Exprs) → List ℕ × model.Expr
pair_step p = (p.key, p.value)

abbrev pub path_step : PathStep-F model.Expr Step Part (BinaryOp × model.Expr) (List ℕ × model.Expr) (Function × Exprs) → Step
path_step (PathStep-F.Field k) = field_step k
path_step (PathStep-F.Index e) = index_step e

abbrev pub operand_step : Operand-F model.Expr Step Part (BinaryOp × model.Expr) (List ℕ × model.Expr) (Function × Exprs) → BinaryOp × model.Expr
operand_step o = (o.op, o.value)

abbrev pub call_step : PipeCall-F model.Expr Step Part (BinaryOp × model.Expr) (List ℕ × model.Expr) (Function × Exprs) → Function × Exprs
call_step c = (c.function, exprs_of c.arguments)

-- one level, with what is inside already seen
abbrev pub expr_step : Expr-F model.Expr Step Part (BinaryOp × model.Expr) (List ℕ × model.Expr) (Function × Exprs) → model.Expr
expr_step (Expr-F.Number n) = model.number n
expr_step (Expr-F.Text ps) = model.text_of (parts_of ps)
expr_step (Expr-F.Atom a) = model.atom_of a
expr_step Expr-F.Nil = model.nil_of
expr_step (Expr-F.Bool b) = model.boolean_of b
expr_step (Expr-F.Assign n) = model.name (model.at n)
expr_step (Expr-F.Name n) = model.name (model.var n)
expr_step (Expr-F.List es) = model.list_of (exprs_of es)
expr_step (Expr-F.Tuple es) = model.tuple_of (exprs_of es)
expr_step (Expr-F.Map ps) = model.map_with (pairs_of ps)
expr_step (Expr-F.Path e ss) = path_of e.value ss
expr_step (Expr-F.Unary o e) = model.unary o e.value
expr_step (Expr-F.LeftChain e os) = left_chain e.value os
expr_step (Expr-F.RightChain e os) = right_chain e.value os
expr_step (Expr-F.If t a b) = model.if_else t.value a.value (or_nil (option_map (λ (c : Box model.Expr Global). c.value) b))
expr_step (Expr-F.Call f es) = model.call_of f (exprs_of es)
expr_step (Expr-F.Pipes e cs) = pipes_of e.value cs

abbrev pub expr_view : Expr → model.Expr
expr_view = fold-Expr model.Expr Step Part (BinaryOp × model.Expr) (List ℕ × model.Expr) (Function × Exprs) expr_step path_step part_step operand_step pair_step call_step

abbrev pub exprs_view : List Expr → Exprs
exprs_view es = exprs_of (map expr_view es)
