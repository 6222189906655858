-- What each form of the program's expressions is seen as.
use Rattle.std.proofs.Common.{◌≡◌, ℕ, List, map, Some, None, Box, sym, ap, ◌∙◌}
use Rattle.std.specs.declared.alloc.Global.{Global}
use Rattle.ast_core.specs.declared.operators.UnaryOp.{UnaryOp}
use Rattle.ast_core.specs.declared.operators.BinaryOp.{BinaryOp}
use Rattle.ast_core.specs.declared.operators.Function.{Function}
use Rattle.ast_core.specs.declared.expr.Expr.{Expr}
use Rattle.ast_core.specs.declared.expr.TextPart.{TextPart}
use Rattle.ast_core.specs.declared.expr.Pair.{Pair, out-Pair}
use Rattle.ast_core.specs.declared.expr.PathStep.{PathStep}
use Rattle.ast_core.specs.declared.expr.Operand.{Operand, out-Operand}
use Rattle.ast_core.specs.declared.expr.PipeCall.{PipeCall, out-PipeCall}
use Rattle.ast_core.specs.declared.expr.Expr.TheOpen.{Expr-F}
use Rattle.ast_core.specs.declared.expr.Expr.TheVariants as form
use Rattle.ast_core.specs.declared.expr.Expr.TheViews.{roll-Expr}
use Rattle.ast_core.specs.declared.expr.Expr.TheFolds.{map-Expr, fold-roll-Expr, fold_out-Pair, fold_out-Operand, fold_out-PipeCall}
use Rattle.ast_core.specs.Syntax as model
use Rattle.ast_core.specs.Syntax.{Exprs}
use Rattle.ast_core.specs.ExprView.{Part, Step, pairs_of, parts_of, path_of, left_chain, right_chain, pipes_of, expr_view, exprs_view, expr_step, path_step, part_step, operand_step, pair_step, call_step}
use Rattle.ast_core.specs.NamesIn.{part_view, pair_view, step_view, operand_view, call_view}

view_of : (x : Expr-F Expr PathStep TextPart Operand Pair PipeCall) → expr_view (roll-Expr x) ≡ expr_step (map-Expr _ _ _ _ _ _ _ _ _ _ _ _ expr_view step_view part_view operand_view pair_view call_view x)
view_of = fold-roll-Expr model.Expr Step Part (BinaryOp × model.Expr) (List ℕ × model.Expr) (Function × Exprs) expr_step path_step part_step operand_step pair_step call_step

pub text_form : (ps : List TextPart) → expr_view (form.Text ps) ≡ model.text_of (parts_of (map part_view ps))
text_form ps = ap expr_view (sym (form.rolls-Text ps)) ∙ view_of (Expr-F.Text ps)

pub assign_form : (n : List ℕ) → expr_view (form.Assign n) ≡ model.name (model.at n)
assign_form n = ap expr_view (sym (form.rolls-Assign n)) ∙ view_of (Expr-F.Assign n)

pub name_form : (n : List ℕ) → expr_view (form.Name n) ≡ model.name (model.var n)
name_form n = ap expr_view (sym (form.rolls-Name n)) ∙ view_of (Expr-F.Name n)

pub list_form : (es : List Expr) → expr_view (form.List es) ≡ model.list_of (exprs_view es)
list_form es = ap expr_view (sym (form.rolls-List es)) ∙ view_of (Expr-F.List es)

pub tuple_form : (es : List Expr) → expr_view (form.Tuple es) ≡ model.tuple_of (exprs_view es)
tuple_form es = ap expr_view (sym (form.rolls-Tuple es)) ∙ view_of (Expr-F.Tuple es)

pub map_form : (ps : List Pair) → expr_view (form.Map ps) ≡ model.map_with (pairs_of (map pair_view ps))
map_form ps = ap expr_view (sym (form.rolls-Map ps)) ∙ view_of (Expr-F.Map ps)

pub path_form : (e : Box Expr Global) (ss : List PathStep) → expr_view (form.Path e ss) ≡ path_of (expr_view e.value) (map step_view ss)
path_form e ss = ap expr_view (sym (form.rolls-Path e ss)) ∙ view_of (Expr-F.Path e ss)

pub unary_form : (o : UnaryOp) (e : Box Expr Global) → expr_view (form.Unary o e) ≡ model.unary o (expr_view e.value)
unary_form o e = ap expr_view (sym (form.rolls-Unary o e)) ∙ view_of (Expr-F.Unary o e)

pub left_form : (e : Box Expr Global) (os : List Operand) → expr_view (form.LeftChain e os) ≡ left_chain (expr_view e.value) (map operand_view os)
left_form e os = ap expr_view (sym (form.rolls-LeftChain e os)) ∙ view_of (Expr-F.LeftChain e os)

pub right_form : (e : Box Expr Global) (os : List Operand) → expr_view (form.RightChain e os) ≡ right_chain (expr_view e.value) (map operand_view os)
right_form e os = ap expr_view (sym (form.rolls-RightChain e os)) ∙ view_of (Expr-F.RightChain e os)

pub if_form : (t a b : Box Expr Global) → expr_view (form.If t a (Some b)) ≡ model.if_else (expr_view t.value) (expr_view a.value) (expr_view b.value)
if_form t a b = ap expr_view (sym (form.rolls-If t a (Some b))) ∙ view_of (Expr-F.If t a (Some b))

pub if_only_form : (t a : Box Expr Global) → expr_view (form.If t a None) ≡ model.if_else (expr_view t.value) (expr_view a.value) model.nil_of
if_only_form t a = ap expr_view (sym (form.rolls-If t a None)) ∙ view_of (Expr-F.If t a None)

pub call_form : (f : Function) (es : List Expr) → expr_view (form.Call f es) ≡ model.call_of f (exprs_view es)
call_form f es = ap expr_view (sym (form.rolls-Call f es)) ∙ view_of (Expr-F.Call f es)

pub pipes_form : (e : Box Expr Global) (cs : List PipeCall) → expr_view (form.Pipes e cs) ≡ pipes_of (expr_view e.value) (map call_view cs)
pipes_form e cs = ap expr_view (sym (form.rolls-Pipes e cs)) ∙ view_of (Expr-F.Pipes e cs)

pub pair_form : (p : Pair) → pair_view p ≡ ((out-Pair p).key, expr_view (out-Pair p).value)
pair_form p = fold_out-Pair model.Expr Step Part (BinaryOp × model.Expr) (List ℕ × model.Expr) (Function × Exprs) expr_step path_step part_step operand_step pair_step call_step p

pub operand_form : (o : Operand) → operand_view o ≡ ((out-Operand o).op, expr_view (out-Operand o).value)
operand_form o = fold_out-Operand model.Expr Step Part (BinaryOp × model.Expr) (List ℕ × model.Expr) (Function × Exprs) expr_step path_step part_step operand_step pair_step call_step o

pub pipe_form : (c : PipeCall) → call_view c ≡ ((out-PipeCall c).function, exprs_view (out-PipeCall c).arguments)
pipe_form c = fold_out-PipeCall model.Expr Step Part (BinaryOp × model.Expr) (List ℕ × model.Expr) (Function × Exprs) expr_step path_step part_step operand_step pair_step call_step c
