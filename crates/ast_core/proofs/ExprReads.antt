-- The names in an expression, from those in what stands inside it.
use Rattle.std.proofs.Common.{◌≡◌, ◌⊎◌, inl, inr, ℕ, List, [], ◌∷◌, ◌++◌, map, Some, None, Box, refl, sym, ap, ◌∙◌, append_assoc, append-nil}
use Rattle.std.specs.declared.alloc.Global.{Global}
use Rattle.ast_core.specs.declared.operators.BinaryOp.{BinaryOp}
use Rattle.ast_core.specs.declared.operators.Function.{Function}
use Rattle.ast_core.specs.declared.expr.Expr.{Expr}
use Rattle.ast_core.specs.declared.expr.TextPart.{TextPart}
use Rattle.ast_core.specs.declared.expr.Pair.{Pair, out-Pair}
use Rattle.ast_core.specs.declared.expr.PathStep.{PathStep}
use Rattle.ast_core.specs.declared.expr.Operand.{Operand, out-Operand}
use Rattle.ast_core.specs.declared.expr.PipeCall.{PipeCall, out-PipeCall}
use Rattle.ast_core.specs.declared.expr.Expr.TheOpen.{Expr-F}
use Rattle.ast_core.specs.declared.expr.Expr.TheVariants as form
use Rattle.ast_core.specs.declared.expr.Expr.TheViews.{roll-Expr}
use Rattle.ast_core.specs.declared.expr.Expr.TheFolds.{map-Expr, fold-roll-Expr, fold_out-Pair, fold_out-Operand, fold_out-PipeCall}
use Rattle.ast_core.specs.Syntax as model
use Rattle.ast_core.specs.Syntax.{Name, Exprs, expr, no_exprs}
use Rattle.ast_core.specs.ExprView.{Part, plain_part, expr_part, Step, field_step, index_step, exprs_of, pairs_of, parts_of, path_of, left_chain, right_chain, pipes_of, expr_view, expr_step, path_step, part_step, operand_step, pair_step, call_step}
use Rattle.ast_core.specs.Free.{free_names, free_exprs, free_pairs, free_parts}
use Rattle.ast_core.specs.NamesIn.{all_names, expr_reads, part_view, part_names, part_reads, pair_view, pair_reads, step_view, step_names, step_reads, operand_view, operand_reads, call_view, call_reads}

exprs_names : (es : List Expr) → free_exprs (exprs_of (map expr_view es)) ≡ all_names expr_reads es
exprs_names [] = refl
exprs_names (e ∷ es) = ap (λ ns. expr_reads e ++ ns) (exprs_names es)

parts_names : (ps : List TextPart) → free_parts (parts_of (map part_view ps)) ≡ all_names part_reads ps
parts_names [] = refl
parts_names (p ∷ ps) = by (part_view p) (parts_names ps)
  where
    by : (q : Part) → free_parts (parts_of (map part_view ps)) ≡ all_names part_reads ps → free_parts (parts_of (q ∷ map part_view ps)) ≡ part_names q ++ all_names part_reads ps
    by (plain_part t) rest = rest
    by (expr_part e) rest = ap (λ ns. free_names e ++ ns) rest

pairs_names : (ps : List Pair) → free_pairs (pairs_of (map pair_view ps)) ≡ all_names pair_reads ps
pairs_names [] = refl
pairs_names (p ∷ ps) = ap (λ ns. pair_reads p ++ ns) (pairs_names ps)

path_names : (e : model.Expr) (ss : List PathStep) → free_names (path_of e (map step_view ss)) ≡ free_names e ++ all_names step_reads ss
path_names e [] = sym (append-nil (free_names e))
path_names e (s ∷ ss) = by (step_view s) (λ f. path_names f ss)
  where
    by : (t : Step) → ((f : model.Expr) → free_names (path_of f (map step_view ss)) ≡ free_names f ++ all_names step_reads ss)
        → free_names (path_of e (t ∷ map step_view ss)) ≡ free_names e ++ (step_names t ++ all_names step_reads ss)
    by (field_step k) rest = rest (model.field e k)
    by (index_step i) rest = rest (model.index e i) ∙ append_assoc (free_names e) (free_names i) (all_names step_reads ss)

left_names : (e : model.Expr) (os : List Operand) → free_names (left_chain e (map operand_view os)) ≡ free_names e ++ all_names operand_reads os
left_names e [] = sym (append-nil (free_names e))
left_names e (o ∷ os) =
    left_names (model.binary (operand_view o).0 e (operand_view o).1) os ∙ append_assoc (free_names e) (operand_reads o) (all_names operand_reads os)

right_names : (e : model.Expr) (os : List Operand) → free_names (right_chain e (map operand_view os)) ≡ free_names e ++ all_names operand_reads os
right_names e [] = sym (append-nil (free_names e))
right_names e (o ∷ os) = ap (λ ns. free_names e ++ ns) (right_names (operand_view o).1 os)

pipes_names : (e : model.Expr) (cs : List PipeCall) → free_names (pipes_of e (map call_view cs)) ≡ free_names e ++ all_names call_reads cs
pipes_names e [] = sym (append-nil (free_names e))
pipes_names e (c ∷ cs) =
    pipes_names (model.call_of (call_view c).0 (expr e (call_view c).1)) cs ∙ append_assoc (free_names e) (call_reads c) (all_names call_reads cs)

-- one level of an expression, seen
view_of : (x : Expr-F Expr PathStep TextPart Operand Pair PipeCall) → expr_view (roll-Expr x) ≡ expr_step (map-Expr _ _ _ _ _ _ _ _ _ _ _ _ expr_view step_view part_view operand_view pair_view call_view x)
view_of = fold-roll-Expr model.Expr Step Part (BinaryOp × model.Expr) (List ℕ × model.Expr) (Function × Exprs) expr_step path_step part_step operand_step pair_step call_step

pub reads_text : (ps : List TextPart) → expr_reads (form.Text ps) ≡ all_names part_reads ps
reads_text ps = ap expr_reads (sym (form.rolls-Text ps)) ∙ ap free_names (view_of (Expr-F.Text ps)) ∙ parts_names ps

reads_list : (es : List Expr) → expr_reads (form.List es) ≡ all_names expr_reads es
reads_list es = ap expr_reads (sym (form.rolls-List es)) ∙ ap free_names (view_of (Expr-F.List es)) ∙ exprs_names es

reads_tuple : (es : List Expr) → expr_reads (form.Tuple es) ≡ all_names expr_reads es
reads_tuple es = ap expr_reads (sym (form.rolls-Tuple es)) ∙ ap free_names (view_of (Expr-F.Tuple es)) ∙ exprs_names es

pub reads_map : (ps : List Pair) → expr_reads (form.Map ps) ≡ all_names pair_reads ps
reads_map ps = ap expr_reads (sym (form.rolls-Map ps)) ∙ ap free_names (view_of (Expr-F.Map ps)) ∙ pairs_names ps

pub reads_path : (e : Box Expr Global) (ss : List PathStep) → expr_reads (form.Path e ss) ≡ expr_reads e.value ++ all_names step_reads ss
reads_path e ss = ap expr_reads (sym (form.rolls-Path e ss)) ∙ ap free_names (view_of (Expr-F.Path e ss)) ∙ path_names (expr_view e.value) ss

reads_left : (e : Box Expr Global) (os : List Operand) → expr_reads (form.LeftChain e os) ≡ expr_reads e.value ++ all_names operand_reads os
reads_left e os = ap expr_reads (sym (form.rolls-LeftChain e os)) ∙ ap free_names (view_of (Expr-F.LeftChain e os)) ∙ left_names (expr_view e.value) os

reads_right : (e : Box Expr Global) (os : List Operand) → expr_reads (form.RightChain e os) ≡ expr_reads e.value ++ all_names operand_reads os
reads_right e os = ap expr_reads (sym (form.rolls-RightChain e os)) ∙ ap free_names (view_of (Expr-F.RightChain e os)) ∙ right_names (expr_view e.value) os

pub reads_if : (t a b : Box Expr Global) → expr_reads (form.If t a (Some b)) ≡ (expr_reads t.value ++ expr_reads a.value) ++ expr_reads b.value
reads_if t a b = ap expr_reads (sym (form.rolls-If t a (Some b))) ∙ ap free_names (view_of (Expr-F.If t a (Some b)))

pub reads_if_only : (t a : Box Expr Global) → expr_reads (form.If t a None) ≡ expr_reads t.value ++ expr_reads a.value
reads_if_only t a = ap expr_reads (sym (form.rolls-If t a None)) ∙ ap free_names (view_of (Expr-F.If t a None)) ∙ append-nil (expr_reads t.value ++ expr_reads a.value)

pub reads_call : (f : Function) (es : List Expr) → expr_reads (form.Call f es) ≡ all_names expr_reads es
reads_call f es = ap expr_reads (sym (form.rolls-Call f es)) ∙ ap free_names (view_of (Expr-F.Call f es)) ∙ exprs_names es

pub reads_pipes : (e : Box Expr Global) (cs : List PipeCall) → expr_reads (form.Pipes e cs) ≡ expr_reads e.value ++ all_names call_reads cs
reads_pipes e cs = ap expr_reads (sym (form.rolls-Pipes e cs)) ∙ ap free_names (view_of (Expr-F.Pipes e cs)) ∙ pipes_names (expr_view e.value) cs

pub reads_pair : (p : Pair) → pair_reads p ≡ expr_reads (out-Pair p).value
reads_pair p = ap (λ (q : List ℕ × model.Expr). free_names q.1) (fold_out-Pair model.Expr Step Part (BinaryOp × model.Expr) (List ℕ × model.Expr) (Function × Exprs) expr_step path_step part_step operand_step pair_step call_step p)

pub reads_operand : (o : Operand) → operand_reads o ≡ expr_reads (out-Operand o).value
reads_operand o = ap (λ (q : BinaryOp × model.Expr). free_names q.1) (fold_out-Operand model.Expr Step Part (BinaryOp × model.Expr) (List ℕ × model.Expr) (Function × Exprs) expr_step path_step part_step operand_step pair_step call_step o)

pub reads_pipe_call : (c : PipeCall) → call_reads c ≡ all_names expr_reads (out-PipeCall c).arguments
reads_pipe_call c =
    ap (λ (q : Function × Exprs). free_exprs q.1) (fold_out-PipeCall model.Expr Step Part (BinaryOp × model.Expr) (List ℕ × model.Expr) (Function × Exprs) expr_step path_step part_step operand_step pair_step call_step c)
    ∙ exprs_names (out-PipeCall c).arguments

pub reads_items : (e : Expr) (es : List Expr) → (e ≡ form.List es) ⊎ (e ≡ form.Tuple es) → expr_reads e ≡ all_names expr_reads es
reads_items e es (inl is) = ap expr_reads is ∙ reads_list es
reads_items e es (inr is) = ap expr_reads is ∙ reads_tuple es

pub reads_chain : (e : Expr) (f : Box Expr Global) (os : List Operand) → (e ≡ form.LeftChain f os) ⊎ (e ≡ form.RightChain f os) → expr_reads e ≡ expr_reads f.value ++ all_names operand_reads os
reads_chain e f os (inl is) = ap expr_reads is ∙ reads_left f os
reads_chain e f os (inr is) = ap expr_reads is ∙ reads_right f os
