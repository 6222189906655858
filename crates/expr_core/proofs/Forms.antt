-- What the forms of expressions stand for.
use Rattle.std.proofs.Common.{◌≡◌, ◌+◌, arith, ℕ, ℤ, Bool, List, [], ◌∷◌, ◌++◌, map, length, Option, Some, None, Box, refl, sym, ap, ◌∙◌}
use Rattle.std.proofs.lemmas.List.{map-append, length-map}
use Rattle.std.specs.declared.alloc.Global.{Global}
use Rattle.ast_core.specs.declared.operators.UnaryOp.{UnaryOp}
use Rattle.ast_core.specs.declared.operators.BinaryOp.{BinaryOp}
use Rattle.ast_core.specs.declared.operators.Function.{Function}
use Rattle.ast_core.specs.declared.expr.Expr.{Expr}
use Rattle.ast_core.specs.declared.expr.TextPart.{TextPart}
use Rattle.ast_core.specs.declared.expr.Pair.{Pair}
use Rattle.ast_core.specs.declared.expr.PathStep.{PathStep}
use Rattle.ast_core.specs.declared.expr.Operand.{Operand}
use Rattle.ast_core.specs.declared.expr.PipeCall.{PipeCall}
use Rattle.ast_core.specs.declared.expr.Expr.TheOpen.{Expr-F, PathStep-F, TextPart-F}
use Rattle.ast_core.specs.declared.expr.Expr.TheVariants as form
use Rattle.ast_core.specs.declared.expr.PathStep.TheVariants as steps
use Rattle.ast_core.specs.declared.expr.TextPart.TheVariants as pieces
use Rattle.ast_core.specs.declared.expr.Expr.TheViews.{roll-Expr, roll-PathStep, roll-TextPart, roll-Operand, roll-Pair, roll-PipeCall}
use Rattle.ast_core.specs.declared.expr.Expr.TheFolds.{map-Expr, map-PathStep, map-TextPart, fold-roll-Expr, fold-roll-PathStep, fold-roll-TextPart, fold-roll-Operand, fold-roll-Pair, fold-roll-PipeCall}
use Rattle.ast_core.specs.Syntax as model
use Rattle.ast_core.specs.Syntax.{Exprs, expr}
use Rattle.ast_core.specs.ExprView.{Part, plain_part, expr_part, Step, field_step, index_step, exprs_of, pairs_of, parts_of, path_of, left_chain, right_chain, pipes_of, expr_view, expr_step, path_step, part_step, operand_step, pair_step, call_step}
use Rattle.ast_core.specs.NamesIn.{part_view, pair_view, step_view, operand_view, call_view}
use Rattle.expr_core.specs.Grammar.{plain_parts}
use Rattle.expr_core.specs.Functions.{function_of, known, if_unknown, call_with, unknown_call, earlier}

-- one level of an expression, seen
view_of : (x : Expr-F Expr PathStep TextPart Operand Pair PipeCall) → expr_view (roll-Expr x) ≡ expr_step (map-Expr _ _ _ _ _ _ _ _ _ _ _ _ expr_view step_view part_view operand_view pair_view call_view x)
view_of = fold-roll-Expr model.Expr Step Part (BinaryOp × model.Expr) (List ℕ × model.Expr) (Function × Exprs) expr_step path_step part_step operand_step pair_step call_step

pub sees_number : (n : ℤ) → expr_view (form.Number n) ≡ model.number n
sees_number n = ap expr_view (sym (form.rolls-Number n)) ∙ view_of (Expr-F.Number n)

pub sees_name : (t : List ℕ) → expr_view (form.Name t) ≡ model.name (model.var t)
sees_name t = ap expr_view (sym (form.rolls-Name t)) ∙ view_of (Expr-F.Name t)

pub sees_assign : (t : List ℕ) → expr_view (form.Assign t) ≡ model.name (model.at t)
sees_assign t = ap expr_view (sym (form.rolls-Assign t)) ∙ view_of (Expr-F.Assign t)

pub sees_atom : (t : List ℕ) → expr_view (form.Atom t) ≡ model.atom_of t
sees_atom t = ap expr_view (sym (form.rolls-Atom t)) ∙ view_of (Expr-F.Atom t)

pub sees_nil : expr_view form.Nil ≡ model.nil_of
sees_nil = ap expr_view (sym form.rolls-Nil) ∙ view_of Expr-F.Nil

pub sees_bool : (b : Bool) → expr_view (form.Bool b) ≡ model.boolean_of b
sees_bool b = ap expr_view (sym (form.rolls-Bool b)) ∙ view_of (Expr-F.Bool b)

pub sees_text : (ps : List TextPart) → expr_view (form.Text ps) ≡ model.text_of (parts_of (map part_view ps))
sees_text ps = ap expr_view (sym (form.rolls-Text ps)) ∙ view_of (Expr-F.Text ps)

pub sees_list : (es : List Expr) → expr_view (form.List es) ≡ model.list_of (exprs_of (map expr_view es))
sees_list es = ap expr_view (sym (form.rolls-List es)) ∙ view_of (Expr-F.List es)

pub sees_tuple : (es : List Expr) → expr_view (form.Tuple es) ≡ model.tuple_of (exprs_of (map expr_view es))
sees_tuple es = ap expr_view (sym (form.rolls-Tuple es)) ∙ view_of (Expr-F.Tuple es)

pub sees_map : (ps : List Pair) → expr_view (form.Map ps) ≡ model.map_with (pairs_of (map pair_view ps))
sees_map ps = ap expr_view (sym (form.rolls-Map ps)) ∙ view_of (Expr-F.Map ps)

pub sees_path : (e : Box Expr Global) (ss : List PathStep) → expr_view (form.Path e ss) ≡ path_of (expr_view e.value) (map step_view ss)
sees_path e ss = ap expr_view (sym (form.rolls-Path e ss)) ∙ view_of (Expr-F.Path e ss)

pub sees_unary : (o : UnaryOp) (e : Box Expr Global) → expr_view (form.Unary o e) ≡ model.unary o (expr_view e.value)
sees_unary o e = ap expr_view (sym (form.rolls-Unary o e)) ∙ view_of (Expr-F.Unary o e)

pub sees_left : (e : Box Expr Global) (os : List Operand) → expr_view (form.LeftChain e os) ≡ left_chain (expr_view e.value) (map operand_view os)
sees_left e os = ap expr_view (sym (form.rolls-LeftChain e os)) ∙ view_of (Expr-F.LeftChain e os)

pub sees_right : (e : Box Expr Global) (os : List Operand) → expr_view (form.RightChain e os) ≡ right_chain (expr_view e.value) (map operand_view os)
sees_right e os = ap expr_view (sym (form.rolls-RightChain e os)) ∙ view_of (Expr-F.RightChain e os)

pub sees_if : (t a b : Box Expr Global) → expr_view (form.If t a (Some b)) ≡ model.if_else (expr_view t.value) (expr_view a.value) (expr_view b.value)
sees_if t a b = ap expr_view (sym (form.rolls-If t a (Some b))) ∙ view_of (Expr-F.If t a (Some b))

pub sees_if_only : (t a : Box Expr Global) → expr_view (form.If t a None) ≡ model.if_else (expr_view t.value) (expr_view a.value) model.nil_of
sees_if_only t a = ap expr_view (sym (form.rolls-If t a None)) ∙ view_of (Expr-F.If t a None)

pub sees_call : (f : Function) (es : List Expr) → expr_view (form.Call f es) ≡ model.call_of f (exprs_of (map expr_view es))
sees_call f es = ap expr_view (sym (form.rolls-Call f es)) ∙ view_of (Expr-F.Call f es)

pub sees_pipes : (e : Box Expr Global) (cs : List PipeCall) → expr_view (form.Pipes e cs) ≡ pipes_of (expr_view e.value) (map call_view cs)
sees_pipes e cs = ap expr_view (sym (form.rolls-Pipes e cs)) ∙ view_of (Expr-F.Pipes e cs)

pub sees_operand : (o : BinaryOp) (e : Expr) → operand_view (roll-Operand (record { op = o; value = e })) ≡ (o, expr_view e)
sees_operand o e = fold-roll-Operand model.Expr Step Part (BinaryOp × model.Expr) (List ℕ × model.Expr) (Function × Exprs) expr_step path_step part_step operand_step pair_step call_step (record { op = o; value = e })

pub sees_pair : (k : List ℕ) (e : Expr) → pair_view (roll-Pair (record { key = k; value = e })) ≡ (k, expr_view e)
sees_pair k e = fold-roll-Pair model.Expr Step Part (BinaryOp × model.Expr) (List ℕ × model.Expr) (Function × Exprs) expr_step path_step part_step operand_step pair_step call_step (record { key = k; value = e })

pub sees_pipe_call : (f : Function) (es : List Expr) → call_view (roll-PipeCall (record { function = f; arguments = es })) ≡ (f, exprs_of (map expr_view es))
sees_pipe_call f es = fold-roll-PipeCall model.Expr Step Part (BinaryOp × model.Expr) (List ℕ × model.Expr) (Function × Exprs) expr_step path_step part_step operand_step pair_step call_step (record { function = f; arguments = es })

-- a chain with one more at its end
pub left_more : (e : model.Expr) (os : List (BinaryOp × model.Expr)) (o : BinaryOp) (x : model.Expr) → left_chain e (os ++ (o, x) ∷ []) ≡ model.binary o (left_chain e os) x
left_more e [] o x = refl
left_more e (p ∷ os) o x = left_more (model.binary p.0 e p.1) os o x

pub pipes_more : (e : model.Expr) (cs : List (Function × Exprs)) (f : Function) (es : Exprs) → pipes_of e (cs ++ (f, es) ∷ []) ≡ model.call_of f (expr (pipes_of e cs) es)
pipes_more e [] f es = refl
pipes_more e (c ∷ cs) f es = pipes_more (model.call_of c.0 (expr e c.1)) cs f es

pub path_field : (e : model.Expr) (ss : List Step) (k : List ℕ) → path_of e (ss ++ field_step k ∷ []) ≡ model.field (path_of e ss) k
path_field e [] k = refl
path_field e (field_step j ∷ ss) k = path_field (model.field e j) ss k
path_field e (index_step i ∷ ss) k = path_field (model.index e i) ss k

pub path_index : (e : model.Expr) (ss : List Step) (i : model.Expr) → path_of e (ss ++ index_step i ∷ []) ≡ model.index (path_of e ss) i
path_index e [] i = refl
path_index e (field_step j ∷ ss) i = path_index (model.field e j) ss i
path_index e (index_step j ∷ ss) i = path_index (model.index e j) ss i

-- the two steps into a value
step_of : (x : PathStep-F Expr PathStep TextPart Operand Pair PipeCall) → step_view (roll-PathStep x) ≡ path_step (map-PathStep _ _ _ _ _ _ _ _ _ _ _ _ expr_view step_view part_view operand_view pair_view call_view x)
step_of = fold-roll-PathStep model.Expr Step Part (BinaryOp × model.Expr) (List ℕ × model.Expr) (Function × Exprs) expr_step path_step part_step operand_step pair_step call_step

pub sees_field_step : (k : List ℕ) → step_view (steps.Field k) ≡ field_step k
sees_field_step k = ap step_view (sym (steps.rolls-Field k)) ∙ step_of (PathStep-F.Field k)

pub sees_index_step : (e : Expr) → step_view (steps.Index e) ≡ index_step (expr_view e)
sees_index_step e = ap step_view (sym (steps.rolls-Index e)) ∙ step_of (PathStep-F.Index e)

-- the pieces of a text
part_of : (x : TextPart-F Expr PathStep TextPart Operand Pair PipeCall) → part_view (roll-TextPart x) ≡ part_step (map-TextPart _ _ _ _ _ _ _ _ _ _ _ _ expr_view step_view part_view operand_view pair_view call_view x)
part_of = fold-roll-TextPart model.Expr Step Part (BinaryOp × model.Expr) (List ℕ × model.Expr) (Function × Exprs) expr_step path_step part_step operand_step pair_step call_step

pub sees_plain : (t : List ℕ) → part_view (pieces.Plain t) ≡ plain_part t
sees_plain t = ap part_view (sym (pieces.rolls-Plain t)) ∙ part_of (TextPart-F.Plain t)

pub sees_put : (e : Expr) → part_view (pieces.Put e) ≡ expr_part (expr_view e)
sees_put e = ap part_view (sym (pieces.rolls-Put e)) ∙ part_of (TextPart-F.Put e)

-- a path goes on with one more step
pub path_more : (e : model.Expr) (ss : List Step) (s : Step) → path_of e (ss ++ s ∷ []) ≡ path_of (path_of e ss) (s ∷ [])
path_more e [] s = refl
path_more e (field_step j ∷ ss) s = path_more (model.field e j) ss s
path_more e (index_step j ∷ ss) s = path_more (model.index e j) ss s

pub path_on : (e : Expr) (b : Box Expr Global) (ss gs : List PathStep) (s : PathStep) → e ≡ form.Path b ss → gs ≡ ss ++ s ∷ [] → expr_view (form.Path b gs) ≡ path_of (expr_view e) (step_view s ∷ [])
path_on e b ss gs s is more =
    sees_path b gs
    ∙ ap (λ l. path_of (expr_view b.value) (map step_view l)) more
    ∙ ap (λ l. path_of (expr_view b.value) l) (map-append step_view ss (s ∷ []))
    ∙ path_more (expr_view b.value) (map step_view ss) (step_view s)
    ∙ ap (λ x. path_of x (step_view s ∷ [])) (sym (sees_path b ss) ∙ ap expr_view (sym is))

pub left_on : (e : Expr) (b : Box Expr Global) (os gs : List Operand) (x : Operand) (o : BinaryOp) (r : model.Expr) → e ≡ form.LeftChain b os → gs ≡ os ++ x ∷ [] → operand_view x ≡ (o, r) → expr_view (form.LeftChain b gs) ≡ model.binary o (expr_view e) r
left_on e b os gs x o r is more seen =
    sees_left b gs
    ∙ ap (λ l. left_chain (expr_view b.value) (map operand_view l)) more
    ∙ ap (λ l. left_chain (expr_view b.value) l) (map-append operand_view os (x ∷ []))
    ∙ ap (λ p. left_chain (expr_view b.value) (map operand_view os ++ p ∷ [])) seen
    ∙ left_more (expr_view b.value) (map operand_view os) o r
    ∙ ap (λ f. model.binary o f r) (sym (sees_left b os) ∙ ap expr_view (sym is))

pub pipes_on : (e : Expr) (b : Box Expr Global) (cs gs : List PipeCall) (x : PipeCall) (f : Function) (es : Exprs) → e ≡ form.Pipes b cs → gs ≡ cs ++ x ∷ [] → call_view x ≡ (f, es) → expr_view (form.Pipes b gs) ≡ model.call_of f (expr (expr_view e) es)
pipes_on e b cs gs x f es is more seen =
    sees_pipes b gs
    ∙ ap (λ l. pipes_of (expr_view b.value) (map call_view l)) more
    ∙ ap (λ l. pipes_of (expr_view b.value) l) (map-append call_view cs (x ∷ []))
    ∙ ap (λ p. pipes_of (expr_view b.value) (map call_view cs ++ p ∷ [])) seen
    ∙ pipes_more (expr_view b.value) (map call_view cs) f es
    ∙ ap (λ g. model.call_of f (expr g es)) (sym (sees_pipes b cs) ∙ ap expr_view (sym is))

-- lists with one more at their end
pub items_more : (es : List Expr) (e : Expr) → map expr_view (es ++ e ∷ []) ≡ map expr_view es ++ expr_view e ∷ []
items_more es e = map-append expr_view es (e ∷ [])

pub pairs_more : (ps : List Pair) (k : List ℕ) (e : Expr) → map pair_view (ps ++ roll-Pair (record { key = k; value = e }) ∷ []) ≡ map pair_view ps ++ (k, expr_view e) ∷ []
pairs_more ps k e = map-append pair_view ps (roll-Pair (record { key = k; value = e }) ∷ []) ∙ ap (λ p. map pair_view ps ++ p ∷ []) (sees_pair k e)

pub parts_more : (ps : List TextPart) (p : TextPart) → map part_view (ps ++ p ∷ []) ≡ map part_view ps ++ part_view p ∷ []
parts_more ps p = map-append part_view ps (p ∷ [])

pub plain_none : (t : List ℕ) → t ≡ [] → plain_parts t ≡ []
plain_none [] e = refl
plain_none (b ∷ bs) e = cc

pub plain_some : (t : List ℕ) → (t ≡ [] → ⊥) → plain_parts t ≡ plain_part t ∷ []
plain_some [] h = absurd (h refl)
plain_some (b ∷ bs) h = refl

-- a call, by its name and the number of its arguments
pub call_seen : (name : List ℕ) (es : List Expr) → expr_view (form.Call (known (function_of name (length es))) es) ≡ call_with name (map expr_view es)
call_seen name es = sees_call (known (function_of name (length es))) es ∙ ap (λ n. model.call_of (known (function_of name n)) (exprs_of (map expr_view es))) (sym (length-map es expr_view))

pub unknown_seen : (at : ℕ) (name : List ℕ) (es : List Expr) → if_unknown at (function_of name (length es)) ≡ unknown_call at name (map expr_view es)
unknown_seen at name es = ap (λ n. if_unknown at (function_of name n)) (sym (length-map es expr_view))

pub pipe_seen : (name : List ℕ) (l : model.Expr) (es : List Expr) → model.call_of (known (function_of name (length es + 1))) (expr l (exprs_of (map expr_view es))) ≡ call_with name (l ∷ map expr_view es)
pipe_seen name l es =
    let n : length es + 1 ≡ length (l ∷ map expr_view es) = omega (arith, length-map es expr_view) in
    ap (λ k. model.call_of (known (function_of name k)) (expr l (exprs_of (map expr_view es)))) n

pub pipe_unknown : (at : ℕ) (name : List ℕ) (l : model.Expr) (es : List Expr) → if_unknown at (function_of name (length es + 1)) ≡ unknown_call at name (l ∷ map expr_view es)
pipe_unknown at name l es =
    let n : length es + 1 ≡ length (l ∷ map expr_view es) = omega (arith, length-map es expr_view) in
    ap (λ k. if_unknown at (function_of name k)) n

pub pipe_expr : (name s : List ℕ) (es items : List Expr) (e l : model.Expr) (f : Option Function) (g : Function) → s ≡ name → items ≡ es → f ≡ function_of s (length items + 1) → g ≡ known f → e ≡ model.call_of g (expr l (exprs_of (map expr_view es))) → e ≡ call_with name (l ∷ map expr_view es)
pipe_expr name s es items e l f g same all found is sees =
    sees
    ∙ ap (λ k. model.call_of k (expr l (exprs_of (map expr_view es)))) is
    ∙ ap (λ k. model.call_of (known k) (expr l (exprs_of (map expr_view es)))) found
    ∙ ap (λ n. model.call_of (known (function_of n (length items + 1))) (expr l (exprs_of (map expr_view es)))) same
    ∙ ap (λ n. model.call_of (known (function_of name (length n + 1))) (expr l (exprs_of (map expr_view es)))) all
    ∙ pipe_seen name l es

pub pipe_place : (at : ℕ) (name s : List ℕ) (es items : List Expr) (l : model.Expr) (f : Option Function) (u v w x y : Option ℕ) → s ≡ name → items ≡ es → f ≡ function_of s (length items + 1) → w ≡ if_unknown at f → x ≡ earlier w v → y ≡ earlier u x → y ≡ earlier u (earlier (unknown_call at name (l ∷ map expr_view es)) v)
pipe_place at name s es items l f u v w x y same all found is first later =
    later
    ∙ ap (λ k. earlier u k) first
    ∙ ap (λ k. earlier u (earlier k v)) is
    ∙ ap (λ k. earlier u (earlier (if_unknown at k) v)) found
    ∙ ap (λ n. earlier u (earlier (if_unknown at (function_of n (length items + 1))) v)) same
    ∙ ap (λ n. earlier u (earlier (if_unknown at (function_of name (length n + 1))) v)) all
    ∙ ap (λ k. earlier u (earlier k v)) (pipe_unknown at name l es)
