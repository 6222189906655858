-- Chains, step by step.
use Rattle.std.proofs.Common.{◌≡◌, ℕ, ◌+◌, ◌<◌, ◌≤◌, List, [], ◌∷◌, ◌++◌, length, get_or, drop, map, Bool, true, false, not, Some, None, Ok, Err, if◌then◌else◌, refl, sym, ap, ◌∙◌}
use Rattle.std.proofs.lemmas.List.{map-append, drop_all}
use Rattle.value_core.specs.Value as model
use Rattle.value_core.specs.Value.{Values, value}
use Rattle.value_core.specs.declared.raise.Raise.{Raise}
use Rattle.value_core.proofs.Order.{cons_at}
use Rattle.ast_core.specs.declared.operators.BinaryOp.{BinaryOp}
use Rattle.ast_core.specs.declared.operators.BinaryOp.TheVariants.{OrElse, Or, AndAlso, And}
use Rattle.ast_core.specs.declared.operators.Function.{Function}
use Rattle.ast_core.specs.declared.expr.Operand.{Operand}
use Rattle.ast_core.specs.NamesIn.{operand_view}
use Rattle.ast_core.specs.Syntax as syntax
use Rattle.ast_core.specs.Syntax.{Exprs, expr}
use Rattle.ast_core.specs.ExprView.{Step, field_step, index_step, path_of, left_chain, right_chain, pipes_of}
use Rattle.doc_model.specs.Environment.{Env}
use Rattle.doc_model.specs.Evaluation.{Res, then_do, on_res, both, or_else_do, decided, is_true, eval_binary, eval_function, eval_expr, eval_exprs}
use Rattle.expr_eval.specs.declared.fault.EvalFault.{EvalFault}
use Rattle.expr_eval.specs.declared.fault.EvalFault.TheVariants.{Raised, OutOfMemory}
use Rattle.expr_eval.specs.Gives.{Gives}
use Rattle.expr_eval.specs.Held.{held_view}
use Rattle.expr_eval.specs.Operands.{decides}
use Rattle.expr_eval.specs.declared.right_chain.Waiting.{Waiting}
use Rattle.expr_eval.specs.Chains.{chain, operand_on, step_on, call_on, right_on, back, waiting_view}
use Rattle.expr_eval.proofs.Results.{then_is}

chain_err : {X : Type 0} (f : X → model.Value → Res model.Value) (k : Raise) (xs : List X) → chain f (Err k) xs ≡ Err k
chain_err f k [] = refl
chain_err f k (x ∷ xs) = chain_err f k xs

-- one more step of a chain
pub chain_on : {X Y : Type 0} (f : Y → model.Value → Res model.Value) (g : X → Y) (xs : List X) (i : ℕ) (x : X) (v w : model.Value) (total : Res model.Value) → i < length xs → x ≡ get_or xs i x
    → total ≡ chain f (Ok v) (map g (drop i xs)) → f (g x) v ≡ Ok w → total ≡ chain f (Ok w) (map g (drop (i + 1) xs))
chain_on f g xs i x v w total h is so_far step =
    so_far ∙ ap (λ l. chain f (Ok v) (map g l)) (cons_at xs i x h is) ∙ ap (λ r. chain f r (map g (drop (i + 1) xs))) step

pub chain_stops : {A B X Y : Type 0} (to : A → model.Value) (all : B → model.Value) (f : Y → model.Value → Res model.Value) (g : X → Y) (xs : List X) (i : ℕ) (x : X) (v : model.Value) (fault : EvalFault) (total : Res model.Value) → i < length xs → x ≡ get_or xs i x
    → total ≡ chain f (Ok v) (map g (drop i xs)) → Gives to (Err fault) (f (g x) v) → Gives all (Err fault) total
chain_stops to all f g xs i x v (Raised k) total h is so_far stop =
    so_far ∙ ap (λ l. chain f (Ok v) (map g l)) (cons_at xs i x h is) ∙ ap (λ r. chain f r (map g (drop (i + 1) xs))) stop ∙ chain_err f k (map g (drop (i + 1) xs))
chain_stops to all f g xs i x v OutOfMemory total h is so_far stop = tt

pub chain_ends : {X Y : Type 0} (f : Y → model.Value → Res model.Value) (g : X → Y) (xs : List X) (i : ℕ) (v : model.Value) (total : Res model.Value) → length xs ≤ i
    → total ≡ chain f (Ok v) (map g (drop i xs)) → total ≡ Ok v
chain_ends f g xs i v total h so_far = so_far ∙ ap (λ l. chain f (Ok v) (map g l)) (drop_all i xs h)

pub chain_begins : {A X B : Type 0} (to : A → model.Value) (all : B → model.Value) (f : X → model.Value → Res model.Value) (r : Res model.Value) (xs : List X) (fault : EvalFault) → Gives to (Err fault) r → Gives all (Err fault) (chain f r xs)
chain_begins to all f r xs (Raised k) stop = ap (λ q. chain f q xs) stop ∙ chain_err f k xs
chain_begins to all f r xs OutOfMemory stop = tt

-- the definition goes along the chain
pub left_is : (env : Env) (e : syntax.Expr) (os : List (BinaryOp × syntax.Expr)) → eval_expr env (left_chain e os) ≡ chain (operand_on env) (eval_expr env e) os
left_is env e [] = refl
left_is env e (o ∷ os) = left_is env (syntax.binary o.0 e o.1) os

pub path_is : (env : Env) (e : syntax.Expr) (ss : List Step) → eval_expr env (path_of e ss) ≡ chain (step_on env) (eval_expr env e) ss
path_is env e [] = refl
path_is env e (field_step k ∷ ss) = path_is env (syntax.field e k) ss
path_is env e (index_step i ∷ ss) = path_is env (syntax.index e i) ss

first_is : {C : Type 0} (r : Res model.Value) (s : Res Values) (f : Values → Res C) → then_do (both value r s) f ≡ then_do r (λ v. then_do (on_res (value v) s) f)
first_is (Ok v) (Ok vs) f = refl
first_is (Ok v) (Err k) f = refl
first_is (Err k) s f = refl

pub pipes_is : (env : Env) (e : syntax.Expr) (cs : List (Function × Exprs)) → eval_expr env (pipes_of e cs) ≡ chain (call_on env) (eval_expr env e) cs
pipes_is env e [] = refl
pipes_is env e (c ∷ cs) =
    pipes_is env (syntax.call_of c.0 (expr e c.1)) cs
    ∙ ap (λ r. chain (call_on env) r cs) (first_is (eval_expr env e) (eval_exprs env c.1) (eval_function c.0))

pub right_is : (env : Env) (e : syntax.Expr) (os : List (BinaryOp × syntax.Expr)) → eval_expr env (right_chain e os) ≡ then_do (eval_expr env e) (λ v. right_on env v os)
right_is env e [] = sym (then_is (eval_expr env e))
right_is env e (o ∷ os) = refl

-- the left operand decides alone, raises, or decides nothing
decides_is : (o : BinaryOp) (v : model.Value) (r : Res model.Value) → or_else_do (decided o v) r ≡ then_do (decides o v) (λ b. if b then Ok v else r)
decides_is OrElse v r = by (is_true v)
  where
    by : (b : Bool) → or_else_do (if b then Some (Ok v) else None) r ≡ (if b then Ok v else r)
    by true = refl
    by false = refl
decides_is AndAlso v r = by (is_true v)
  where
    by : (b : Bool) → or_else_do (if b then None else Some (Ok v)) r ≡ (if not b then Ok v else r)
    by true = refl
    by false = refl
decides_is Or (model.boolean true) r = refl
decides_is Or (model.boolean false) r = refl
decides_is Or _ r = refl
decides_is And (model.boolean true) r = refl
decides_is And (model.boolean false) r = refl
decides_is And _ r = refl
decides_is _ v r = refl

pub decides_alone : (o : BinaryOp) (v : model.Value) (r : Res model.Value) → decides o v ≡ Ok true → or_else_do (decided o v) r ≡ Ok v
decides_alone o v r h = decides_is o v r ∙ ap (λ d. then_do d (λ b. if b then Ok v else r)) h

pub decides_nothing : (o : BinaryOp) (v : model.Value) (r : Res model.Value) → decides o v ≡ Ok false → or_else_do (decided o v) r ≡ r
decides_nothing o v r h = decides_is o v r ∙ ap (λ d. then_do d (λ b. if b then Ok v else r)) h

pub decides_raises : (o : BinaryOp) (v : model.Value) (r : Res model.Value) (k : Raise) → decides o v ≡ Err k → or_else_do (decided o v) r ≡ Err k
decides_raises o v r k h = decides_is o v r ∙ ap (λ d. then_do d (λ b. if b then Ok v else r)) h

back_err : (ws : List (BinaryOp × model.Value)) (k : Raise) → back ws (Err k) ≡ Err k
back_err [] k = refl
back_err (w ∷ ws) k = ap (λ r. then_do r (eval_binary w.0 w.1)) (back_err ws k)

-- the last that waits takes its right operand first
pub back-snoc : (ws : List (BinaryOp × model.Value)) (w : BinaryOp × model.Value) (r : Res model.Value) → back (ws ++ w ∷ []) r ≡ back ws (then_do r (eval_binary w.0 w.1))
back-snoc [] w r = refl
back-snoc (x ∷ ws) w r = ap (λ s. then_do s (eval_binary x.0 x.1)) (back-snoc ws w r)

pub back_stops : {A : Type 0} (to : A → model.Value) (ws : List (BinaryOp × model.Value)) (r : Res model.Value) (fault : EvalFault) (total : Res model.Value) → total ≡ back ws r → Gives to (Err fault) r → Gives to (Err fault) total
back_stops to ws r (Raised k) total so_far stop = so_far ∙ ap (back ws) stop ∙ back_err ws k
back_stops to ws r OutOfMemory total so_far stop = tt

-- ---- an operator and its right operand

module _ (env : Env) (o : Operand) (op : BinaryOp) (e : syntax.Expr) (seen : operand_view o ≡ (op, e)) (v : model.Value) where
  operand_is : operand_on env (operand_view o) v ≡ or_else_do (decided op v) (then_do (eval_expr env e) (eval_binary op v))
  operand_is = ap (λ (q : BinaryOp × syntax.Expr). operand_on env q v) seen

  pub operand_decided : decides op v ≡ Ok true → operand_on env (operand_view o) v ≡ Ok v
  operand_decided h = operand_is ∙ decides_alone op v (then_do (eval_expr env e) (eval_binary op v)) h

  pub operand_judged : {A B : Type 0} (to : A → Bool) (all : B → model.Value) (fault : EvalFault) → Gives to (Err fault) (decides op v) → Gives all (Err fault) (operand_on env (operand_view o) v)
  operand_judged to all (Raised k) h = operand_is ∙ decides_raises op v (then_do (eval_expr env e) (eval_binary op v)) k h
  operand_judged to all OutOfMemory h = tt

  pub operand_stops : {A B : Type 0} (to : A → model.Value) (all : B → model.Value) (fault : EvalFault) → decides op v ≡ Ok false → Gives to (Err fault) (eval_expr env e) → Gives all (Err fault) (operand_on env (operand_view o) v)
  operand_stops to all (Raised k) no_ h =
      operand_is ∙ decides_nothing op v (then_do (eval_expr env e) (eval_binary op v)) no_ ∙ ap (λ r. then_do r (eval_binary op v)) h
  operand_stops to all OutOfMemory no_ h = tt

  pub operand_met : (w : model.Value) → decides op v ≡ Ok false → eval_expr env e ≡ Ok w → operand_on env (operand_view o) v ≡ eval_binary op v w
  operand_met w no_ h =
      operand_is ∙ decides_nothing op v (then_do (eval_expr env e) (eval_binary op v)) no_ ∙ ap (λ r. then_do r (eval_binary op v)) h

-- ---- operators that group to the right

module _ (env : Env) (os : List Operand) (i : ℕ) (o : Operand) (op : BinaryOp) (e : syntax.Expr) (ws : List (BinaryOp × model.Value)) (v : model.Value) (total : Res model.Value)
    (h : i < length os) (is : o ≡ get_or os i o) (seen : operand_view o ≡ (op, e)) (so_far : total ≡ back ws (right_on env v (map operand_view (drop i os)))) where
  right_here : total ≡ back ws (or_else_do (decided op v) (then_do (eval_expr env (right_chain e (map operand_view (drop (i + 1) os)))) (eval_binary op v)))
  right_here =
      so_far ∙ ap (λ l. back ws (right_on env v (map operand_view l))) (cons_at os i o h is)
      ∙ ap (λ (q : BinaryOp × syntax.Expr). back ws (right_on env v (q ∷ map operand_view (drop (i + 1) os)))) seen

  pub right_decided : decides op v ≡ Ok true → total ≡ back ws (Ok v)
  right_decided alone = right_here ∙ ap (back ws) (decides_alone op v _ alone)

  pub right_judged : {A B : Type 0} (to : A → Bool) (all : B → model.Value) (fault : EvalFault) → Gives to (Err fault) (decides op v) → Gives all (Err fault) total
  right_judged to all (Raised k) stop = right_here ∙ ap (back ws) (decides_raises op v _ k stop) ∙ back_err ws k
  right_judged to all OutOfMemory stop = tt

  right_next : decides op v ≡ Ok false → total ≡ back ws (then_do (then_do (eval_expr env e) (λ w. right_on env w (map operand_view (drop (i + 1) os)))) (eval_binary op v))
  right_next no_ =
      right_here ∙ ap (back ws) (decides_nothing op v _ no_)
      ∙ ap (λ r. back ws (then_do r (eval_binary op v))) (right_is env e (map operand_view (drop (i + 1) os)))

  pub right_stops : {A B : Type 0} (to : A → model.Value) (all : B → model.Value) (fault : EvalFault) → decides op v ≡ Ok false → Gives to (Err fault) (eval_expr env e) → Gives all (Err fault) total
  right_stops to all (Raised k) no_ stop =
      right_next no_ ∙ ap (λ r. back ws (then_do (then_do r (λ w. right_on env w (map operand_view (drop (i + 1) os)))) (eval_binary op v))) stop ∙ back_err ws k
  right_stops to all OutOfMemory no_ stop = tt

  pub right_step : (w : model.Value) → decides op v ≡ Ok false → eval_expr env e ≡ Ok w → total ≡ back (ws ++ (op, v) ∷ []) (right_on env w (map operand_view (drop (i + 1) os)))
  right_step w no_ ev =
      right_next no_ ∙ ap (λ r. back ws (then_do (then_do r (λ u. right_on env u (map operand_view (drop (i + 1) os)))) (eval_binary op v))) ev
      ∙ sym (back-snoc ws (op, v) (right_on env w (map operand_view (drop (i + 1) os))))

pub right_ends : (env : Env) (os : List Operand) (i : ℕ) (ws : List (BinaryOp × model.Value)) (v : model.Value) (total : Res model.Value) → length os ≤ i
    → total ≡ back ws (right_on env v (map operand_view (drop i os))) → total ≡ back ws (Ok v)
right_ends env os i ws v total h so_far = so_far ∙ ap (λ l. back ws (right_on env v (map operand_view l))) (drop_all i os h)

-- the last that waits, and its right operand
pub taken : (all ws : List Waiting) (w : Waiting) (v : model.Value) (total : Res model.Value) → all ≡ ws ++ w ∷ [] → total ≡ back (map waiting_view all) (Ok v) → total ≡ back (map waiting_view ws) (eval_binary w.op (held_view w.left) v)
taken all ws w v total is so_far =
    so_far ∙ ap (λ l. back (map waiting_view l) (Ok v)) is ∙ ap (λ l. back l (Ok v)) (map-append waiting_view ws (w ∷ []))
    ∙ back-snoc (map waiting_view ws) (waiting_view w) (Ok v)
