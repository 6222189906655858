-- Lists of expressions, of pieces, of pairs and of items, one by one.
use Rattle.std.proofs.Common.{◌≡◌, ℕ, ◌+◌, ◌<◌, ◌≤◌, List, [], ◌∷◌, ◌++◌, length, get_or, drop, map, Ok, Err, refl, sym, ap, ◌∙◌, append_assoc, append-nil}
use Rattle.std.proofs.lemmas.List.{map-append, drop_all}
use Rattle.text_core.specs.declared.by_key.KeyValue.{KeyValue}
use Rattle.text_core.specs.Keyed as keyed
use Rattle.value_core.specs.Value as model
use Rattle.value_core.specs.Value.{Values, no_values, value, Assigns, same}
use Rattle.value_core.specs.View.{view, values_view, values_of, assigns_view}
use Rattle.value_core.specs.declared.value.Value.{Value}
use Rattle.value_core.specs.declared.raise.Raise.{Raise}
use Rattle.value_core.proofs.Order.{cons_at}
use Rattle.ast_core.specs.declared.expr.Expr.{Expr}
use Rattle.ast_core.specs.declared.expr.TextPart.{TextPart}
use Rattle.ast_core.specs.declared.expr.Pair.{Pair}
use Rattle.ast_core.specs.Syntax as syntax
use Rattle.ast_core.specs.ExprView.{Part, plain_part, expr_part, parts_of, pairs_of, expr_view, exprs_view}
use Rattle.ast_core.specs.NamesIn.{part_view, pair_view}
use Rattle.doc_model.specs.Environment as scope
use Rattle.doc_model.specs.Environment.{Env}
use Rattle.doc_model.specs.Evaluation.{Res, then_do, on_res, both, eval_expr, eval_exprs, eval_parts, printed, joined}
use Rattle.expr_eval.specs.declared.fault.EvalFault.{EvalFault}
use Rattle.expr_eval.specs.declared.fault.EvalFault.TheVariants.{Raised, OutOfMemory}
use Rattle.expr_eval.specs.Gives.{Gives}
use Rattle.expr_eval.specs.Operands.{joined_on}
use Rattle.expr_eval.specs.Chains.{prepend, part_text}
use Rattle.expr_eval.proofs.Results.{both_on}
use Rattle.expr_eval.proofs.Views.{seen_with}
use Rattle.expr_eval.proofs.Keys.{pairs_into}

-- ---- expressions

prepend_end : (vs : List model.Value) → prepend vs (Ok no_values) ≡ Ok (values_of vs)
prepend_end [] = refl
prepend_end (v ∷ vs) = ap (on_res (value v)) (prepend_end vs)

prepend_one : (vs : List model.Value) (v : model.Value) (r : Res Values) → prepend (vs ++ v ∷ []) r ≡ prepend vs (on_res (value v) r)
prepend_one [] v r = refl
prepend_one (w ∷ vs) v r = ap (on_res (value w)) (prepend_one vs v r)

prepend_err : (vs : List model.Value) (k : Raise) → prepend vs (Err k) ≡ Err k
prepend_err [] k = refl
prepend_err (v ∷ vs) k = ap (on_res (value v)) (prepend_err vs k)

pub exprs_on : {V : Type 0} (see : V → model.Value) (env : Env) (es : List Expr) (i : ℕ) (e : Expr) (vs : List V) (v : V) (total : Res Values) → i < length es → e ≡ get_or es i e
    → total ≡ prepend (map see vs) (eval_exprs env (exprs_view (drop i es))) → eval_expr env (expr_view e) ≡ Ok (see v)
    → total ≡ prepend (map see (vs ++ v ∷ [])) (eval_exprs env (exprs_view (drop (i + 1) es)))
exprs_on see env es i e vs v total h is so_far ev =
    let rest = eval_exprs env (exprs_view (drop (i + 1) es)) in
    so_far ∙ ap (λ d. prepend (map see vs) (eval_exprs env (exprs_view d))) (cons_at es i e h is)
    ∙ ap (λ r. prepend (map see vs) (both value r rest)) ev ∙ ap (prepend (map see vs)) (both_on value (see v) rest)
    ∙ sym (prepend_one (map see vs) (see v) rest) ∙ ap (λ l. prepend l rest) (sym (map-append see vs (v ∷ [])))

pub exprs_stop : {V : Type 0} (see : V → model.Value) {A B : Type 0} (to : A → model.Value) (all : B → Values) (env : Env) (es : List Expr) (i : ℕ) (e : Expr) (vs : List V) (fault : EvalFault) (total : Res Values) → i < length es → e ≡ get_or es i e
    → total ≡ prepend (map see vs) (eval_exprs env (exprs_view (drop i es))) → Gives to (Err fault) (eval_expr env (expr_view e)) → Gives all (Err fault) total
exprs_stop see to all env es i e vs (Raised k) total h is so_far stop =
    let rest = eval_exprs env (exprs_view (drop (i + 1) es)) in
    so_far ∙ ap (λ d. prepend (map see vs) (eval_exprs env (exprs_view d))) (cons_at es i e h is)
    ∙ ap (λ r. prepend (map see vs) (both value r rest)) stop ∙ prepend_err (map see vs) k
exprs_stop see to all env es i e vs OutOfMemory total h is so_far stop = tt

pub exprs_end : {V : Type 0} (see : V → model.Value) (env : Env) (es : List Expr) (i : ℕ) (vs : List V) (total : Res Values) → length es ≤ i
    → total ≡ prepend (map see vs) (eval_exprs env (exprs_view (drop i es))) → total ≡ Ok (values_of (map see vs))
exprs_end see env es i vs total h so_far = so_far ∙ ap (λ d. prepend (map see vs) (eval_exprs env (exprs_view d))) (drop_all i es h) ∙ prepend_end (map see vs)

-- ---- pieces of a text

add_add : (a b : List ℕ) (r : Res (List ℕ)) → on_res (λ s. a ++ s) (on_res (λ s. b ++ s) r) ≡ on_res (λ s. (a ++ b) ++ s) r
add_add a b (Ok s) = ap Ok (sym (append_assoc a b s))
add_add a b (Err e) = refl

add_none : (r : Res (List ℕ)) → on_res (λ s. [] ++ s) r ≡ r
add_none (Ok s) = refl
add_none (Err e) = refl

part_first : (env : Env) (q : Part) (ps : List Part) → eval_parts env (parts_of (q ∷ ps)) ≡ both (λ a b. a ++ b) (part_text env q) (eval_parts env (parts_of ps))
part_first env (plain_part t) ps = sym (both_on (λ a b. a ++ b) t (eval_parts env (parts_of ps)))
part_first env (expr_part e) ps = refl

pub parts_begin : (r : Res (List ℕ)) (t : List ℕ) → t ≡ [] → r ≡ on_res (λ s. t ++ s) r
parts_begin r t h = sym (ap (λ u. on_res (λ s. u ++ s) r) h ∙ add_none r)

pub parts_on : (env : Env) (ps : List TextPart) (i : ℕ) (p : TextPart) (t more : List ℕ) (total : Res (List ℕ)) → i < length ps → p ≡ get_or ps i p
    → total ≡ on_res (λ s. t ++ s) (eval_parts env (parts_of (map part_view (drop i ps)))) → part_text env (part_view p) ≡ Ok more
    → total ≡ on_res (λ s. (t ++ more) ++ s) (eval_parts env (parts_of (map part_view (drop (i + 1) ps))))
parts_on env ps i p t more total h is so_far ev =
    let rest = map part_view (drop (i + 1) ps) in
    so_far ∙ ap (λ d. on_res (λ s. t ++ s) (eval_parts env (parts_of (map part_view d)))) (cons_at ps i p h is)
    ∙ ap (on_res (λ s. t ++ s)) (part_first env (part_view p) rest)
    ∙ ap (λ r. on_res (λ s. t ++ s) (both (λ a b. a ++ b) r (eval_parts env (parts_of rest)))) ev
    ∙ ap (on_res (λ s. t ++ s)) (both_on (λ a b. a ++ b) more (eval_parts env (parts_of rest)))
    ∙ add_add t more (eval_parts env (parts_of rest))

pub parts_stop : {A B : Type 0} (to : A → List ℕ) (all : B → List ℕ) (env : Env) (ps : List TextPart) (i : ℕ) (p : TextPart) (t : List ℕ) (fault : EvalFault) (total : Res (List ℕ)) → i < length ps → p ≡ get_or ps i p
    → total ≡ on_res (λ s. t ++ s) (eval_parts env (parts_of (map part_view (drop i ps)))) → Gives to (Err fault) (part_text env (part_view p)) → Gives all (Err fault) total
parts_stop to all env ps i p t (Raised k) total h is so_far stop =
    let rest = map part_view (drop (i + 1) ps) in
    so_far ∙ ap (λ d. on_res (λ s. t ++ s) (eval_parts env (parts_of (map part_view d)))) (cons_at ps i p h is)
    ∙ ap (on_res (λ s. t ++ s)) (part_first env (part_view p) rest)
    ∙ ap (λ r. on_res (λ s. t ++ s) (both (λ a b. a ++ b) r (eval_parts env (parts_of rest)))) stop
parts_stop to all env ps i p t OutOfMemory total h is so_far stop = tt

pub parts_end : (env : Env) (ps : List TextPart) (i : ℕ) (t : List ℕ) (total : Res (List ℕ)) → length ps ≤ i
    → total ≡ on_res (λ s. t ++ s) (eval_parts env (parts_of (map part_view (drop i ps)))) → total ≡ Ok t
parts_end env ps i t total h so_far = so_far ∙ ap (λ d. on_res (λ s. t ++ s) (eval_parts env (parts_of (map part_view d)))) (drop_all i ps h) ∙ ap Ok (append-nil t)

-- ---- entries of a map

pub pairs_on : (env : Env) (ps : List Pair) (i : ℕ) (p : Pair) (k : List ℕ) (e : syntax.Expr) (es : List (KeyValue Value)) (v : Value) (total : Res Assigns) → i < length ps → p ≡ get_or ps i p → pair_view p ≡ (k, e)
    → total ≡ pairs_into env (assigns_view es) (pairs_of (map pair_view (drop i ps))) → eval_expr env e ≡ Ok (view v)
    → total ≡ pairs_into env (assigns_view (keyed.with_key k v es)) (pairs_of (map pair_view (drop (i + 1) ps)))
pairs_on env ps i p k e es v total h is seen so_far ev =
    let rest = pairs_of (map pair_view (drop (i + 1) ps)) in
    so_far ∙ ap (λ d. pairs_into env (assigns_view es) (pairs_of (map pair_view d))) (cons_at ps i p h is)
    ∙ ap (λ (q : List ℕ × syntax.Expr). then_do (eval_expr env q.1) (λ w. pairs_into env (scope.with_key q.0 w (assigns_view es)) rest)) seen
    ∙ ap (λ r. then_do r (λ w. pairs_into env (scope.with_key k w (assigns_view es)) rest)) ev
    ∙ ap (λ s. pairs_into env s rest) (sym (seen_with k v es))

pub pairs_stop : {A B : Type 0} (to : A → model.Value) (all : B → Assigns) (env : Env) (ps : List Pair) (i : ℕ) (p : Pair) (k : List ℕ) (e : syntax.Expr) (es : List (KeyValue Value)) (fault : EvalFault) (total : Res Assigns) → i < length ps → p ≡ get_or ps i p → pair_view p ≡ (k, e)
    → total ≡ pairs_into env (assigns_view es) (pairs_of (map pair_view (drop i ps))) → Gives to (Err fault) (eval_expr env e) → Gives all (Err fault) total
pairs_stop to all env ps i p k e es (Raised x) total h is seen so_far stop =
    let rest = pairs_of (map pair_view (drop (i + 1) ps)) in
    so_far ∙ ap (λ d. pairs_into env (assigns_view es) (pairs_of (map pair_view d))) (cons_at ps i p h is)
    ∙ ap (λ (q : List ℕ × syntax.Expr). then_do (eval_expr env q.1) (λ w. pairs_into env (scope.with_key q.0 w (assigns_view es)) rest)) seen
    ∙ ap (λ r. then_do r (λ w. pairs_into env (scope.with_key k w (assigns_view es)) rest)) stop
pairs_stop to all env ps i p k e es OutOfMemory total h is seen so_far stop = tt

pub pairs_end : (env : Env) (ps : List Pair) (i : ℕ) (s : Assigns) (total : Res Assigns) → length ps ≤ i
    → total ≡ pairs_into env s (pairs_of (map pair_view (drop i ps))) → total ≡ Ok s
pairs_end env ps i s total h so_far = so_far ∙ ap (λ d. pairs_into env s (pairs_of (map pair_view d))) (drop_all i ps h)

-- ---- items that are joined

-- the first text, and the others behind it
pub joined_first : (between : List ℕ) (v : model.Value) (vs : Values) → joined between (value v vs) ≡ both (λ a b. a ++ b) (printed v) (joined_on between vs)
joined_first between v no_values = by (printed v)
  where
    by : (r : Res (List ℕ)) → r ≡ both (λ a b. a ++ b) r (Ok [])
    by (Ok t) = ap Ok (sym (append-nil t))
    by (Err e) = refl
joined_first between v (value w ws) = by (printed v) (joined between (value w ws))
  where
    by : (r s : Res (List ℕ)) → both (λ a b. a ++ (between ++ b)) r s ≡ both (λ a b. a ++ b) r (on_res (λ b. between ++ b) s)
    by (Ok t) (Ok u) = refl
    by (Ok t) (Err e) = refl
    by (Err e) s = refl

pub items_on : (between t more : List ℕ) (vs : List Value) (i : ℕ) (v : Value) (total : Res (List ℕ)) → i < length vs → v ≡ get_or vs i v
    → total ≡ on_res (λ s. t ++ s) (joined_on between (values_view (drop i vs))) → printed (view v) ≡ Ok more
    → total ≡ on_res (λ s. ((t ++ between) ++ more) ++ s) (joined_on between (values_view (drop (i + 1) vs)))
items_on between t more vs i v total h is so_far ev =
    let rest = values_view (drop (i + 1) vs) in
    so_far ∙ ap (λ d. on_res (λ s. t ++ s) (joined_on between (values_view d))) (cons_at vs i v h is)
    ∙ add_add t between (joined between (value (view v) rest))
    ∙ ap (on_res (λ s. (t ++ between) ++ s)) (joined_first between (view v) rest)
    ∙ ap (λ r. on_res (λ s. (t ++ between) ++ s) (both (λ a b. a ++ b) r (joined_on between rest))) ev
    ∙ ap (on_res (λ s. (t ++ between) ++ s)) (both_on (λ a b. a ++ b) more (joined_on between rest))
    ∙ add_add (t ++ between) more (joined_on between rest)

pub items_stop : {A B : Type 0} (to : A → List ℕ) (all : B → List ℕ) (between t : List ℕ) (vs : List Value) (i : ℕ) (v : Value) (fault : EvalFault) (total : Res (List ℕ)) → i < length vs → v ≡ get_or vs i v
    → total ≡ on_res (λ s. t ++ s) (joined_on between (values_view (drop i vs))) → Gives to (Err fault) (printed (view v)) → Gives all (Err fault) total
items_stop to all between t vs i v (Raised k) total h is so_far stop =
    let rest = values_view (drop (i + 1) vs) in
    so_far ∙ ap (λ d. on_res (λ s. t ++ s) (joined_on between (values_view d))) (cons_at vs i v h is)
    ∙ add_add t between (joined between (value (view v) rest))
    ∙ ap (on_res (λ s. (t ++ between) ++ s)) (joined_first between (view v) rest)
    ∙ ap (λ r. on_res (λ s. (t ++ between) ++ s) (both (λ a b. a ++ b) r (joined_on between rest))) stop
items_stop to all between t vs i v OutOfMemory total h is so_far stop = tt

pub items_end : (between t : List ℕ) (vs : List Value) (i : ℕ) (total : Res (List ℕ)) → length vs ≤ i
    → total ≡ on_res (λ s. t ++ s) (joined_on between (values_view (drop i vs))) → total ≡ Ok t
items_end between t vs i total h so_far = so_far ∙ ap (λ d. on_res (λ s. t ++ s) (joined_on between (values_view d))) (drop_all i vs h) ∙ ap Ok (append-nil t)
