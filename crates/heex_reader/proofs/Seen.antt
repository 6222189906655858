-- The renderings of slots, and how they are seen.
use Rattle.std.proofs.Common.{◌≡◌, ◌↔◌, IsTrue, Bool, true, false, ℕ, List, [], ◌∷◌, ◌++◌, map, Option, Some, None, option_map, Box, refl, sym, ap, ◌∙◌, subst}
use Rattle.std.specs.declared.alloc.Global.{Global}
use Rattle.std.proofs.lemmas.Bool.{false≢true}
use Rattle.ast_core.specs.declared.operators.BinaryOp.{BinaryOp}
use Rattle.ast_core.specs.declared.operators.Function.{Function}
use Rattle.ast_core.specs.declared.expr.Expr.{Expr}
use Rattle.ast_core.specs.declared.expr.TextPart.{TextPart}
use Rattle.ast_core.specs.declared.expr.Pair.{Pair}
use Rattle.ast_core.specs.declared.expr.PathStep.{PathStep}
use Rattle.ast_core.specs.declared.expr.Operand.{Operand}
use Rattle.ast_core.specs.declared.expr.PipeCall.{PipeCall}
use Rattle.ast_core.specs.declared.expr.Expr.TheOpen.{Expr-F}
use Rattle.ast_core.specs.declared.expr.Expr.TheVariants as form
use Rattle.ast_core.specs.declared.expr.Expr.TheViews.{roll-Expr}
use Rattle.ast_core.specs.declared.expr.Expr.TheFolds.{map-Expr, fold-roll-Expr}
use Rattle.ast_core.specs.declared.node.Place.{Place}
use Rattle.ast_core.specs.declared.node.Node.{Node}
use Rattle.ast_core.specs.declared.node.Clause.{Clause}
use Rattle.ast_core.specs.declared.node.Entry.{Entry}
use Rattle.ast_core.specs.declared.node.SlotBody.{SlotBody}
use Rattle.ast_core.specs.declared.node.Node.TheOpen.{Place-F}
use Rattle.ast_core.specs.declared.node.Place.TheVariants as place
use Rattle.ast_core.specs.declared.node.Node.TheViews.{roll-Place}
use Rattle.ast_core.specs.declared.node.Node.TheFolds.{map-Place, fold-roll-Place}
use Rattle.ast_core.specs.Syntax as model
use Rattle.ast_core.specs.Syntax.{Exprs, nil_of, put, render_slot, list_of}
use Rattle.ast_core.specs.ExprView.{Part, Step, field_step, index_step, exprs_of, path_of, left_chain, right_chain, pipes_of, or_nil, expr_view, expr_step, path_step, part_step, operand_step, pair_step, call_step}
use Rattle.ast_core.specs.NamesIn.{part_view, pair_view, step_view, operand_view, call_view}
use Rattle.ast_core.specs.NodeView.{SeenEntry, node_view, place_view, clause_view, entry_view, body_view, node_step, place_step, clause_step, entry_step, body_step}
use Rattle.heex_reader.specs.Pieces.{rendered, rendered_by}

-- One level of an expression and of a place, seen.

seen : (x : Expr-F Expr PathStep TextPart Operand Pair PipeCall) → expr_view (roll-Expr x) ≡ expr_step (map-Expr _ _ _ _ _ _ _ _ _ _ _ _ expr_view step_view part_view operand_view pair_view call_view x)
seen = fold-roll-Expr model.Expr Step Part (BinaryOp × model.Expr) (List ℕ × model.Expr) (Function × Exprs) expr_step path_step part_step operand_step pair_step call_step

place_seen : (x : Place-F Node Place Clause Entry SlotBody) → place_view (roll-Place x) ≡ place_step (map-Place _ _ _ _ _ _ _ _ _ _ node_view place_view clause_view entry_view body_view x)
place_seen = fold-roll-Place model.Node model.Place (model.Pattern × model.Nodes) SeenEntry model.Body node_step place_step clause_step entry_step body_step

pub put_seen : (e : Expr) → place_view (place.Put e) ≡ put (expr_view e)
put_seen e = ap place_view (sym (place.rolls-Put e)) ∙ place_seen (Place-F.Put e)

pub slot_seen : (e : Expr) (a : Option Expr) → place_view (place.RenderSlot e a) ≡ render_slot (expr_view e) (or_nil (option_map expr_view a))
slot_seen e a = ap place_view (sym (place.rolls-RenderSlot e a)) ∙ place_seen (Place-F.RenderSlot e a)

-- a test that tells of no elements
pub some_left : {A : Type 0} (b : Bool) (xs : List A) → (IsTrue b ↔ (xs ≡ [])) → b ≡ false → xs ≡ [] → ⊥
some_left true xs h e k = false≢true (sym e)
some_left false xs h e k = false≢true (h.1 k)

-- Lists of arguments.

-- three arguments and more render nothing
pub rendered_many : (xs : List Expr) (e a : Expr) → (xs ≡ [] → ⊥) → rendered (exprs_of (map expr_view ((xs ++ e ∷ []) ++ a ∷ []))) ≡ None
rendered_many [] e a h = absurd (h refl)
rendered_many (x ∷ []) e a h = refl
rendered_many (x ∷ y ∷ []) e a h = refl
rendered_many (x ∷ y ∷ z ∷ xs) e a h = refl

-- Other expressions render nothing, but for a chain of one value.

pub list_by : (es : List Expr) → rendered_by (expr_view (form.List es)) ≡ rendered (exprs_of (map expr_view es))
list_by es = ap (λ (e : Expr). rendered_by (expr_view e)) (sym (form.rolls-List es)) ∙ ap rendered_by (seen (Expr-F.List es))

path_none : (e : model.Expr) (ss : List Step) → rendered_by e ≡ None → rendered_by (path_of e ss) ≡ None
path_none e [] h = h
path_none e (field_step k ∷ ss) h = path_none (model.field e k) ss refl
path_none e (index_step i ∷ ss) h = path_none (model.index e i) ss refl

left_none : (e : model.Expr) (os : List (BinaryOp × model.Expr)) → rendered_by e ≡ None → rendered_by (left_chain e os) ≡ None
left_none e [] h = h
left_none e (o ∷ os) h = left_none (model.binary o.0 e o.1) os refl

pipes_none : (e : model.Expr) (cs : List (Function × Exprs)) → rendered_by e ≡ None → rendered_by (pipes_of e cs) ≡ None
pipes_none e [] h = h
pipes_none e (c ∷ cs) h = pipes_none (model.call_of c.0 (model.expr e c.1)) cs refl

path_is : (b : Box Expr Global) (ss : List PathStep) → rendered_by (expr_view (form.Path b ss)) ≡ rendered_by (path_of (expr_view b.value) (map step_view ss))
path_is b ss = ap (λ (e : Expr). rendered_by (expr_view e)) (sym (form.rolls-Path b ss)) ∙ ap rendered_by (seen (Expr-F.Path b ss))

pub path_alone : (b : Box Expr Global) (ss : List PathStep) → ss ≡ [] → rendered_by (expr_view (form.Path b ss)) ≡ rendered_by (expr_view b.value)
path_alone b ss h = path_is b ss ∙ ap (λ (rs : List PathStep). rendered_by (path_of (expr_view b.value) (map step_view rs))) h

pub path_on : (b : Box Expr Global) (ss : List PathStep) → (ss ≡ [] → ⊥) → rendered_by (expr_view (form.Path b ss)) ≡ None
path_on b [] h = absurd (h refl)
path_on b (s ∷ ss) h = path_is b (s ∷ ss) ∙ by (step_view s)
  where
    by : (t : Step) → rendered_by (path_of (expr_view b.value) (t ∷ map step_view ss)) ≡ None
    by (field_step k) = path_none (model.field (expr_view b.value) k) (map step_view ss) refl
    by (index_step i) = path_none (model.index (expr_view b.value) i) (map step_view ss) refl

left_is : (b : Box Expr Global) (os : List Operand) → rendered_by (expr_view (form.LeftChain b os)) ≡ rendered_by (left_chain (expr_view b.value) (map operand_view os))
left_is b os = ap (λ (e : Expr). rendered_by (expr_view e)) (sym (form.rolls-LeftChain b os)) ∙ ap rendered_by (seen (Expr-F.LeftChain b os))

pub left_alone : (b : Box Expr Global) (os : List Operand) → os ≡ [] → rendered_by (expr_view (form.LeftChain b os)) ≡ rendered_by (expr_view b.value)
left_alone b os h = left_is b os ∙ ap (λ (rs : List Operand). rendered_by (left_chain (expr_view b.value) (map operand_view rs))) h

pub left_on : (b : Box Expr Global) (os : List Operand) → (os ≡ [] → ⊥) → rendered_by (expr_view (form.LeftChain b os)) ≡ None
left_on b [] h = absurd (h refl)
left_on b (o ∷ os) h = left_is b (o ∷ os) ∙ left_none (model.binary (operand_view o).0 (expr_view b.value) (operand_view o).1) (map operand_view os) refl

right_is : (b : Box Expr Global) (os : List Operand) → rendered_by (expr_view (form.RightChain b os)) ≡ rendered_by (right_chain (expr_view b.value) (map operand_view os))
right_is b os = ap (λ (e : Expr). rendered_by (expr_view e)) (sym (form.rolls-RightChain b os)) ∙ ap rendered_by (seen (Expr-F.RightChain b os))

pub right_alone : (b : Box Expr Global) (os : List Operand) → os ≡ [] → rendered_by (expr_view (form.RightChain b os)) ≡ rendered_by (expr_view b.value)
right_alone b os h = right_is b os ∙ ap (λ (rs : List Operand). rendered_by (right_chain (expr_view b.value) (map operand_view rs))) h

pub right_on : (b : Box Expr Global) (os : List Operand) → (os ≡ [] → ⊥) → rendered_by (expr_view (form.RightChain b os)) ≡ None
right_on b [] h = absurd (h refl)
right_on b (o ∷ os) h = right_is b (o ∷ os)

pipes_are : (b : Box Expr Global) (cs : List PipeCall) → rendered_by (expr_view (form.Pipes b cs)) ≡ rendered_by (pipes_of (expr_view b.value) (map call_view cs))
pipes_are b cs = ap (λ (e : Expr). rendered_by (expr_view e)) (sym (form.rolls-Pipes b cs)) ∙ ap rendered_by (seen (Expr-F.Pipes b cs))

pub pipes_alone : (b : Box Expr Global) (cs : List PipeCall) → cs ≡ [] → rendered_by (expr_view (form.Pipes b cs)) ≡ rendered_by (expr_view b.value)
pipes_alone b cs h = pipes_are b cs ∙ ap (λ (rs : List PipeCall). rendered_by (pipes_of (expr_view b.value) (map call_view rs))) h

pub pipes_on : (b : Box Expr Global) (cs : List PipeCall) → (cs ≡ [] → ⊥) → rendered_by (expr_view (form.Pipes b cs)) ≡ None
pipes_on b [] h = absurd (h refl)
pipes_on b (c ∷ cs) h = pipes_are b (c ∷ cs) ∙ pipes_none (model.call_of (call_view c).0 (model.expr (expr_view b.value) (call_view c).1)) (map call_view cs) refl
