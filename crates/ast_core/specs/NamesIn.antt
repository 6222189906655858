-- The names in what a walk goes over, type by type.
use Rattle.std.specs.Prelude.{ℕ, List, [], ◌∷◌, ◌++◌, Option, None, Some}
use Rattle.ast_core.specs.declared.operators.BinaryOp.{BinaryOp}
use Rattle.ast_core.specs.declared.operators.Function.{Function}
use Rattle.ast_core.specs.declared.expr.Expr.{Expr}
use Rattle.ast_core.specs.declared.expr.TextPart.{TextPart}
use Rattle.ast_core.specs.declared.expr.Pair.{Pair}
use Rattle.ast_core.specs.declared.expr.PathStep.{PathStep}
use Rattle.ast_core.specs.declared.expr.Operand.{Operand}
use Rattle.ast_core.specs.declared.expr.PipeCall.{PipeCall}
use Rattle.ast_core.specs.declared.expr.Expr.TheFolds.{fold-TextPart, fold-Pair, fold-PathStep, fold-Operand, fold-PipeCall}
use Rattle.ast_core.specs.declared.pattern.Pattern.{Pattern}
use Rattle.ast_core.specs.declared.pattern.PatternPair.{PatternPair}
use Rattle.ast_core.specs.declared.pattern.Pattern.TheFolds.{fold-PatternPair}
use Rattle.ast_core.specs.declared.node.Attribute.{Attribute}
use Rattle.ast_core.specs.declared.node.AttributeValue.{AttributeValue}
use Rattle.ast_core.specs.declared.node.AttributeValue.TheVariants as form
use Rattle.ast_core.specs.declared.node.Node.{Node}
use Rattle.ast_core.specs.declared.node.Place.{Place}
use Rattle.ast_core.specs.declared.node.Clause.{Clause}
use Rattle.ast_core.specs.declared.node.Entry.{Entry}
use Rattle.ast_core.specs.declared.node.SlotBody.{SlotBody}
use Rattle.ast_core.specs.Syntax as model
use Rattle.ast_core.specs.Syntax.{Name, Exprs}
use Rattle.ast_core.specs.ExprView.{Part, plain_part, expr_part, Step, field_step, index_step, expr_step, path_step, part_step, operand_step, pair_step, call_step, expr_view}
use Rattle.ast_core.specs.PatternView.{pattern_step, pattern_pair_step, pattern_view}
use Rattle.ast_core.specs.NodeView.{SeenEntry, node_view, place_view, clause_view, entry_view, body_view}
use Rattle.ast_core.specs.Free.{free_names, free_exprs, bound, without, free_nodes, free_node, free_place, free_body, free_test, free_attributes, free_inside}

-- the names in each item of a list
abbrev pub all_names : {X : Type 0} → (X → List Name) → List X → List Name
all_names f [] = []
all_names f (x ∷ xs) = f x ++ all_names f xs

-- the names that the patterns of a list bind
abbrev pub all_bound : {X : Type 0} → (X → List (List ℕ)) → List X → List (List ℕ)
all_bound f [] = []
all_bound f (x ∷ xs) = f x ++ all_bound f xs

abbrev pub bound_by : Pattern → List (List ℕ)
bound_by p = bound (pattern_view p)

-- a key of a map pattern, and what its pattern binds
abbrev pub pattern_pair_view : PatternPair → List ℕ × model.Pattern
pattern_pair_view = fold-PatternPair model.Pattern (List ℕ × model.Pattern) pattern_step pattern_pair_step

abbrev pub bound_by_key : PatternPair → List (List ℕ)
bound_by_key p = bound (pattern_pair_view p).1

-- the names in an expression, and in what stands in its lists
abbrev pub expr_reads : Expr → List Name
expr_reads e = free_names (expr_view e)

abbrev pub part_view : TextPart → Part
part_view = fold-TextPart model.Expr Step Part (BinaryOp × model.Expr) (List ℕ × model.Expr) (Function × Exprs) expr_step path_step part_step operand_step pair_step call_step

abbrev pub part_names : Part → List Name
part_names (plain_part t) = []
part_names (expr_part e) = free_names e

abbrev pub part_reads : TextPart → List Name
part_reads p = part_names (part_view p)

abbrev pub step_view : PathStep → Step
step_view = fold-PathStep model.Expr Step Part (BinaryOp × model.Expr) (List ℕ × model.Expr) (Function × Exprs) expr_step path_step part_step operand_step pair_step call_step

abbrev pub step_names : Step → List Name
step_names (field_step k) = []
step_names (index_step e) = free_names e

abbrev pub step_reads : PathStep → List Name
step_reads s = step_names (step_view s)

abbrev pub pair_view : Pair → List ℕ × model.Expr
pair_view = fold-Pair model.Expr Step Part (BinaryOp × model.Expr) (List ℕ × model.Expr) (Function × Exprs) expr_step path_step part_step operand_step pair_step call_step

abbrev pub pair_reads : Pair → List Name
pair_reads p = free_names (pair_view p).1

abbrev pub operand_view : Operand → BinaryOp × model.Expr
operand_view = fold-Operand model.Expr Step Part (BinaryOp × model.Expr) (List ℕ × model.Expr) (Function × Exprs) expr_step path_step part_step operand_step pair_step call_step

abbrev pub operand_reads : Operand → List Name
operand_reads o = free_names (operand_view o).1

abbrev pub call_view : PipeCall → Function × Exprs
call_view = fold-PipeCall model.Expr Step Part (BinaryOp × model.Expr) (List ℕ × model.Expr) (Function × Exprs) expr_step path_step part_step operand_step pair_step call_step

abbrev pub call_reads : PipeCall → List Name
call_reads c = free_exprs (call_view c).1

-- the names in an optional expression, and in an attribute
abbrev pub option_reads : Option Expr → List Name
option_reads None = []
option_reads (Some e) = expr_reads e

abbrev pub value_reads : AttributeValue → List Name
value_reads (form.Double t) = []
value_reads (form.Single t) = []
value_reads form.Bare = []
value_reads (form.Put e) = expr_reads e
value_reads (form.Spread e) = expr_reads e
value_reads (form.Module m) = []

abbrev pub attribute_reads : Attribute → List Name
attribute_reads a = value_reads a.value

-- the names that are free in a node, and in what stands inside it
abbrev pub node_reads : Node → List Name
node_reads n = free_node (node_view n)

abbrev pub place_reads : Place → List Name
place_reads p = free_place (place_view p)

abbrev pub clause_names : model.Pattern × model.Nodes → List Name
clause_names c = without (bound c.0) (free_nodes c.1)

abbrev pub clause_reads : Clause → List Name
clause_reads c = clause_names (clause_view c)

abbrev pub body_reads : SlotBody → List Name
body_reads b = free_body (body_view b)

abbrev pub entry_names : SeenEntry → List Name
entry_names e = free_inside e.generator (free_test e.test ++ free_attributes e.attributes ++ free_body e.body)

abbrev pub entry_reads : Entry → List Name
entry_reads e = entry_names (entry_view e)
