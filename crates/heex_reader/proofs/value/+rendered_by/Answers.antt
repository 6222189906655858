use Rattle.std.proofs.Common.{sym, ap, ◌∙◌}
use Rattle.ast_core.specs.declared.expr.Expr.{Expr}
use Rattle.ast_core.specs.ExprView.{expr_view}
use Rattle.heex_reader.specs.Pieces.{rendered_by}
use Rattle.heex_reader.proofs.Seen.{some_left, path_on, left_on, right_on, pipes_on}
use Rattle.heex_reader.proofs.value.+rendered_by.Goals as goal

pub returns-then-not-is_empty : goal.returns-then-not-is_empty
returns-then-not-is_empty t c =
    sym (ap (λ (e : Expr). rendered_by (expr_view e)) c.in-Path.is ∙ path_on c.in-Path.value c.in-Path.steps (some_left c.is_empty.result c.in-Path.steps c.is_empty.ensures c.if-not-is_empty.true))

pub returns-then-not-is_empty-2 : goal.returns-then-not-is_empty-2
returns-then-not-is_empty-2 t c =
    sym (ap (λ (e : Expr). rendered_by (expr_view e)) c.in-LeftChain.is ∙ left_on c.in-LeftChain.first c.in-LeftChain.rest (some_left c.is_empty-in-LeftChain.result c.in-LeftChain.rest c.is_empty-in-LeftChain.ensures c.if-not-is_empty-2.true))

pub returns-then-not-is_empty-3 : goal.returns-then-not-is_empty-3
returns-then-not-is_empty-3 t c =
    sym (ap (λ (e : Expr). rendered_by (expr_view e)) c.in-RightChain.is ∙ right_on c.in-RightChain.first c.in-RightChain.rest (some_left c.is_empty-in-RightChain.result c.in-RightChain.rest c.is_empty-in-RightChain.ensures c.if-not-is_empty-3.true))

pub returns-then-not-is_empty-4 : goal.returns-then-not-is_empty-4
returns-then-not-is_empty-4 t c =
    sym (ap (λ (e : Expr). rendered_by (expr_view e)) c.in-Pipes.is ∙ pipes_on c.in-Pipes.first c.in-Pipes.calls (some_left c.is_empty-in-Pipes.result c.in-Pipes.calls c.is_empty-in-Pipes.ensures c.if-not-is_empty-4.true))
