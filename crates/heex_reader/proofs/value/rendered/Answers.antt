use Rattle.std.proofs.Common.{List, [], ◌∷◌, ◌++◌, map, sym, ap, ◌∙◌}
use Rattle.ast_core.specs.declared.expr.Expr.{Expr}
use Rattle.ast_core.specs.ExprView.{expr_view, exprs_of}
use Rattle.heex_reader.specs.Pieces.{rendered}
use Rattle.heex_reader.proofs.Seen.{some_left, rendered_many}
use Rattle.heex_reader.proofs.value.rendered.Goals as goal

pub returns-then-not-is_empty : goal.returns-then-not-is_empty
returns-then-not-is_empty c =
    sym (ap (λ (xs : List Expr). rendered (exprs_of (map expr_view xs))) (c.in_ok-last.ensures ∙ ap (λ (xs : List Expr). xs ++ c.in_ok-last.last ∷ []) c.in-Some.ensures)
    ∙ rendered_many c.pop-2.new.self c.in-Some.first c.in_ok-last.last (some_left c.is_empty.result c.pop-2.new.self c.is_empty.ensures c.if-not-is_empty.true))
