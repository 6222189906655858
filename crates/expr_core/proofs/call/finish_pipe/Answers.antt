use Rattle.std.proofs.Common.{◌≡◌, ℕ, Bool, Option, None}
use Rattle.ast_core.specs.Syntax as model
use Rattle.ast_core.specs.ExprView.{expr_view}
use Rattle.expr_core.specs.Grammar.{meant}
use Rattle.expr_core.specs.Machine as machine
use Rattle.expr_core.proofs.Forms.{pipe_expr, pipe_place}
use Rattle.expr_core.proofs.call.finish_pipe.Goals as goal

same_pipe : (e f : model.Expr) (u w : Option ℕ) (d : Bool) → e ≡ f → u ≡ w → (let v : machine.Value = record { meant = meant e u; holds = 5; denies = d; callee = None } in v) ≡ record { meant = meant f w; holds = 5; denies = d; callee = None }
same_pipe e f u w d p q = cc

pub returns : goal.returns
returns c = same_pipe _ _ _ _ _ (pipe_expr _ _ _ _ _ _ _ _ c.as_str.ensures c.as_slice.ensures c.function_of-function.ensures c.known.ensures c.in_ok-expr.ensures) (pipe_place _ _ _ _ _ (expr_view c.args.left.meant.expr) _ _ _ _ _ _ c.as_str.ensures c.as_slice.ensures c.function_of-function.ensures c.if_unknown.ensures c.earlier-unknown.ensures c.earlier-unknown-2.ensures)
