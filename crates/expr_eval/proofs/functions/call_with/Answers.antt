use Rattle.std.proofs.Common.{◌≤◌, length, arith}
use Rattle.expr_eval.proofs.Views.{other_count}
use Rattle.expr_eval.proofs.functions.call_with.Goals as goal

pub returns-in-len4-up : goal.returns-in-len4-up
returns-in-len4-up c =
    let many : 4 ≤ length c.args.arguments.now = c.in-len4-up.len_at_least in
    other_count c.args.function c.args.arguments.now (λ e. absurd (omega arith)) (λ e. absurd (omega arith)) (λ e. absurd (omega arith))
