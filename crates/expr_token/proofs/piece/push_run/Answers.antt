use Rattle.std.proofs.Common.{drop, arith, ap, ◌∙◌}
use Rattle.std.specs.List.{prefix_len}
use Rattle.expr_token.specs.Pieces.{is_plain}
use Rattle.expr_token.proofs.PieceFacts.{run_cut}
use Rattle.expr_token.proofs.piece.push_run.Goals as goal

pub range-requires-clause-end_boundary : goal.range-requires-clause-end_boundary
range-requires-clause-end_boundary c = run_cut c.args.text.now c.args.at c.run_length.result c.requires (c.run_length.ensures ∙ ap (prefix_len is_plain) (c.split_at.ensures.back ∙ ap (drop c.args.at) c.as_bytes.ensures.value))

pub returns-clause-cut : goal.returns-clause-cut
returns-clause-cut c = run_cut c.args.text.now c.args.at c.run_length.result c.requires (c.run_length.ensures ∙ ap (prefix_len is_plain) (c.split_at.ensures.back ∙ ap (drop c.args.at) c.as_bytes.ensures.value))

pub overflow_add-end : goal.overflow_add-end
overflow_add-end c =
    let b = run_cut c.args.text.now c.args.at c.run_length.result c.requires (c.run_length.ensures ∙ ap (prefix_len is_plain) (c.split_at.ensures.back ∙ ap (drop c.args.at) c.as_bytes.ensures.value)) in
    omega (arith, b.0, c.as_bytes.ensures.len)
