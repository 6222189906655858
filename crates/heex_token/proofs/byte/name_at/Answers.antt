use Rattle.std.proofs.Common.{◌≡◌, ◌+◌, length, drop, sym, ap, ◌∙◌, subst, arith}
use Rattle.std.specs.List.{prefix_len}
use Rattle.std.specs.Str.{IsCharBoundary}
use Rattle.std.proofs.lemmas.Result.{IfOk-weaker}
use Rattle.heex_token.specs.Tokens.{in_name}
use Rattle.heex_token.proofs.Cuts.{name_cut}
use Rattle.heex_token.proofs.byte.name_at.Goals as goal

pub overflow_add-end : goal.overflow_add-end
overflow_add-end c =
    let n : c.name_length.result ≡ prefix_len in_name (drop c.args.at c.args.text.now) = c.name_length.ensures ∙ ap (prefix_len in_name) (c.split_at.ensures.back ∙ ap (drop c.args.at) c.as_bytes.ensures.value) in
    let cut : IsCharBoundary c.args.text.now (c.args.at + prefix_len in_name (drop c.args.at c.args.text.now)) = name_cut c.args.text.now c.args.at c.requires.0 in
    omega (arith, n, cut.0, c.as_bytes.ensures.len)

pub range-requires-clause-end_boundary : goal.range-requires-clause-end_boundary
range-requires-clause-end_boundary c =
    let n : c.name_length.result ≡ prefix_len in_name (drop c.args.at c.args.text.now) = c.name_length.ensures ∙ ap (prefix_len in_name) (c.split_at.ensures.back ∙ ap (drop c.args.at) c.as_bytes.ensures.value) in
    subst (λ i. IsCharBoundary c.args.text.now (c.args.at + i)) (sym n) (name_cut c.args.text.now c.args.at c.requires.0)

pub returns-clause-cut : goal.returns-clause-cut
returns-clause-cut c =
    let text = c.args.text.now in
    let at = c.args.at in
    let n : c.name_length.result ≡ prefix_len in_name (drop at text) = c.name_length.ensures ∙ ap (prefix_len in_name) (c.split_at.ensures.back ∙ ap (drop at) c.as_bytes.ensures.value) in
    let len : prefix_len in_name (drop at text) ≡ length c.range.result.now = omega (arith, n, c.range.ensures.len) in
    let cut : IsCharBoundary text (at + length c.range.result.now) = subst (λ i. IsCharBoundary text (at + i)) len (name_cut text at c.requires.0) in
    IfOk-weaker c.copy_of.result (λ t. t ≡ c.range.result.now) (λ t. IsCharBoundary text (at + length t)) (λ t e. subst (λ l. IsCharBoundary text (at + length l)) (sym e) cut) c.copy_of.ensures
