use Rattle.std.proofs.Common.{◌+◌, drop, sym, ap, ◌∙◌, arith}
use Rattle.std.specs.List.{prefix_len}
use Rattle.std.proofs.lemmas.List.Sums.{prefix_len-le-length}
use Rattle.heex_token.specs.Tokens.{is_white, end_from}
use Rattle.heex_token.proofs.Cuts.{none_behind}
use Rattle.heex_token.proofs.Tags.{white_run}
use Rattle.heex_token.proofs.reader.end_from.Goals as goal

pub split_at-requires-2 : goal.split_at-requires-2
split_at-requires-2 c = omega (arith, c.white_length-size.ensures, prefix_len-le-length is_white c.split_at.result.1.now)

pub end_here-requires-clause-black : goal.end_here-requires-clause-black
end_here-requires-clause-black c =
    let rest = c.split_at.result.1.now in
    ap (prefix_len is_white) (c.split_at-2.ensures.back ∙ ap (λ n. drop n rest) c.white_length-size.ensures) ∙ none_behind is_white rest

pub returns-clause-value : goal.returns-clause-value
returns-clause-value c =
    let rest = c.split_at.result.1.now in
    let from = c.args.from in
    c.end_here.ensures.value
    ∙ ap (end_from (from + c.white_length-size.result)) c.split_at-2.ensures.back
    ∙ ap (λ n. end_from (from + n) (drop n rest)) c.white_length-size.ensures
    ∙ sym (white_run rest from)
    ∙ ap (end_from from) (c.split_at.ensures.back ∙ ap (drop from) c.as_bytes.ensures.value)
