use Rattle.std.proofs.Common.{◌≡◌, ℕ, ◌+◌, List, length, subst}
use Rattle.std.specs.List.{suffix_len}
use Rattle.heex_token.specs.Tokens.{is_white}
use Rattle.heex_reader.proofs.Whites.{end_cut}
use Rattle.heex_reader.proofs.white.without_end.Goals as goal

pub range-requires-clause-end_boundary : goal.range-requires-clause-end_boundary
range-requires-clause-end_boundary c =
    let n = c.length_before_white-end.result in
    end_cut c.args.text.now n (subst (λ (bs : List ℕ). n + suffix_len is_white bs ≡ length bs) c.as_bytes.ensures.value c.length_before_white-end.ensures)
