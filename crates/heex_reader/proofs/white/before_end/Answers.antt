use Rattle.std.proofs.Common.{◌≡◌, List, ℕ, true, sym, ap, ◌∙◌}
use Rattle.std.specs.Prelude.{nat_eq}
use Rattle.std.specs.List.{ends_with}
use Rattle.heex_reader.proofs.Whites.{before_word}
use Rattle.heex_reader.proofs.white.before_end.Goals as goal

pub range-requires-clause-end_boundary : goal.range-requires-clause-end_boundary
range-requires-clause-end_boundary c =
    let front = c.without_end-front.result.now in
    let word = c.args.word.now in
    let ends : true ≡ ends_with nat_eq front word =
    sym c.if-not-ends_with.false ∙ c.ends_with.ensures.value ∙ ap (λ (bs : List ℕ). ends_with nat_eq bs c.as_bytes-2.result.now) c.as_bytes.ensures.value ∙ ap (ends_with nat_eq front) c.as_bytes-2.ensures.value in
    before_word front word c.utf8.word ends
