use Rattle.std.proofs.Common.{◌≡◌, ap, sym, ◌∙◌, subst}
use Rattle.std.specs.Str.{IsCharBoundary}
use Rattle.heex_reader.specs.Pieces.{white_before}
use Rattle.heex_reader.proofs.Whites.{white_cut}
use Rattle.heex_reader.proofs.white.trimmed.Goals as goal

pub behind-requires : goal.behind-requires
behind-requires c = λ _.
    let front = c.without_end-front.result.now in
    let same : c.white_before.result ≡ white_before front = c.white_before.ensures ∙ ap white_before c.as_bytes.ensures.value in
    subst (IsCharBoundary front) (sym same) (white_cut front c.without_end-front.utf8)
