use Rattle.std.proofs.Common.{◌≡◌, get_or, sym, ap, ◌∙◌, arith}
use Rattle.std.proofs.lemmas.Str.{IsCharBoundary-after_ascii}
use Rattle.heex_token.specs.Tokens.{is_white}
use Rattle.heex_token.proofs.Cuts.{white_ascii}
use Rattle.heex_token.proofs.tag.tag_part.Goals as goal

pub returns-then-is_white-clause-within : goal.returns-then-is_white-clause-within
returns-then-is_white-clause-within c =
    let text = c.args.text.now in
    let at = c.args.at in
    let h : is_white (get_or text at 0) ≡ _ = sym (ap (λ l. is_white (get_or l at 0)) c.as_bytes.ensures.value) ∙ sym c.is_white.ensures ∙ c.if-is_white.true in
    (omega arith, IsCharBoundary-after_ascii text at c.utf8.text c.requires.some (white_ascii (get_or text at 0) h))
