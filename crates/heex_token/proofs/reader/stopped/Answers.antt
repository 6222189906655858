use Rattle.std.proofs.Common.{◌+◌, sym, ap, ◌∙◌}
use Rattle.heex_token.specs.Tokens.{tag}
use Rattle.heex_token.specs.Pieces.{with_attributes, stopped}
use Rattle.heex_token.proofs.Tags.{before_tag, before_bad, before_unclosed}
use Rattle.heex_token.proofs.reader.stopped.Goals as goal

pub returns-in-Ends-clause-value : goal.returns-in-Ends-clause-value
returns-in-Ends-clause-value c =
    let r = c.args.reader in
    ap (λ n. tag r.attributes c.in-Ends.end (r.at + n)) c.end_size.ensures ∙ sym (before_tag r.attributes c.in-Ends.end _) ∙ ap (λ s. with_attributes r.attributes (stopped r.at s)) (sym c.in-Ends.is)

pub returns-in-Bad-clause-value : goal.returns-in-Bad-clause-value
returns-in-Bad-clause-value c =
    let r = c.args.reader in
    sym (before_bad r.attributes r.at) ∙ ap (λ s. with_attributes r.attributes (stopped r.at s)) (sym c.in-Bad.is)

pub returns-in-CutOff-clause-value : goal.returns-in-CutOff-clause-value
returns-in-CutOff-clause-value c =
    let r = c.args.reader in
    sym (before_unclosed r.attributes) ∙ ap (λ s. with_attributes r.attributes (stopped r.at s)) (sym c.in-CutOff.is)
