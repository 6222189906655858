use Rattle.heex_reader.proofs.Fitting.{fits_all}
use Rattle.heex_reader.proofs.reader.tokens_in.Goals as goal

pub returns-in-Ok : goal.returns-in-Ok
returns-in-Ok c =
    let found = c.in-Ok.ensures in
    (found.answer, fits_all c.args.text.now c.in-Ok.tokens c.requires found.inner found.slices)
