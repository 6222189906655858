use Rattle.std.proofs.Common.{sym, subst}
use Rattle.heex_reader.specs.declared.sign.Sign.{Sign}
use Rattle.heex_reader.specs.Machine as machine
use Rattle.heex_reader.specs.Seen.{content_view, sign_view, seen}
use Rattle.heex_reader.specs.Leads.{Leads}
use Rattle.heex_reader.proofs.machine.within.Goals as goal

pub returns-in-Words : goal.returns-in-Words
returns-in-Words c = λ place stands all none.
    subst (λ (s : Sign). Leads place c.put_text.result (machine.within place c.args.spot.byte (sign_view s) (content_view c.args.state.here) (seen c.args.state.frames)))
    (sym c.in-Words.is) (c.put_text.ensures place c.args.spot.byte all)
