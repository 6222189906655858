use Rattle.heex_reader.specs.Seen.{content_view, seen}
use Rattle.heex_reader.proofs.Within.{text_leads}
use Rattle.heex_reader.proofs.machine.put_text.Goals as goal

pub returns : goal.returns
returns c = λ place at all.
    text_leads place at c.args.text (content_view c.args.state.here) (seen c.args.state.frames) c.put.result (c.put.ensures place all)
