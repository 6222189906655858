use Rattle.heex_reader.specs.Seen.{content_view, seen}
use Rattle.heex_reader.proofs.Within.{place_leads}
use Rattle.heex_reader.proofs.machine.put_place.Goals as goal

pub returns : goal.returns
returns c = λ place stands all.
    place_leads place c.args.spot c.args.place (content_view c.args.state.here) (seen c.args.state.frames) c.put.result stands (c.put.ensures place all)
