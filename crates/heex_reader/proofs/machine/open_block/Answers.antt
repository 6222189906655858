use Rattle.heex_reader.specs.Seen.{content_view, block_view, framed, seen}
use Rattle.heex_reader.proofs.Within.{block_leads}
use Rattle.heex_reader.proofs.machine.open_block.Goals as goal

pub returns : goal.returns
returns c = λ place stands all.
    block_leads place c.args.spot.byte (block_view c.args.block) (content_view c.args.state.here) (framed c.open_of.result c.args.spot.byte (content_view c.args.state.here)) (seen c.args.state.frames) c.opened.result
    (c.open_of.ensures c.args.spot.byte (content_view c.args.state.here)) (c.opened.ensures place stands all)
