use Rattle.route_table.proofs.Segments.{tested_all}
use Rattle.route_table.proofs.find.text_of.Goals as goal

pub returns : goal.returns
returns c = tested_all c.args.part.now c.decoded.result c.decoded.ensures
