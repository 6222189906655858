use Rattle.heex_reader.proofs.Puts.{put_answered}
use Rattle.heex_reader.proofs.tag.put.Goals as goal

pub returns-in-Attribute-clause-said : goal.returns-in-Attribute-clause-said
returns-in-Attribute-clause-said c = put_answered c.push.result c.args.tag.now c.args.said c.push.new.self c.in-Attribute.attribute c.in-Attribute.is c.push.ensures.ok
