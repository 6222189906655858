use Rattle.std.proofs.Common.{rules}
use Rattle.diff_render.proofs.Numbered.{puts_value}
use Rattle.diff_render.proofs.values.put_at.Goals as goal

pub returns : goal.returns
returns c = puts_value c.insert.result c.args.number c.args.value c.args.places.now c.insert.new.self c.from_string-key.result (search rules) c.insert.ensures.ok
