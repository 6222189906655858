use Rattle.std.proofs.Common.{rules}
use Rattle.diff_tree.proofs.Shapes.{few_items}
use Rattle.diff_tree.proofs.stream_reading.stream_of_items.Goals as goal

pub returns-in_default-clause-bad : goal.returns-in_default-clause-bad
returns-in_default-clause-bad c bad = few_items c.args.rows c.args.items.now (search (rules, c.in_default.len_below))
