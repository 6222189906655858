use Rattle.std.proofs.Common.{rules}
use Rattle.diff_tree.proofs.Shapes.{long_reset}
use Rattle.diff_tree.proofs.stream_reading.read_reset.Goals as goal

pub returns-in_default-3-clause-bad : goal.returns-in_default-3-clause-bad
returns-in_default-3-clause-bad c bad = long_reset c.args.items.now (search (rules, c.in_default.len_at_least))
