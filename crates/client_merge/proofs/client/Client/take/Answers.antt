use Rattle.std.proofs.Common.{rules}
use Rattle.client_merge.specs.Page.{tree_held}
use Rattle.client_merge.proofs.client.Client.take.Goals as goal

pub returns-in_err-frame-clause-bad : goal.returns-in_err-frame-clause-bad
returns-in_err-frame-clause-bad c bad = c.in_err-frame.ensures.bad (search rules) (tree_held c.args.self.now)
