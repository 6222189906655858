use Rattle.std.proofs.Common.{◌∙◌, ap, reverse}
use Rattle.expr_core.proofs.Chains.{gathered_seen}
use Rattle.expr_core.proofs.chain.chain.Goals as goal

pub returns : goal.returns
returns c =
    gathered_seen c.args.gathered c.in_ok-first.first c.from_vec-rest.result c.in_ok-first.ensures.ok
    (c.from_vec-rest.ensures ∙ c.reverse.ensures.items ∙ ap reverse c.into_vec-rest.ensures)
