use Rattle.std.proofs.Common.{◌∙◌}
use Rattle.expr_token.proofs.Passing.{last_innermost}
use Rattle.expr_token.proofs.opening.innermost.Goals as goal

pub returns : goal.returns
returns c = c.copied.ensures ∙ c.last.ensures.value ∙ last_innermost c.args.openings.now
