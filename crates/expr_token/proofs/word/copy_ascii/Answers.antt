use Rattle.expr_token.proofs.Fronts.{start_at, end_at}
use Rattle.expr_token.proofs.word.copy_ascii.Goals as goal

pub range-requires-clause-start_boundary : goal.range-requires-clause-start_boundary
range-requires-clause-start_boundary c = λ h. start_at c.args.text.now c.args.at c.args.size c.requires.some c.requires.within c.requires.ascii

pub range-requires-clause-end_boundary : goal.range-requires-clause-end_boundary
range-requires-clause-end_boundary c = end_at c.args.text.now c.args.at c.args.size c.utf8.text c.requires.some c.requires.within c.requires.ascii
