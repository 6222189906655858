use Rattle.template_reader.proofs.Formulas.{formulas_are_spelled}
use Rattle.template_reader.proofs.laws.formulas_are_spelled.Goals as goal

pub returns : goal.returns
returns c = formulas_are_spelled
