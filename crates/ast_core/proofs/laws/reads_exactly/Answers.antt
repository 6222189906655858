use Rattle.ast_core.proofs.Members.{exact_assigns, exact_variables}
use Rattle.ast_core.proofs.laws.reads_exactly.Goals as goal

pub returns-clause-assigns : goal.returns-clause-assigns
returns-clause-assigns c = exact_assigns

pub returns-clause-variables : goal.returns-clause-variables
returns-clause-variables c = exact_variables
