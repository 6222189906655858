use Rattle.ast_core.proofs.Members.{assigns_ascend, variables_ascend}
use Rattle.ast_core.proofs.laws.reads_in_order.Goals as goal

pub returns-clause-assigns : goal.returns-clause-assigns
returns-clause-assigns c = assigns_ascend

pub returns-clause-variables : goal.returns-clause-variables
returns-clause-variables c = variables_ascend
