use Rattle.ast_core.specs.PatternView.{pattern_view}
use Rattle.heex_reader.specs.Seen.{content_view}
use Rattle.heex_reader.proofs.Within.{clause_leads_on}
use Rattle.heex_reader.proofs.machine.later_clause.Goals as goal

pub returns : goal.returns
returns c = λ place all none.
    clause_leads_on place c.args.at (pattern_view c.args.pattern) (content_view c.args.state.here) c.args.state.frames c.next_clause.result none (c.next_clause.ensures place all)
