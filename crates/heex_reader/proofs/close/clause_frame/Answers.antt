use Rattle.ast_core.specs.PatternView.{pattern_view}
use Rattle.heex_reader.proofs.Closes.{clause_leads}
use Rattle.heex_reader.proofs.close.clause_frame.Goals as goal

pub returns : goal.returns
returns c = λ place stands all.
    clause_leads place c.args.at (pattern_view c.args.pattern) c.args.here c.args.frame c.args.frames c.in_ok-form.form c.nodes_in.result c.reopened.result
    c.nodes_in.ensures c.in_ok-form.ensures (c.reopened.ensures place stands all)
