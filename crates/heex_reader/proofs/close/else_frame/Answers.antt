use Rattle.heex_reader.proofs.Closes.{else_leads}
use Rattle.heex_reader.proofs.close.else_frame.Goals as goal

pub returns : goal.returns
returns c = λ place stands all.
    else_leads place c.args.at c.args.here c.args.frame c.args.frames c.other_branch-form.result c.nodes_in.result c.reopened.result
    c.nodes_in.ensures c.other_branch-form.ensures (c.reopened.ensures place stands all)
