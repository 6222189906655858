use Rattle.std.proofs.Common.{sym, ap, ◌∙◌}
use Rattle.diff_tree.specs.Frame.{refusal}
use Rattle.process_core.specs.Joining.{frames_only}
use Rattle.process_core.proofs.join.refused.Goals as goal

pub returns : goal.returns
returns c = c.only.ensures ∙ ap (λ fs. frames_only fs c.args.crashed) (c.in_ok-frames.ensures (refusal c.args.reason.now) (sym (ap refusal c.in_ok-reason.ensures)))
