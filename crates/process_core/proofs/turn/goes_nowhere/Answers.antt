use Rattle.std.proofs.Common.{◌≡◌, codes, sym, ◌∙◌, ap}
use Rattle.diff_tree.specs.Frame.{refusal}
use Rattle.process_core.specs.declared.outcome.Outcome.{Outcome}
use Rattle.process_core.proofs.turn.goes_nowhere.Goals as goal

pub returns : goal.returns
returns c =
    let copied : c.in_ok-reason.reason ≡ codes "no route" = c.in_ok-reason.ensures in (
      ap (λ (x : Outcome). x.frames) c.only.ensures ∙ c.in_ok-frames.ensures (refusal (codes "no route")) (ap refusal (sym copied)),
      ap (λ (x : Outcome). x.sent) c.only.ensures,
      ap (λ (x : Outcome). x.actions) c.only.ensures,
      ap (λ (x : Outcome). x.crashed) c.only.ensures,
    )
