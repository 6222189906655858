use Rattle.std.proofs.Common.{[], ◌∷◌, false, refl, ap, ◌∙◌}
use Rattle.diff_tree.specs.Frame.{empty}
use Rattle.wire_v2.specs.View.{head_view}
use Rattle.doc_model.specs.Process.{if_fresh, reply_to, step_event, unchanged}
use Rattle.std.proofs.Common.{Some}
use Rattle.process_core.specs.Joining.{frames_only}
use Rattle.process_core.specs.Leaving.{fresh_page}
use Rattle.process_core.proofs.Left.{absent, answers_by, no_page, replied, silence, some_page}
use Rattle.process_core.proofs.leave.absent_component.Goals as goal

pub returns-then-is_none : goal.returns-then-is_none
returns-then-is_none c world compiled free name v n s w keeps fits =
    silence compiled c.args.process.now c.args.process.now s w c.args.head.now (λ p. step_event world s p w (head_view c.args.head.now) name v (Some n)) c.silent.result keeps
    (no_page c.fresh_page.result (fresh_page c.args.process.now.up c.args.head.now) c.if-is_none.ensures c.fresh_page.ensures) refl c.silent.ensures

pub returns : goal.returns
returns c world compiled free name v n s w keeps fits =
    let head = c.args.head.now in
    let kept = c.args.process.now in
    let found = some_page c.fresh_page.result (fresh_page kept.up head) c.if-is_none.ensures c.fresh_page.ensures in
    answers_by compiled w (if_fresh s w (head_view head) (λ p. step_event world s p w (head_view head) name v (Some n))) (if_fresh s w (head_view head) (λ p. unchanged s w (reply_to (head_view head) empty ∷ []))) kept kept c.only.result c.only.result
    (absent world compiled kept s w (head_view head) name v n keeps) refl refl
    (replied compiled kept kept s w head found.0 (reply_to (head_view head) empty ∷ []) c.only.result keeps found.1 refl (c.only.ensures ∙ ap (λ fs. frames_only fs false) (c.in_ok-frames.ensures empty refl)))
