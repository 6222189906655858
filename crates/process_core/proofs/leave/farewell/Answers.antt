use Rattle.std.proofs.Common.{◌≡◌, [], ◌∷◌, ◌++◌, refl, ap, ◌∙◌}
use Rattle.std.proofs.lemmas.Result.{IfOk-weaker}
use Rattle.diff_tree.specs.Frame.{closed, empty}
use Rattle.wire_v2.specs.View.{head_view}
use Rattle.doc_model.specs.Process.{reply_to}
use Rattle.doc_model.specs.Journal.{spelled}
use Rattle.process_core.proofs.Left.{farewell}
use Rattle.process_core.proofs.leave.farewell.Goals as goal

pub returns : goal.returns
returns c =
    let page = c.args.page.now in
    let head = head_view c.args.head.now in
    IfOk-weaker c.followed_by.result (λ fs. fs ≡ c.in_ok-answer.answer ++ c.in_ok-last.last) (λ fs. fs ≡ spelled (farewell head page.join_ref page.topic))
    (λ fs h. h ∙ ap (λ x. x ++ c.in_ok-last.last) (c.in_ok-answer.ensures empty refl) ∙ ap (λ x. spelled (reply_to head empty ∷ []) ++ x) (c.in_ok-last.ensures closed refl))
    c.followed_by.ensures
