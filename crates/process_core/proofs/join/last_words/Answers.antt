use Rattle.std.proofs.Common.{◌≡◌, [], ◌∷◌, Some, codes, sym, ap}
use Rattle.std.proofs.lemmas.Result.{IfOk-weaker}
use Rattle.diff_tree.specs.Frame.{FrameBody, faulted}
use Rattle.wire_v2.specs.FrameLaws.{BodyStandsFor}
use Rattle.wire_v2.specs.declared.frame.FrameBody.TheVariants as body
use Rattle.doc_model.specs.Process.{frame_of}
use Rattle.doc_model.specs.Journal.{spelled}
use Rattle.process_core.specs.Joining.{last_words_of}
use Rattle.process_core.proofs.join.last_words.Goals as goal

pub returns : goal.returns
returns c =
    let page = c.args.page.now in
    IfOk-weaker c.own_frame.result
    (λ fs. (b : FrameBody) → BodyStandsFor (body.Faulted (Some c.in_ok-reason.reason)) b → fs ≡ spelled (frame_of page.join_ref page.join_ref page.topic b ∷ []))
    (λ fs. fs ≡ last_words_of page)
    (λ fs h. h (faulted (Some (codes "out of memory"))) (sym (ap (λ r. faulted (Some r)) c.in_ok-reason.ensures)))
    c.own_frame.ensures
