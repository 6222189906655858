use Rattle.std.proofs.Common.{[], ◌∷◌, false, refl, ap, ◌∙◌}
use Rattle.diff_tree.specs.Frame.{no_cids}
use Rattle.wire_v2.specs.View.{head_view}
use Rattle.doc_model.specs.Process.{reply_to, unchanged}
use Rattle.process_core.specs.Joining.{frames_only}
use Rattle.process_core.specs.Leaving.{fresh_page}
use Rattle.process_core.proofs.Left.{no_page, replied, silence, some_page}
use Rattle.process_core.proofs.leave.destroyed.Goals as goal

pub returns-then-is_none : goal.returns-then-is_none
returns-then-is_none c compiled free s w keeps fits =
    silence compiled c.args.process.now c.args.process.now s w c.args.head (λ p. unchanged s w (reply_to (head_view c.args.head) no_cids ∷ [])) c.silent.result keeps
    (no_page c.fresh_page.result (fresh_page c.args.process.now.up c.args.head) c.if-is_none.ensures c.fresh_page.ensures) refl c.silent.ensures

pub returns : goal.returns
returns c compiled free s w keeps fits =
    let found = some_page c.fresh_page.result (fresh_page c.args.process.now.up c.args.head) c.if-is_none.ensures c.fresh_page.ensures in
    replied compiled c.args.process.now c.args.process.now s w c.args.head found.0 (reply_to (head_view c.args.head) no_cids ∷ []) c.only.result keeps found.1 refl
    (c.only.ensures ∙ ap (λ fs. frames_only fs false) (c.in_ok-frames.ensures no_cids refl))
